-- What is told of a node: what is found, with the cut that its multipliers and weights make.
use Rattle.std.specs.Prelude.{Bool, true, false, List, [], ◌∷◌, ◌++◌, Option, Some, None, Result, Ok, Err}
use Rattle.rationals.specs.Passes.{Operation}
use Rattle.rationals.specs.Choices.{pick}
use Rattle.cut_defs.specs.Data.{Datum}
use Rattle.cut_defs.specs.Stored.{Source, Stored, source_of}
use Rattle.cut_defs.specs.declared.kinds.CutKind.{CutKind}
use Rattle.cut_defs.specs.declared.kinds.CutKind.TheVariants as cut_kind
use Rattle.cut_sums.specs.Walks.{made}
use Rattle.cut_proof.specs.declared.child.ChildCuts.{ChildCuts}
use Rattle.node_lp.specs.declared.task.Task.{Task}
use Rattle.node_lp.specs.declared.found.Found.{Found}
use Rattle.node_lp.specs.declared.found.Found.TheVariants as found
use Rattle.node_lp.specs.declared.solved.Solved.{Solved}
use Rattle.node_lp.specs.declared.solved.Solved.TheVariants as solved
use Rattle.node_lp.specs.Weighed.{Weighed}
use Rattle.node_lp.specs.Problem.{is_priced, is_taken, problem_of}
use Rattle.node_lp.specs.Stored.{stored_uses}
use Rattle.node_lp.specs.Walk.{found_in}

-- ---- the cuts that the program takes, child by child
abbrev pub stored_of : Bool → List Stored → List Stored
stored_of priced [] = []
stored_of priced (c ∷ cs) = pick (is_taken priced (source_of c).kind) (c ∷ stored_of priced cs) (stored_of priced cs)

abbrev pub stored_cuts : Bool → List ChildCuts → List Stored
stored_cuts priced [] = []
stored_cuts priced (c ∷ cs) = stored_of priced c.cuts.items ++ stored_cuts priced cs

-- ---- the cut

-- the record of the datum with these multipliers
abbrev pub record_of : Datum → CutKind → Weighed → Source
record_of d kind m = record {
  node = d.node;
  kind = kind;
  rows_version = d.rows_version;
  costs_version = d.costs_version;
  multipliers = m.rows;
}

-- its cut, which uses the cuts whose weight isn't 0; nothing where a used end isn't finite
abbrev pub cut_made : Datum → CutKind → List Stored → Weighed → Result (Option Stored) Operation
cut_made d kind cuts m = made d (record_of d kind m) (stored_uses m.weights cuts)

-- what is told with a cut
abbrev pub with_cut : (Stored → Solved) → Result (Option Stored) Operation → Solved
with_cut tell (Ok (Some cut)) = tell cut
with_cut tell (Ok None) = solved.NotGood
with_cut tell (Err o) = solved.Passed true o

-- ---- what is told of what is found: of a point a Bound cut, where the children are priced, and a Ray cut where there is none
abbrev pub told : Datum → Bool → List Stored → Found → Solved
told d priced cuts (found.Point x v m) =
    pick priced (with_cut (λ c. solved.Point x v (Some c)) (cut_made d cut_kind.Bound cuts m)) (solved.Point x v None)
told d priced cuts (found.NoPoint m) = with_cut solved.NoPoint (cut_made d cut_kind.Ray cuts m)
told d priced cuts found.Loose = solved.Loose
told d priced cuts found.PivotsEnded = solved.PivotsEnded
told d priced cuts (found.Passed o) = solved.Passed false o

abbrev pub told_of : Task → Found → Solved
told_of t f = told t.datum (is_priced t.kind) (stored_cuts (is_priced t.kind) t.children.items) f

abbrev pub node_solved : Task → Solved
node_solved t = told_of t (found_in (problem_of t) t.pivots)
