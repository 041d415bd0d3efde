-- The ground cut of a node: its multipliers are the numbers of a dual at the node over the node's total, and its used cuts are
-- those of the children, each with the child's share as weight.
use Rattle.std.specs.Prelude.{◌≡◌, ℕ, List, [], ◌∷◌, ◌++◌, Option, Result, Ok}
use Rattle.rationals.specs.Rational.{ℚ, ◌/ℚ◌}
use Rattle.rationals.specs.Sparse.{Entry, coefficient}
use Rattle.rationals.specs.Forms.{put}
use Rattle.rationals.specs.Passes.{Operation, div_walk, then_walk}
use Rattle.scen_defs.specs.declared.program.NodeRow.{NodeRow}
use Rattle.scen_defs.specs.Lists.{Each}
use Rattle.scen_defs.specs.Values.{At, at}
use Rattle.cut_defs.specs.declared.kinds.CutKind.TheVariants.{Bound}
use Rattle.cut_defs.specs.declared.datum.Share.{Share}
use Rattle.cut_defs.specs.Data.{Datum}
use Rattle.cut_defs.specs.Stored.{Source, Stored, StoredUses, source_of, uses_of, constant_of, form_of, IsMadeFrom}
use Rattle.cut_defs.specs.Stored.StoredUses.{No_stored}
use Rattle.cut_proof.specs.Repairing.{snoc}
use Rattle.cut_sums.specs.Walks.{made}

-- by row, the number over the total; a quotient 0 isn't written
abbrev pub quotients_from : ℚ → (ℕ → ℚ) → List Entry → List NodeRow → Result (List Entry) Operation
quotients_from total y done [] = Ok done
quotients_from total y done (r ∷ rs) = then_walk (div_walk (y r.row) total) (λ q. quotients_from total y (done ++ put r.row q []) rs)

-- the cuts in the order of the children, each with its child's share
abbrev pub uses_of_children : StoredUses → List Share → List Stored → StoredUses
uses_of_children done [] cuts = done
uses_of_children done (s ∷ ss) [] = done
uses_of_children done (s ∷ ss) (c ∷ cs) = uses_of_children (snoc done s.share c) ss cs

abbrev pub ground_source : Datum → List Entry → Source
ground_source d y = record {
  node = d.node;
  kind = Bound;
  rows_version = d.rows_version;
  costs_version = d.costs_version;
  multipliers = y;
}

-- first the quotients by row, then the cut
abbrev pub ground_walk : Datum → ℚ → List At → List Stored → Result (Option Stored) Operation
ground_walk d total dual cuts =
    then_walk (quotients_from total (at dual d.node) [] d.rows)
    (λ y. made d (ground_source d y) (uses_of_children No_stored d.shares cuts))

-- ---- what a ground cut is
-- the cuts are Bound cuts of these children, one of each, in their order
abbrev pub AreOfChildren : List Share → List Stored → Type 0
AreOfChildren [] [] = Unit {0}
AreOfChildren [] (c ∷ cs) = ⊥
AreOfChildren (s ∷ ss) [] = ⊥
AreOfChildren (s ∷ ss) (c ∷ cs) = ((source_of c).node ≡ s.child) × ((source_of c).kind ≡ Bound) × AreOfChildren ss cs

-- the cut is made from the datum, and its multiplier of each row is the dual's number there over the total
pub record IsGroundFrom (d : Datum) (total : ℚ) (dual : List At) (cut : Stored) : Type 0 where
  pub multipliers : Each (λ (r : NodeRow). coefficient (source_of cut).multipliers r.row ≡ at dual d.node r.row /ℚ total) d.rows
  pub made_from : IsMadeFrom d (source_of cut) (uses_of cut) (constant_of cut) (form_of cut)
