-- What the multipliers of a cut show that is made of the data of one program.
use Rattle.std.specs.Prelude.{◌≡◌, List, [], IfSome, Ok}
use Rattle.rationals.specs.Rational.{one_ℚ, ◌≤ℚ◌}
use Rattle.rationals.specs.Sparse.{Entry}
use Rattle.scen_defs.specs.Program.{Program}
use Rattle.scen_defs.specs.Flat.{IsGood, value}
use Rattle.scen_defs.specs.Valid.{IsProgram}
use Rattle.scen_defs.specs.declared.report.Kind.{Kind}
use Rattle.scen_defs.specs.declared.report.Kind.TheVariants.{Feasible, Recession, Cost}
use Rattle.cut_defs.specs.Cuts.{priced}
use Rattle.cut_defs.specs.Stored.{Stored, source_of, constant_of}
use Rattle.edit_defs.specs.Data.{view_in, book}
use Rattle.dual_assemble.specs.Walks.{flat_from}
use Rattle.dual_assemble.specs.Laws.{flat_of}
use Rattle.pass_core.specs.declared.state.State.{State}
use Rattle.pass_core.specs.Made.{script_books, IsMadeAbout, CutsAreMade}

-- the multipliers that the assembly of a cut comes to are good for a program in the form of a run, and worth at least the cut's constant;
-- for a Ray cut with all costs 0
pub record AssemblesWell (kind : Kind) (p : Program) (cut : Stored) : Type 0 where
  pub good : (fs : List (List Entry)) → flat_from [] one_ℚ cut ≡ Ok fs → IsGood (priced (view_in kind p) (source_of cut).kind) (flat_of fs)
  pub worth : (fs : List (List Entry)) → flat_from [] one_ℚ cut ≡ Ok fs
      → constant_of cut ≤ℚ value (priced (view_in kind p) (source_of cut).kind) (flat_of fs)

-- so do cuts of the root that are made for the book of a program without edits
abbrev pub RootsAssembleWell : Type 0
RootsAssembleWell = (kind : Kind) (p : Program) (cut : Stored) → IsProgram p → IsMadeAbout (book kind p []) 0 cut → AssemblesWell kind p cut

-- the form of a program of whose data the cuts of a run are made: a Feasible run's are Ray cuts, which no cost is in
abbrev pub made_form : Kind → Kind
made_form Feasible = Cost
made_form Recession = Recession
made_form Cost = Cost

-- the cuts that the ends of a state rest on
pub record EndsAssembleWell (p : Program) (s : State) : Type 0 where
  pub root : IfSome s.ends.root (AssemblesWell (made_form s.kind) p)
  pub lower : IfSome s.ends.lower (λ l. AssemblesWell Cost p l.cut)
  pub nowhere : IfSome s.ends.nowhere (λ cut. (kind : Kind) × AssemblesWell (made_form kind) p cut)

-- do so where all cuts are made for the books of the program without edits
abbrev pub MadeEndsAssembleWell : Type 0
MadeEndsAssembleWell = (p : Program) (s : State) → IsProgram p → CutsAreMade (script_books p []) s → EndsAssembleWell p s
