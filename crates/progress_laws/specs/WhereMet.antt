-- Where an operation that a state keeps as a reason passed.
use Rattle.std.specs.Prelude.{ℕ}
use Rattle.rationals.specs.Passes.{Operation}
use Rattle.scen_defs.specs.Program.{Program}
use Rattle.scen_defs.specs.declared.report.Place.TheVariants.{Cut, Cost}
use Rattle.proved_report.specs.declared.open.Open.TheVariants.{Passed}
use Rattle.pass_core.specs.declared.state.State.{State}
use Rattle.pass_core.specs.Reasons.{HasReason}
use Rattle.nested_method.specs.Stands.{CutPasses, CostPasses}
use Rattle.progress_laws.specs.Courses.{GoesFrom, IsRunTo}

-- on the way to this state from an opening, and since that, it passed so among solves that led from one state to another
pub record WasMet (p : Program) (Passes : State → State → Type 0) (s : State) : Type 0 where
  pub old : State
  pub new : State
  pub run : IsRunTo p old
  pub passes : Passes old new
  pub behind : GoesFrom p new s

-- an operation that a state keeps of a cut, or of a cost, with the number of a solve passed behind the solve with that number
pub record ReasonsWereMet : Type 0 where
  pub cut : (p : Program) (s : State) (k : ℕ) (o : Operation) → IsRunTo p s → HasReason s (Passed (Cut k) o) → WasMet p (CutPasses p k o) s
  pub cost : (p : Program) (s : State) (k : ℕ) (o : Operation) → IsRunTo p s → HasReason s (Passed (Cost k) o)
      → WasMet p (CostPasses p k o) s
