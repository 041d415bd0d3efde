-- What stands while several workers have solves in flight, and how far a state is from its end.
use Rattle.std.specs.Prelude.{◌≡◌, ℕ, ◌+◌, ◌-◌, ◌*◌, ◌^◌, ◌<◌, ◌≤◌, Bool, true, Option, None, Some, List, [], ◌∷◌, ◌++◌, length, slice_get}
use Rattle.scen_defs.specs.Program.{Program}
use Rattle.scen_defs.specs.declared.report.Kind.{Kind}
use Rattle.scen_defs.specs.declared.report.Kind.TheVariants.{Feasible, Recession, Cost}
use Rattle.scen_tree.specs.Trees.{Tree}
use Rattle.proved_report.specs.declared.open.Open.{Open}
use Rattle.edit_defs.specs.declared.edit.Edit.{Edit}
use Rattle.node_data.specs.Frames.{frame_of}
use Rattle.pass_table.specs.Machine.{Flight, Machine, IsFlown}
use Rattle.crew_turns.specs.Crew.{CrewRuns}
use Rattle.pass_core.specs.declared.budget.Budget.{Budget}
use Rattle.pass_core.specs.declared.state.Begun.{Begun}
use Rattle.pass_core.specs.declared.state.State.{State}
use Rattle.pass_core.specs.Explained.{AreExplained}
use Rattle.pass_core.specs.Desks.{IsDesk}
use Rattle.pass_core.specs.Turns.{PointsStand, IsTaskOf, CanEnd}
use Rattle.nested_method.specs.Stands.{HasFewNodes, IsInBudget, WorksOn, SolvesOnce}
use Rattle.nested_method.specs.Scripted.{IsInHistory}

-- ---- solves in flight
-- the worker's solve is in flight as it was begun, and can end
pub record InBatch (p : Program) (tree : Tree) (s : State) (flying : Machine) (worker : ℕ) (b : Begun) : Type 0 where
  pub flight : Flight
  pub flown : IsFlown flying b.node worker flight
  pub can : CanEnd p tree s b

-- what stands of a method that was at work on the program before these were begun
pub record BatchWorks (p : Program) (tree : Tree) (budget : Budget) (first s : State) (bs : List Begun) : Type 0 where
  pub budget_is : s.budget ≡ budget
  pub versions : length p.nodes ≤ length s.versions
  pub explained : AreExplained p tree s
  pub counted : IsInBudget s
  pub points : PointsStand p s.lasts.nodes.items
  pub solves : (old : State) → SolvesOnce p old first → SolvesOnce p old s
  pub made : (begins : Program) (edits rest : List Edit) (came : ℕ) → IsInHistory begins edits came p rest first
      → IsInHistory begins edits came p rest s
  pub stated : s.stop ≡ None → (i : ℕ) (b : Begun) → slice_get bs i ≡ Some b → IsTaskOf p s b.node b.task

-- one more solve, or none
abbrev pub with_job : List Begun → Option Begun → List Begun
with_job bs None = bs
with_job bs (Some b) = bs ++ b ∷ []

-- the workers from number 0 on have these solves in flight and no other worker has one; the machine came from an idle one, beside which
-- the first state stood
pub record Batch (p : Program) (tree : Tree) (start : Machine) (first s : State) (bs : List Begun) : Type 0 where
  pub few : HasFewNodes p
  pub small : length bs < 2 ^ 32
  pub machine : Machine
  pub desk : IsDesk p s machine
  pub runs : CrewRuns start desk.fits.flying
  pub frame : s.frame ≡ frame_of p
  pub is_begun : s.is_begun ≡ true
  pub flown : (i : ℕ) (b : Begun) → slice_get bs i ≡ Some b → InBatch p tree s desk.fits.flying i b
  pub others : (w : ℕ) → length bs ≤ w → desk.fits.flying.flight w ≡ None
  pub works : (budget : Budget) → WorksOn p budget (record { state = first; tree = tree }) → BatchWorks p tree budget first s bs

-- ---- how far it is to the end
-- how many runs open at most behind one of this kind
abbrev pub runs_behind : Kind → ℕ
runs_behind Feasible = 2
runs_behind Recession = 1
runs_behind Cost = 0

-- how many steps are taken at most where nothing stops the method: one, and for each solve that is left one and the openings of two runs
abbrev pub steps_with : Option Open → ℕ → Kind → ℕ
steps_with (Some why) left kind = 0
steps_with None left kind = 1 + 3 * left + runs_behind kind

abbrev pub steps_left : State → ℕ
steps_left s = steps_with s.stop (s.budget.solves - s.counts.since_report) s.kind

-- no more steps are left, and where something was done there are fewer
pub record LeavesFewer (did : Bool) (old new : State) : Type 0 where
  pub at_most : steps_left new ≤ steps_left old
  pub fewer : did ≡ true → steps_left new < steps_left old
