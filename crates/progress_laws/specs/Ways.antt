-- The way of the method through a script of edits and reports.
use Rattle.std.specs.Prelude.{ℕ, ◌+◌, ◌*◌, ◌^◌, ◌<◌, ◌≤◌}
use Rattle.scen_defs.specs.Program.{Program}
use Rattle.scen_defs.specs.Valid.{IsProgram}
use Rattle.edit_defs.specs.declared.edit.Edit.{Edit}
use Rattle.edit_defs.specs.After.{after}
use Rattle.edit_defs.specs.Shifts.{HasWidths}
use Rattle.edit_script.specs.Allowed.{IsAllowed}
use Rattle.node_data.specs.Counts.{version_of}
use Rattle.pass_core.specs.declared.budget.Budget.{Budget}
use Rattle.pass_core.specs.declared.state.State.{State}
use Rattle.nested_method.specs.declared.method.Method.{Method}
use Rattle.nested_method.specs.declared.method.Method.TheVariants.{Working as AtWork, Idle}
use Rattle.nested_method.specs.declared.method.Working.{Working}
use Rattle.nested_method.specs.Edited.{IsEdited}
use Rattle.nested_method.specs.Stands.{HasFewNodes, WorksOn, SolvesNodes, Begins}
use Rattle.progress_laws.specs.Courses.{IsRunTo, NumbersSuffice, behind_report}

-- few items of a script came before, and few solves are allowed for a report: so there are numbers for all solves
pub record AreFew (budget : Budget) (came : ℕ) : Type 0 where
  pub items : came < 2 ^ 20
  pub solves : budget.solves < 2 ^ 40

-- Behind so many items of a script the program has come to this state from an opening. Its rows have the widths of their ranges; no part
-- of its data was touched more often than items came; each pool changed at most 1,024 times for each item, beside once for each solve; and
-- for each item so many solves at most were counted as are allowed, beside those since the report before.
pub record IsOnWay (budget : Budget) (came : ℕ) (p : Program) (s : State) : Type 0 where
  pub run : IsRunTo p s
  pub widths : HasWidths p
  pub rows : (n : ℕ) → (version_of s.versions n).rows ≤ came
  pub costs : (n : ℕ) → (version_of s.versions n).costs ≤ came
  pub most : run.most ≤ came * 2 ^ 10
  pub counted : s.counts.all ≤ came * budget.solves + s.counts.since_report

-- so is a method at work; one that can't work has nothing but a program
abbrev pub KeepsWay : Budget → ℕ → Program → Method → Type 0
KeepsWay budget came p (AtWork w) = IsOnWay budget came p w.state
KeepsWay budget came p (Idle why own) = HasWidths p

-- ---- what keeps it
-- a method begins on its way, however many items came before
abbrev pub WaysBegin : Type 0
WaysBegin = (budget : Budget) (came : ℕ) (p : Program) (method : Method) → IsProgram p → HasFewNodes p → HasWidths p
    → Begins p budget method → KeepsWay budget came p method

-- solves keep it
abbrev pub SolvesKeepWay : Type 0
SolvesKeepWay = (budget : Budget) (came : ℕ) (p : Program) (old new : State) → SolvesNodes p old new → IsOnWay budget came p old
    → IsOnWay budget came p new

-- there are numbers for all solves and changes of pools
abbrev pub WaysHaveNumbers : Type 0
WaysHaveNumbers = (budget : Budget) (came : ℕ) (p : Program) (s : State) → AreFew budget came → (way : IsOnWay budget came p s)
    → s.counts.since_report ≤ budget.solves → NumbersSuffice p s way.run

-- a report that is told keeps it
abbrev pub ReportsKeepWay : Type 0
ReportsKeepWay = (budget : Budget) (came : ℕ) (p : Program) (s : State) → AreFew budget came → IsOnWay budget came p s
    → s.counts.since_report ≤ budget.solves → IsOnWay budget (came + 1) p (behind_report s)

-- and so does an edit: behind it the cuts that are left are made of the data of the program after it
abbrev pub EditsKeepWay : Type 0
EditsKeepWay = (budget : Budget) (came : ℕ) (p : Program) (e : Edit) (old new : Working) → AreFew budget came → IsAllowed p e
    → HasFewNodes (after p e) → WorksOn p budget old → WorksOn (after p e) budget new → IsEdited p e old new
    → IsOnWay budget came p old.state → IsOnWay budget (came + 1) (after p e) new.state
