-- Where the method would be stuck on a program: it never is.
use Rattle.std.specs.Prelude.{◌≡◌, ℕ, Some, None, Ok}
use Rattle.scen_defs.specs.Program.{Program}
use Rattle.scen_defs.specs.declared.report.Kind.TheVariants.{Cost}
use Rattle.scen_tree.specs.Trees.{Tree, tree_walk}
use Rattle.pass_table.specs.Machine.{Machine, IsClosed}
use Rattle.proved_report.specs.declared.open.Open.TheVariants.{Solves}
use Rattle.found_ends.specs.declared.last.Lasts.{Lasts}
use Rattle.pass_core.specs.declared.state.State.{State}
use Rattle.pass_core.specs.Reasons.{IsStuck}
use Rattle.pass_core.specs.Desks.{IsDesk}
use Rattle.pass_core.specs.Turns.{SolvesAtDesk, IsStuckBefore}
use Rattle.nested_method.specs.Stands.{settled_in}
use Rattle.progress_laws.specs.Courses.{IsRunTo, NumbersSuffice}

-- while something is left to find, the method is never stuck behind a solve
abbrev pub SolvesAreUsed : Type 0
SolvesAreUsed = (p : Program) (s : State) (m : Machine) (lasts : Lasts) (n : ℕ) (new : State) → (run : IsRunTo p s)
    → NumbersSuffice p s run → IsDesk p s m → settled_in s ≡ None
    → (solve : SolvesAtDesk p (record s { lasts = lasts }) m n new)
    → IsStuck s.kind s.banks n solve.task.trial solve.all → ⊥

-- nor before the run behind a closed one opens
abbrev pub OpeningsAreMade : Type 0
OpeningsAreMade = (p : Program) (s : State) (m : Machine) (tree : Tree) → (run : IsRunTo p s) → NumbersSuffice p s run → IsDesk p s m
    → settled_in s ≡ None → IsClosed m → (s.kind ≡ Cost → ⊥) → tree_walk p ≡ Ok tree → IsStuckBefore p tree s → ⊥

-- so no such number of solves is told as the reason why the method stops
abbrev pub NeverStuck : Type 0
NeverStuck = (p : Program) (s : State) (n : ℕ) → (run : IsRunTo p s) → NumbersSuffice p s run → s.stop ≡ Some (Solves n) → ⊥
