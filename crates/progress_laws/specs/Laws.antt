-- What the runs of the nested method come to on a program.
use Rattle.std.specs.Prelude.{◌≡◌, ℕ, Some, None}
use Rattle.scen_defs.specs.Program.{Program}
use Rattle.scen_defs.specs.declared.report.Kind.TheVariants.{Cost}
use Rattle.pass_table.specs.Machine.{Machine, IsClosed, MayBegin}
use Rattle.found_ends.specs.declared.settled.Settled.TheVariants.{Optimal}
use Rattle.pass_core.specs.declared.state.State.{State}
use Rattle.cut_defs.specs.Stored.{Stored}
use Rattle.found_ends.specs.declared.last.Lasts.{Lasts}
use Rattle.pass_core.specs.Explained.{cut_given}
use Rattle.pass_core.specs.Reasons.{RefusesCut}
use Rattle.pass_core.specs.Tabled.{HasRoom, IsTabledBy}
use Rattle.pass_core.specs.Desks.{IsDesk}
use Rattle.pass_core.specs.Turns.{SolvesAtDesk}
use Rattle.nested_method.specs.Stands.{IsAtEnd, settled_in}
use Rattle.progress_laws.specs.Courses.{IsRunTo, NumbersSuffice}

-- where a run for the least cost is closed, and nothing stops the method, both ends are there and equal
abbrev pub ClosedRunsMeet : Type 0
ClosedRunsMeet = (p : Program) (s : State) (m : Machine) → IsRunTo p s → IsDesk p s m → IsClosed m → s.kind ≡ Cost → s.stop ≡ None
    → settled_in s ≡ Some Optimal

-- a run in which something is left to find, and no node may be begun, is closed, and another run follows it
pub record IsFollowed (s : State) (m : Machine) : Type 0 where
  pub closed : IsClosed m
  pub earlier : s.kind ≡ Cost → ⊥

abbrev pub RunsGoOn : Type 0
RunsGoOn = (p : Program) (s : State) (m : Machine) → IsRunTo p s → IsDesk p s m → settled_in s ≡ None → ((n : ℕ) → MayBegin m n → ⊥)
    → IsFollowed s m

-- so where the method can't go on, and there is room for the number of another solve, nothing is left to find
abbrev pub EndsAreSettled : Type 0
EndsAreSettled = (p : Program) (s : State) (m : Machine) → IsRunTo p s → IsTabledBy p s m → HasRoom m → IsAtEnd p s
    → settled_in s ≡ None → ⊥

-- while something is left to find, a cut that a solve offers is never refused
abbrev pub NeverRefuses : Type 0
NeverRefuses = (p : Program) (s : State) (m : Machine) (lasts : Lasts) (n : ℕ) (new : State) (cut : Stored) → (run : IsRunTo p s)
    → NumbersSuffice p s run → IsDesk p s m → settled_in s ≡ None
    → (solve : SolvesAtDesk p (record s { lasts = lasts }) m n new) → cut_given solve.all ≡ Some cut
    → RefusesCut s.kind s.banks n solve.task.trial (Some cut) → ⊥
