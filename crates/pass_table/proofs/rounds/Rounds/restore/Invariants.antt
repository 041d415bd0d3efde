use Rattle.std.proofs.Common.{◌≡◌, ◌<◌, true}
use Rattle.pass_table.specs.Readings.{Adds}
use Rattle.pass_table.specs.Rounds.{flag_in}
use Rattle.pass_table.proofs.rounds.Rounds.restore.Given as goal

abbrev pub invariant-loop-number : goal.invariant-loop-number
invariant-loop-number l =
    Adds (λ n. (n < l.number) × (flag_in l.fn.self.met n ≡ true)) l.fn.self.flags l.self.flags
    × (l.self.met ≡ l.fn.self.met) × (l.self.waits ≡ l.fn.self.waits)
