use Rattle.std.proofs.Common.{◌≡◌}
use Rattle.pass_table.specs.Walks.{IsFreeAt, KeepsAll}
use Rattle.pass_table.proofs.Counts.{count}
use Rattle.pass_table.proofs.looks.next_free.Given as goal

abbrev pub invariant-look : goal.invariant-look
invariant-look l = KeepsAll (IsFreeAt l.parents l.solves l.flying) l.fn.candidates.flags l.candidates.flags
    × (l.candidates.met ≡ l.fn.candidates.met) × (l.candidates.waits ≡ l.fn.candidates.waits)

abbrev pub decreases-look : goal.decreases-look
decreases-look l = count l.candidates.flags
