use Rattle.std.proofs.Common.{◌≡◌, ◌≤◌, ◌++◌, ◌+◌, ◌-◌, length, drop}
use Rattle.tail_risk.specs.TailRow.{merged}
use Rattle.tail_risk.proofs.path.merged_terms.Given as goal

abbrev pub invariant-both : goal.invariant-both
invariant-both l = record {
  kept : l.all.items ++ merged (drop l.i l.xs) (drop l.j l.ys) ≡ merged l.xs l.ys;
  one : l.i ≤ length l.xs;
  other : l.j ≤ length l.ys;
}

abbrev pub decreases-both : goal.decreases-both
decreases-both l = (length l.initial.xs - l.i) + (length l.initial.ys - l.j)
