use Rattle.std.proofs.Common.{◌≡◌, drop}
use Rattle.cut_sums.specs.Checks.{shares_hold}
use Rattle.cut_sums.proofs.checks.shares_hold.Given as goal

abbrev pub invariant-loop-share : goal.invariant-loop-share
invariant-loop-share l = shares_hold l.next (drop l.share-index l.shares) ≡ shares_hold 0 l.shares
