use Rattle.std.proofs.Common.{◌≡◌, drop}
use Rattle.script_checks.specs.Checked.{all_hold}
use Rattle.script_checks.proofs.text.all_hold.Given as goal

abbrev pub invariant-loop-check : goal.invariant-loop-check
invariant-loop-check l = all_hold (drop l.check-index l.checks) ≡ all_hold l.checks
