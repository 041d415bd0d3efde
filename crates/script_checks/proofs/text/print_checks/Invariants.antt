use Rattle.std.proofs.Common.{◌≡◌, ◌++◌, drop}
use Rattle.std.specs.List.{flat_map}
use Rattle.script_checks.specs.Checked.{line_of}
use Rattle.script_checks.proofs.text.print_checks.Given as goal

abbrev pub invariant-loop-check : goal.invariant-loop-check
invariant-loop-check l = l.out.items ++ flat_map line_of (drop l.check-index l.checks) ≡ l.fn.out.items ++ flat_map line_of l.checks
