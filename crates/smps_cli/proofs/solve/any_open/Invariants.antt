use Rattle.std.proofs.Common.{◌≡◌, drop}
use Rattle.smps_cli.specs.Solved.{any_open}
use Rattle.smps_cli.proofs.solve.any_open.Given as goal

abbrev pub invariant-loop-told : goal.invariant-loop-told
invariant-loop-told l = any_open (drop l.told-index l.tolds) ≡ any_open l.tolds
