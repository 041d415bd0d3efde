use Rattle.std.proofs.Common.{◌≡◌, ◌++◌, drop}
use Rattle.value_programs.specs.Fixed.{held_from}
use Rattle.value_programs.proofs.first_period.held_columns.Given as goal

abbrev pub invariant-loop-number : goal.invariant-loop-number
invariant-loop-number l = l.all.items ++ held_from l.values l.number (drop l.number l.columns) ≡ held_from l.values 0 l.columns
