use Rattle.std.proofs.Common.{◌≡◌, ◌++◌}
use Rattle.slack_form.specs.Standard.{turned_back}
use Rattle.slack_form.proofs.signs.turned_back.Given as goal

abbrev pub invariant-loop-row : goal.invariant-loop-row
invariant-loop-row l = l.own.items ++ turned_back l.row-iterator.a.rest.now l.row-iterator.b.rest.now ≡ turned_back l.rows l.duals
