use Rattle.std.proofs.Common.{◌≡◌, ◌++◌, drop}
use Rattle.slack_form.specs.Standard.{turned_rights}
use Rattle.slack_form.proofs.slacks.rights.Given as goal

abbrev pub invariant-loop-row : goal.invariant-loop-row
invariant-loop-row l = l.right.items ++ turned_rights (drop l.row-index l.rows) ≡ turned_rights l.rows
