use Rattle.std.proofs.Common.{◌≡◌, ◌+◌, ◌≤◌, ◌++◌, drop}
use Rattle.slack_form.specs.Limits.{AllBelow}
use Rattle.slack_form.specs.Standard.{equations}
use Rattle.slack_form.proofs.slacks.equations.Given as goal

abbrev pub invariant-loop-row : goal.invariant-loop-row
invariant-loop-row l =
    (l.forms.items ++ equations l.slack (drop l.row-index l.rows) ≡ equations l.columns l.rows)
    × (l.columns ≤ l.slack)
    × (l.slack ≤ l.columns + l.row-index)
    × AllBelow l.columns (drop l.row-index l.rows)
