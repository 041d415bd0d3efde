use Rattle.std.proofs.Common.{◌≡◌, ◌+◌, ◌≤◌, drop}
use Rattle.slack_form.specs.Standard.{behind}
use Rattle.slack_form.proofs.slacks.behind.Given as goal

abbrev pub invariant-loop-row : goal.invariant-loop-row
invariant-loop-row l =
    (behind l.slack (drop l.row-index l.rows) ≡ behind l.columns l.rows)
    × (l.slack ≤ l.columns + l.row-index)
