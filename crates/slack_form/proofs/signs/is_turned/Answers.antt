use Rattle.simplex_core.proofs.Signs.{below}
use Rattle.slack_form.proofs.signs.is_turned.Goals as goal

pub returns : goal.returns
returns c = below c.sign.result c.args.row.now.right c.sign.ensures
