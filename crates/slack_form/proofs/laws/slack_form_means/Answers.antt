use Rattle.slack_form.proofs.Meaning.{slack_form_means}
use Rattle.slack_form.proofs.laws.slack_form_means.Goals as goal

pub returns : goal.returns
returns c = slack_form_means
