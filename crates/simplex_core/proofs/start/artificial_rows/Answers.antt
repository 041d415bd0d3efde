use Rattle.simplex_core.proofs.Rises.{form_at}
use Rattle.simplex_core.proofs.start.artificial_rows.Goals as goal

pub artificial_row-requires-clause-below : goal.artificial_row-requires-clause-below
artificial_row-requires-clause-below c = form_at c.args.first c.loop-index.index c.args.forms.now c.index-forms-index.result c.requires.below c.loop-index-test.true c.index-forms-index.is
