use Rattle.cut_proof.specs.View.{source_content, uses_content}
use Rattle.cut_proof.proofs.MadeFrom.{made_if}
use Rattle.cut_proof.proofs.cut.Cut.of.Goals as goal

pub returns-clause-made : goal.returns-clause-made
returns-clause-made c m =
    made_if c.args.datum.now (source_content c.args.source) (uses_content c.args.source.used.items) c.make.result
    c.make.ensures.walk c.make.ensures.rises m.on_rows m.weights
