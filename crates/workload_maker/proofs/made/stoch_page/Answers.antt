use Rattle.std.proofs.Common.{ap, ◌∙◌}
use Rattle.std.specs.Prelude.{codes}
use Rattle.workload_maker.specs.Page.{put, upto}
use Rattle.workload_maker.specs.Lines.{block_of}
use Rattle.workload_maker.specs.Views.{shape_view}
use Rattle.workload_maker.proofs.made.stoch_page.Goals as goal

pub returns : goal.returns
returns c =
    c.in_ok-put-2.ensures
    ∙ ap (put (codes "ENDATA\n")) (c.in_ok-put_blocks.ensures
    ∙ ap (upto (block_of (shape_view c.args.shape)) c.args.shape.stages) (c.in_ok-put.ensures
    ∙ ap (put (codes "STOCH MAKE\nBLOCKS DISCRETE\n")) c.empty-page.ensures))
