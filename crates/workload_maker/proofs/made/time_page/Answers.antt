use Rattle.std.proofs.Common.{ap, ◌∙◌}
use Rattle.std.specs.Prelude.{codes}
use Rattle.workload_maker.specs.Page.{put, upto}
use Rattle.workload_maker.specs.Lines.{period_of}
use Rattle.workload_maker.proofs.made.time_page.Goals as goal

pub returns : goal.returns
returns c =
    c.in_ok-put-2.ensures
    ∙ ap (put (codes "ENDATA\n")) (c.in_ok-put_periods.ensures
    ∙ ap (upto period_of c.args.shape.stages) (c.in_ok-put.ensures
    ∙ ap (put (codes "TIME MAKE\nPERIODS\n")) c.empty-page.ensures))
