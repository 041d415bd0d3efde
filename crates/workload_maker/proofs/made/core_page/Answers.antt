use Rattle.std.proofs.Common.{ap, ◌∙◌}
use Rattle.std.specs.Prelude.{codes}
use Rattle.workload_maker.specs.Page.{put, upto}
use Rattle.workload_maker.specs.Lines.{rows_of, columns_of, capacity_of}
use Rattle.workload_maker.specs.Views.{shape_view}
use Rattle.workload_maker.proofs.made.core_page.Goals as goal

pub returns : goal.returns
returns c =
    c.in_ok-put-4.ensures
    ∙ ap (put (codes "ENDATA\n")) (c.in_ok-put_capacities.ensures
    ∙ ap (upto (capacity_of (shape_view c.args.shape)) c.args.shape.stages) (c.in_ok-put-3.ensures
    ∙ ap (put (codes "RHS\n")) (c.in_ok-put_columns.ensures
    ∙ ap (upto (columns_of (shape_view c.args.shape)) c.args.shape.stages) (c.in_ok-put-2.ensures
    ∙ ap (put (codes "COLUMNS\n")) (c.in_ok-put_rows.ensures
    ∙ ap (upto (rows_of (shape_view c.args.shape)) c.args.shape.stages) (c.in_ok-put.ensures
    ∙ ap (put (codes "NAME MAKE\nROWS\n N COST\n")) c.empty-page.ensures))))))
