use Rattle.std.proofs.Common.{◌≡◌}
use Rattle.workload_maker.specs.Page.{upto}
use Rattle.workload_maker.specs.Lines.{rows_of}
use Rattle.workload_maker.specs.Views.{page_view, shape_view}
use Rattle.workload_maker.proofs.rows.put_rows.Given as goal

abbrev pub invariant-loop-before : goal.invariant-loop-before
invariant-loop-before l = page_view l.page ≡ upto (rows_of (shape_view l.shape)) l.before (page_view l.fn.page)
