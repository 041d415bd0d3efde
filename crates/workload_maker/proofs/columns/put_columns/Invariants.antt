use Rattle.std.proofs.Common.{◌≡◌}
use Rattle.workload_maker.specs.Page.{upto}
use Rattle.workload_maker.specs.Lines.{columns_of}
use Rattle.workload_maker.specs.Views.{page_view, shape_view}
use Rattle.workload_maker.proofs.columns.put_columns.Given as goal

abbrev pub invariant-loop-before : goal.invariant-loop-before
invariant-loop-before l = page_view l.page ≡ upto (columns_of (shape_view l.shape)) l.before (page_view l.fn.page)
