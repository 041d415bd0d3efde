use Rattle.std.proofs.Common.{◌≡◌}
use Rattle.workload_maker.specs.Page.{upto}
use Rattle.workload_maker.specs.Lines.{item_columns}
use Rattle.workload_maker.specs.Views.{page_view, shape_view}
use Rattle.workload_maker.proofs.columns.put_columns_of.Given as goal

abbrev pub invariant-loop-before : goal.invariant-loop-before
invariant-loop-before l = page_view l.page ≡ upto (item_columns (shape_view l.shape) l.stage) l.before (page_view l.fn.page)
