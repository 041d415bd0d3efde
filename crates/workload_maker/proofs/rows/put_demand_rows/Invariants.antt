use Rattle.std.proofs.Common.{◌≡◌}
use Rattle.workload_maker.specs.Page.{upto}
use Rattle.workload_maker.specs.Lines.{demand_row}
use Rattle.workload_maker.specs.Views.{page_view}
use Rattle.workload_maker.proofs.rows.put_demand_rows.Given as goal

abbrev pub invariant-loop-before : goal.invariant-loop-before
invariant-loop-before l = page_view l.page ≡ upto (demand_row l.stage) l.before (page_view l.fn.page)
