use Rattle.std.proofs.Common.{◌≡◌}
use Rattle.workload_maker.specs.Page.{upto}
use Rattle.workload_maker.specs.Lines.{period_of}
use Rattle.workload_maker.specs.Views.{page_view}
use Rattle.workload_maker.proofs.rows.put_periods.Given as goal

abbrev pub invariant-loop-before : goal.invariant-loop-before
invariant-loop-before l = page_view l.page ≡ upto period_of l.before (page_view l.fn.page)
