use Rattle.std.proofs.Common.{◌≡◌}
use Rattle.workload_maker.specs.Page.{upto}
use Rattle.workload_maker.specs.Lines.{demand_of}
use Rattle.workload_maker.specs.Views.{page_view}
use Rattle.workload_maker.proofs.stoch.put_demands.Given as goal

abbrev pub invariant-loop-before : goal.invariant-loop-before
invariant-loop-before l = page_view l.page ≡ upto (demand_of l.stage) l.before (page_view l.fn.page)
