use Rattle.std.proofs.Common.{◌≡◌, ℕ}
use Rattle.workload_maker.specs.Page.{upto}
use Rattle.workload_maker.specs.Lines.{case_of}
use Rattle.workload_maker.specs.Views.{page_view, shape_view}
use Rattle.workload_maker.proofs.stoch.put_cases.Given as goal

abbrev pub invariant-loop-before : goal.invariant-loop-before
invariant-loop-before l = page_view l.page ≡ upto (λ (case : ℕ). case_of (shape_view l.shape) l.stage) l.before (page_view l.fn.page)
