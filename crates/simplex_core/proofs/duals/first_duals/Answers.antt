use Rattle.std.proofs.Common.{◌+◌, ◌≡◌, [], Ok}
use Rattle.frac128.specs.declared.fault.ArithmeticFault.TheVariants as fault
use Rattle.lp_defs.specs.Phases.{first_duals}
use Rattle.simplex_core.proofs.Counting.{one_more_first, failed_first, passed_on}
use Rattle.simplex_core.proofs.duals.first_duals.Goals as goal

pub returns-in_err-dual : goal.returns-in_err-dual
returns-in_err-dual c =
    passed_on (first_duals c.args.first c.args.count c.args.objective.now []) (λ duals. first_duals c.args.first c.args.count c.args.objective.now [] ≡ Ok duals.items) c.from_residual.result (fault.Passed c.in_err-dual.field-0.0)
    (failed_first c.loop-column.duals.items (first_duals c.args.first c.args.count c.args.objective.now []) c.loop-column.column (c.args.first + c.args.count) c.args.objective.now c.sub.result c.one.result c.value_at.result c.in_err-dual.field-0.0 c.loop-column-test.true c.sub.ensures c.one.ensures c.value_at.ensures c.in_err-dual.was c.loop-column.invariant)
    c.from_residual.ensures.1

pub loop-column-preserved : goal.loop-column-preserved
loop-column-preserved c = one_more_first c.loop-column.duals.items c.push.new.self.items _ c.loop-column.column (c.args.first + c.args.count) c.args.objective.now c.sub.result c.one.result c.value_at.result c.in_ok-dual.dual c.loop-column-test.true c.in_ok-push.ensures.items c.sub.ensures c.one.ensures c.value_at.ensures c.in_ok-dual.was c.loop-column.invariant
