use Rattle.std.proofs.Common.{ap}
use Rattle.lp_defs.specs.Solution.{first_end}
use Rattle.simplex_core.proofs.Solves.{renamed, from_start, reached_done, reached_open, first_done, first_open}
use Rattle.simplex_core.proofs.solver.first_phase.Goals as goal

pub feasible_or_not-requires-clause-ready : goal.feasible_or_not-requires-clause-ready
feasible_or_not-requires-clause-ready c =
    first_done c.args.program.now c.args.pivots 0 c.in-Done.made c.args.tableau c.follow.new.self c.requires
    (reached_done c.args.program.now.columns c.columns.result c.args.pivots 0 c.in-Done.made c.args.tableau c.follow.new.self c.in_ok-made.field-0 c.columns.ensures.same c.in-Done.is (from_start c.args.program.now.columns c.columns.result c.args.pivots c.args.tableau c.follow.new.self c.in_ok-made.field-0 c.in_ok-made.ensures.reached))

pub unreachable-requires : goal.unreachable-requires
unreachable-requires c =
    first_open c.args.program.now c.args.pivots 0 c.in-Open._column c.args.tableau c.follow.new.self c.requires
    (reached_open c.args.program.now.columns c.columns.result c.args.pivots 0 c.in-Open._column c.args.tableau c.follow.new.self c.in_ok-made.field-0 c.columns.ensures.same c.in-Open.is (from_start c.args.program.now.columns c.columns.result c.args.pivots c.args.tableau c.follow.new.self c.in_ok-made.field-0 c.in_ok-made.ensures.reached))

pub returns-in-Done : goal.returns-in-Done
returns-in-Done c =
    renamed _ _ c.feasible_or_not.result
    (ap (first_end c.args.program.now c.args.pivots) (reached_done c.args.program.now.columns c.columns.result c.args.pivots 0 c.in-Done.made c.args.tableau c.follow.new.self c.in_ok-made.field-0 c.columns.ensures.same c.in-Done.is (from_start c.args.program.now.columns c.columns.result c.args.pivots c.args.tableau c.follow.new.self c.in_ok-made.field-0 c.in_ok-made.ensures.reached)))
    c.feasible_or_not.ensures
