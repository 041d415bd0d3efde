use Rattle.std.proofs.Common.{◌-◌, ap}
use Rattle.lp_defs.specs.Solution.{between}
use Rattle.simplex_core.proofs.Solves.{renamed, driven_is, driven_ready}
use Rattle.simplex_core.proofs.solver.drive_out.Goals as goal

pub second_phase-requires-clause-ready : goal.second_phase-requires-clause-ready
second_phase-requires-clause-ready c =
    driven_ready c.args.program.now (c.args.pivots - c.args.made) c.args.made c.in-Out.last c.args.tableau c.drive.new.tableau c.requires.ready
    (driven_is c.args.program.now c.columns.result (c.args.pivots - c.args.made) c.args.made c.in-Out.last c.args.tableau c.drive.new.tableau c.in_ok-last.field-0 c.columns.ensures.same c.in-Out.is c.in_ok-last.ensures.driven)

pub returns-in-Out : goal.returns-in-Out
returns-in-Out c =
    renamed _ _ c.second_phase.result
    (ap (between c.args.program.now c.args.pivots) (driven_is c.args.program.now c.columns.result (c.args.pivots - c.args.made) c.args.made c.in-Out.last c.args.tableau c.drive.new.tableau c.in_ok-last.field-0 c.columns.ensures.same c.in-Out.is c.in_ok-last.ensures.driven))
    c.second_phase.ensures
