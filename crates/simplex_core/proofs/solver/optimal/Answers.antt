use Rattle.std.proofs.Common.{subst, sym}
use Rattle.lp_defs.specs.Placed.{BasicsDiffer}
use Rattle.simplex_core.proofs.Solves.{tells_optimal}
use Rattle.simplex_core.proofs.solver.optimal.Goals as goal

pub point-requires : goal.point-requires
point-requires c = subst BasicsDiffer (sym c.rows.ensures) c.requires

pub returns : goal.returns
returns c =
    tells_optimal c.args.program.now.columns c.columns.result c.args.tableau.now c.args.program.now.rows c.rows-2.result.now c.rows.result.now c.objective.result.now c.in_ok-point.point c.in_ok-duals.duals.items
    c.columns.ensures.same c.rows-2.ensures c.rows.ensures c.objective.ensures c.in_ok-point.ensures c.in_ok-duals.ensures
