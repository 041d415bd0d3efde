use Rattle.simplex_core.proofs.Solves.{tells_endless}
use Rattle.simplex_core.proofs.solver.unbounded.Goals as goal

pub returns : goal.returns
returns c = tells_endless c.args.column c.args.tableau.now c.rows.result.now c.rows-2.result.now c.in_ok-point.point c.in_ok-ray.ray c.rows.ensures c.rows-2.ensures c.in_ok-point.ensures c.in_ok-ray.ensures
