-- A point that the solve of a node finds can be kept beside the values of the columns before it.
use Rattle.std.proofs.Common.{subst}
use Rattle.claim_laws.proofs.Passing.{EndsIn}
use Rattle.node_lp.specs.declared.solved.Solved.TheVariants as solved
use Rattle.overflow_laws.specs.Points.{PointsJoin}
use Rattle.overflow_laws.proofs.Points.{Never, joins}
use Rattle.overflow_laws.proofs.Nodes.{TellsWell, tells_well}

pub points_join : PointsJoin
points_join t x value cut o h e passed =
    subst (EndsIn Never) passed (joins t.datum.bounds t.trial x h.trial (tells_well t (solved.Point x value cut) e))
