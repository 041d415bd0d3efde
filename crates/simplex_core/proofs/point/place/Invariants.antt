use Rattle.std.proofs.Common.{◌≡◌, ◌≤◌, ◌-◌, ◌++◌, take, drop, length}
use Rattle.lp_defs.specs.Placed.{placed}
use Rattle.simplex_core.proofs.point.place.Given as goal

abbrev pub invariant-lesser : goal.invariant-lesser
invariant-lesser l = record { within : l.index ≤ length l.terms.items; kept : take l.index l.terms.items ++ placed l.column l.value (drop l.index l.terms.items) ≡ placed l.column l.value l.terms.items }

abbrev pub decreases-lesser : goal.decreases-lesser
decreases-lesser l = length l.terms.items - l.index
