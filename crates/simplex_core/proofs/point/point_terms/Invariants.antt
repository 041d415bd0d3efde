use Rattle.std.proofs.Common.{◌≡◌, drop}
use Rattle.lp_defs.specs.Placed.{all_placed, point_form}
use Rattle.simplex_core.proofs.point.point_terms.Given as goal

abbrev pub invariant-loop-row : goal.invariant-loop-row
invariant-loop-row l = all_placed (λ r. r.line.right) (drop l.row-index l.rows) l.terms.items ≡ point_form l.rows
