use Rattle.std.proofs.Common.{◌≡◌, drop}
use Rattle.lp_defs.specs.Placed.{all_placed, ray_form}
use Rattle.simplex_core.proofs.point.ray_terms.Given as goal
use Rattle.rationals.specs.Rational.{neg_ℚ}
use Rattle.lp_defs.specs.Lines.{value_at}

abbrev pub invariant-loop-row : goal.invariant-loop-row
invariant-loop-row l = all_placed (λ r. neg_ℚ (value_at r.line.entries l.column)) (drop l.row-index l.rows) l.terms.items ≡ ray_form l.column l.rows
