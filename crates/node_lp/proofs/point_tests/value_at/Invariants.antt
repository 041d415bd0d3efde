use Rattle.std.proofs.Common.{◌≡◌, drop}
use Rattle.rationals.specs.Sparse.{coefficient}
use Rattle.rationals.specs.Forms.{product_from}
use Rattle.node_lp.proofs.point_tests.value_at.Given as goal

abbrev pub invariant-loop-term : goal.invariant-loop-term
invariant-loop-term l = product_from (coefficient l.values) l.sum (drop l.term-index l.form) ≡ product_from (coefficient l.values) l.fn.start l.form
