use Rattle.std.proofs.Common.{◌≡◌, drop}
use Rattle.rationals.specs.Rational.{zero_ℚ}
use Rattle.scen_defs.specs.Values.{at}
use Rattle.scen_defs.specs.Flat.{along}
use Rattle.scen_defs.specs.Program.{content, view_of}
use Rattle.rationals.specs.Forms.{product_from}
use Rattle.scen_model.proofs.feasibility.row_sum.Given as goal

abbrev pub invariant-loop-term : goal.invariant-loop-term
invariant-loop-term l =
    let x = along (view_of (content l.program)) (at l.values) l.node in
    product_from x l.sum (drop l.term-index l.entries) ≡ product_from x zero_ℚ l.entries
