use Rattle.std.proofs.Common.{sym, ◌∙◌, rules, arith}
use Rattle.std.specs.Int.{w64}
use Rattle.std.proofs.lemmas.Nat.{shr_le}
use Rattle.rationals.proofs.GcdLemmas.{odd_step, same_gcd}
use Rattle.ratio128.proofs.gcd.gcd_odd.Goals as goal

pub steps-preserved : goal.steps-preserved
steps-preserved c =
    let step = odd_step w64 c.steps.x c.steps.y _ _ c.steps-test.true c.steps.invariant.x_fits c.steps.invariant.y_fits c.steps.invariant.first c.steps.invariant.second c.abs_diff-apart.ensures c.min-y.ensures in
    record { same = step.same ∙ c.steps.invariant.same; first = step.first; second = step.second; x_fits = omega (arith, shr_le); y_fits = omega arith }

pub returns : goal.returns
returns c = sym (same_gcd _ _ (search rules)) ∙ c.steps.invariant.same
