use Rattle.std.proofs.Common.{sym, ◌∙◌, rules, arith}
use Rattle.std.specs.Int.{w128}
use Rattle.std.proofs.lemmas.Nat.{shr_le}
use Rattle.rationals.proofs.GcdLemmas.{odd_step, same_gcd}
use Rattle.ratio128.proofs.gcd.gcd_odd_wide.Goals as goal

pub steps-preserved : goal.steps-preserved
steps-preserved c =
    let step = odd_step w128 c.steps.x c.steps.y _ _ (search rules) c.steps.invariant.x_fits c.steps.invariant.y_fits c.steps.invariant.first c.steps.invariant.second c.abs_diff-apart.ensures c.min-y.ensures in
    record { same = step.same ∙ c.steps.invariant.same; first = step.first; second = step.second; x_fits = omega (arith, shr_le); y_fits = omega arith }

pub returns-then-x-y : goal.returns-then-x-y
returns-then-x-y c = sym (same_gcd _ _ (search rules)) ∙ c.steps.invariant.same

pub returns : goal.returns
returns c = c.gcd_odd.ensures ∙ c.steps.invariant.same
