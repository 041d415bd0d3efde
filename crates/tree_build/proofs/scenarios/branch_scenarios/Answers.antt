use Rattle.std.proofs.Common.{arith, ◌≡◌, ◌∙◌, ◌++◌, ◌∷◌, [], ap, ap₂, sym, map, length, get_or, List, ℕ, Ok, Err}
use Rattle.std.specs.Vec.Iter.{into_iter_items}
use Rattle.rationals.specs.Rational.{ℚ, one_ℚ}
use Rattle.rationals.specs.Passes.{mul_walk}
use Rattle.scen_defs.specs.Program.{scenarios_content}
use Rattle.stoch_defs.specs.Random.{branch_content}
use Rattle.build_defs.specs.Scenarios.{no_branch}
use Rattle.tree_build.specs.Numbering.{paths_content}
use Rattle.tree_build.specs.Finish.{branch_paths}
use Rattle.scen_defs.proofs.Contents.{scenarios_push, scenarios_length}
use Rattle.tree_build.proofs.FinishLemmas.{branch_step, branch_ends, handed_build}
use Rattle.tree_build.proofs.scenarios.branch_scenarios.Goals as goal

pub loop-found-preserved : goal.loop-found-preserved
loop-found-preserved c =
    let branches = map branch_content c.args.branches.now in
    let all = c.loop-found.all.items in
    let built = scenarios_content all in
    let rest = paths_content (into_iter_items c.next.new.self) in
    let number : c.len-number.result ≡ length built = omega (arith, c.len-number.ensures, scenarios_length all, c.loop-found.all.ok.0) in
    let made : mul_walk one_ℚ (get_or branches (length built) no_branch).probability ≡ Ok c.in_ok-probability.probability =
    sym (ap₂ (λ (a b : ℚ). mul_walk a b) c.one.ensures (c.probability_at.ensures ∙ ap (λ n. (get_or branches n no_branch).probability) number)) ∙ sym c.mul.ensures ∙ c.in_ok-probability.was in (
      tt,
      tt,
      ap (λ l. branch_paths branches (scenarios_content l) rest) c.in_ok-push.ensures.items
          ∙ ap (λ l. branch_paths branches l rest)
          (scenarios_push all _ ∙ ap (λ (name : List ℕ). built ++ record { name = name; probability = c.in_ok-probability.probability; path = c.in-Some.found.nodes.items } ∷ []) (c.in_ok-name.ensures ∙ ap (λ n. (get_or branches n no_branch).name) number))
          ∙ sym (branch_step branches built c.in-Some.found.nodes.items rest c.in_ok-probability.probability made)
          ∙ sym (ap (λ l. branch_paths branches built (paths_content l)) c.in-Some.ensures.steps.0) ∙ c.loop-found.invariant.2,
    )

pub returns-in_err-probability : goal.returns-in_err-probability
returns-in_err-probability c =
    let branches = map branch_content c.args.branches.now in
    let all = c.loop-found.all.items in
    let built = scenarios_content all in
    let rest = paths_content (into_iter_items c.next.new.self) in
    let number : c.len-number.result ≡ length built = omega (arith, c.len-number.ensures, scenarios_length all, c.loop-found.all.ok.0) in
    let p = c.in_err-probability.field-0.0 in
    let made : mul_walk one_ℚ (get_or branches (length built) no_branch).probability ≡ Err p =
    sym (ap₂ (λ (a b : ℚ). mul_walk a b) c.one.ensures (c.probability_at.ensures ∙ ap (λ n. (get_or branches n no_branch).probability) number)) ∙ sym c.mul.ensures ∙ c.in_err-probability.was in
    handed_build c.from_residual-in_err-probability.result (mul_walk one_ℚ (get_or branches (length built) no_branch).probability) (branch_paths branches [] (paths_content c.args.paths.items)) _ _
    c.from_residual-in_err-probability.ensures.1 made
    (λ q e. sym c.loop-found.invariant.2 ∙ ap (λ l. branch_paths branches built (paths_content l)) c.in-Some.ensures.steps.0 ∙ branch_ends branches built c.in-Some.found.nodes.items rest q e)
