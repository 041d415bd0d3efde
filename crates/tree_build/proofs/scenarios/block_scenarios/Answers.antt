use Rattle.std.proofs.Common.{arith, ◌≡◌, ◌∙◌, ◌+◌, ◌++◌, ◌∷◌, [], ap, sym, map, length, List, ℕ, Ok}
use Rattle.std.specs.Vec.Iter.{into_iter_items}
use Rattle.rationals.specs.Rational.{one_ℚ}
use Rattle.scen_defs.specs.Program.{scenarios_content}
use Rattle.stoch_defs.specs.Random.{block_content}
use Rattle.build_defs.specs.Digits.{digits}
use Rattle.build_defs.specs.Built.{product_from}
use Rattle.tree_build.specs.Numbering.{paths_content}
use Rattle.tree_build.specs.Wheels.{sizes_of}
use Rattle.tree_build.specs.Choices.{chances_of}
use Rattle.tree_build.specs.Nodes.{digits_at}
use Rattle.tree_build.specs.Finish.{block_paths}
use Rattle.scen_defs.proofs.Contents.{scenarios_push, scenarios_length}
use Rattle.tree_build.proofs.FinishLemmas.{block_step, block_ends, handed_build}
use Rattle.tree_build.proofs.scenarios.block_scenarios.Goals as goal

pub loop-found-preserved : goal.loop-found-preserved
loop-found-preserved c =
    let blocks = map block_content c.args.blocks.now in
    let wheels = c.args.wheels.now in
    let all = c.loop-found.all.items in
    let built = scenarios_content all in
    let rest = paths_content (into_iter_items c.next.new.self) in
    let number : c.len-number.result ≡ length built = omega (arith, c.len-number.ensures, scenarios_length all, c.loop-found.all.ok.0) in
    let made : product_from one_ℚ (chances_of blocks wheels (digits_at (sizes_of wheels) (length built))) ≡ Ok c.in_ok-probability.probability =
    sym (ap (λ n. product_from one_ℚ (chances_of blocks wheels (digits_at (sizes_of wheels) n))) number) ∙ c.in_ok-probability.ensures in (
      tt,
      tt,
      ap (λ l. block_paths blocks wheels (scenarios_content l) rest) c.in_ok-push.ensures.items
          ∙ ap (λ l. block_paths blocks wheels l rest)
          (scenarios_push all _ ∙ ap (λ (name : List ℕ). built ++ record { name = name; probability = c.in_ok-probability.probability; path = c.in-Some.found.nodes.items } ∷ []) (c.in_ok-name.ensures ∙ ap (λ n. 83 ∷ digits (n + 1)) number))
          ∙ sym (block_step blocks wheels built c.in-Some.found.nodes.items rest c.in_ok-probability.probability made)
          ∙ sym (ap (λ l. block_paths blocks wheels built (paths_content l)) c.in-Some.ensures.steps.0) ∙ c.loop-found.invariant.2,
    )

pub returns-in_err-probability : goal.returns-in_err-probability
returns-in_err-probability c =
    let blocks = map block_content c.args.blocks.now in
    let wheels = c.args.wheels.now in
    let all = c.loop-found.all.items in
    let built = scenarios_content all in
    let rest = paths_content (into_iter_items c.next.new.self) in
    let number : c.len-number.result ≡ length built = omega (arith, c.len-number.ensures, scenarios_length all, c.loop-found.all.ok.0) in
    handed_build c.from_residual-in_err-probability.result (product_from one_ℚ (chances_of blocks wheels (digits_at (sizes_of wheels) c.len-number.result))) (block_paths blocks wheels [] (paths_content c.args.paths.items)) _ _
    c.from_residual-in_err-probability.ensures.1 c.in_err-probability.ensures
    (λ q e. sym c.loop-found.invariant.2 ∙ ap (λ l. block_paths blocks wheels built (paths_content l)) c.in-Some.ensures.steps.0
    ∙ block_ends blocks wheels built c.in-Some.found.nodes.items rest q (sym (ap (λ n. product_from one_ℚ (chances_of blocks wheels (digits_at (sizes_of wheels) n))) number) ∙ e))
