use Rattle.std.proofs.Common.{◌≡◌, ℕ, false, inr, slice_index, slice_index_or, arith, refl, sym, ◌∙◌}
use Rattle.std.proofs.lemmas.Bool.{false≢true}
use Rattle.pass_table.specs.Walks.{IsGoodAt}
use Rattle.pass_table.proofs.Above.{walk_step, walk_keeps, walk_all}
use Rattle.pass_table.proofs.walks.is_free_above.Goals as goal

pub returns-then-flying-at : goal.returns-then-flying-at
returns-then-flying-at c = (
  λ e. absurd (false≢true e),
  λ all. sym (all (slice_index c.args.parents.now c.up.at) (walk_step _ c.up.at c.args.node c.up-test.true c.up.invariant.1)).1 ∙ c.if-flying-at.true,
)

pub returns-then-not-is_good : goal.returns-then-not-is_good
returns-then-not-is_good c = (
  λ e. absurd (false≢true e),
  λ all. sym c.if-not-is_good.true ∙ c.is_good.ensures.1 (all (slice_index c.args.parents.now c.up.at) (walk_step _ c.up.at c.args.node c.up-test.true c.up.invariant.1)).0,
)

pub up-preserved : goal.up-preserved
up-preserved c =
    let P : ℕ → Type 0 = λ a. IsGoodAt c.args.parents.now c.args.solves.now a × (slice_index_or c.args.flying.now a false ≡ false) in (
      omega (arith, c.requires.rising c.up.at c.up-test.true (omega arith), c.up.invariant.0),
      inr (walk_step _ c.up.at c.args.node c.up-test.true c.up.invariant.1),
      walk_keeps _ P c.up.at c.args.node c.up.invariant.2 (c.is_good.ensures.0 c.if-not-is_good.false, c.if-flying-at.false),
    )

pub returns : goal.returns
returns c =
    let P : ℕ → Type 0 = λ a. IsGoodAt c.args.parents.now c.args.solves.now a × (slice_index_or c.args.flying.now a false ≡ false) in
    (λ _. walk_all _ P c.up.at c.args.node c.up.invariant.2 (omega arith), λ _. refl)
