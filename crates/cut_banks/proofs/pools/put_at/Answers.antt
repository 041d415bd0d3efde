use Rattle.std.proofs.Common.{get_or, sym, ◌∙◌}
use Rattle.std.proofs.lemmas.Bool.{ltb-true, and_parts}
use Rattle.cut_pool.specs.Pool.{with_cut}
use Rattle.cut_banks.specs.Pools.{may_put}
use Rattle.cut_banks.proofs.Fresh.{rests_on_none}
use Rattle.cut_banks.proofs.Places.{past_passes, past_change, not_done, stays, is_done, changes}
use Rattle.cut_banks.proofs.pools.put_at.Goals as goal

pub returns-then-place-pools-clause-done : goal.returns-then-place-pools-clause-done
returns-then-place-pools-clause-done c = past_passes (may_put c.args.cut) c.args.pools.now c.args.node c.if-place-pools.true

pub returns-then-place-pools-clause-ok : goal.returns-then-place-pools-clause-ok
returns-then-place-pools-clause-ok c = past_change (may_put c.args.cut) (λ p. with_cut p c.args.cut) c.args.pools.now c.args.node c.if-place-pools.true

pub returns-then-not-may_put-clause-done : goal.returns-then-not-may_put-clause-done
returns-then-not-may_put-clause-done c =
    not_done (may_put c.args.cut) c.args.pools.now c.args.node c.index-pools-place.result c.if-place-pools.false (sym c.may_put.ensures ∙ c.if-not-may_put.true)

pub returns-then-not-may_put-clause-ok : goal.returns-then-not-may_put-clause-ok
returns-then-not-may_put-clause-ok c =
    stays (may_put c.args.cut) c.args.pools.now c.args.node c.index-pools-place.result c.if-place-pools.false (λ p. with_cut p c.args.cut)
    (sym c.may_put.ensures ∙ c.if-not-may_put.true)

pub ground-requires-clause-number : goal.ground-requires-clause-number
ground-requires-clause-number c = ltb-true _ 18446744073709551615 (and_parts _ _ (and_parts _ _ (sym c.may_put.ensures ∙ c.if-not-may_put.false)).0).1

pub ground-requires-clause-fresh : goal.ground-requires-clause-fresh
ground-requires-clause-fresh c =
    rests_on_none (get_or c.args.pools.now c.args.node c.index-pools-place.result).known c.args.cut (and_parts _ _ (sym c.may_put.ensures ∙ c.if-not-may_put.false)).1

pub returns-clause-done : goal.returns-clause-done
returns-clause-done c =
    is_done (may_put c.args.cut) c.args.pools.now c.args.node c.index-pools-place.result c.if-place-pools.false (sym c.may_put.ensures ∙ c.if-not-may_put.false)

pub returns-clause-ok : goal.returns-clause-ok
returns-clause-ok c =
    changes (may_put c.args.cut) c.args.pools.now c.args.node c.index-pools-place.result c.if-place-pools.false (λ p. with_cut p c.args.cut) c.ground.new.self
    (sym c.may_put.ensures ∙ c.if-not-may_put.false) c.in_ok-ground.ensures.ok
