use Rattle.std.proofs.Common.{get_or, Some, sym, ap, ◌∙◌}
use Rattle.std.specs.Option.{option_map}
use Rattle.std.proofs.lemmas.Bool.{ltb-true, and_parts}
use Rattle.cut_pool.specs.Pool.{offer_of, after_offer}
use Rattle.cut_banks.specs.Pools.{may_take}
use Rattle.cut_banks.proofs.Places.{past_pool, past_change, no_pool, stays, a_pool, changes, offered_is}
use Rattle.cut_banks.proofs.pools.offer_at.Goals as goal

pub returns-then-place-pools-clause-answer : goal.returns-then-place-pools-clause-answer
returns-then-place-pools-clause-answer c =
    ap (option_map (λ p. offer_of p c.args.cut c.args.trial.now)) (past_pool (may_take c.args.cut) c.args.pools.now c.args.node c.if-place-pools.true)

pub returns-then-place-pools-clause-ok : goal.returns-then-place-pools-clause-ok
returns-then-place-pools-clause-ok c =
    past_change (may_take c.args.cut) (λ p. after_offer p c.args.cut (offer_of p c.args.cut c.args.trial.now)) c.args.pools.now c.args.node c.if-place-pools.true

pub returns-then-not-may_take-clause-answer : goal.returns-then-not-may_take-clause-answer
returns-then-not-may_take-clause-answer c =
    ap (option_map (λ p. offer_of p c.args.cut c.args.trial.now))
    (no_pool (may_take c.args.cut) c.args.pools.now c.args.node c.index-pools-place.result c.if-place-pools.false (sym c.may_take.ensures ∙ c.if-not-may_take.true))

pub returns-then-not-may_take-clause-ok : goal.returns-then-not-may_take-clause-ok
returns-then-not-may_take-clause-ok c =
    stays (may_take c.args.cut) c.args.pools.now c.args.node c.index-pools-place.result c.if-place-pools.false
    (λ p. after_offer p c.args.cut (offer_of p c.args.cut c.args.trial.now)) (sym c.may_take.ensures ∙ c.if-not-may_take.true)

pub offer-requires-clause-number : goal.offer-requires-clause-number
offer-requires-clause-number c = ltb-true _ 18446744073709551615 (and_parts _ _ (sym c.may_take.ensures ∙ c.if-not-may_take.false)).1

pub returns-clause-answer : goal.returns-clause-answer
returns-clause-answer c =
    ap Some c.in_ok-offer.ensures.answer
    ∙ ap (option_map (λ p. offer_of p c.args.cut c.args.trial.now))
    (a_pool (may_take c.args.cut) c.args.pools.now c.args.node c.index-pools-place.result c.if-place-pools.false (sym c.may_take.ensures ∙ c.if-not-may_take.false))

pub returns-clause-ok : goal.returns-clause-ok
returns-clause-ok c =
    changes (may_take c.args.cut) c.args.pools.now c.args.node c.index-pools-place.result c.if-place-pools.false
    (λ p. after_offer p c.args.cut (offer_of p c.args.cut c.args.trial.now)) c.offer.new.self
    (sym c.may_take.ensures ∙ c.if-not-may_take.false)
    (offered_is c.args.cut (get_or c.args.pools.now c.args.node c.index-pools-place.result) c.offer.new.self _ _ c.in_ok-offer.ensures.ok c.in_ok-offer.ensures.answer)
