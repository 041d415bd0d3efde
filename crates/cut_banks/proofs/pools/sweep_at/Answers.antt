use Rattle.std.proofs.Common.{◌≡◌, true, get_or, sym, ◌∙◌}
use Rattle.std.proofs.lemmas.Bool.{ltb-true}
use Rattle.cut_banks.specs.Pools.{may_change, swept_for}
use Rattle.cut_banks.proofs.Places.{past_passes, past_change, not_done, stays, is_done, changes, swept_is}
use Rattle.cut_banks.proofs.pools.sweep_at.Goals as goal

pub returns-then-place-pools-clause-done : goal.returns-then-place-pools-clause-done
returns-then-place-pools-clause-done c = past_passes may_change c.args.pools.now c.args.due.now.pool c.if-place-pools.true

pub returns-then-place-pools-clause-ok : goal.returns-then-place-pools-clause-ok
returns-then-place-pools-clause-ok c = past_change may_change (swept_for c.args.due.now) c.args.pools.now c.args.due.now.pool c.if-place-pools.true

pub returns-then-not-may_change-clause-done : goal.returns-then-not-may_change-clause-done
returns-then-not-may_change-clause-done c = not_done may_change c.args.pools.now c.args.due.now.pool c.index-pools-place.result c.if-place-pools.false
    (sym c.may_change.ensures ∙ c.if-not-may_change.true)

pub returns-then-not-may_change-clause-ok : goal.returns-then-not-may_change-clause-ok
returns-then-not-may_change-clause-ok c = stays may_change c.args.pools.now c.args.due.now.pool c.index-pools-place.result c.if-place-pools.false (swept_for c.args.due.now)
    (sym c.may_change.ensures ∙ c.if-not-may_change.true)

pub swept-requires : goal.swept-requires
swept-requires c = ltb-true _ 18446744073709551615 (sym c.may_change.ensures ∙ c.if-not-may_change.false)

pub returns-clause-done : goal.returns-clause-done
returns-clause-done c = is_done may_change c.args.pools.now c.args.due.now.pool c.index-pools-place.result c.if-place-pools.false
    (sym c.may_change.ensures ∙ c.if-not-may_change.false)

pub returns-clause-ok : goal.returns-clause-ok
returns-clause-ok c =
    let t : may_change (get_or c.args.pools.now c.args.due.now.pool c.index-pools-place.result) ≡ true = sym c.may_change.ensures ∙ c.if-not-may_change.false in
    changes may_change c.args.pools.now c.args.due.now.pool c.index-pools-place.result c.if-place-pools.false (swept_for c.args.due.now) c.swept.new.pool t
    (swept_is c.args.due.now (get_or c.args.pools.now c.args.due.now.pool c.index-pools-place.result) c.swept.new.pool t c.in_ok-swept.ensures.ok)
