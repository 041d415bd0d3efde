use Rattle.std.proofs.Common.{◌≡◌, ◌<◌, None, Some, refl, sym, arith, ◌∙◌}
use Rattle.pass_core.specs.Left.{IsOffered, OffersCut, ends_without}
use Rattle.pass_core.specs.Reasons.{pool_halts, cut_halts, IsOfSolve, GainsReasons}
use Rattle.cut_banks.specs.Banks.{pools_of}
use Rattle.pass_core.proofs.Reasoning.{stuck_wider, refused_above}
use Rattle.pass_core.proofs.Explaining.{on_ok}
use Rattle.pass_core.proofs.Leaving.{offers_above, root_offers, without_above, without_root}
use Rattle.pass_core.proofs.state.State.take_ray.Goals as goal

pub returns-clause-made : goal.returns-clause-made
returns-clause-made c = λ b h.
    let s = c.args.self.now in
    let z : c.args.node ≡ 0 = omega (arith, c.if-node-gt0.false) in
    (refl, λ k. (k.0, record { root = k.1.root; lower = k.1.lower; nowhere = (s.kind, record { node = h.node ∙ z; made = h.made }) }))

pub returns-then-node-gt0-clause-offers : goal.returns-then-node-gt0-clause-offers
returns-then-node-gt0-clause-offers c =
    let old = c.args.self.now in
    let new = c.offer.new.self in
    let n = c.args.node in
    let trial = c.args.trial.now in
    let low : 0 < n = omega (arith, c.if-node-gt0.true) in
    on_ok c.offer.result (new.stop ≡ None → IsOffered old.kind c.args.cut trial old.banks new.banks)
    (new.stop ≡ None → OffersCut old.kind n (Some c.args.cut) trial old.banks new.banks)
    (λ h stop. offers_above old.kind n (Some c.args.cut) c.args.cut trial old.banks new.banks low refl (h stop)) c.offer.ensures.offered

pub returns-clause-offers : goal.returns-clause-offers
returns-clause-offers c = λ stop.
    let old = c.args.self.now in
    let z : c.args.node ≡ 0 = omega (arith, c.if-node-gt0.false) in
    root_offers old.kind c.args.node (Some c.args.cut) c.args.trial.now old.banks old.banks z refl

pub returns-then-node-gt0-clause-ends : goal.returns-then-node-gt0-clause-ends
returns-then-node-gt0-clause-ends c =
    let old = c.args.self.now in
    let new = c.offer.new.self in
    let low : 0 < c.args.node = omega (arith, c.if-node-gt0.true) in
    on_ok c.offer.result (new.ends ≡ old.ends) (new.ends ≡ ends_without c.args.node c.args.cut old.ends)
    (λ h. h ∙ sym (without_above c.args.node c.args.cut old.ends low)) c.offer.ensures.ends

pub returns-clause-ends : goal.returns-clause-ends
returns-clause-ends c =
    let z : c.args.node ≡ 0 = omega (arith, c.if-node-gt0.false) in
    sym (without_root c.args.node c.args.cut c.args.self.now.ends z)

pub returns-then-node-gt0-clause-reasons : goal.returns-then-node-gt0-clause-reasons
returns-then-node-gt0-clause-reasons c = λ all.
    let old = c.args.self.now in
    let new = c.offer.new.self in
    let n = c.args.node in
    let trial = c.args.trial.now in
    let low : 0 < n = omega (arith, c.if-node-gt0.true) in
    let refused = pool_halts (pools_of old.kind old.banks) trial c.args.cut in
    let halts = cut_halts old.kind old.banks n trial (Some c.args.cut) in
    on_ok c.offer.result (GainsReasons (IsOfSolve old.counts.all old.budget.solves all refused) old new)
    (GainsReasons (IsOfSolve old.counts.all old.budget.solves all halts) old new)
    (stuck_wider refused halts old.counts.all old.budget.solves all old new
    (refused_above old.kind old.banks n trial (Some c.args.cut) c.args.cut low refl)) (c.offer.ensures.reasons all)
