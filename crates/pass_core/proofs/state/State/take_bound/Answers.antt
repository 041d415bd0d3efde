use Rattle.std.proofs.Common.{◌≡◌, ◌<◌, Option, None, IfSome, refl, sym, ap, subst, arith, ◌∙◌}
use Rattle.found_ends.specs.Ends.{after_root}
use Rattle.cut_defs.specs.Stored.{Stored}
use Rattle.pass_core.specs.Explained.{GivesCut}
use Rattle.pass_core.proofs.Explaining.{root_kept}
use Rattle.pass_core.specs.Made.{run_book, IsMadeAbout, KeepsMade}
use Rattle.pass_core.proofs.Making.{ends_made, root_made}
use Rattle.pass_core.specs.declared.state.State.{State}
use Rattle.pass_core.specs.Left.{IsOffered, OffersCut, ends_behind}
use Rattle.pass_core.specs.Reasons.{pool_halts, cut_halts, IsOfSolve, GainsReasons}
use Rattle.cut_banks.specs.Banks.{pools_of}
use Rattle.pass_core.proofs.Reasoning.{stuck_wider, refused_above}
use Rattle.pass_core.proofs.Explaining.{on_ok}
use Rattle.pass_core.proofs.Leaving.{ends_stays, offers_above, root_offers, none_offers, behind_above, behind_root, behind_none}
use Rattle.pass_core.proofs.state.State.take_bound.Goals as goal

pub returns-in_ok-take_root-in-Some-2-clause-explained : goal.returns-in_ok-take_root-in-Some-2-clause-explained
returns-in_ok-take_root-in-Some-2-clause-explained c = λ p tree g.
    let s = c.args.self.now in
    root_kept p tree s c.take_root.new.self c.args.trial.now c.args.value c.in-Some.cut
    (subst (λ (o : Option Stored). IfSome o (GivesCut p s.frame tree s.budget.pivots c.args.trial.now)) c.in-Some.is g)
    c.in_ok-take_root-in-Some-2.ensures.ok

pub returns-in_ok-take_root-in-Some-2-clause-made : goal.returns-in_ok-take_root-in-Some-2-clause-made
returns-in_ok-take_root-in-Some-2-clause-made c = λ b h.
    let s = c.args.self.now in
    let k = subst (λ (o : Option Stored). IfSome o (IsMadeAbout (run_book s.kind b) c.args.node)) c.in-Some.is h in
    let z : c.args.node ≡ 0 = omega (arith, c.if-node-gt0.false) in
    subst (KeepsMade b s) (sym c.in_ok-take_root-in-Some-2.ensures.ok)
    (ends_made b s (record s { ends = after_root s.kind s.ends c.args.value c.in-Some.cut }) refl (root_made b s.kind s.ends c.args.value c.in-Some.cut (record { node = k.node ∙ z; made = k.made })))

pub returns-in_ok-take_root-in-Some-2-clause-stays : goal.returns-in_ok-take_root-in-Some-2-clause-stays
returns-in_ok-take_root-in-Some-2-clause-stays c =
    ends_stays c.args.self.now c.take_root.new.self _ c.in_ok-take_root-in-Some-2.ensures.ok

pub returns-in-Some-clause-offers : goal.returns-in-Some-clause-offers
returns-in-Some-clause-offers c =
    let old = c.args.self.now in
    let new = c.offer.new.self in
    let n = c.args.node in
    let trial = c.args.trial.now in
    let low : 0 < n = omega (arith, c.if-node-gt0.true) in
    on_ok c.offer.result (new.stop ≡ None → IsOffered old.kind c.in-Some.cut trial old.banks new.banks)
    (new.stop ≡ None → OffersCut old.kind n c.args.cut trial old.banks new.banks)
    (λ h stop. offers_above old.kind n c.args.cut c.in-Some.cut trial old.banks new.banks low c.in-Some.is (h stop)) c.offer.ensures.offered

pub returns-in_ok-take_root-in-Some-2-clause-offers : goal.returns-in_ok-take_root-in-Some-2-clause-offers
returns-in_ok-take_root-in-Some-2-clause-offers c = λ stop.
    let old = c.args.self.now in
    let z : c.args.node ≡ 0 = omega (arith, c.if-node-gt0.false) in
    root_offers old.kind c.args.node c.args.cut c.args.trial.now old.banks c.take_root.new.self.banks z
    (ap (λ (s : State). s.banks) c.in_ok-take_root-in-Some-2.ensures.ok)

pub returns-in-None-clause-offers : goal.returns-in-None-clause-offers
returns-in-None-clause-offers c = λ stop.
    let old = c.args.self.now in
    none_offers old.kind c.args.node c.args.cut c.args.trial.now old.banks old.banks c.in-None.is refl

pub returns-in-Some-clause-ends : goal.returns-in-Some-clause-ends
returns-in-Some-clause-ends c =
    let old = c.args.self.now in
    let new = c.offer.new.self in
    let low : 0 < c.args.node = omega (arith, c.if-node-gt0.true) in
    on_ok c.offer.result (new.ends ≡ old.ends) (new.ends ≡ ends_behind old.kind c.args.node c.args.value c.args.cut old.ends)
    (λ h. h ∙ sym (behind_above old.kind c.args.node c.args.value c.args.cut old.ends low)) c.offer.ensures.ends

pub returns-in_ok-take_root-in-Some-2-clause-ends : goal.returns-in_ok-take_root-in-Some-2-clause-ends
returns-in_ok-take_root-in-Some-2-clause-ends c =
    let old = c.args.self.now in
    let z : c.args.node ≡ 0 = omega (arith, c.if-node-gt0.false) in
    ap (λ (s : State). s.ends) c.in_ok-take_root-in-Some-2.ensures.ok
    ∙ sym (behind_root old.kind c.args.node c.args.value c.args.cut c.in-Some.cut old.ends z c.in-Some.is)

pub returns-in-None-clause-ends : goal.returns-in-None-clause-ends
returns-in-None-clause-ends c =
    let old = c.args.self.now in
    sym (behind_none old.kind c.args.node c.args.value c.args.cut old.ends c.in-None.is)

pub returns-in-Some-clause-reasons : goal.returns-in-Some-clause-reasons
returns-in-Some-clause-reasons c = λ all.
    let old = c.args.self.now in
    let new = c.offer.new.self in
    let n = c.args.node in
    let trial = c.args.trial.now in
    let low : 0 < n = omega (arith, c.if-node-gt0.true) in
    let refused = pool_halts (pools_of old.kind old.banks) trial c.in-Some.cut in
    let halts = cut_halts old.kind old.banks n trial c.args.cut in
    on_ok c.offer.result (GainsReasons (IsOfSolve old.counts.all old.budget.solves all refused) old new)
    (GainsReasons (IsOfSolve old.counts.all old.budget.solves all halts) old new)
    (stuck_wider refused halts old.counts.all old.budget.solves all old new
    (refused_above old.kind old.banks n trial c.args.cut c.in-Some.cut low c.in-Some.is)) (c.offer.ensures.reasons all)
