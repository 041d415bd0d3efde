use Rattle.std.proofs.Common.{refl, sym, ap, subst, ◌∙◌}
use Rattle.cut_defs.specs.Stored.{source_of}
use Rattle.cut_banks.specs.Banks.{pools_of}
use Rattle.pass_core.specs.declared.state.State.{State}
use Rattle.pass_core.specs.Explained.{KeepsExplained}
use Rattle.pass_core.proofs.Tabling.{offered, unanswered, stop_keeps}
use Rattle.pass_core.proofs.Explaining.{offer_kept, offer_passes}
use Rattle.pass_core.specs.Counting.{after_answer}
use Rattle.cut_banks.specs.Pools.{may_take}
use Rattle.cut_pool.specs.Pool.{offer_of, after_offer}
use Rattle.cut_defs.specs.Stored.{IsMadeFor}
use Rattle.pass_core.specs.Made.{run_book, KeepsMade}
use Rattle.pass_core.proofs.Making.{offered_have, bank_changed, banks_made, answered_made, then_made, same_made}
use Rattle.pass_core.specs.Reasons.{pool_halts, IsOfSolve, GainsReasons}
use Rattle.proved_report.specs.declared.open.Open.{Open}
use Rattle.proved_report.specs.declared.open.Open.TheVariants.{Solves}
use Rattle.pass_core.proofs.Reasoning.{same_reasons, stopped_reasons, then_reasons, stuck_wider, answer_halts, answered_reasons}
use Rattle.pass_core.proofs.Reasoning.{unanswered_refused, answer_within}
use Rattle.pass_core.proofs.Leaving.{stays_as, answer_stays, answer_ends, not_stopped, offered_taken}
use Rattle.pass_core.proofs.state.State.offer.Goals as goal

pub returns-in-Some-clause-explained : goal.returns-in-Some-clause-explained
returns-in-Some-clause-explained c = λ p tree g.
    let s : State = record c.args.self.now { banks = c.offer.new.self } in
    subst (λ (t : State). KeepsExplained p tree c.args.self.now t) (sym c.judged.ensures.state)
    (offer_kept p tree s c.in-Some.offer
    (offer_passes p c.args.self.now.frame tree c.args.self.now.budget.pivots c.args.trial.now c.args.cut (source_of c.args.cut).node
    (pools_of c.args.self.now.kind c.args.self.now.banks) c.in-Some.offer g (sym c.in-Some.is ∙ c.in_ok-offer.ensures.answer)))

pub returns-in-Some-clause-raises : goal.returns-in-Some-clause-raises
returns-in-Some-clause-raises c =
    offered c.args.self.now c.judged.new.self c.args.cut c.args.trial.now c.offer.new.self c.in-Some.offer c.judged.result
    (sym c.in-Some.is ∙ c.in_ok-offer.ensures.answer) c.in_ok-offer.ensures.ok c.judged.ensures.added c.judged.ensures.state

pub returns-in-None-clause-raises : goal.returns-in-None-clause-raises
returns-in-None-clause-raises c =
    let s : State = record c.args.self.now { banks = c.offer.new.self } in
    unanswered c.args.self.now c.stuck.new.self c.args.cut c.args.trial.now c.offer.new.self
    (sym c.in-None.is ∙ c.in_ok-offer.ensures.answer) c.in_ok-offer.ensures.ok (stop_keeps s c.stuck.new.self _ c.stuck.ensures)

pub returns-in-Some-clause-made : goal.returns-in-Some-clause-made
returns-in-Some-clause-made c = λ b h.
    let old = c.args.self.now in
    let s : State = record old { banks = c.offer.new.self } in
    let cut = c.args.cut in
    let trial = c.args.trial.now in
    subst (λ (t : State). KeepsMade b old t) (sym c.judged.ensures.state)
    (then_made b old s (after_answer c.in-Some.offer s)
    (banks_made b old c.offer.new.self
    (bank_changed old.kind b old.banks c.offer.new.self (may_take cut) (λ p. after_offer p cut (offer_of p cut trial)) (source_of cut).node
    (λ p. offered_have (IsMadeFor (run_book old.kind b)) p cut (offer_of p cut trial) h) c.in_ok-offer.ensures.ok))
    (answered_made b s c.in-Some.offer))

pub returns-in-None-clause-made : goal.returns-in-None-clause-made
returns-in-None-clause-made c = λ b h.
    let old = c.args.self.now in
    let s : State = record old { banks = c.offer.new.self } in
    let cut = c.args.cut in
    let trial = c.args.trial.now in
    let e = c.stuck.ensures in
    then_made b old s c.stuck.new.self
    (banks_made b old c.offer.new.self
    (bank_changed old.kind b old.banks c.offer.new.self (may_take cut) (λ p. after_offer p cut (offer_of p cut trial)) (source_of cut).node
    (λ p. offered_have (IsMadeFor (run_book old.kind b)) p cut (offer_of p cut trial) h) c.in_ok-offer.ensures.ok))
    (same_made b s c.stuck.new.self (ap (λ (x : State). x.banks) e) (ap (λ (x : State). x.kind) e) (ap (λ (x : State). x.ends) e))

pub returns-in-Some-clause-reasons : goal.returns-in-Some-clause-reasons
returns-in-Some-clause-reasons c = λ all.
    let old = c.args.self.now in
    let s : State = record old { banks = c.offer.new.self } in
    let o = c.in-Some.offer in
    let pools = pools_of old.kind old.banks in
    let halts = pool_halts pools c.args.trial.now c.args.cut in
    let is : Open → Type 0 = IsOfSolve old.counts.all old.budget.solves all halts in
    subst (GainsReasons is old) (sym c.judged.ensures.state)
    (then_reasons is old s (after_answer o s) (same_reasons is old s refl refl refl)
    (stuck_wider (answer_halts o) halts old.counts.all old.budget.solves all s (after_answer o s)
    (answer_within pools c.args.trial.now c.args.cut o (sym c.in-Some.is ∙ c.in_ok-offer.ensures.answer)) (answered_reasons all o s)))

pub returns-in-None-clause-reasons : goal.returns-in-None-clause-reasons
returns-in-None-clause-reasons c = λ all.
    let old = c.args.self.now in
    let s : State = record old { banks = c.offer.new.self } in
    let e = c.stuck.ensures in
    let pools = pools_of old.kind old.banks in
    let is : Open → Type 0 = IsOfSolve old.counts.all old.budget.solves all (pool_halts pools c.args.trial.now c.args.cut) in
    then_reasons is old s c.stuck.new.self (same_reasons is old s refl refl refl)
    (stopped_reasons is s c.stuck.new.self (Solves old.budget.solves) (ap (λ (x : State). x.counts) e) (ap (λ (x : State). x.stop) e)
    (ap (λ (x : State). x.lasting) e)
    (refl, unanswered_refused pools c.args.trial.now c.args.cut (sym c.in-None.is ∙ c.in_ok-offer.ensures.answer)))

pub returns-in-Some-clause-stays : goal.returns-in-Some-clause-stays
returns-in-Some-clause-stays c =
    let s : State = record c.args.self.now { banks = c.offer.new.self } in
    let h = stays_as s (after_answer c.in-Some.offer s) c.judged.new.self c.judged.ensures.state (answer_stays c.in-Some.offer s) in
    record { kind = h.kind; frame = h.frame; budget = h.budget; versions = h.versions }

pub returns-in-None-clause-stays : goal.returns-in-None-clause-stays
returns-in-None-clause-stays c =
    let e = c.stuck.ensures in
    record {
      kind = ap (λ (x : State). x.kind) e;
      frame = ap (λ (x : State). x.frame) e;
      budget = ap (λ (x : State). x.budget) e;
      versions = ap (λ (x : State). x.versions) e;
    }

pub returns-in-Some-clause-offered : goal.returns-in-Some-clause-offered
returns-in-Some-clause-offered c =
    offered_taken c.args.self.now c.judged.new.self c.args.cut c.args.trial.now c.offer.new.self c.in-Some.offer
    (sym c.in-Some.is ∙ c.in_ok-offer.ensures.answer) c.in_ok-offer.ensures.ok c.judged.ensures.state

pub returns-in-None-clause-offered : goal.returns-in-None-clause-offered
returns-in-None-clause-offered c = λ stop.
    let s : State = record c.args.self.now { banks = c.offer.new.self } in
    absurd (not_stopped s c.stuck.new.self (Solves s.budget.solves) (ap (λ (x : State). x.stop) c.stuck.ensures) stop)

pub returns-in-Some-clause-ends : goal.returns-in-Some-clause-ends
returns-in-Some-clause-ends c =
    let s : State = record c.args.self.now { banks = c.offer.new.self } in
    ap (λ (x : State). x.ends) c.judged.ensures.state ∙ answer_ends c.in-Some.offer s

pub returns-in-None-clause-ends : goal.returns-in-None-clause-ends
returns-in-None-clause-ends c = ap (λ (x : State). x.ends) c.stuck.ensures
