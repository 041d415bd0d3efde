use Rattle.std.proofs.Common.{refl, ap, subst}
use Rattle.proved_report.specs.declared.open.Open.TheVariants.{Solves, Passed}
use Rattle.scen_defs.specs.declared.report.Place.TheVariants.{Ground}
use Rattle.pass_core.specs.declared.state.State.{State}
use Rattle.pass_core.specs.Reasons.{IsOfOpening}
use Rattle.pass_core.specs.Turns.{IsStuckBefore, PassesBefore, FaultsBefore}
use Rattle.pass_core.proofs.Reasoning.{stopped_reasons}
use Rattle.pass_core.proofs.state.State.not_opened.Goals as goal

pub returns-in-NotGood-clause-reasons : goal.returns-in-NotGood-clause-reasons
returns-in-NotGood-clause-reasons c = λ p tree h.
    let old = c.args.self.now in
    let e = c.stuck.ensures in
    stopped_reasons (IsOfOpening old.budget.solves (IsStuckBefore p tree old) (PassesBefore p tree old)) old c.stuck.new.self
    (Solves old.budget.solves) (ap (λ (x : State). x.counts) e) (ap (λ (x : State). x.stop) e) (ap (λ (x : State). x.lasting) e)
    (refl, subst (FaultsBefore p tree old) c.in-NotGood.is h)

pub returns-in-Passed-clause-reasons : goal.returns-in-Passed-clause-reasons
returns-in-Passed-clause-reasons c = λ p tree h.
    let old = c.args.self.now in
    let e = c.stop_at.ensures in
    stopped_reasons (IsOfOpening old.budget.solves (IsStuckBefore p tree old) (PassesBefore p tree old)) old c.stop_at.new.self
    (Passed Ground c.in-Passed.passed) (ap (λ (x : State). x.counts) e) (ap (λ (x : State). x.stop) e) (ap (λ (x : State). x.lasting) e)
    (refl, subst (FaultsBefore p tree old) c.in-Passed.is h)
