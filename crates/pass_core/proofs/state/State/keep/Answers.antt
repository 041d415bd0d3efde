use Rattle.std.proofs.Common.{◌≡◌, Result, Err, refl, ap, subst, ◌∙◌}
use Rattle.rationals.specs.Passes.{Operation}
use Rattle.frac128.specs.declared.fault.ArithmeticFault.{ArithmeticFault}
use Rattle.found_ends.specs.Lasts.{kept, KeepsPoint}
use Rattle.proved_report.specs.declared.open.Open.TheVariants.{Solves}
use Rattle.pass_core.specs.declared.state.State.{State}
use Rattle.pass_core.specs.Reasons.{point_halts, IsOfSolve}
use Rattle.pass_core.proofs.Reasoning.{stopped_reasons}
use Rattle.pass_core.proofs.Standing.{join_passes}
use Rattle.pass_core.proofs.state.State.keep.Goals as goal

pub returns-in-Err-Passed-clause-passed : goal.returns-in-Err-Passed-clause-passed
returns-in-Err-Passed-clause-passed c = λ e. (
  c.in-Err-Passed.field-0-0,
  subst (λ (r : Result (Unit {0}) ArithmeticFault).
      KeepsPoint (kept c.args.self.now.lasts.nodes.items c.args.node c.args.trial.now c.args.point) r c.keep.new.self.nodes.items)
      (c.in-Err-Passed.is ∙ ap (λ (f : ArithmeticFault). Err f) c.in-Err-Passed.field-0-is) c.keep.ensures.walk,
)

pub returns-in-Err-Passed-clause-reasons : goal.returns-in-Err-Passed-clause-reasons
returns-in-Err-Passed-clause-reasons c = λ all.
    let old = c.args.self.now in
    let trial = c.args.trial.now in
    let e = c.left_stuck.ensures.others in
    let passes : (p : Operation) × (kept old.lasts.nodes.items c.args.node trial c.args.point ≡ Err p) = (
      c.in-Err-Passed.field-0-0,
      subst (λ (r : Result (Unit {0}) ArithmeticFault).
          KeepsPoint (kept old.lasts.nodes.items c.args.node trial c.args.point) r c.keep.new.self.nodes.items)
          (c.in-Err-Passed.is ∙ ap (λ (f : ArithmeticFault). Err f) c.in-Err-Passed.field-0-is) c.keep.ensures.walk,
    ) in
    stopped_reasons (IsOfSolve old.counts.all old.budget.solves all (point_halts trial c.args.point)) old c.left_stuck.new.self
    (Solves old.budget.solves) (ap (λ (x : State). x.counts) e) (ap (λ (x : State). x.stop) e) (ap (λ (x : State). x.lasting) e)
    (refl, join_passes old.lasts.nodes.items c.args.node trial c.args.point passes)
