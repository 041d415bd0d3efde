use Rattle.std.proofs.Common.{◌≡◌, Bool, false, true, None, inr, refl, sym, ap, subst, ◌∙◌}
use Rattle.scen_defs.specs.declared.report.Place.TheVariants.{Cost}
use Rattle.proved_report.specs.declared.open.Open.{Open}
use Rattle.proved_report.specs.declared.open.Open.TheVariants.{Passed}
use Rattle.found_ends.specs.Costs.{joined_cost}
use Rattle.pass_core.specs.Reasons.{cost_halts, IsOfSolve}
use Rattle.pass_core.proofs.Reasoning.{same_reasons, then_reasons, run_reasons}
use Rattle.scen_defs.specs.Program.{content}
use Rattle.found_ends.specs.Ends.{after_policy}
use Rattle.found_ends.specs.Lasts.{joined_points}
use Rattle.found_ends.specs.declared.ends.Ends.{Ends}
use Rattle.pass_core.specs.declared.state.State.{State}
use Rattle.pass_core.specs.Left.{TakesComplete}
use Rattle.pass_core.proofs.Explaining.{on_ok}
use Rattle.pass_core.proofs.Leaving.{complete_flag}
use Rattle.pass_core.proofs.state.State.complete.Goals as goal

pub returns-then-not-is_complete-clause-left : goal.returns-then-not-is_complete-clause-left
returns-then-not-is_complete-clause-left c = λ m fits stop.
    let s = c.args.self.now in
    let p = content c.args.program.now in (
      stop,
      subst (λ (flag : Bool). TakesComplete flag p c.args.tree.now s.kind s.lasts.nodes.items s.ends s.ends)
          (sym (complete_flag s.table m false fits (c.if-not-is_complete.ensures m fits))) refl,
    )

pub returns-in-Ok-clause-left : goal.returns-in-Ok-clause-left
returns-in-Ok-clause-left c = λ m fits.
    let s = c.args.self.now in
    let new = c.take_policy.new.self in
    let p = content c.args.program.now in
    let ends : Ends = after_policy s.kind s.ends (record { cost = c.in-Ok.cost; policy = joined_points s.lasts.nodes.items }) in
    on_ok c.take_policy.result (new ≡ record s { ends = ends })
    (new.stop ≡ None → (s.stop ≡ None) × TakesComplete s.table.complete p c.args.tree.now s.kind s.lasts.nodes.items s.ends new.ends)
    (λ e stop. (
      sym (ap (λ (x : State). x.stop) e) ∙ stop,
      subst (λ (flag : Bool). TakesComplete flag p c.args.tree.now s.kind s.lasts.nodes.items s.ends new.ends)
          (sym (complete_flag s.table m true fits (c.if-not-is_complete.ensures m fits)))
          (record { cost = c.in-Ok.cost; costs = sym c.in-Ok.ensures; ends = ap (λ (x : State). x.ends) e }),
    )) c.take_policy.ensures.ok

pub returns-in-Err-clause-reasons : goal.returns-in-Err-clause-reasons
returns-in-Err-clause-reasons c = λ all.
    let old = c.args.self.now in
    let mid = c.forget_direction.new.self in
    let cost = joined_cost (content c.args.program.now).nodes c.args.tree.now.chances.totals old.lasts.nodes.items in
    let is : Open → Type 0 = IsOfSolve old.counts.all old.budget.solves all (cost_halts cost) in
    let e = c.forget_direction.ensures in
    let f = c.stop_for_run.ensures in
    then_reasons is old mid c.stop_for_run.new.self
    (same_reasons is old mid (ap (λ (x : State). x.counts) e) (ap (λ (x : State). x.stop) e) (ap (λ (x : State). x.lasting) e))
    (run_reasons is mid c.stop_for_run.new.self (Passed (Cost mid.counts.all) c.in-Err.passed) (ap (λ (x : State). x.counts) f)
    (ap (λ (x : State). x.stop) f) (ap (λ (x : State). x.lasting) f)
    (ap (λ (x : State). x.counts.all) e, sym c.in-Err.ensures) (inr (mid.counts.all, refl)))
