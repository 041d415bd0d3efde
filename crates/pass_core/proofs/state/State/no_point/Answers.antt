use Rattle.pass_core.specs.declared.state.State.{State}
use Rattle.std.proofs.Common.{false, Some, refl, sym, ap, ◌∙◌}
use Rattle.node_lp.specs.declared.solved.Solved.TheVariants as solved
use Rattle.pass_core.specs.Turns.{EndsBy}
use Rattle.pass_core.proofs.Standing.{same_points, then_points, forgotten_stand}
use Rattle.pass_core.proofs.Tabling.{lasts_keeps, offered_ends}
use Rattle.pass_core.proofs.Explaining.{then_kept, table_kept, forgotten_kept}
use Rattle.pass_core.proofs.Making.{same_made, then_made}
use Rattle.pass_core.specs.Reasons.{solve_halts, IsOfSolve}
use Rattle.proved_report.specs.declared.open.Open.{Open}
use Rattle.pass_core.proofs.Reasoning.{same_reasons, then_reasons}
use Rattle.found_ends.specs.declared.last.Lasts.{Lasts}
use Rattle.pass_core.proofs.Leaving.{stays_then, lasts_stays, table_stays, offers_as}
use Rattle.pass_core.proofs.state.State.no_point.Goals as goal

pub returns-clause-explained : goal.returns-clause-explained
returns-clause-explained c = λ p tree g.
    let s : State = record c.args.self.now { lasts = c.forget.new.self } in
    then_kept p tree c.args.self.now c.take_ray.new.self c.commit_last.new.self
    (then_kept p tree c.args.self.now s c.take_ray.new.self
    (forgotten_kept p tree c.args.self.now c.forget.new.self c.args.node c.forget.ensures) (c.in_ok-is_raised.ensures.explained p tree g))
    (table_kept p tree c.take_ray.new.self c.commit_last.new.self c.commit_last.ensures.others)

pub returns-clause-tabled : goal.returns-clause-tabled
returns-clause-tabled c = λ m f solving number node about.
    let s : State = record c.args.self.now { lasts = c.forget.new.self } in
    offered_ends c.args.worker (EndsBy c.args.worker c.args.begun.now.task.trial (solved.NoPoint c.args.cut)) c.in_ok-is_raised.is_raised false c.args.node c.args.self.now s c.take_ray.new.self c.commit_last.new.self m f
    c.args.begun.now.readings.items _ solving number node (lasts_keeps c.args.self.now s c.forget.new.self refl)
    (c.in_ok-is_raised.ensures.raises about) c.in_ok-is_raised.ensures.low c.commit_last.ensures.others
    (λ still. c.commit_last.ensures.commits m f still node c.in_ok-is_raised.ensures.low) refl

pub returns-clause-points : goal.returns-clause-points
returns-clause-points c = λ p.
    let s : State = record c.args.self.now { lasts = c.forget.new.self } in
    then_points p c.args.self.now s c.commit_last.new.self
    (forgotten_stand p c.args.self.now.lasts.nodes.items c.forget.new.self.nodes.items c.args.node c.forget.ensures)
    (same_points p s c.commit_last.new.self (ap (λ (x : State). x.lasts) c.commit_last.ensures.others ∙ c.in_ok-is_raised.ensures.lasts))

pub returns-clause-made : goal.returns-clause-made
returns-clause-made c = λ b h.
    let s : State = record c.args.self.now { lasts = c.forget.new.self } in
    let f = c.commit_last.ensures.others in
    then_made b c.args.self.now s c.commit_last.new.self (same_made b c.args.self.now s refl refl refl)
    (then_made b s c.take_ray.new.self c.commit_last.new.self (c.in_ok-is_raised.ensures.made b h)
    (same_made b c.take_ray.new.self c.commit_last.new.self (ap (λ (x : State). x.banks) f) (ap (λ (x : State). x.kind) f) (ap (λ (x : State). x.ends) f)))

pub returns-clause-reasons : goal.returns-clause-reasons
returns-clause-reasons c = λ all.
    let old = c.args.self.now in
    let s : State = record old { lasts = c.forget.new.self } in
    let e = c.commit_last.ensures.others in
    let halts = solve_halts old.kind old.banks c.args.node c.args.begun.now.task.trial (solved.NoPoint c.args.cut) (λ o. ⊥) in
    let is : Open → Type 0 = IsOfSolve old.counts.all old.budget.solves all halts in
    let given = then_reasons is old s c.take_ray.new.self (same_reasons is old s refl refl refl) (c.in_ok-is_raised.ensures.reasons all) in
    then_reasons is old c.take_ray.new.self c.commit_last.new.self given
    (same_reasons is c.take_ray.new.self c.commit_last.new.self (ap (λ (x : State). x.counts) e) (ap (λ (x : State). x.stop) e) (ap (λ (x : State). x.lasting) e))

pub returns-clause-stays : goal.returns-clause-stays
returns-clause-stays c =
    let old = c.args.self.now in
    let s : State = record old { lasts = c.forget.new.self } in
    stays_then old s c.commit_last.new.self (lasts_stays old s c.forget.new.self refl)
    (stays_then s c.take_ray.new.self c.commit_last.new.self c.in_ok-is_raised.ensures.stays
    (table_stays c.take_ray.new.self c.commit_last.new.self _ c.commit_last.ensures.others))

pub returns-clause-left : goal.returns-clause-left
returns-clause-left c = λ stop.
    let old = c.args.self.now in
    let f = c.commit_last.ensures.others in
    let ray = c.in_ok-is_raised.ensures in
    record {
      lasts = ap (λ (l : Lasts). l.nodes.items) (ap (λ (s : State). s.lasts) f ∙ ray.lasts) ∙ c.forget.ensures;
      banks = offers_as c.args.node (Some c.args.cut) c.args.begun.now.task.trial old.kind old.kind old.banks old.banks
          c.take_ray.new.self.banks c.commit_last.new.self.banks refl refl (sym (ap (λ (s : State). s.banks) f))
          (ray.offers (sym (ap (λ (s : State). s.stop) f) ∙ stop));
      ends = ap (λ (s : State). s.ends) f ∙ ray.ends;
    }
