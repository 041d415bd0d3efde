use Rattle.std.proofs.Common.{◌≡◌, Bool, true, false, Ok, ap, inl, inr, refl, sym, subst, ◌∙◌, rules}
use Rattle.node_lp.specs.declared.solved.Solved.TheVariants as solved
use Rattle.found_ends.specs.declared.last.Lasts.{Lasts}
use Rattle.pass_core.specs.declared.state.State.{State}
use Rattle.pass_core.specs.Turns.{EndsBy}
use Rattle.pass_core.proofs.Standing.{join_passes, same_points, then_points, point_stands}
use Rattle.pass_core.proofs.Tabling.{left_ends, lasts_keeps, offered_ends, not_true, not_false}
use Rattle.pass_core.proofs.Explaining.{then_kept, table_kept, still_given}
use Rattle.pass_core.specs.Made.{KeepsMade}
use Rattle.pass_core.proofs.Making.{same_made, then_made, still_made}
use Rattle.pass_core.specs.Reasons.{AreBehind, cut_halts, point_halts, solve_halts, IsOfSolve}
use Rattle.proved_report.specs.declared.open.Open.{Open}
use Rattle.pass_core.proofs.Reasoning.{same_reasons, then_reasons, solve_reasons, stuck_wider, refused_as}
use Rattle.proved_report.specs.declared.open.Open.TheVariants.{Solves}
use Rattle.pass_core.proofs.Leaving.{stays_then, stopped_stays, lasts_stays, table_stays, not_stopped, point_taken}
use Rattle.pass_core.proofs.state.State.point.Goals as goal

pub returns-clause-explained : goal.returns-clause-explained
returns-clause-explained c = λ p tree x g.
    let k = c.in_ok-keep.ensures.explained p tree x in
    then_kept p tree c.args.self.now c.take_bound.new.self c.commit_last.new.self
    (then_kept p tree c.args.self.now c.keep.new.self c.take_bound.new.self k
    (c.in_ok-is_raised.ensures.explained p tree
    (still_given p tree c.args.self.now c.keep.new.self c.args.begun.now.task.trial c.args.cut k g)))
    (table_kept p tree c.take_bound.new.self c.commit_last.new.self c.commit_last.ensures.others)

pub returns-then-not-branch-clause-tabled : goal.returns-then-not-branch-clause-tabled
returns-then-not-branch-clause-tabled c = λ m f solving number node about.
    let q : c.in_ok-keep.field-0 ≡ false = first_of (cc, search (rules, not_true, c.if-not-branch.true)) in
    left_ends c.args.worker (EndsBy c.args.worker c.args.begun.now.task.trial (solved.Point c.args.point c.args.value c.args.cut)) c.args.self.now c.keep.new.self m f c.args.begun.now.readings.items _ _ solving number
    (c.in_ok-keep.ensures.drops (ap (λ (b : Bool). Ok b) q)) (c.in_ok-keep.ensures.stuck (ap (λ (b : Bool). Ok b) q))
    (inr (join_passes c.args.self.now.lasts.nodes.items c.args.node c.args.begun.now.task.trial c.args.point (c.in_ok-keep.ensures.passed (ap (λ (b : Bool). Ok b) q)), (refl, refl)))

pub returns-clause-tabled : goal.returns-clause-tabled
returns-clause-tabled c = λ m f solving number node about.
    let q : c.in_ok-keep.field-0 ≡ true = first_of (cc, search (rules, not_false, c.if-not-branch.false)) in
    offered_ends c.args.worker (EndsBy c.args.worker c.args.begun.now.task.trial (solved.Point c.args.point c.args.value c.args.cut)) c.in_ok-is_raised.is_raised true c.args.node c.args.self.now c.keep.new.self c.take_bound.new.self c.commit_last.new.self m f
    c.args.begun.now.readings.items _ solving number node
    (lasts_keeps c.args.self.now c.keep.new.self _ (c.in_ok-keep.ensures.others (ap (λ (b : Bool). Ok b) q)))
    (c.in_ok-is_raised.ensures.raises about) c.in_ok-is_raised.ensures.low c.commit_last.ensures.others
    (λ still. c.commit_last.ensures.commits m f still node c.in_ok-is_raised.ensures.low) (inl refl)

pub returns-then-not-branch-clause-points : goal.returns-then-not-branch-clause-points
returns-then-not-branch-clause-points c = λ p t x.
    let q : c.in_ok-keep.field-0 ≡ false = first_of (cc, search (rules, not_true, c.if-not-branch.true)) in
    same_points p c.args.self.now c.keep.new.self (ap (λ (s : State). s.lasts) (c.in_ok-keep.ensures.stuck (ap (λ (b : Bool). Ok b) q)))

pub returns-clause-points : goal.returns-clause-points
returns-clause-points c = λ p t x.
    let q : c.in_ok-keep.field-0 ≡ true = first_of (cc, search (rules, not_false, c.if-not-branch.false)) in
    then_points p c.args.self.now c.keep.new.self c.commit_last.new.self
    (point_stands p c.args.self.now c.keep.new.self c.args.node c.args.begun.now.task.trial c.args.point (c.in_ok-keep.ensures.kept (ap (λ (b : Bool). Ok b) q)) t x)
    (same_points p c.keep.new.self c.commit_last.new.self (ap (λ (s : State). s.lasts) c.commit_last.ensures.others ∙ c.in_ok-is_raised.ensures.lasts))

pub returns-then-not-branch-clause-made : goal.returns-then-not-branch-clause-made
returns-then-not-branch-clause-made c = λ b h.
    let q : c.in_ok-keep.field-0 ≡ false = first_of (cc, search (rules, not_true, c.if-not-branch.true)) in
    let e = c.in_ok-keep.ensures.stuck (ap (λ (b : Bool). Ok b) q) in
    same_made b c.args.self.now c.keep.new.self (ap (λ (s : State). s.banks) e) (ap (λ (s : State). s.kind) e) (ap (λ (s : State). s.ends) e)

pub returns-clause-made : goal.returns-clause-made
returns-clause-made c = λ b h.
    let q : c.in_ok-keep.field-0 ≡ true = first_of (cc, search (rules, not_false, c.if-not-branch.false)) in
    let e = c.in_ok-keep.ensures.others (ap (λ (b : Bool). Ok b) q) in
    let k : KeepsMade b c.args.self.now c.keep.new.self =
    same_made b c.args.self.now c.keep.new.self (ap (λ (s : State). s.banks) e) (ap (λ (s : State). s.kind) e) (ap (λ (s : State). s.ends) e) in
    let f = c.commit_last.ensures.others in
    then_made b c.args.self.now c.keep.new.self c.commit_last.new.self k
    (then_made b c.keep.new.self c.take_bound.new.self c.commit_last.new.self
    (c.in_ok-is_raised.ensures.made b (still_made b c.args.self.now c.keep.new.self c.args.node c.args.cut k h))
    (same_made b c.take_bound.new.self c.commit_last.new.self (ap (λ (s : State). s.banks) f) (ap (λ (s : State). s.kind) f) (ap (λ (s : State). s.ends) f)))

pub returns-then-not-branch-clause-reasons : goal.returns-then-not-branch-clause-reasons
returns-then-not-branch-clause-reasons c = λ all.
    let old = c.args.self.now in
    let trial = c.args.begun.now.task.trial in
    stuck_wider (point_halts trial c.args.point)
    (solve_halts old.kind old.banks c.args.node trial (solved.Point c.args.point c.args.value c.args.cut) (λ o. ⊥)) old.counts.all
    old.budget.solves all old c.keep.new.self (record { stuck = λ h. inl h; in_offer = λ o h. absurd h; in_cost = λ o h. h })
    (c.in_ok-keep.ensures.reasons all)

pub returns-clause-reasons : goal.returns-clause-reasons
returns-clause-reasons c = λ all.
    let q : c.in_ok-keep.field-0 ≡ true = first_of (cc, search (rules, not_false, c.if-not-branch.false)) in
    let old = c.args.self.now in
    let mid = c.keep.new.self in
    let bound = c.take_bound.new.self in
    let new = c.commit_last.new.self in
    let n = c.args.node in
    let trial = c.args.begun.now.task.trial in
    let e = c.in_ok-keep.ensures.others (ap (λ (b : Bool). Ok b) q) in
    let f = c.commit_last.ensures.others in
    let halts = solve_halts old.kind old.banks n trial (solved.Point c.args.point c.args.value c.args.cut) (λ o. ⊥) in
    let is : Open → Type 0 = IsOfSolve old.counts.all old.budget.solves all halts in
    then_reasons is old bound new
    (solve_reasons halts all old mid bound (ap (λ (x : State). x.budget) e)
    (same_reasons is old mid (ap (λ (x : State). x.counts) e) (ap (λ (x : State). x.stop) e) (ap (λ (x : State). x.lasting) e))
    (stuck_wider (cut_halts mid.kind mid.banks n trial c.args.cut) halts mid.counts.all mid.budget.solves all mid bound
    (refused_as old mid n trial c.args.point c.args.value c.args.cut (ap (λ (x : State). x.kind) e) (ap (λ (x : State). x.banks) e))
    (c.in_ok-is_raised.ensures.reasons all)))
    (same_reasons is bound new (ap (λ (x : State). x.counts) f) (ap (λ (x : State). x.stop) f) (ap (λ (x : State). x.lasting) f))

pub returns-then-not-branch-clause-behind : goal.returns-then-not-branch-clause-behind
returns-then-not-branch-clause-behind c =
    let q : c.in_ok-keep.field-0 ≡ false = first_of (cc, search (rules, not_true, c.if-not-branch.true)) in
    let r = ap (λ (b : Bool). Ok b) q in
    let old = c.args.self.now.lasts.nodes.items in
    inr (
      join_passes old c.args.node c.args.begun.now.task.trial c.args.point (c.in_ok-keep.ensures.passed r),
      ap (λ (s : State). s.lasts.nodes.items) (c.in_ok-keep.ensures.stuck r),
    )

pub returns-clause-behind : goal.returns-clause-behind
returns-clause-behind c =
    let q : c.in_ok-keep.field-0 ≡ true = first_of (cc, search (rules, not_false, c.if-not-branch.false)) in
    let e = ap (λ (s : State). s.lasts) c.commit_last.ensures.others ∙ c.in_ok-is_raised.ensures.lasts in
    subst (λ (l : Lasts). AreBehind c.args.self.now.lasts.nodes.items c.args.node c.args.begun.now.task.trial c.args.point l.nodes.items)
    (sym e) (inl (c.in_ok-keep.ensures.kept (ap (λ (b : Bool). Ok b) q)))

pub returns-then-not-branch-clause-stays : goal.returns-then-not-branch-clause-stays
returns-then-not-branch-clause-stays c =
    let q : c.in_ok-keep.field-0 ≡ false = first_of (cc, search (rules, not_true, c.if-not-branch.true)) in
    stopped_stays c.args.self.now c.keep.new.self _ _ (c.in_ok-keep.ensures.stuck (ap (λ (b : Bool). Ok b) q))

pub returns-clause-stays : goal.returns-clause-stays
returns-clause-stays c =
    let q : c.in_ok-keep.field-0 ≡ true = first_of (cc, search (rules, not_false, c.if-not-branch.false)) in
    let old = c.args.self.now in
    stays_then old c.keep.new.self c.commit_last.new.self
    (lasts_stays old c.keep.new.self _ (c.in_ok-keep.ensures.others (ap (λ (b : Bool). Ok b) q)))
    (stays_then c.keep.new.self c.take_bound.new.self c.commit_last.new.self c.in_ok-is_raised.ensures.stays
    (table_stays c.take_bound.new.self c.commit_last.new.self _ c.commit_last.ensures.others))

pub returns-then-not-branch-clause-left : goal.returns-then-not-branch-clause-left
returns-then-not-branch-clause-left c = λ stop.
    let q : c.in_ok-keep.field-0 ≡ false = first_of (cc, search (rules, not_true, c.if-not-branch.true)) in
    let old = c.args.self.now in
    absurd (not_stopped old c.keep.new.self (Solves old.budget.solves)
    (ap (λ (s : State). s.stop) (c.in_ok-keep.ensures.stuck (ap (λ (b : Bool). Ok b) q))) stop)

pub returns-clause-left : goal.returns-clause-left
returns-clause-left c = λ stop.
    let q : c.in_ok-keep.field-0 ≡ true = first_of (cc, search (rules, not_false, c.if-not-branch.false)) in
    let e = c.in_ok-keep.ensures.others (ap (λ (b : Bool). Ok b) q) in
    let f = c.commit_last.ensures.others in
    let bound = c.in_ok-is_raised.ensures in
    point_taken c.args.node c.args.begun.now.task.trial c.args.point c.args.value c.args.cut c.args.self.now c.keep.new.self
    c.take_bound.new.self c.commit_last.new.self _ _ e f (c.in_ok-keep.ensures.kept (ap (λ (b : Bool). Ok b) q)) bound.lasts
    (bound.offers (sym (ap (λ (s : State). s.stop) f) ∙ stop)) bound.ends
