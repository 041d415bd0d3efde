use Rattle.std.proofs.Common.{◌≡◌, None, IfSome, OnOk, refl, sym, ap, subst}
use Rattle.scen_defs.specs.Program.{content, node_at}
use Rattle.scen_defs.specs.declared.report.Place.{Place}
use Rattle.scen_defs.specs.declared.report.Place.TheVariants.{Solve, Cut}
use Rattle.node_lp.specs.Tested.{IsToldOf}
use Rattle.node_lp.specs.declared.solved.Solved.{Solved}
use Rattle.node_lp.specs.declared.solved.Solved.TheVariants as solved
use Rattle.proved_report.specs.declared.open.Open.TheVariants as reason
use Rattle.pass_core.specs.Explained.{ComesOfSolve, cut_given, point_found, PassesInRun, KeepsExplained}
use Rattle.pass_core.specs.declared.state.State.{State}
use Rattle.pass_core.specs.Tabled.{KeepsPools, EndsSolve, IsAbout}
use Rattle.pass_core.specs.Turns.{AreUpTo, KeepsPoints, EndsBy}
use Rattle.pass_core.proofs.Standing.{same_points, then_points}
use Rattle.pass_core.proofs.Tabling.{ends_then, told_ends, neither_ends, left_ends}
use Rattle.pass_core.proofs.Explaining.{then_kept, left_kept, point_gives, point_finds, at_place, on_ok}
use Rattle.pass_core.specs.Made.{run_book, IsMadeAbout, KeepsMade}
use Rattle.pass_core.proofs.Making.{then_made}
use Rattle.rationals.specs.Passes.{Operation}
use Rattle.rationals.specs.Choices.{pick}
use Rattle.found_ends.specs.Costs.{joined_cost}
use Rattle.pass_core.specs.Reasons.{PassesAtCost, Halts, cost_halts, solve_halts, IsAtSolve, IsOfSolve, GainsReasons}
use Rattle.pass_core.proofs.Reasoning.{stopped_reasons, told_at, solve_reasons, stuck_wider}
use Rattle.pass_core.specs.Left.{StaysInRun, LeavesNone, LeavesBy}
use Rattle.pass_core.proofs.Leaving.{stays_then, stopped_stays, not_stopped, left_by, point_completed}
use Rattle.pass_core.proofs.state.State.commit.Goals as goal

pub returns-in_ok-point-in-Point-clause-explained : goal.returns-in_ok-point-in-Point-clause-explained
returns-in_ok-point-in-Point-clause-explained c = λ t e.
    let p = content c.args.program.now in
    let tree = c.args.tree.now in
    let old = c.args.self.now in
    on_ok c.complete.result (KeepsExplained p tree c.point.new.self c.complete.new.self) (KeepsExplained p tree old c.complete.new.self)
    (then_kept p tree old c.point.new.self c.complete.new.self
    (c.in_ok-point-in-Point.ensures.explained p tree
    (point_finds p old.frame tree old.budget.pivots c.args.begun.now.task c.in-Point.point c.in-Point.value c.in-Point.cut t (subst (IsToldOf c.args.begun.now.task) c.in-Point.is e))
    (point_gives p old.frame tree old.budget.pivots c.args.begun.now.task c.in-Point.point c.in-Point.value c.in-Point.cut t (subst (IsToldOf c.args.begun.now.task) c.in-Point.is e))))
    c.complete.ensures.explained

pub returns-in-NoPoint-clause-explained : goal.returns-in-NoPoint-clause-explained
returns-in-NoPoint-clause-explained c = λ t e.
    c.no_point.ensures.explained (content c.args.program.now) c.args.tree.now
    (record { task = c.args.begun.now.task; is_task = t; at_trial = refl; all = c.args.solved; comes = e; given = ap cut_given c.in-NoPoint.is })

pub returns-in-PivotsEnded-clause-explained : goal.returns-in-PivotsEnded-clause-explained
returns-in-PivotsEnded-clause-explained c = λ t e.
    left_kept (content c.args.program.now) c.args.tree.now c.args.self.now c.left_open.new.self
    (reason.Pivots c.args.self.now.counts.all) c.left_open.ensures.others (record { task = c.args.begun.now.task; is_task = t; comes = subst (IsToldOf c.args.begun.now.task) c.in-PivotsEnded.is e })

pub returns-in-Passed-clause-explained : goal.returns-in-Passed-clause-explained
returns-in-Passed-clause-explained c = λ t e.
    let p = content c.args.program.now in
    let tree = c.args.tree.now in
    let old = c.args.self.now in
    let made : ComesOfSolve p old.frame tree old.budget.pivots (solved.Passed c.in-Passed.in_cut c.in-Passed.passed) =
    record { task = c.args.begun.now.task; is_task = t; comes = subst (IsToldOf c.args.begun.now.task) c.in-Passed.is e } in
    left_kept p tree c.args.self.now c.left_open-in-Passed.new.self
    (reason.Passed c.solve_place-place.result c.in-Passed.passed) c.left_open-in-Passed.ensures.others
    (subst (λ (place : Place). PassesInRun p old.frame tree old.budget.pivots place c.in-Passed.passed) (sym c.solve_place-place.ensures)
    (at_place p old.frame tree old.budget.pivots c.args.self.now.counts.all c.in-Passed.in_cut c.in-Passed.passed made))

pub returns-in_ok-point-in-Point-clause-tabled : goal.returns-in_ok-point-in-Point-clause-tabled
returns-in_ok-point-in-Point-clause-tabled c = λ m f solving number node about.
    let old = c.args.self.now in
    let trial = c.args.begun.now.task.trial in
    let all : Solved = solved.Point c.in-Point.point c.in-Point.value c.in-Point.cut in
    on_ok c.complete.result (KeepsPools c.point.new.self c.complete.new.self) (EndsSolve c.args.worker (EndsBy c.args.worker trial c.args.solved) old c.complete.new.self m f)
    (λ k. told_ends c.args.worker trial c.args.solved all old c.complete.new.self m f c.in-Point.is
    (ends_then c.args.worker (EndsBy c.args.worker trial all) old c.point.new.self c.complete.new.self m f
    (c.in_ok-point-in-Point.ensures.tabled m f solving number node (subst (IsAbout c.args.node) c.in-Point.is about)) k))
    c.complete.ensures.pools

pub returns-in-NoPoint-clause-tabled : goal.returns-in-NoPoint-clause-tabled
returns-in-NoPoint-clause-tabled c = λ m f solving number node about.
    let old = c.args.self.now in
    let trial = c.args.begun.now.task.trial in
    let all : Solved = solved.NoPoint c.in-NoPoint.cut in
    on_ok c.no_point.result (EndsSolve c.args.worker (EndsBy c.args.worker trial all) old c.no_point.new.self m f) (EndsSolve c.args.worker (EndsBy c.args.worker trial c.args.solved) old c.no_point.new.self m f)
    (told_ends c.args.worker trial c.args.solved all old c.no_point.new.self m f c.in-NoPoint.is)
    (c.no_point.ensures.tabled m f solving number node (subst (IsAbout c.args.node) c.in-NoPoint.is about))

pub returns-in-PivotsEnded-clause-tabled : goal.returns-in-PivotsEnded-clause-tabled
returns-in-PivotsEnded-clause-tabled c = λ m f solving number node about.
    let old = c.args.self.now in
    let trial = c.args.begun.now.task.trial in
    let all : Solved = solved.PivotsEnded in
    told_ends c.args.worker trial c.args.solved all old c.left_open.new.self m f c.in-PivotsEnded.is
    (left_ends c.args.worker (EndsBy c.args.worker trial all) old c.left_open.new.self m f c.args.begun.now.readings.items _ _ solving number
    c.left_open.ensures.drops c.left_open.ensures.others (refl, refl))

pub returns-in-Passed-clause-tabled : goal.returns-in-Passed-clause-tabled
returns-in-Passed-clause-tabled c = λ m f solving number node about.
    let old = c.args.self.now in
    let trial = c.args.begun.now.task.trial in
    let all : Solved = solved.Passed c.in-Passed.in_cut c.in-Passed.passed in
    told_ends c.args.worker trial c.args.solved all old c.left_open-in-Passed.new.self m f c.in-Passed.is
    (left_ends c.args.worker (EndsBy c.args.worker trial all) old c.left_open-in-Passed.new.self m f c.args.begun.now.readings.items _ _ solving number
    c.left_open-in-Passed.ensures.drops c.left_open-in-Passed.ensures.others (refl, refl))

pub returns-in-Loose-clause-tabled : goal.returns-in-Loose-clause-tabled
returns-in-Loose-clause-tabled c = λ m f solving number node about.
    neither_ends c.args.worker c.args.begun.now.task.trial c.args.solved c.args.self.now c.left_stuck.new.self m f c.args.begun.now.readings.items _ _ solving number
    c.left_stuck.ensures.drops c.left_stuck.ensures.others c.in-Loose.is

pub returns-in_ok-point-in-Point-clause-points : goal.returns-in_ok-point-in-Point-clause-points
returns-in_ok-point-in-Point-clause-points c = λ p t x.
    let old = c.args.self.now in
    on_ok c.complete.result (c.complete.new.self.lasts ≡ c.point.new.self.lasts) (KeepsPoints p old c.complete.new.self)
    (λ e. then_points p old c.point.new.self c.complete.new.self
    (c.in_ok-point-in-Point.ensures.points p t (subst (λ (all : Solved). IfSome (point_found all) (AreUpTo p (node_at p.nodes c.args.node).stage)) c.in-Point.is x))
    (same_points p c.point.new.self c.complete.new.self e))
    c.complete.ensures.lasts

pub returns-in-NoPoint-clause-points : goal.returns-in-NoPoint-clause-points
returns-in-NoPoint-clause-points c = λ p t x. c.no_point.ensures.points p

pub returns-in-PivotsEnded-clause-points : goal.returns-in-PivotsEnded-clause-points
returns-in-PivotsEnded-clause-points c = λ p t x. same_points p c.args.self.now c.left_open.new.self (ap (λ (s : State). s.lasts) c.left_open.ensures.others)

pub returns-in-Passed-clause-points : goal.returns-in-Passed-clause-points
returns-in-Passed-clause-points c = λ p t x.
    same_points p c.args.self.now c.left_open-in-Passed.new.self (ap (λ (s : State). s.lasts) c.left_open-in-Passed.ensures.others)

pub returns-in-Loose-clause-points : goal.returns-in-Loose-clause-points
returns-in-Loose-clause-points c = λ p t x. same_points p c.args.self.now c.left_stuck.new.self (ap (λ (s : State). s.lasts) c.left_stuck.ensures.others)

pub returns-in_ok-point-in-Point-clause-made : goal.returns-in_ok-point-in-Point-clause-made
returns-in_ok-point-in-Point-clause-made c = λ b h.
    let old = c.args.self.now in
    on_ok c.complete.result (KeepsMade b c.point.new.self c.complete.new.self) (KeepsMade b old c.complete.new.self)
    (then_made b old c.point.new.self c.complete.new.self
    (c.in_ok-point-in-Point.ensures.made b (subst (λ (all : Solved). IfSome (cut_given all) (IsMadeAbout (run_book old.kind b) c.args.node)) c.in-Point.is h)))
    (c.complete.ensures.made b)

pub returns-in_ok-point-in-Point-clause-reasons : goal.returns-in_ok-point-in-Point-clause-reasons
returns-in_ok-point-in-Point-clause-reasons c =
    let old = c.args.self.now in
    let mid = c.point.new.self in
    let new = c.complete.new.self in
    let all = c.args.solved in
    let n = c.args.node in
    let trial = c.args.begun.now.task.trial in
    let p = content c.args.program.now in
    let tree = c.args.tree.now in
    let lasts = old.lasts.nodes.items in
    let x = c.in-Point.point in
    let came : Solved = solved.Point x c.in-Point.value c.in-Point.cut in
    let cost = joined_cost p.nodes tree.chances.totals mid.lasts.nodes.items in
    let halts : Solved → Halts = λ s. solve_halts old.kind old.banks n trial s (PassesAtCost p tree lasts n trial s) in
    let before = solve_halts old.kind old.banks n trial came (λ o. ⊥) in
    let point = c.in_ok-point-in-Point.ensures in
    subst (λ (s : Solved). OnOk c.complete.result (GainsReasons (IsOfSolve old.counts.all old.budget.solves all (halts s)) old new))
    (sym c.in-Point.is)
    (on_ok c.complete.result (GainsReasons (IsOfSolve mid.counts.all mid.budget.solves all (cost_halts cost)) mid new)
    (GainsReasons (IsOfSolve old.counts.all old.budget.solves all (halts came)) old new)
    (λ g. solve_reasons (halts came) all old mid new point.stays.budget
    (stuck_wider before (halts came) old.counts.all old.budget.solves all old mid
    (record { stuck = λ h. h; in_offer = λ o h. h; in_cost = λ o h. absurd h }) (point.reasons all))
    (stuck_wider (cost_halts cost) (halts came) mid.counts.all mid.budget.solves all mid new
    (record {
      stuck = λ h. absurd h;
      in_offer = λ o h. absurd h;
      in_cost = λ o h. record { new = mid.lasts.nodes.items; behind = point.behind; passes = h };
    }) g)) (c.complete.ensures.reasons all))

pub returns-in-NoPoint-clause-reasons : goal.returns-in-NoPoint-clause-reasons
returns-in-NoPoint-clause-reasons c =
    let old = c.args.self.now in
    let new = c.no_point.new.self in
    let all = c.args.solved in
    let n = c.args.node in
    let trial = c.args.begun.now.task.trial in
    let in_cost : Solved → Operation → Type 0 = PassesAtCost (content c.args.program.now) c.args.tree.now old.lasts.nodes.items n trial in
    subst (λ (x : Solved). OnOk c.no_point.result
    (GainsReasons (IsOfSolve old.counts.all old.budget.solves all (solve_halts old.kind old.banks n trial x (in_cost x))) old new))
    (sym c.in-NoPoint.is) (c.no_point.ensures.reasons all)

pub returns-in-Passed-clause-reasons : goal.returns-in-Passed-clause-reasons
returns-in-Passed-clause-reasons c =
    let old = c.args.self.now in
    let all = c.args.solved in
    let n = c.args.node in
    let trial = c.args.begun.now.task.trial in
    let halts = solve_halts old.kind old.banks n trial all
    (PassesAtCost (content c.args.program.now) c.args.tree.now old.lasts.nodes.items n trial all) in
    let e = c.left_open-in-Passed.ensures.others in
    let o = c.in-Passed.passed in
    stopped_reasons (IsOfSolve old.counts.all old.budget.solves all halts) old c.left_open-in-Passed.new.self
    (reason.Passed c.solve_place-place.result o) (ap (λ (s : State). s.counts) e) (ap (λ (s : State). s.stop) e)
    (ap (λ (s : State). s.lasting) e)
    (subst (λ (place : Place). IsAtSolve old.counts.all all halts o place) (sym c.solve_place-place.ensures)
    (subst (λ (s : Solved). IsAtSolve old.counts.all s halts o (pick c.in-Passed.in_cut (Cut old.counts.all) (Solve old.counts.all)))
    (sym c.in-Passed.is) (told_at c.in-Passed.in_cut old.counts.all o halts)))

pub returns-in_ok-point-in-Point-clause-stays : goal.returns-in_ok-point-in-Point-clause-stays
returns-in_ok-point-in-Point-clause-stays c =
    let old = c.args.self.now in
    on_ok c.complete.result (StaysInRun c.point.new.self c.complete.new.self) (StaysInRun old c.complete.new.self)
    (stays_then old c.point.new.self c.complete.new.self c.in_ok-point-in-Point.ensures.stays) c.complete.ensures.stays

pub returns-in-PivotsEnded-clause-stays : goal.returns-in-PivotsEnded-clause-stays
returns-in-PivotsEnded-clause-stays c = stopped_stays c.args.self.now c.left_open.new.self _ _ c.left_open.ensures.others

pub returns-in-Passed-clause-stays : goal.returns-in-Passed-clause-stays
returns-in-Passed-clause-stays c = stopped_stays c.args.self.now c.left_open-in-Passed.new.self _ _ c.left_open-in-Passed.ensures.others

pub returns-in-Loose-clause-stays : goal.returns-in-Loose-clause-stays
returns-in-Loose-clause-stays c = stopped_stays c.args.self.now c.left_stuck.new.self _ _ c.left_stuck.ensures.others

pub returns-in_ok-point-in-Point-clause-left : goal.returns-in_ok-point-in-Point-clause-left
returns-in_ok-point-in-Point-clause-left c = λ m f solving number node about.
    let point = c.in_ok-point-in-Point.ensures in
    let ended = point.tabled m f solving number node (subst (IsAbout c.args.node) c.in-Point.is about) in
    point_completed c.complete.result (content c.args.program.now) c.args.tree.now c.args.node c.args.begun.now.task.trial c.in-Point.point
    c.in-Point.value c.in-Point.cut c.args.solved c.args.self.now c.point.new.self c.complete.new.self c.in-Point.is point.left point.stays
    c.complete.ensures.lasts c.complete.ensures.banks c.complete.ensures.pools (c.complete.ensures.left ended.machine ended.fits)

pub returns-in-NoPoint-clause-left : goal.returns-in-NoPoint-clause-left
returns-in-NoPoint-clause-left c = λ m f solving number node about.
    let p = content c.args.program.now in
    let tree = c.args.tree.now in
    let old = c.args.self.now in
    let new = c.no_point.new.self in
    let trial = c.args.begun.now.task.trial in
    let cut = c.in-NoPoint.cut in
    on_ok c.no_point.result (new.stop ≡ None → LeavesNone c.args.node trial cut old new)
    (new.stop ≡ None → LeavesBy p tree c.args.node trial c.args.solved old new)
    (λ h stop. left_by p tree c.args.node trial c.args.solved (solved.NoPoint cut) old new c.in-NoPoint.is (h stop)) c.no_point.ensures.left

pub returns-in-PivotsEnded-clause-left : goal.returns-in-PivotsEnded-clause-left
returns-in-PivotsEnded-clause-left c = λ m f solving number node about stop.
    let old = c.args.self.now in
    absurd (not_stopped old c.left_open.new.self (reason.Pivots old.counts.all)
    (ap (λ (s : State). s.stop) c.left_open.ensures.others) stop)

pub returns-in-Passed-clause-left : goal.returns-in-Passed-clause-left
returns-in-Passed-clause-left c = λ m f solving number node about stop.
    absurd (not_stopped c.args.self.now c.left_open-in-Passed.new.self (reason.Passed c.solve_place-place.result c.in-Passed.passed)
    (ap (λ (s : State). s.stop) c.left_open-in-Passed.ensures.others) stop)

pub returns-in-Loose-clause-left : goal.returns-in-Loose-clause-left
returns-in-Loose-clause-left c = λ m f solving number node about stop.
    let old = c.args.self.now in
    absurd (not_stopped old c.left_stuck.new.self (reason.Solves old.budget.solves)
    (ap (λ (s : State). s.stop) c.left_stuck.ensures.others) stop)
