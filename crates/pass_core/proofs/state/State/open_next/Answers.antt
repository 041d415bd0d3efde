use Rattle.pass_core.specs.Tabled.{KeepsPools, Opens}
use Rattle.pass_core.specs.Tabled.Opens.{not_opened}
use Rattle.pass_core.proofs.Explaining.{on_ok, both_ok}
use Rattle.std.proofs.Common.{◌≡◌, None}
use Rattle.scen_defs.specs.Program.{content}
use Rattle.pass_core.specs.Left.{OpensRun}
use Rattle.pass_core.proofs.Tabling.{still_tabled}
use Rattle.pass_core.specs.Reasons.{IsOfOpening, GainsReasons}
use Rattle.pass_core.specs.Turns.{IsStuckBefore, PassesBefore, OpensAnyhow, stays_closed}
use Rattle.pass_core.specs.Grounds.{OneIsNotPut}
use Rattle.pass_core.proofs.FirstCuts.{opened_anyhow, refused_before}
use Rattle.pass_core.proofs.Reasoning.{wider_reasons, wider_opening}
use Rattle.pass_core.proofs.Progressing.{opened_progresses, stopped_progresses}
use Rattle.pass_core.specs.Made.{KeepsMade, CutsAreMade}
use Rattle.pass_core.proofs.state.State.open_next.Goals as goal

pub returns-in-Ok-clause-tabled : goal.returns-in-Ok-clause-tabled
returns-in-Ok-clause-tabled c = λ p m t z room. c.open.ensures.tabled p m t z room

pub returns-in-Err-clause-tabled : goal.returns-in-Err-clause-tabled
returns-in-Err-clause-tabled c = λ p m t z room.
    both_ok c.not_opened.result (KeepsPools c.args.self.now c.not_opened.new.self) (c.not_opened.new.self.stop ≡ None → ⊥)
    (Opens p m c.not_opened.new.self) (λ k stops. not_opened stops (still_tabled p m c.args.self.now c.not_opened.new.self t k))
    c.not_opened.ensures.pools c.not_opened.ensures.stops

pub returns-in-Ok-clause-points : goal.returns-in-Ok-clause-points
returns-in-Ok-clause-points c = λ p. c.open.ensures.points p

pub returns-in-Err-clause-points : goal.returns-in-Err-clause-points
returns-in-Err-clause-points c = λ p. c.not_opened.ensures.points p

pub returns-in-Ok-clause-made : goal.returns-in-Ok-clause-made
returns-in-Ok-clause-made c = λ b walk frame right h.
    c.open.ensures.made b (c.in-Ok.ensures.made b c.next-kind.ensures.priced walk frame right) h

pub returns-in-Err-clause-made : goal.returns-in-Err-clause-made
returns-in-Err-clause-made c = λ b walk frame right h.
    on_ok c.not_opened.result (KeepsMade b c.args.self.now c.not_opened.new.self) (CutsAreMade b c.not_opened.new.self) (λ k. k.1 h) (c.not_opened.ensures.made b)

pub returns-in-Ok-clause-opened : goal.returns-in-Ok-clause-opened
returns-in-Ok-clause-opened c =
    let old = c.args.self.now in
    let new = c.open.new.self in
    on_ok c.open.result (OpensRun old new) (new.stop ≡ None → OpensRun old new) (λ h stop. h)
    (c.open.ensures.opened c.next-kind.ensures.kind)

pub returns-in-Err-clause-opened : goal.returns-in-Err-clause-opened
returns-in-Err-clause-opened c =
    let old = c.args.self.now in
    let new = c.not_opened.new.self in
    on_ok c.not_opened.result (new.stop ≡ None → ⊥) (new.stop ≡ None → OpensRun old new) (λ h stop. absurd (h stop))
    c.not_opened.ensures.stops

pub returns-in-Ok-clause-reasons : goal.returns-in-Ok-clause-reasons
returns-in-Ok-clause-reasons c = λ walk frame.
    let old = c.args.self.now in
    let new = c.open.new.self in
    let p = content c.args.program.now in
    let tree = c.args.tree.now in
    let kind = c.next-kind.result in
    let cuts = c.in-Ok.cuts.items in
    let refused : Type 0 = OneIsNotPut kind cuts old.banks in
    let is = IsOfOpening old.budget.solves refused (λ o. ⊥) in
    let told = IsOfOpening old.budget.solves (IsStuckBefore p tree old) (PassesBefore p tree old) in
    let first = c.in-Ok.ensures.first walk frame in
    on_ok c.open.result (GainsReasons is old new) (GainsReasons told old new)
    (wider_reasons is told old new
    (wider_opening refused (IsStuckBefore p tree old) (λ o. ⊥) (PassesBefore p tree old) old.budget.solves
    (λ h. refused_before p tree kind old cuts c.next-kind.ensures.kind first h) (λ o h. absurd h)))
    c.open.ensures.reasons

pub returns-in-Err-clause-reasons : goal.returns-in-Err-clause-reasons
returns-in-Err-clause-reasons c = λ walk frame.
    c.not_opened.ensures.reasons (content c.args.program.now) c.args.tree.now (c.in-Err.ensures.faults walk frame c.next-kind.ensures.kind)

pub returns-in-Ok-clause-progress : goal.returns-in-Ok-clause-progress
returns-in-Ok-clause-progress c = λ unlike.
    let old = c.args.self.now in
    opened_progresses c.open.result (IsOfOpening old.budget.solves (OneIsNotPut c.next-kind.result c.in-Ok.cuts.items old.banks) (λ o. ⊥)) old
    c.open.new.self unlike c.open.ensures.reasons (c.open.ensures.opened c.next-kind.ensures.kind)

pub returns-in-Err-clause-progress : goal.returns-in-Err-clause-progress
returns-in-Err-clause-progress c = λ unlike.
    stopped_progresses c.not_opened.result c.args.self.now c.not_opened.new.self c.not_opened.ensures.stops c.not_opened.ensures.others

pub returns-in-Ok-clause-anyhow : goal.returns-in-Ok-clause-anyhow
returns-in-Ok-clause-anyhow c = λ walk frame.
    opened_anyhow c.open.result (content c.args.program.now) c.args.tree.now c.next-kind.result c.args.self.now c.open.new.self c.in-Ok.cuts.items
    walk c.next-kind.ensures.kind (c.in-Ok.ensures.first walk frame) (c.open.ensures.opened c.next-kind.ensures.kind)
    c.open.ensures.banks c.open.ensures.stuck

pub returns-in-Err-clause-anyhow : goal.returns-in-Err-clause-anyhow
returns-in-Err-clause-anyhow c = λ walk frame.
    let old = c.args.self.now in
    let new = c.not_opened.new.self in
    on_ok c.not_opened.result (new ≡ record old { stop = new.stop }) (OpensAnyhow (content c.args.program.now) old new)
    (λ e. stays_closed e) c.not_opened.ensures.others
