use Rattle.std.proofs.Common.{◌≡◌, true, false, not, List, Some, None, Ok, refl, sym, ap, subst, ◌∙◌}
use denote.Enum.Bare.{sameb}
use Rattle.scen_defs.specs.Program.{content}
use Rattle.scen_defs.specs.contracts.report.Kind.{the_type}
use Rattle.scen_defs.specs.declared.report.Kind.{Kind}
use Rattle.scen_defs.specs.declared.report.Kind.TheVariants.{Cost}
use Rattle.pass_core.specs.declared.state.State.{State}
use Rattle.scen_tree.specs.Trees.{Tree}
use Rattle.pass_core.specs.Desks.{BeginsNode}
use Rattle.pass_core.specs.Turns.{PointsStand, EndsAnyhow, SolvesNode, PutsFirstCuts, OpensAnyhow, MakesStep, Progresses, Rests}
use Rattle.pass_core.specs.Turns.MakesStep.{begins_none, opens_run}
use Rattle.crew_turns.proofs.Turning.{none_next}
use Rattle.pass_core.proofs.Progressing.{ready_progresses, ready_rests, begun_others}
use Rattle.pass_core.proofs.Reasoning.{ready_gains}
use Rattle.pass_core.proofs.Grounding.{opening_stuck}
use Rattle.pass_core.proofs.Solving.{solves_before, step_solved}
use Rattle.pass_core.proofs.Beginning.{closed_begun}
use Rattle.pass_core.proofs.Leaving.{ready_stays, ready_same, ready_opens}
use Rattle.pass_core.proofs.FirstCuts.{ready_puts}
use Rattle.pass_core.specs.Tabled.{IsTabledBy, HasRoom}
use Rattle.pass_core.proofs.Tabling.{ready_tabled, room_of, room_in, rested, opening}
use Rattle.pass_core.proofs.Desks.{HasBegun, alone_begins, begun_by, alone_ends, alone_solves, rests_at, turned}
use Rattle.node_data.specs.declared.versions.Version.{Version}
use Rattle.node_data.specs.Frames.{frame_of}
use Rattle.pass_core.specs.Made.{AreBooksOf}
use Rattle.pass_core.proofs.Making.{same_made}
use Rattle.pass_core.proofs.Resting.{only_cost}
use Rattle.pass_core.proofs.state.State.advance.Goals as goal
use Rattle.pass_core.proofs.state.State.advance.Goals.{else-is_closed-via-then-is_closed+else-ne, else-is_closed-via-else-is_closed}

pub returns-then-not-has_room-clause-tabled : goal.returns-then-not-has_room-clause-tabled
returns-then-not-has_room-clause-tabled c = λ m frame t.
    let p = content c.args.program.now in
    let s = c.get_ready.new.self in
    let u : IsTabledBy p s m = ready_tabled p m c.args.self.now s t c.in_ok-get_ready.ensures.others c.in_ok-get_ready.ensures.begun in
    rested p m s (λ room n may. let no : false ≡ true = c.if-not-has_room.ensures.1 (room_in m s.table u.fits room) in absurd (cc)) u

pub returns-then-ne-clause-tabled : goal.returns-then-ne-clause-tabled
returns-then-ne-clause-tabled c = λ m frame t.
    let p = content c.args.program.now in
    let s = c.get_ready.new.self in
    let u : IsTabledBy p s m = ready_tabled p m c.args.self.now s t c.in_ok-get_ready.ensures.others c.in_ok-get_ready.ensures.begun in
    let room : HasRoom m = room_of m s.table u.fits (c.if-not-has_room.ensures.0 refl) in
    opening p m c.open_next.new.self ((c.if-is_closed.ensures.meaning m u.fits).0 refl)
    (c.in_ok-open_next.ensures.tabled p m u c.in_ok-get_ready.ensures.begun room.1)

-- the Begin
pub returns-in_ok-solve-in-Some-clause-tabled : goal.returns-in_ok-solve-in-Some-clause-tabled
returns-in_ok-solve-in-Some-clause-tabled c = λ m frame t.
    let p = content c.args.program.now in
    let s = c.get_ready.new.self in
    let mid : State = c.begin.new.self in
    let n = c.in-Some.node in
    let u : IsTabledBy p s m = ready_tabled p m c.args.self.now s t c.in_ok-get_ready.ensures.others c.in_ok-get_ready.ensures.begun in
    let room : HasRoom m = room_of m s.table u.fits (c.if-not-has_room.ensures.0 refl) in
    let here : s.frame ≡ frame_of p = ap (λ (x : State). x.frame) c.in_ok-get_ready.ensures.others ∙ frame in
    let b : BeginsNode p m m 0 n mid = alone_begins p s mid m (Some n) u
    (c.in-Some.ensures.begins p m c.args.program.now.keeps here c.in_ok-get_ready.ensures.begun) c.has_workers.ensures in
    let h : HasBegun p mid m m 0 n =
    begun_by p mid m m 0 n b (ap (λ (x : State). x.is_begun) c.begin.ensures.others ∙ c.in_ok-get_ready.ensures.begun) room.0 in
    turned EndsAnyhow p m n c.solve.new.self b.next
    (alone_ends EndsAnyhow p mid m h.begun.desk.fits.flying n c.solve.new.self h.is
    (c.in_ok-solve-in-Some.ensures.tabled m (ap (λ (x : State). x.frame) c.begin.ensures.others ∙ here) h.begun))

pub returns-in-None-clause-tabled : goal.returns-in-None-clause-tabled
returns-in-None-clause-tabled c = λ m frame t.
    let p = content c.args.program.now in
    let s = c.get_ready.new.self in
    let u : IsTabledBy p s m = ready_tabled p m c.args.self.now s t c.in_ok-get_ready.ensures.others c.in_ok-get_ready.ensures.begun in
    let here : s.frame ≡ frame_of p = ap (λ (x : State). x.frame) c.in_ok-get_ready.ensures.others ∙ frame in
    let b = alone_begins p s c.begin.new.self m None u
    (c.in-None.ensures.begins p m c.args.program.now.keeps here c.in_ok-get_ready.ensures.begun) c.has_workers.ensures in
    rested p m c.begin.new.self (λ room. none_next m u.idle b.0) (rests_at p c.begin.new.self m b.1)

pub returns-then-not-has_room-clause-solves : goal.returns-then-not-has_room-clause-solves
returns-then-not-has_room-clause-solves c = λ m walk frame t stand.
    let p = content c.args.program.now in
    let s = c.get_ready.new.self in
    let u : IsTabledBy p s m = ready_tabled p m c.args.self.now s t c.in_ok-get_ready.ensures.others c.in_ok-get_ready.ensures.begun in
    begins_none (λ room. let no : false ≡ true = c.if-not-has_room.ensures.1 (room_in m s.table u.fits room) in absurd (cc))
    (c.in_ok-get_ready.ensures.points p stand)
    (ready_gains (λ why. ⊥) c.args.self.now s c.in_ok-get_ready.ensures.others)
    (record {
      run = ready_stays c.args.self.now s c.in_ok-get_ready.ensures.others;
      banks = ap (λ (x : State). x.banks) c.in_ok-get_ready.ensures.others;
      ends = ap (λ (x : State). x.ends) c.in_ok-get_ready.ensures.others;
      stop = ap (λ (x : State). x.stop) c.in_ok-get_ready.ensures.others;
      ready = c.in_ok-get_ready.ensures.ready;
      tabled = u;
    })

pub returns-then-ne-clause-solves : goal.returns-then-ne-clause-solves
returns-then-ne-clause-solves c = λ m walk frame t stand.
    let p = content c.args.program.now in
    let i = c.args.program.now.keeps in
    let s = c.get_ready.new.self in
    let u : IsTabledBy p s m = ready_tabled p m c.args.self.now s t c.in_ok-get_ready.ensures.others c.in_ok-get_ready.ensures.begun in
    let room : HasRoom m = room_of m s.table u.fits (c.if-not-has_room.ensures.0 refl) in
    opens_run ((c.if-is_closed.ensures.meaning m u.fits).0 refl)
    (λ e. let no : true ≡ false = subst (λ (k : Kind). true ≡ not (sameb the_type k Cost)) (ap (λ (x : State). x.kind) c.in_ok-get_ready.ensures.others ∙ e) c.if-ne.ensures in absurd (cc))
    (c.in_ok-open_next.ensures.tabled p m u c.in_ok-get_ready.ensures.begun room.1)
    (c.in_ok-open_next.ensures.points p (c.in_ok-get_ready.ensures.points p stand))
    (opening_stuck p c.args.tree.now c.args.self.now s c.open_next.new.self c.in_ok-get_ready.ensures.others walk
    (c.in_ok-open_next.ensures.reasons walk (ap (λ (x : State). x.frame) c.in_ok-get_ready.ensures.others ∙ frame)))
    (λ stop. ready_opens c.args.self.now s c.open_next.new.self c.in_ok-get_ready.ensures.others (c.in_ok-open_next.ensures.opened stop))
    (λ other there stop.
    let same : c.args.tree.now ≡ other = (let both : Ok c.args.tree.now ≡ Ok other = sym walk ∙ there in cc) in
    subst (λ (t : Tree). PutsFirstCuts p t c.args.self.now c.open_next.new.self) same
    (ready_puts p c.args.tree.now c.args.self.now s c.open_next.new.self c.in_ok-get_ready.ensures.others
    (c.in_ok-open_next.ensures.first walk (ap (λ (x : State). x.frame) c.in_ok-get_ready.ensures.others ∙ frame) stop)))
    (let begun = closed_begun p c.args.self.now i m frame t ((c.if-is_closed.ensures.meaning m u.fits).0 refl) in
    subst (λ (x : State). OpensAnyhow p x c.open_next.new.self)
    (ready_same c.args.self.now s c.in_ok-get_ready.ensures.others c.in_ok-get_ready.ensures.ready c.in_ok-get_ready.ensures.begun begun)
    (c.in_ok-open_next.ensures.anyhow walk (ap (λ (x : State). x.frame) c.in_ok-get_ready.ensures.others ∙ frame)))

pub returns-in_ok-solve-in-Some-clause-solves : goal.returns-in_ok-solve-in-Some-clause-solves
returns-in_ok-solve-in-Some-clause-solves c = λ m walk frame t stand.
    let p = content c.args.program.now in
    let s = c.get_ready.new.self in
    let mid : State = c.begin.new.self in
    let n = c.in-Some.node in
    let u : IsTabledBy p s m = ready_tabled p m c.args.self.now s t c.in_ok-get_ready.ensures.others c.in_ok-get_ready.ensures.begun in
    let room : HasRoom m = room_of m s.table u.fits (c.if-not-has_room.ensures.0 refl) in
    let here : s.frame ≡ frame_of p = ap (λ (x : State). x.frame) c.in_ok-get_ready.ensures.others ∙ frame in
    let b : BeginsNode p m m 0 n mid = alone_begins p s mid m (Some n) u
    (c.in-Some.ensures.begins p m c.args.program.now.keeps here c.in_ok-get_ready.ensures.begun) c.has_workers.ensures in
    let h : HasBegun p mid m m 0 n =
    begun_by p mid m m 0 n b (ap (λ (x : State). x.is_begun) c.begin.ensures.others ∙ c.in_ok-get_ready.ensures.begun) room.0 in
    let all : SolvesNode p mid m n c.solve.new.self = alone_solves p mid m h.begun.desk.fits.flying n c.solve.new.self h.is
    (c.in_ok-solve-in-Some.ensures.solves m walk (ap (λ (x : State). x.frame) c.begin.ensures.others ∙ here) h.begun
    (subst (λ (x : State). PointsStand p x.lasts.nodes.items) (sym c.begin.ensures.others) (c.in_ok-get_ready.ensures.points p stand))) in
    step_solved p c.args.self.now s m n c.solve.new.self c.in_ok-get_ready.ensures.others c.in_ok-get_ready.ensures.ready b.next
    (solves_before p s mid.table m n c.solve.new.self (subst (λ (x : State). SolvesNode p x m n c.solve.new.self) c.begin.ensures.others all))

pub returns-in-None-clause-solves : goal.returns-in-None-clause-solves
returns-in-None-clause-solves c = λ m walk frame t stand.
    let p = content c.args.program.now in
    let s = c.get_ready.new.self in
    let u : IsTabledBy p s m = ready_tabled p m c.args.self.now s t c.in_ok-get_ready.ensures.others c.in_ok-get_ready.ensures.begun in
    let here : s.frame ≡ frame_of p = ap (λ (x : State). x.frame) c.in_ok-get_ready.ensures.others ∙ frame in
    let b = alone_begins p s c.begin.new.self m None u
    (c.in-None.ensures.begins p m c.args.program.now.keeps here c.in_ok-get_ready.ensures.begun) c.has_workers.ensures in
    subst (λ (x : State). MakesStep p c.args.self.now m x false) (sym c.begin.ensures.others)
    (begins_none (λ room. record {
      idle = none_next m u.idle b.0;
      last = λ closed. sym (ap (λ (x : State). x.kind) c.in_ok-get_ready.ensures.others) ∙ (elim c.else-is_closed.branch [
        | else-is_closed-via-then-is_closed+else-ne w ↦ only_cost s.kind w.if-ne.ensures
        | else-is_closed-via-else-is_closed w ↦ let no : false ≡ true = (w.if-is_closed.ensures.meaning m u.fits).1 closed in absurd (cc)
      ]);
    }) (c.in_ok-get_ready.ensures.points p stand)
    (let g = ready_gains (λ why. ⊥) c.args.self.now s c.in_ok-get_ready.ensures.others in
    record { counts = g.counts; stop = g.stop; lasting = g.lasting })
    (let stays = ready_stays c.args.self.now s c.in_ok-get_ready.ensures.others in
    record {
      run = record { kind = stays.kind; frame = stays.frame; budget = stays.budget; versions = stays.versions };
      banks = ap (λ (x : State). x.banks) c.in_ok-get_ready.ensures.others;
      ends = ap (λ (x : State). x.ends) c.in_ok-get_ready.ensures.others;
      stop = ap (λ (x : State). x.stop) c.in_ok-get_ready.ensures.others;
      ready = c.in_ok-get_ready.ensures.ready;
      tabled = subst (λ (x : State). IsTabledBy p x m) c.begin.ensures.others (rests_at p c.begin.new.self m b.1);
    }))

pub returns-then-not-has_room-clause-made : goal.returns-then-not-has_room-clause-made
returns-then-not-has_room-clause-made c = λ b walk frame right h.
    let e = c.in_ok-get_ready.ensures.others in
    (same_made b c.args.self.now c.get_ready.new.self (ap (λ (x : State). x.banks) e) (ap (λ (x : State). x.kind) e) (ap (λ (x : State). x.ends) e)).1 h

pub returns-then-ne-clause-made : goal.returns-then-ne-clause-made
returns-then-ne-clause-made c = λ b walk frame right h.
    let p = content c.args.program.now in
    let e = c.in_ok-get_ready.ensures.others in
    c.in_ok-open_next.ensures.made b walk (ap (λ (x : State). x.frame) e ∙ frame)
    (subst (λ (vs : List Version). AreBooksOf p vs b) (sym (ap (λ (x : State). x.versions) e)) right)
    ((same_made b c.args.self.now c.get_ready.new.self (ap (λ (x : State). x.banks) e) (ap (λ (x : State). x.kind) e) (ap (λ (x : State). x.ends) e)).1 h)

pub returns-in_ok-solve-in-Some-clause-made : goal.returns-in_ok-solve-in-Some-clause-made
returns-in_ok-solve-in-Some-clause-made c = λ b walk frame right h.
    let p = content c.args.program.now in
    let old : State = c.args.self.now in
    let mid : State = c.begin.new.self in
    let same : mid ≡ record old { lasts = mid.lasts; is_begun = mid.is_begun; table = mid.table } =
    begun_others old c.get_ready.new.self mid c.in_ok-get_ready.ensures.others c.begin.ensures.others in
    c.in_ok-solve-in-Some.ensures.made b walk (ap (λ (x : State). x.frame) same ∙ frame)
    (subst (λ (vs : List Version). AreBooksOf p vs b) (sym (ap (λ (x : State). x.versions) same)) right)
    ((same_made b old mid (ap (λ (x : State). x.banks) same) (ap (λ (x : State). x.kind) same) (ap (λ (x : State). x.ends) same)).1 h)

pub returns-in-None-clause-made : goal.returns-in-None-clause-made
returns-in-None-clause-made c = λ b walk frame right h.
    let old : State = c.args.self.now in
    let mid : State = c.begin.new.self in
    let same : mid ≡ record old { lasts = mid.lasts; is_begun = mid.is_begun; table = mid.table } =
    begun_others old c.get_ready.new.self mid c.in_ok-get_ready.ensures.others c.begin.ensures.others in
    (same_made b old mid (ap (λ (x : State). x.banks) same) (ap (λ (x : State). x.kind) same) (ap (λ (x : State). x.ends) same)).1 h

pub returns-then-ne-clause-progress : goal.returns-then-ne-clause-progress
returns-then-ne-clause-progress c = λ told.
    let s = c.get_ready.new.self in
    ready_progresses c.args.self.now s s.table c.open_next.new.self c.in_ok-get_ready.ensures.others
    (c.in_ok-open_next.ensures.progress
    (λ e. let no : true ≡ false = subst (λ (k : Kind). true ≡ not (sameb the_type k Cost)) e c.if-ne.ensures in absurd (cc)))

pub returns-in_ok-solve-in-Some-clause-progress : goal.returns-in_ok-solve-in-Some-clause-progress
returns-in_ok-solve-in-Some-clause-progress c = λ told.
    ready_progresses c.args.self.now c.get_ready.new.self c.begin.new.self.table c.solve.new.self c.in_ok-get_ready.ensures.others
    (subst (λ (x : State). Progresses x c.solve.new.self) c.begin.ensures.others c.in_ok-solve-in-Some.ensures.progress)

pub returns-then-not-has_room-clause-rests : goal.returns-then-not-has_room-clause-rests
returns-then-not-has_room-clause-rests c = λ told.
    let s = c.get_ready.new.self in
    ready_rests c.args.self.now s s.table c.in_ok-get_ready.ensures.others

pub returns-in-None-clause-rests : goal.returns-in-None-clause-rests
returns-in-None-clause-rests c = λ told.
    subst (λ (x : State). Rests c.args.self.now x) (sym c.begin.ensures.others)
    (ready_rests c.args.self.now c.get_ready.new.self c.begin.new.self.table c.in_ok-get_ready.ensures.others)
