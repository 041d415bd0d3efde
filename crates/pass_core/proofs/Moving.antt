-- What one worker or several do at a desk, as steps of its idle machine.
use Rattle.std.proofs.Common.{◌≡◌, ◌↔◌, ℕ, ◌+◌, ◌<◌, ◌^◌, Bool, true, false, length, slice_index, Option, Some, None, Ok, inl, refl, sym, ap, subst, ◌∙◌}
use Rattle.scen_defs.specs.Program.{Program}
use Rattle.scen_defs.specs.Valid.{IsProgram}
use Rattle.scen_defs.specs.declared.report.Kind.{Kind}
use Rattle.scen_defs.specs.declared.report.Kind.TheVariants.{Cost}
use Rattle.scen_tree.specs.Trees.{Tree, tree_walk}
use Rattle.node_data.specs.Frames.{Frame, frame_of, children_in}
use Rattle.found_ends.specs.declared.last.Lasts.{Lasts}
use Rattle.pass_table.specs.declared.table.Table.{Table}
use Rattle.pass_table.specs.Machine.{Flight, Machine, IsLive, IsClosed, IsFlown, dropped}
use Rattle.pass_table.specs.Fits.{Fits}
use Rattle.pass_table.proofs.Valid.{valid_dropped}
use Rattle.crew_turns.specs.Turn.{IsIdle, AreChildren, EndsTurn, drops, commits, adds}
use Rattle.crew_turns.specs.Crew.{CrewRuns, begins as begins_run, commits as commits_run, adds as adds_run, drops as drops_run}
use Rattle.crew_turns.specs.Besides.{FitsBesides}
use Rattle.crew_turns.proofs.Turning.{freed}
use Rattle.crew_turns.proofs.Fair.{keeps_fair}
use Rattle.crew_turns.proofs.Reading.{stays_read}
use Rattle.crew_turns.proofs.Sheltered.{keeps_clear}
use Rattle.crew_turns.proofs.Beside.{live_to, children_from, fit_besides}
use Rattle.pass_core.specs.declared.state.State.{State}
use Rattle.pass_core.specs.Reasons.{GainsReasons}
use Rattle.pass_core.specs.Left.{OpensRun}
use Rattle.pass_core.specs.Made.{PoolsAreMade, EndsAreMade, KeepsBooks}
use Rattle.pass_core.specs.Tabled.{IsTabledBy, pool_number, HasPools, Opens, EndsBegun, EndsBegunIn, works, GoesBySteps}
use Rattle.pass_core.specs.Desks.{IsDesk, with_solve, BeginsNode, BeginsOn, IsBegunBy, EndsOn, DropsOn}
use Rattle.pass_core.specs.Turns.{EndsBy, SolvesProgram, SolvesNode, SolvesAtDesk, SolvesOn, AreReady, StaysReadyIn, IsBeforeRun, PutsFirstCuts}
use Rattle.pass_core.specs.Turns.{OpensAnyhow, MakesStep, begins_none, opens_run, solves, WorksAtDesk, gets_ready, begins_beside, ends_beside}
use Rattle.pass_core.proofs.Desks.{desk_at, lands, are_children}

-- ---- a step
-- a step at a desk with this idle machine: nothing is done but that there are places for last solves, or a worker begins a solve; the run is
-- closed, and the next one opens or something stops the method; or the program of a node is solved, which is a whole turn
pub data StepsAtDesk (p : Program) (old : State) (m : Machine) (new : State) : Type 0 where
  no_solve : GainsReasons (λ why. ⊥) old new → StaysReadyIn FitsBesides p old m new → StepsAtDesk p old m new
  new_run : IsTabledBy p old m → MakesStep p old m new true → IsClosed m → (old.kind ≡ Cost → ⊥) → Opens p m new
      → GainsReasons (IsBeforeRun p old) old new → (new.stop ≡ None → OpensRun old new)
      → ((tree : Tree) → tree_walk p ≡ Ok tree → new.stop ≡ None → PutsFirstCuts p tree old new)
      → OpensAnyhow p old new → StepsAtDesk p old m new
  one_turn : (lasts : Lasts) (n : ℕ) → AreReady old lasts → SolvesAtDesk p (record old { lasts = lasts }) m n new → StepsAtDesk p old m new

-- ---- a solve
-- however its end is told
pub solves_by : (Has Tells : (Machine → Flight → Bool → Machine → Type 0) → Type 0)
    → ((Way : Machine → Flight → Bool → Machine → Type 0) → Has Way → Tells Way) → (p : Program) (old : State) (n : ℕ) (new : State)
    → SolvesProgram Has p old n new → SolvesProgram Tells p old n new
solves_by Has Tells tells p old n new h = record {
  task = h.task;
  is_task = h.is_task;
  fits = h.fits;
  all = h.all;
  told = h.told;
  ends = tells (EndsBy 0 h.task.trial h.all) h.ends;
  points = h.points;
  reasons = record { counts = h.reasons.counts; stop = h.reasons.stop; lasting = h.reasons.lasting };
  stays = h.stays;
  answer = h.answer;
  leaves = h.leaves;
  anyhow = h.anyhow;
}

-- a turn of a machine that the table fits
pub node_at_desk : (p : Program) (old : State) (m : Machine) (n : ℕ) (new : State) → SolvesNode p old m n new → SolvesAtDesk p old m n new
node_at_desk p old m n new h = solves_by (λ Way. EndsBegun Way p m n new) (λ Way. EndsBegunIn FitsBesides Way p m n new)
    (λ Way e. record { machine = e.machine; turn = e.turn; node = e.node; way = e.way; tabled = desk_at p new e.machine e.tabled }) p old n new h

-- the end of a solve beside others
pub on_at_desk : (p : Program) (old : State) (m flying : Machine) (w n : ℕ) (new : State) → SolvesOn p old m flying w n new
    → SolvesAtDesk p old m n new
on_at_desk p old m flying w n new h = solves_by (λ Way. EndsOn Way p old m flying w n new) (λ Way. EndsBegunIn FitsBesides Way p m n new)
    (λ Way e. record { machine = e.machine; turn = e.turn; node = e.node; way = e.way; tabled = e.desk }) p old n new h

-- ---- one worker
pub step_moves : (p : Program) (old : State) (m : Machine) (new : State) (told : Bool) → IsTabledBy p old m → MakesStep p old m new told
    → StepsAtDesk p old m new
step_moves p old m new told t (begins_none rest points reasons ready) = no_solve reasons (record {
  run = ready.run;
  banks = ready.banks;
  ends = ready.ends;
  stop = ready.stop;
  ready = ready.ready;
  tabled = desk_at p new m ready.tabled;
})
step_moves p old m new told t (opens_run closed earlier opened points reasons run first left) =
    new_run t (opens_run closed earlier opened points reasons run first left) closed earlier opened reasons run first left
step_moves p old m new told t (solves lasts n ready next h) = one_turn lasts n ready (node_at_desk p (record old { lasts = lasts }) m n new h)

-- ---- several
-- where nothing changes but the table and the places for last solves
stands_ready : (p : Program) (old : State) (m : Machine) (new : State)
    → new ≡ record old { lasts = new.lasts; is_begun = new.is_begun; table = new.table } → AreReady old new.lasts → IsDesk p new m
    → StepsAtDesk p old m new
stands_ready p old m new e ready desk = no_solve (record {
  counts = ap (λ (s : State). s.counts) e;
  stop = λ why t. inl (inl (sym (ap (λ (s : State). s.stop) e) ∙ t));
  lasting = λ why t. inl (sym (ap (λ (s : State). s.lasting) e) ∙ t);
}) (record {
  run = record {
    kind = ap (λ (s : State). s.kind) e;
    frame = ap (λ (s : State). s.frame) e;
    budget = ap (λ (s : State). s.budget) e;
    versions = ap (λ (s : State). s.versions) e;
  };
  banks = ap (λ (s : State). s.banks) e;
  ends = ap (λ (s : State). s.ends) e;
  stop = ap (λ (s : State). s.stop) e;
  ready = ready;
  tabled = desk;
})

-- since something was done there are places
begun_ready : (old : State) (lasts : Lasts) → old.is_begun ≡ true → lasts ≡ old.lasts → AreReady old lasts
begun_ready old lasts z e = record { same = λ y. e; none = λ y. let no : false ≡ true = sym y ∙ z in absurd (cc) }

begun_desk : (p : Program) (m flying : Machine) (w : ℕ) (r : Option ℕ) (new : State) → BeginsOn p m flying w r new → IsDesk p new m
begun_desk p m flying w None new b = b.1.desk
begun_desk p m flying w (Some n) new b = b.behind.desk

pub work_moves : (p : Program) (old : State) (m : Machine) (new : State) → WorksAtDesk p old m new → StepsAtDesk p old m new
work_moves p old m new (gets_ready ready e desk) =
    let same : new.table ≡ old.table = ap (λ (s : State). s.table) e in
    stands_ready p old m new (e ∙ ap (λ (t : Table). record old { lasts = new.lasts; is_begun = new.is_begun; table = t }) (sym same)) ready desk
work_moves p old m new (begins_beside flying w r z h b e) =
    let lasts : new.lasts ≡ old.lasts = ap (λ (s : State). s.lasts) e in
    let begun : new.is_begun ≡ old.is_begun = ap (λ (s : State). s.is_begun) e in
    stands_ready p old m new
    (e ∙ ap (λ (l : Lasts). record old { lasts = l; is_begun = old.is_begun; table = new.table }) (sym lasts)
    ∙ ap (λ (x : Bool). record old { lasts = new.lasts; is_begun = x; table = new.table }) (sym begun))
    (begun_ready old new.lasts z lasts) (begun_desk p m flying w r new b)
work_moves p old m new (ends_beside w n b h) =
    one_turn old.lasts n (begun_ready old old.lasts b.is_begun refl) (on_at_desk p old m b.desk.fits.flying w n new h)

-- what changes no pool, no end and no kind of run keeps cuts that are made for books
pub keeps_books : (p : Program) (old new : State) → new.banks ≡ old.banks → new.ends ≡ old.ends → new.kind ≡ old.kind → KeepsBooks p old new
keeps_books p old new banks ends kind b right made = (
  subst (PoolsAreMade b) (sym banks) made.0,
  subst (λ (k : Kind). EndsAreMade b k new.ends) (sym kind) (subst (EndsAreMade b old.kind) (sym ends) made.1),
)

-- tables that fit beside the same idle machine tell the same
same_told : (P : Type 0) (a b : Bool) → (a ≡ true) ↔ P → (b ≡ true) ↔ P → b ≡ a
same_told P true b h k = k.1 (h.0 refl)
same_told P false true h k = let no : false ≡ true = h.1 (k.0 refl) in absurd (cc)
same_told P false false h k = refl

pub closed_same : (p : Program) (old new : State) (m : Machine) → IsDesk p old m → IsDesk p new m → new.table.closed ≡ old.table.closed
closed_same p old new m before behind = same_told (IsClosed m) old.table.closed new.table.closed
    (fit_besides.closed old.table m before.fits) (fit_besides.closed new.table m behind.fits)

-- ---- a solve that isn't wanted any more
pub drops_on : (p : Program) (s : State) (m : Machine) (w n : ℕ) (b : IsBegunBy p s m w n) (new : State)
    → m.commits < 2 ^ 62 → new ≡ record s { table = new.table } → Fits new.table (dropped b.desk.fits.flying w)
    → DropsOn p s m b.desk.fits.flying w new
drops_on p s m w n b new few e fits = record {
  few = few;
  others = e;
  behind = record {
    desk = record {
      valid = valid_dropped m 0 d.valid;
      fits = record {
        flying = dropped d.fits.flying w;
        fits = fits;
        valid = valid_dropped d.fits.flying w d.fits.valid;
        fair = keeps_fair.drop d.fits.flying w d.fits.fair;
        reads = stays_read.drop d.fits.flying w d.fits.reads;
        sheltered = keeps_clear.drop d.fits.flying w b.flight d.fits.fair (mine b.flight b.flown) d.fits.sheltered;
        alike = record {
          live = d.fits.alike.live;
          parent = d.fits.alike.parent;
          run = d.fits.alike.run;
          commits = ap (λ (x : ℕ). x + 1) d.fits.alike.commits;
          number = d.fits.alike.number;
          commit = d.fits.alike.commit;
          point = d.fits.alike.point;
          above = d.fits.alike.above;
          below = λ k c child. d.fits.alike.below k c (record { live = child.live; lower = child.lower; parent = child.parent });
        };
      };
      idle = freed m (λ v ne. d.idle v);
      machine = record {
        live = d.machine.live;
        parent = d.machine.parent ∙ sym (ap (λ (x : State). slice_index x.frame.parents) e);
        number = λ k. d.machine.number k ∙ sym (ap (λ (x : State). pool_number x k) e);
      };
      pools = subst (λ (x : State). HasPools (length x.frame.parents) x.banks) (sym e) d.pools;
      unused = λ y. let no : false ≡ true = sym y ∙ ap (λ (x : State). x.is_begun) e ∙ b.is_begun in absurd (cc);
    };
    is = refl;
  };
}
  where
    d : IsDesk p s m
    d = b.desk

    mine : (f : Flight) → IsFlown b.desk.fits.flying n w f → IsFlown b.desk.fits.flying f.node w f
    mine f flown = record { flight = flown.flight; run = flown.run; node = refl }

-- ---- the machine with the solves in flight
-- these are the children of its nodes
flying_children : (p : Program) (s : State) (m : Machine) (n : ℕ) → IsProgram p → s.frame ≡ frame_of p → (d : IsDesk p s m)
    → IsLive d.fits.flying n → AreChildren d.fits.flying n (children_in s.frame n)
flying_children p s m n i frame d live =
    children_from d.fits.flying m d.fits.alike n (children_in s.frame n)
    (are_children p s m i frame d n (live_to d.fits.flying m d.fits.alike n live))

pub run_begins : (p : Program) (s : State) (start m : Machine) (w n : ℕ) (new : State) → IsProgram p → s.frame ≡ frame_of p
    → new.frame ≡ s.frame → (d : IsDesk p s m) → d.fits.flying.flight w ≡ None → CrewRuns start d.fits.flying
    → BeginsNode p m d.fits.flying w n new → CrewRuns start (with_solve new d.fits.flying w n)
run_begins p s start m w n new i frame same d free run b =
    begins_run d.fits.flying w n (children_in new.frame n) run free b.next
    (subst (λ (f : Frame). AreChildren d.fits.flying n (children_in f n)) (sym same)
    (flying_children p s m n i frame d b.next.may.live))

pub run_ends : (Way : Machine → Flight → Bool → Machine → Type 0) (p : Program) (s : State) (start m : Machine) (w n : ℕ) (new : State)
    → IsProgram p → s.frame ≡ frame_of p → (d : IsDesk p s m) → CrewRuns start d.fits.flying
    → (e : EndsOn Way p s m d.fits.flying w n new) → CrewRuns start e.desk.fits.flying
run_ends Way p s start m w n new i frame d run e =
    go e.turn.added e.desk.fits.flying
    (flying_children p s m e.flight.node i frame d (d.fits.valid.flown_live e.flight.node w e.flight e.flown)) e.ended
  where
    go : (added : Bool) (k : Machine) → AreChildren d.fits.flying e.flight.node (children_in s.frame e.flight.node)
        → EndsTurn w d.fits.flying e.flight added k → CrewRuns start k
    go added k children drops = drops_run d.fits.flying w e.flight run e.flown
    go added k children (commits point) = commits_run d.fits.flying w e.flight (children_in s.frame e.flight.node) point run e.flown children
    go added k children (adds point low) = adds_run d.fits.flying w e.flight (children_in s.frame e.flight.node) point run e.flown children low

pub run_drops : (p : Program) (s : State) (start m : Machine) (w n : ℕ) (b : IsBegunBy p s m w n) → CrewRuns start b.desk.fits.flying
    → CrewRuns start (dropped b.desk.fits.flying w)
run_drops p s start m w n b run =
    drops_run b.desk.fits.flying w b.flight run (record { flight = b.flown.flight; run = b.flown.run; node = refl })

-- where it has none in flight any more
pub goes_beside : (p : Program) (m : Machine) (old new : State) (k : Machine) → (g : GoesBySteps p m old) → (d : IsDesk p new k)
    → CrewRuns g.machine d.fits.flying → IsIdle d.fits.flying → GoesBySteps p m new
goes_beside p m old new k g d run idle = record {
  machine = d.fits.flying;
  steps = works g.machine d.fits.flying g.steps run idle;
  tabled = lands p new k d idle;
}
