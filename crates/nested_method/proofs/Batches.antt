-- Solves of several workers: they begin, end, or aren't wanted any more, and the method stands behind the last one.
use Rattle.std.proofs.Common.{◌≡◌, ◌⊎◌, inl, inr, ℕ, zero, suc, ◌+◌, ◌<◌, ◌≤◌, ◌^◌, Bool, true, List, [], ◌∷◌, ◌++◌, length, length-append, slice_get, Some, None, Ok, refl, sym, ap, subst, ◌∙◌, arith}
use Rattle.scen_defs.specs.Program.{Program}
use Rattle.scen_defs.specs.Valid.{IsProgram}
use Rattle.scen_tree.specs.Trees.{Tree, tree_walk}
use Rattle.node_data.specs.Frames.{frame_of}
use Rattle.node_data.specs.declared.versions.Version.{Version}
use Rattle.pass_table.specs.Machine.{Flight, Machine, IsFlown, with_at, begun, dropped}
use Rattle.pass_table.proofs.Stale.{same_at, other_at}
use Rattle.crew_turns.specs.Turn.{IsIdle, first_flight, read_by_each, EndsTurn, drops, commits, adds}
use Rattle.crew_turns.specs.Crew.{CrewRuns, nothing}
use Rattle.crew_turns.proofs.Turning.{node_read, run_read}
use Rattle.crew_turns.proofs.Reading.{HasReadAll, has_read_all}
use Rattle.crew_turns.proofs.Beside.{fit_besides}
use Rattle.node_data.specs.Frames.{children_in}
use Rattle.pass_core.specs.declared.budget.Budget.{Budget}
use Rattle.pass_core.specs.declared.state.Begun.{Begun}
use Rattle.pass_core.specs.declared.state.State.{State}
use Rattle.pass_core.specs.Explained.{AreExplained, KeepsExplained}
use Rattle.pass_core.specs.Made.{BankBooks, AreBooksOf, CutsAreMade, KeepsBooks}
use Rattle.pass_core.specs.Tabled.{IsTabledBy, GoesBySteps}
use Rattle.pass_core.specs.Desks.{IsDesk, HasFlying, with_solve, BeginsOn, IsBegunBy, EndsOn, DropsOn}
use Rattle.pass_core.specs.Turns.{PointsStand, KeepsPoints, IsTaskOf, CanEnd, IsSetOut, EndsAnyhow, SolvesOn, AreReady, gets_ready, begins_beside, ends_beside}
use Rattle.pass_core.proofs.Tabling.{ready_tabled}
use Rattle.pass_core.proofs.Desks.{at_desk, desk_at, lands}
use Rattle.pass_core.proofs.Staying.{can_stay, task_stays}
use Rattle.pass_core.proofs.Moving.{keeps_books, work_moves, run_begins, run_ends, run_drops, goes_beside}
use Rattle.nested_method.specs.Stands.{HasFewNodes, IsInBudget, WorksOn, SolvesOnce, settled_in}
use Rattle.nested_method.specs.Batches.{InBatch, BatchWorks, Batch}
use Rattle.nested_method.proofs.StandLemmas.{goes_on, not_stopped, desk_in_budget, solves_beside, solves_less}
use Rattle.nested_method.proofs.Histories.{history_stays}

-- ---- lists
got_less : (bs : List Begun) (i : ℕ) (b : Begun) → slice_get bs i ≡ Some b → i < length bs
got_less [] i b e = absurd (cc)
got_less (x ∷ xs) zero b e = omega arith
got_less (x ∷ xs) (suc i) b e = let h = got_less xs i b e in omega (arith, h)

pub last_got : (bs : List Begun) (j : Begun) → slice_get (bs ++ j ∷ []) (length bs) ≡ Some j
last_got [] j = refl
last_got (x ∷ xs) j = last_got xs j

still_got : (bs : List Begun) (j : Begun) (i : ℕ) (b : Begun) → slice_get bs i ≡ Some b → slice_get (bs ++ j ∷ []) i ≡ Some b
still_got [] j i b e = absurd (cc)
still_got (x ∷ xs) j zero b e = e
still_got (x ∷ xs) j (suc i) b e = still_got xs j i b e

got_in : (bs : List Begun) (j : Begun) (i : ℕ) (b : Begun) → slice_get (bs ++ j ∷ []) i ≡ Some b
    → (slice_get bs i ≡ Some b) ⊎ ((i ≡ length bs) × (j ≡ b))
got_in [] j zero b e = inr (refl, (let q : j ≡ b = cc in q))
got_in [] j (suc i) b e = absurd (cc)
got_in (x ∷ xs) j zero b e = inl e
got_in (x ∷ xs) j (suc i) b e = go (got_in xs j i b e)
  where
    go : (slice_get xs i ≡ Some b) ⊎ ((i ≡ length xs) × (j ≡ b)) → (slice_get (x ∷ xs) (suc i) ≡ Some b) ⊎ ((suc i ≡ length (x ∷ xs)) × (j ≡ b))
    go (inl h) = inl h
    go (inr h) = inr (ap suc h.0, h.1)

one_longer : (bs : List Begun) (j : Begun) → length (bs ++ j ∷ []) ≡ length bs + 1
one_longer bs j = length-append bs (j ∷ [])

-- ---- what stays where nothing changes but the table
can_beside : (p : Program) (tree : Tree) (s new : State) (b : Begun) → new ≡ record s { table = new.table } → CanEnd p tree s b → CanEnd p tree new b
can_beside p tree s new b e h =
    subst (λ (x : State). CanEnd p tree x b) (sym e) (record { node = h.node; task = h.task; readings = h.readings })

task_beside : (p : Program) (s new : State) (b : Begun) → new ≡ record s { table = new.table } → IsTaskOf p s b.node b.task
    → IsTaskOf p new b.node b.task
task_beside p s new b e h = subst (λ (x : State). IsTaskOf p x b.node b.task) (sym e)
    (record { kind = h.kind; datum = h.datum; trial = h.trial; cuts = h.cuts; pivots = h.pivots })

still_stopped : (s new : State) → new ≡ record s { table = new.table } → new.stop ≡ None → s.stop ≡ None
still_stopped s new e none = sym (ap (λ (x : State). x.stop) e) ∙ none

books_beside : (p : Program) (s new : State) → new ≡ record s { table = new.table } → KeepsBooks p s new
books_beside p s new e =
    keeps_books p s new (ap (λ (x : State). x.banks) e) (ap (λ (x : State). x.ends) e) (ap (λ (x : State). x.kind) e)

works_beside : (p : Program) (tree : Tree) (budget : Budget) (first s new : State) (bs cs : List Begun) → new ≡ record s { table = new.table }
    → BatchWorks p tree budget first s bs → ((old : State) → SolvesOnce p old s → SolvesOnce p old new)
    → (new.stop ≡ None → (i : ℕ) (b : Begun) → slice_get cs i ≡ Some b → IsTaskOf p new b.node b.task) → BatchWorks p tree budget first new cs
works_beside p tree budget first s new bs cs e h solves stated = record {
  budget_is = ap (λ (x : State). x.budget) e ∙ h.budget_is;
  versions = subst (λ (x : State). length p.nodes ≤ length x.versions) (sym e) h.versions;
  explained = subst (λ (x : State). AreExplained p tree x) (sym e) h.explained;
  counted = subst (λ (x : State). IsInBudget x) (sym e) (record { item = h.counted.item; report = h.counted.report });
  points = subst (λ (x : State). PointsStand p x.lasts.nodes.items) (sym e) h.points;
  solves = λ old before. solves old (h.solves old before);
  made = λ begins edits rest came history. history_stays begins edits came p rest s new (ap (λ (x : State). x.versions) e)
      (λ b i right made. books_beside p s new e b right made) (h.made begins edits rest came history);
  stated = stated;
}

-- ---- before any is begun
pub batch_starts : (p : Program) (tree : Tree) (start : Machine) (old new : State) → IsProgram p → HasFewNodes p → old.frame ≡ frame_of p
    → IsTabledBy p old start → settled_in old ≡ None → KeepsExplained p tree old new → KeepsPoints p old new → AreReady old new.lasts
    → new.is_begun ≡ true → new ≡ record old { lasts = new.lasts; is_begun = new.is_begun } → Batch p tree start old new []
batch_starts p tree start old new i few frame t left explained points ready z e = record {
  few = few;
  small = omega arith;
  machine = start;
  desk = a.desk;
  runs = subst (CrewRuns start) (sym a.is) nothing;
  frame = explained.0 ∙ frame;
  is_begun = z;
  flown = λ k b g. absurd (cc);
  others = λ w low. ap (λ (x : Machine). x.flight w) a.is ∙ t.idle w;
  works = λ budget w. record {
    budget_is = explained.1 ∙ w.budget_is;
    versions = subst (λ (vs : List Version). length p.nodes ≤ length vs) (sym explained.2) w.versions;
    explained = explained.3 w.explained;
    counted = subst (λ (x : State). IsInBudget x) (sym e) (let h = w.counted i few in record { item = h.item; report = h.report });
    points = points (w.points i few);
    solves = λ o before. solves_beside p o old new start before left (desk_at p old start t) (gets_ready ready e a.desk) books;
    made = λ begins edits rest came history. history_stays begins edits came p rest old new explained.2
        (λ b j right made. books b right made) history;
    stated = λ none k b g. absurd (cc);
  };
}
  where
    a : HasFlying p new start start
    a = at_desk p new start (ready_tabled p start old new t e z)

    books : KeepsBooks p old new
    books = keeps_books p old new (ap (λ (x : State). x.banks) e) (ap (λ (x : State). x.ends) e) (ap (λ (x : State). x.kind) e)

-- what is told of the end of a worker's solve
pub record EndIsTold (p : Program) (tree : Tree) (s new : State) (w : ℕ) (j : Begun) : Type 0 where
  pub explained : CanEnd p tree s j → KeepsExplained p tree s new
  pub tabled : (m : Machine) → s.frame ≡ frame_of p → CanEnd p tree s j → (b : IsBegunBy p s m w j.node)
      → EndsOn EndsAnyhow p s m b.desk.fits.flying w j.node new
  pub solves : (m : Machine) → tree_walk p ≡ Ok tree → s.frame ≡ frame_of p → IsSetOut p tree s j → (b : IsBegunBy p s m w j.node)
      → PointsStand p s.lasts.nodes.items → SolvesOn p s m b.desk.fits.flying w j.node new
  pub made : (b : BankBooks) → tree_walk p ≡ Ok tree → s.frame ≡ frame_of p → IsSetOut p tree s j → AreBooksOf p s.versions b → CutsAreMade b s
      → CutsAreMade b new

-- there are numbers for more solves
pub few_at : (p : Program) (s : State) (m : Machine) → IsDesk p s m → s.table.commits < 2 ^ 62 → m.commits < 2 ^ 62
few_at p s m d few = let same = fit_besides.commits s.table m d.fits in omega (arith, same, few)

pub room_of_few : (m : Machine) → m.commits < 2 ^ 62 → m.commits + 1 < 2 ^ 64
room_of_few m few = omega (arith, few)

module _ (p : Program) (tree : Tree) (start : Machine) (first s new : State) (bs : List Begun) (i : IsProgram p) where
  -- ---- a Begin
  -- no node is next
  pub batch_rests : (h : Batch p tree start first s bs) (w : ℕ) → new ≡ record s { table = new.table } → settled_in s ≡ None
      → BeginsOn p h.machine h.desk.fits.flying w None new → Batch p tree start first new bs
  batch_rests h w e left b = record {
    few = h.few;
    small = h.small;
    machine = h.machine;
    desk = k.desk;
    runs = subst (CrewRuns start) (sym k.is) h.runs;
    frame = ap (λ (x : State). x.frame) e ∙ h.frame;
    is_begun = ap (λ (x : State). x.is_begun) e ∙ h.is_begun;
    flown = λ v j g. let q = h.flown v j g in record {
      flight = q.flight;
      flown = subst (λ (m : Machine). IsFlown m j.node v q.flight) (sym k.is) q.flown;
      can = can_beside p tree s new j e q.can;
    };
    others = λ v low. ap (λ (x : Machine). x.flight v) k.is ∙ h.others v low;
    works = λ budget wk. works_beside p tree budget first s new bs bs e (h.works budget wk)
        (λ o before. solves_beside p o s new h.machine before left h.desk
        (begins_beside h.desk.fits.flying w None h.is_begun (record { desk = h.desk; is = refl }) b e) (books_beside p s new e))
        (λ none v j g. task_beside p s new j e ((h.works budget wk).stated (still_stopped s new e none) v j g));
  }
    where
      k : HasFlying p new h.machine h.desk.fits.flying
      k = b.1

  -- a node is begun
  pub batch_begins : (h : Batch p tree start first s bs) (n : ℕ) (j : Begun) → new ≡ record s { table = new.table } → settled_in s ≡ None
      → length bs + 1 < 2 ^ 32 → BeginsOn p h.machine h.desk.fits.flying (length bs) (Some n) new
      → j.node ≡ n → IsSetOut p tree new j → Batch p tree start first new (bs ++ j ∷ [])
  batch_begins h n j e left small b node out = record {
    few = h.few;
    small = let long = one_longer bs j in omega (arith, long, small);
    machine = h.machine;
    desk = b.behind.desk;
    runs = subst (CrewRuns start) (sym b.behind.is)
        (run_begins p s start h.machine w n new i h.frame (ap (λ (x : State). x.frame) e) h.desk (h.others w (omega arith)) h.runs b);
    frame = ap (λ (x : State). x.frame) e ∙ h.frame;
    is_begun = z;
    flown = λ v k g. there v k (got_in bs j v k g);
    others = λ v low. ap (λ (x : Machine). x.flight v) b.behind.is
        ∙ other v (let long = one_longer bs j in omega (arith, low, long))
        ∙ h.others v (let long = one_longer bs j in omega (arith, low, long));
    works = λ budget wk. works_beside p tree budget first s new bs (bs ++ j ∷ []) e (h.works budget wk)
        (λ o before. solves_beside p o s new h.machine before left h.desk
        (begins_beside h.desk.fits.flying w (Some n) h.is_begun (record { desk = h.desk; is = refl }) b e) (books_beside p s new e))
        (λ none v k g. states wk.tree (h.works budget wk) none v k (got_in bs j v k g));
  }
    where
      w : ℕ
      w = length bs

      z : new.is_begun ≡ true
      z = ap (λ (x : State). x.is_begun) e ∙ h.is_begun

      flying : Machine
      flying = h.desk.fits.flying

      reads : HasReadAll (begun h.desk.fits.flying w n) (with_solve new h.desk.fits.flying w n) w (first_flight h.desk.fits.flying n) (children_in new.frame n)
      reads = has_read_all (begun h.desk.fits.flying w n) w (first_flight h.desk.fits.flying n) (children_in new.frame n)
          (same_at h.desk.fits.flying.flight w _ w refl)

      other : (v : ℕ) → (v ≡ w → ⊥) → (with_solve new h.desk.fits.flying w n).flight v ≡ h.desk.fits.flying.flight v
      other v ne = reads.others v ne ∙ other_at h.desk.fits.flying.flight w _ v ne

      flight : Flight
      flight = read_by_each h.desk.fits.flying.number (first_flight h.desk.fits.flying n) (children_in new.frame n)

      own : IsFlown b.behind.desk.fits.flying n w flight
      own = subst (λ (m : Machine). IsFlown m n w flight) (sym b.behind.is) (record {
        flight = reads.mine;
        run = run_read h.desk.fits.flying.number (first_flight h.desk.fits.flying n) (children_in new.frame n) ∙ sym reads.run;
        node = node_read h.desk.fits.flying.number (first_flight h.desk.fits.flying n) (children_in new.frame n);
      })

      there : (v : ℕ) (k : Begun) → (slice_get bs v ≡ Some k) ⊎ ((v ≡ length bs) × (j ≡ k)) → InBatch p tree new b.behind.desk.fits.flying v k
      there v k (inl g) = let q = h.flown v k g in record {
        flight = q.flight;
        flown = subst (λ (m : Machine). IsFlown m k.node v q.flight) (sym b.behind.is) (record {
          flight = other v (λ same. let less = got_less bs v k g in omega (arith, less, same)) ∙ q.flown.flight;
          run = q.flown.run ∙ sym reads.run;
          node = q.flown.node;
        });
        can = can_beside p tree s new k e q.can;
      }
      there v k (inr g) = subst (λ (x : Begun). InBatch p tree new b.behind.desk.fits.flying v x) g.1 (record {
        flight = flight;
        flown = record {
          flight = ap (λ (x : ℕ). b.behind.desk.fits.flying.flight x) g.0 ∙ own.flight;
          run = own.run;
          node = own.node ∙ sym node;
        };
        can = out.can;
      })

      states : {budget : Budget} → tree_walk p ≡ Ok tree → BatchWorks p tree budget first s bs → new.stop ≡ None → (v : ℕ) (k : Begun)
          → (slice_get bs v ≡ Some k) ⊎ ((v ≡ length bs) × (j ≡ k)) → IsTaskOf p new k.node k.task
      states walk wk none v k (inl g) = task_beside p s new k e (wk.stated (still_stopped s new e none) v k g)
      states walk wk none v k (inr g) =
          subst (λ (x : Begun). IsTaskOf p new x.node x.task) g.1 (out.stated walk (ap (λ (x : State). x.frame) e ∙ h.frame))

  -- ---- where the last worker's solve isn't wanted any more, or ends
  module _ (j : Begun) (h : Batch p tree start first s (bs ++ j ∷ [])) (room : h.machine.commits + 1 < 2 ^ 64) where
    abbrev last : InBatch p tree s h.desk.fits.flying (length bs) j
    last = h.flown (length bs) j (last_got bs j)

    abbrev pub last_begun : IsBegunBy p s h.machine (length bs) j.node
    last_begun = record { desk = h.desk; flight = last.flight; flown = last.flown; is_begun = h.is_begun; room = room }

    -- no worker from this one on has a solve in flight then
    none_from : (v : ℕ) → length bs ≤ v → with_at h.desk.fits.flying.flight (length bs) None v ≡ None
    none_from v low = go (cases v (length bs))
      where
        cases : (x y : ℕ) → (x ≡ y) ⊎ (x ≡ y → ⊥)
        cases zero zero = inl refl
        cases zero (suc y) = inr (λ q. omega (arith, q))
        cases (suc x) zero = inr (λ q. omega (arith, q))
        cases (suc x) (suc y) = step (cases x y)
          where
            step : (x ≡ y) ⊎ (x ≡ y → ⊥) → (suc x ≡ suc y) ⊎ (suc x ≡ suc y → ⊥)
            step (inl q) = inl (ap suc q)
            step (inr q) = inr (λ r. q (omega (arith, r)))

        go : (v ≡ length bs) ⊎ (v ≡ length bs → ⊥) → with_at h.desk.fits.flying.flight (length bs) None v ≡ None
        go (inl same) = same_at h.desk.fits.flying.flight (length bs) None v same
        go (inr ne) = other_at h.desk.fits.flying.flight (length bs) None v ne
            ∙ h.others v (let long = one_longer bs j in omega (arith, low, long, ne))

    shorter : length bs < 2 ^ 32
    shorter = let long = one_longer bs j in omega (arith, long, h.small)

    unlike : (v : ℕ) (k : Begun) → slice_get bs v ≡ Some k → v ≡ length bs → ⊥
    unlike v k g same = let less = got_less bs v k g in omega (arith, less, same)

    pub batch_drops : DropsOn p s h.machine last_begun.desk.fits.flying (length bs) new → Batch p tree start first new bs
    batch_drops d = record {
      few = h.few;
      small = shorter;
      machine = dropped h.machine 0;
      desk = k.desk;
      runs = subst (CrewRuns start) (sym k.is) (run_drops p s start h.machine (length bs) j.node last_begun h.runs);
      frame = ap (λ (x : State). x.frame) d.others ∙ h.frame;
      is_begun = ap (λ (x : State). x.is_begun) d.others ∙ h.is_begun;
      flown = λ v b g. let q = h.flown v b (still_got bs j v b g) in record {
        flight = q.flight;
        flown = subst (λ (m : Machine). IsFlown m b.node v q.flight) (sym k.is) (record {
          flight = other_at h.desk.fits.flying.flight (length bs) None v (unlike v b g) ∙ q.flown.flight;
          run = q.flown.run;
          node = q.flown.node;
        });
        can = can_beside p tree s new b d.others q.can;
      };
      others = λ v low. ap (λ (x : Machine). x.flight v) k.is ∙ none_from v low;
      works = λ budget wk. works_beside p tree budget first s new (bs ++ j ∷ []) bs d.others (h.works budget wk)
          (λ o before. solves_less p o s new h.machine (length bs) j.node before last_begun d)
          (λ none v b g. task_beside p s new b d.others
          ((h.works budget wk).stated (still_stopped s new d.others none) v b (still_got bs j v b g)));
    }
      where
        k : HasFlying p new (dropped h.machine 0) (dropped h.desk.fits.flying (length bs))
        k = d.behind

    same_run : (m : Machine) (f : Flight) (added : Bool) (k : Machine) → EndsTurn (length bs) m f added k → k.run ≡ m.run
    same_run m f added k drops = refl
    same_run m f added k (commits point) = refl
    same_run m f added k (adds point low) = refl

    pub batch_ends : settled_in s ≡ None → KeepsExplained p tree s new
        → EndsOn EndsAnyhow p s h.machine last_begun.desk.fits.flying (length bs) j.node new
        → (tree_walk p ≡ Ok tree → IsSetOut p tree s j → PointsStand p s.lasts.nodes.items
        → SolvesOn p s h.machine last_begun.desk.fits.flying (length bs) j.node new)
        → (tree_walk p ≡ Ok tree → IsSetOut p tree s j → KeepsBooks p s new) → Batch p tree start first new bs
    batch_ends left explained e solve books = record {
      few = h.few;
      small = shorter;
      machine = e.machine;
      desk = e.desk;
      runs = run_ends EndsAnyhow p s start h.machine (length bs) j.node new i h.frame h.desk h.runs e;
      frame = explained.0 ∙ h.frame;
      is_begun = e.begun;
      flown = λ v b g. let q = h.flown v b (still_got bs j v b g) in record {
        flight = q.flight;
        flown = record {
          flight = e.flights v ∙ other_at h.desk.fits.flying.flight (length bs) None v (unlike v b g) ∙ q.flown.flight;
          run = q.flown.run ∙ sym (same_run h.desk.fits.flying e.flight e.turn.added e.desk.fits.flying e.ended);
          node = q.flown.node;
        };
        can = can_stay p tree s new h.machine (length bs) j.node i h.frame last_begun b v q.flight q.flown (unlike v b g) EndsAnyhow
            explained.0 explained.1 e q.can;
      };
      others = λ v low. e.flights v ∙ none_from v low;
      works = λ budget wk.
          let k = h.works budget wk in
          let out : IsSetOut p tree s j = record { can = last.can; stated = λ walk frame. k.stated (not_stopped s left) (length bs) j (last_got bs j) } in
          let on = solve wk.tree out k.points in
          record {
            budget_is = explained.1 ∙ k.budget_is;
            versions = subst (λ (vs : List Version). length p.nodes ≤ length vs) (sym explained.2) k.versions;
            explained = explained.3 k.explained;
            counted = desk_in_budget p s new h.machine explained.1 (goes_on s left)
                (work_moves p s h.machine new (ends_beside (length bs) j.node last_begun on)) k.counted;
            points = on.points;
            solves = λ o before. solves_beside p o s new h.machine (k.solves o before) left h.desk
                (ends_beside (length bs) j.node last_begun on) (books wk.tree out);
            made = λ begins edits rest came history. history_stays begins edits came p rest s new explained.2
                (λ b r right made. books wk.tree out b right made) (k.made begins edits rest came history);
            stated = λ none v b g.
                let q = h.flown v b (still_got bs j v b g) in
                task_stays p tree s new h.machine (length bs) j.node i h.frame last_begun b v q.flight q.flown (unlike v b g) wk.tree on none b.task
                (k.stated (not_stopped s left) v b (still_got bs j v b g));
          };
    }

    -- as it is told of the calls
    pub drops_last : (w : ℕ) → length bs ≡ w
        → ((q : Program) (m : Machine) (n : ℕ) → m.commits < 2 ^ 62 → (b : IsBegunBy q s m w n) → DropsOn q s m b.desk.fits.flying w new)
        → h.machine.commits < 2 ^ 62 → Batch p tree start first new bs
    drops_last w same d few = batch_drops
        (subst (λ (v : ℕ). (q : Program) (m : Machine) (n : ℕ) → m.commits < 2 ^ 62 → (b : IsBegunBy q s m v n) → DropsOn q s m b.desk.fits.flying v new)
        (sym same) d p h.machine j.node few last_begun)

    pub ends_last : (w : ℕ) (r : Begun) → length bs ≡ w → r ≡ j → settled_in s ≡ None → EndIsTold p tree s new w r → Batch p tree start first new bs
    ends_last w r same e left d =
        let t : EndIsTold p tree s new (length bs) j = subst (λ (x : Begun). EndIsTold p tree s new (length bs) x) e
        (subst (λ (v : ℕ). EndIsTold p tree s new v r) (sym same) d) in
        batch_ends left (t.explained last.can) (t.tabled h.machine h.frame last.can last_begun)
        (λ walk out points. t.solves h.machine walk h.frame out last_begun points) (λ walk out b right made. t.made b walk h.frame out right made)

-- ---- behind the last one
pub batch_idle : (p : Program) (tree : Tree) (start : Machine) (first s : State) (h : Batch p tree start first s []) → IsIdle h.desk.fits.flying
batch_idle p tree start first s h w = h.others w (omega arith)

pub batch_goes : (p : Program) (tree : Tree) (m : Machine) (old new : State) (g : GoesBySteps p m old) → Batch p tree g.machine old new []
    → GoesBySteps p m new
batch_goes p tree m old new g h = goes_beside p m old new h.machine g h.desk h.runs (batch_idle p tree g.machine old new h)

pub batch_works : (p : Program) (tree : Tree) (budget : Budget) (start : Machine) (old new : State) → Batch p tree start old new []
    → WorksOn p budget (record { state = old; tree = tree }) → WorksOn p budget (record { state = new; tree = tree })
batch_works p tree budget start old new h w = let k = h.works budget w in record {
  tree = w.tree;
  frame = h.frame;
  budget_is = k.budget_is;
  versions = k.versions;
  explained = k.explained;
  counted = λ i few. k.counted;
  tabled = λ i few. (h.desk.fits.flying, lands p new h.machine h.desk (batch_idle p tree start old new h));
  points = λ i few. k.points;
}

pub empty_list : (bs : List Begun) → (0 < length bs → ⊥) → bs ≡ []
empty_list [] h = refl
empty_list (b ∷ bs) h = absurd (h (omega arith))
