-- A table that fits a machine with solves in flight, beside a machine without any that knows the same.
use Rattle.std.proofs.Common.{◌≡◌, ◌↔◌, ℕ, ◌+◌, ◌<◌, Bool, true, false, Some, None, List, [], ◌∷◌, arith, refl, sym, ap, subst, ◌∙◌}
use Rattle.pass_table.specs.declared.table.Table.{Table}
use Rattle.pass_table.specs.Machine.{IsAbove, Last, Flight, Machine, IsLive, IsClosed, IsComplete, IsFlown, MayBegin, IsValid}
use Rattle.pass_table.specs.Machine.{begun, read_by, read, dropped, committed, raised}
use Rattle.pass_table.specs.Fits.{Fits, AnswersBegin}
use Rattle.pass_table.proofs.Stale.{same_at}
use Rattle.pass_table.proofs.Events.{none_some, some_same}
use Rattle.pass_table.proofs.ReadLaws.{read_fits}
use Rattle.pass_table.proofs.Valid.{valid_begun, valid_committed, valid_dropped, valid_raised}
use Rattle.crew_turns.specs.Turn.{IsIdle, AreChildren, first_flight, read_by_each, read_each, EndsTurn, drops, commits, adds, TakesTurn}
use Rattle.crew_turns.specs.Clear.{IsClear}
use Rattle.crew_turns.specs.Alike.{AreAlike, turned_at, IsATurn}
use Rattle.crew_turns.specs.Reads.{read_all}
use Rattle.crew_turns.specs.Besides.{FitsBesides, BeginsBesides, EndsAsTurn, TablesFitBesides}
use Rattle.crew_turns.proofs.Turning.{AreReads, reads_are, node_read}
use Rattle.crew_turns.proofs.Fair.{keeps_fair}
use Rattle.crew_turns.proofs.Reading.{stays_read}
use Rattle.crew_turns.proofs.Sheltered.{keeps_clear}
use Rattle.crew_turns.proofs.Turned.{commit_turns, child_to, fresh_to, fresh_from, good_to, good_from}
use Rattle.crew_turns.proofs.Crewing.{KeepsByReads, reads_keep, alike_begun, alike_raised, child_from}

pub starts : (t : Table) (m : Machine) → IsValid m → IsIdle m → Fits t m → FitsBesides t m
starts t m valid idle fits = record {
  flying = m;
  fits = fits;
  valid = valid;
  fair = keeps_fair.idle m idle;
  reads = λ n v f flown. absurd (none_some f (sym (idle v) ∙ flown.flight));
  sheltered = keeps_clear.start m (λ n (v, (f, flown)). none_some f (sym (idle v) ∙ flown.flight));
  alike = record {
    live = refl;
    parent = refl;
    run = refl;
    commits = refl;
    number = refl;
    commit = λ n. refl;
    point = λ n. refl;
    above = λ n a up. refl;
    below = λ n c child. refl;
  };
}

-- the machine itself is the one that the table fits
pub starts_there : (t : Table) (m : Machine) (valid : IsValid m) (idle : IsIdle m) (fits : Fits t m) → (starts t m valid idle fits).flying ≡ m
unfolding starts
starts_there t m valid idle fits = refl

-- ---- what a table tells
pub live_to : (m k : Machine) → AreAlike m k → (n : ℕ) → IsLive m n → IsLive k n
live_to m k e n l = ap (λ (f : ℕ → Bool). f n) e.live ∙ l

pub live_from : (m k : Machine) → AreAlike m k → (n : ℕ) → IsLive k n → IsLive m n
live_from m k e n l = ap (λ (f : ℕ → Bool). f n) (sym e.live) ∙ l

tells_closed : (t : Table) (m : Machine) → FitsBesides t m → (t.closed ≡ true) ↔ IsClosed m
tells_closed t m h = (
  λ told n l. let o = h.fits.closed.0 told n (live_from h.flying m h.alike n l) in (fresh_to h.flying m h.alike n o.0, h.alike.point n ∙ o.1),
  λ closed. h.fits.closed.1 (λ n l.
      let o = closed n (live_to h.flying m h.alike n l) in (fresh_from h.flying m h.alike n o.0, sym (h.alike.point n) ∙ o.1)),
)

tells_complete : (t : Table) (m : Machine) → FitsBesides t m → (t.complete ≡ true) ↔ IsComplete m
tells_complete t m h = (
  λ told n l. good_to h.flying m h.alike n (h.fits.complete.0 told n (live_from h.flying m h.alike n l)),
  λ complete. h.fits.complete.1 (λ n l. good_from h.flying m h.alike n (complete n (live_to h.flying m h.alike n l))),
)

-- ---- a Begin
pub children_from : (m k : Machine) → AreAlike m k → (n : ℕ) (cs : List ℕ) → AreChildren k n cs → AreChildren m n cs
children_from m k e n cs h c = ((λ q. (h c).0 (child_to m k e n c q)), (λ q. child_from m k e n c ((h c).1 q)))

pub may_to : (m k : Machine) → AreAlike m k → IsIdle k → (n : ℕ) → MayBegin m n → MayBegin k n
may_to m k e idle n may = record {
  live = live_to m k e n may.live;
  stale = λ fresh. may.stale (fresh_from m k e n fresh);
  idle = λ (v, (f, flown)). none_some f (sym (idle v) ∙ flown.flight);
  above = λ a up. good_to m k e a (may.above a (let P : (ℕ → ℕ) → Type 0 = λ p. IsAbove p a n in subst P e.parent up));
}

reads_fit : (t : Table) (m : Machine) (v : ℕ) (f : Flight) (cs : List ℕ) → m.flight v ≡ Some f → Fits t m → Fits t (read_all m v f cs)
reads_fit t m v f [] has fits = fits
reads_fit t m v f (c ∷ cs) has fits =
    reads_fit t (read m v f c) v (read_by f c (m.number c)) cs (same_at m.flight v _ v refl) (read_fits t m v f c has fits)

begins : (old new : Table) (m : Machine) (v n : ℕ) (cs : List ℕ) (h : FitsBesides old m) → IsIdle m → h.flying.flight v ≡ None
    → AnswersBegin h.flying v (Some n) new → AreChildren m n cs → BeginsBesides h.flying v n cs new m
begins old new m v n cs h idle free answer children = record {
  may = may_to k m h.alike idle n answer.0.may;
  fits = record {
    flying = read_all (begun k v n) v (first_flight k n) cs;
    fits = reads_fit new (begun k v n) v (first_flight k n) cs (same_at k.flight v _ v refl) answer.1;
    valid = kept.valid;
    fair = kept.fair;
    reads = stays_read.begin k v n cs h.reads (children_from k m h.alike n cs children);
    sheltered = kept.sheltered;
    alike = kept.alike;
  };
  flying = refl;
}
  where
    k : Machine
    k = h.flying

    clear : IsClear k n
    clear = keeps_clear.clear k n h.sheltered answer.0

    kept : KeepsByReads (begun k v n) (read_all (begun k v n) v (first_flight k n) cs) m
    kept = reads_keep (begun k v n) m v (first_flight k n) cs (same_at k.flight v _ v refl)
        (valid_begun k v n h.valid free answer.0.may) (keeps_fair.begin k v n h.valid h.fair free answer.0.may clear)
        (keeps_clear.begin k v n h.valid free h.sheltered answer.0) (alike_begun k m v n h.alike)

-- ---- an end
module _ (old new : Table) (m : Machine) (v : ℕ) (f : Flight) (cs : List ℕ) (h : FitsBesides old m) (valid : IsValid m) (idle : IsIdle m)
    (mine : IsFlown h.flying f.node v f) (children : AreChildren m f.node cs) where
  abbrev n : ℕ
  n = f.node

  abbrev reads : Machine
  reads = read_each (begun m 0 n) (first_flight m n) cs

  abbrev flight : Flight
  flight = read_by_each m.number (first_flight m n) cs

  pub turn_of : (point : Bool) → IsATurn h.flying m v f cs point
  turn_of point = commit_turns h.flying m v f cs point h.valid h.fair valid idle h.alike mine (h.reads n v f mine) children

  pub by_commit : (point : Bool) → Fits new (committed h.flying v f point) → FitsBesides new (turned_at m n cs point)
  by_commit point fits = record {
    flying = committed h.flying v f point;
    fits = fits;
    valid = valid_committed h.flying v f point h.valid mine;
    fair = keeps_fair.commit h.flying v f point h.valid h.fair mine;
    reads = stays_read.commit h.flying v f point h.reads;
    sheltered = keeps_clear.commit h.flying v f point h.valid h.fair mine h.sheltered;
    alike = (turn_of point).alike;
  }

  pub by_add : (point : Bool) → 0 < n → Fits new (raised (committed h.flying v f point) n) → FitsBesides new (raised (turned_at m n cs point) n)
  by_add point low fits =
      let k : Machine = committed h.flying v f point in
      let k_valid : IsValid k = valid_committed h.flying v f point h.valid mine in record {
        flying = raised k n;
        fits = fits;
        valid = valid_raised k n k_valid;
        fair = keeps_fair.raise k n (keeps_fair.commit h.flying v f point h.valid h.fair mine);
        reads = stays_read.raise k n (stays_read.free h.flying v f point h.fair mine low) (stays_read.commit h.flying v f point h.reads);
        sheltered = keeps_clear.raise k n k_valid low (h.valid.flown_live n v f mine)
            (keeps_clear.commit h.flying v f point h.valid h.fair mine h.sheltered);
        alike = alike_raised k (turned_at m n cs point) n (turn_of point).alike;
      }

  are_reads : AreReads (begun m 0 n) (first_flight m n) cs reads
  are_reads = reads_are (begun m 0 n) (first_flight m n) cs (valid_begun m 0 n valid (idle 0) (turn_of true).may) (same_at m.flight 0 _ 0 refl)

  pub by_drop : Fits new (dropped h.flying v) → FitsBesides new (dropped reads 0)
  by_drop fits = record {
    flying = dropped h.flying v;
    fits = fits;
    valid = valid_dropped h.flying v h.valid;
    fair = keeps_fair.drop h.flying v h.fair;
    reads = stays_read.drop h.flying v h.reads;
    sheltered = keeps_clear.drop h.flying v f h.fair mine h.sheltered;
    alike = record {
      live = are_reads.live ∙ h.alike.live;
      parent = are_reads.parent ∙ h.alike.parent;
      run = are_reads.run ∙ h.alike.run;
      commits = ap (λ (x : ℕ). x + 1) (are_reads.commits ∙ h.alike.commits);
      number = are_reads.number ∙ h.alike.number;
      commit = λ j. ap (λ (l : ℕ → Last). (l j).commit) are_reads.last ∙ h.alike.commit j;
      point = λ j. ap (λ (l : ℕ → Last). (l j).point) are_reads.last ∙ h.alike.point j;
      above = λ j a up. ap (λ (l : ℕ → Last). (l j).above a) are_reads.last ∙ h.alike.above j a up;
      below = λ j c child. ap (λ (l : ℕ → Last). (l j).below c) are_reads.last
          ∙ h.alike.below j c (record { live = child.live; lower = child.lower; parent = child.parent });
    };
  }

  abbrev turn_by : (added : Bool) (j : Machine) → EndsTurn 0 reads flight added j → TakesTurn m j
  turn_by added j e = record { node = n; may = (turn_of true).may; children = cs; are_children = children; added = added; ends = e }

  -- ---- the same event of both machines
  -- in this machine no other solve is in flight
  abbrev pub IsAlone : Type 0
  IsAlone = (v ≡ 0) × (h.flying ≡ reads)

  -- the solve ended in the one machine, and so did the turn in the other
  pub record TurnsBeside (added : Bool) (machine k : Machine) : Type 0 where
    pub ends : EndsTurn 0 reads flight added machine
    pub fits : FitsBesides new machine
    pub flying : fits.flying ≡ k
    pub alone : IsAlone → machine ≡ k

  here : flight.node ≡ n
  here = node_read m.number (first_flight m n) cs

  same_flight : IsAlone → flight ≡ f
  same_flight (first, alone) =
      some_same flight f (sym are_reads.flight ∙ ap (λ (x : Machine). x.flight 0) (sym alone) ∙ ap h.flying.flight (sym first) ∙ mine.flight)

  same_commit : (point : Bool) → IsAlone → turned_at m n cs point ≡ committed h.flying v f point
  same_commit point a =
      ap (λ (x : Machine). committed x 0 flight point) (sym a.1) ∙ ap (λ (w : ℕ). committed h.flying w flight point) (sym a.0)
      ∙ ap (λ (g : Flight). committed h.flying v g point) (same_flight a)

  pub commit_beside : (point : Bool) → Fits new (committed h.flying v f point)
      → TurnsBeside false (turned_at m n cs point) (committed h.flying v f point)
  unfolding by_commit
  commit_beside point fits =
      record { ends = commits point; fits = by_commit point fits; flying = refl; alone = same_commit point }

  pub add_beside : (point : Bool) → 0 < n → Fits new (raised (committed h.flying v f point) n)
      → TurnsBeside true (raised (turned_at m n cs point) flight.node) (raised (committed h.flying v f point) n)
  unfolding by_add
  add_beside point low fits =
      let k : Machine = raised (committed h.flying v f point) n in
      let P : ℕ → Type 0 = λ j. (x : FitsBesides new (raised (turned_at m n cs point) j)) × (x.flying ≡ k) in
      let both : P flight.node = subst P (sym here) (by_add point low fits, refl) in record {
        ends = adds point (omega (arith, here, low));
        fits = both.0;
        flying = both.1;
        alone = λ a. ap (λ (x : Machine). raised x flight.node) (same_commit point a)
            ∙ ap (λ (j : ℕ). raised (committed h.flying v f point) j) here;
      }

  pub drop_beside : Fits new (dropped h.flying v) → TurnsBeside false (dropped reads 0) (dropped h.flying v)
  unfolding by_drop
  drop_beside fits = record {
    ends = drops;
    fits = by_drop fits;
    flying = refl;
    alone = λ a. ap (λ (x : Machine). dropped x 0) (sym a.1) ∙ ap (λ (w : ℕ). dropped h.flying w) (sym a.0);
  }

  ended : (added : Bool) (k : Machine) → EndsTurn v h.flying f added k → Fits new k → EndsAsTurn m n new
  ended added k drops fits =
      record { machine = dropped reads 0; turn = turn_by false (dropped reads 0) drops; node = refl; fits = by_drop fits }
  ended added k (commits point) fits = record {
    machine = turned_at m n cs point;
    turn = turn_by false (turned_at m n cs point) (commits point);
    node = refl;
    fits = by_commit point fits;
  }
  ended added k (adds point low) fits =
      let here : flight.node ≡ n = node_read m.number (first_flight m n) cs in
      let P : ℕ → Type 0 = λ j. EndsTurn 0 reads flight true (raised (turned_at m n cs point) j) in record {
        machine = raised (turned_at m n cs point) n;
        turn = turn_by true (raised (turned_at m n cs point) n) (subst P here (adds point (omega (arith, here, low))));
        node = refl;
        fits = by_add point low fits;
      }

pub fit_besides : TablesFitBesides
fit_besides = record {
  start = starts;
  closed = tells_closed;
  complete = tells_complete;
  commits = λ t m h. h.fits.agrees.commits ∙ sym h.alike.commits;
  run = λ t m h. h.fits.agrees.run ∙ sym h.alike.run;
  begin = begins;
  end = λ old new m k v f cs added h valid idle mine children ends fits. ended old new m v f cs h valid idle mine children added k ends fits;
}
