-- What several workers leave is one run of turns.
use Rattle.std.proofs.Common.{◌≡◌, ℕ, ◌+◌, ◌<◌, Bool, true, false, Some, None, List, [], ◌∷◌, arith, refl, sym, ap, subst, ◌∙◌}
use Rattle.pass_table.specs.Machine.{Flight, Machine, IsLive, IsChild, IsOpen, IsClosed, IsFlown, IsFlying, MayBegin, IsNext, IsValid}
use Rattle.pass_table.specs.Machine.{with_at, begun, read_by, read, dropped, committed, raised, opened}
use Rattle.pass_table.proofs.Stale.{same_at}
use Rattle.pass_table.proofs.Events.{none_some, flight_left, may_dropped}
use Rattle.pass_table.proofs.ReadLaws.{may_read}
use Rattle.pass_table.proofs.Valid.{valid_begun, valid_read, valid_committed, valid_dropped, valid_raised, valid_opened}
use Rattle.crew_turns.specs.Turn.{IsIdle, AreChildren, first_flight, read_by_each, read_each, EndsTurn, commits as commits_turn, adds as adds_turn}
use Rattle.crew_turns.proofs.Turning.{AreReads, reads_are, node_read, turn_flown, begun_others, freed}
use Rattle.crew_turns.specs.Clear.{IsClear, IsFair}
use Rattle.crew_turns.specs.Alike.{AreAlike, turned_at, IsATurn}
use Rattle.crew_turns.specs.Reads.{read_all, AllReadsArePresent}
use Rattle.crew_turns.specs.Rounds.{IsSheltered}
use Rattle.crew_turns.specs.Crew.{CrewRuns, nothing as no_event, begins, commits, adds, drops, drops_adding, comes_late, adds_late, opens, TurnRuns, nothing as no_turn}
use Rattle.crew_turns.specs.Crew.{turns, drops as turn_drops, adds_late as turn_adds_late, opens as turn_opens, CrewsTakeTurns}
use Rattle.crew_turns.proofs.Fair.{keeps_fair, read_before}
use Rattle.crew_turns.proofs.Reading.{stays_read}
use Rattle.crew_turns.proofs.Sheltered.{keeps_clear}
use Rattle.crew_turns.proofs.Turned.{commit_turns, child_to, fresh_to}

-- what stands behind every event
record Stands (start m : Machine) : Type 0 where
  valid : IsValid m
  fair : IsFair m
  reads : AllReadsArePresent m
  sheltered : IsSheltered m
  idle : Machine
  runs : TurnRuns start idle
  is_idle : IsIdle idle
  idle_valid : IsValid idle
  alike : AreAlike m idle

-- ---- Reads
-- what a worker's Reads keep
pub record KeepsByReads (m k : Machine) (j : Machine) : Type 0 where
  pub valid : IsValid k
  pub fair : IsFair k
  pub sheltered : IsSheltered k
  pub alike : AreAlike k j

sheltered_read : (m : Machine) (v : ℕ) (f : Flight) (c : ℕ) → m.flight v ≡ Some f → IsSheltered m → IsSheltered (read m v f c)
sheltered_read m v f c has h d a (u, (g, flown)) up may =
    let b = read_before m v f c d u g has flown in h d a (u, (b.0, b.1.0)) up (may_read m v f c a has may)

alike_read : (m j : Machine) (v : ℕ) (f : Flight) (c : ℕ) → AreAlike m j → AreAlike (read m v f c) j
alike_read m j v f c e = record {
  live = e.live;
  parent = e.parent;
  run = e.run;
  commits = e.commits;
  number = e.number;
  commit = e.commit;
  point = e.point;
  above = e.above;
  below = λ n d child. e.below n d (record { live = child.live; lower = child.lower; parent = child.parent });
}

pub reads_keep : (m j : Machine) (v : ℕ) (f : Flight) (cs : List ℕ) → m.flight v ≡ Some f → IsValid m → IsFair m → IsSheltered m → AreAlike m j
    → KeepsByReads m (read_all m v f cs) j
reads_keep m j v f [] has valid fair sheltered alike = record { valid = valid; fair = fair; sheltered = sheltered; alike = alike }
reads_keep m j v f (c ∷ cs) has valid fair sheltered alike =
    let rest = reads_keep (read m v f c) j v (read_by f c (m.number c)) cs (same_at m.flight v _ v refl) (valid_read m v f c valid has)
    (keeps_fair.reads m v f c fair has) (sheltered_read m v f c has sheltered) (alike_read m j v f c alike) in
    record { valid = rest.valid; fair = rest.fair; sheltered = rest.sheltered; alike = rest.alike }

pub alike_begun : (m j : Machine) (v n : ℕ) → AreAlike m j → AreAlike (begun m v n) j
alike_begun m j v n e = record {
  live = e.live;
  parent = e.parent;
  run = e.run;
  commits = e.commits;
  number = e.number;
  commit = e.commit;
  point = e.point;
  above = e.above;
  below = λ k d child. e.below k d (record { live = child.live; lower = child.lower; parent = child.parent });
}

stands_begun : (start m : Machine) (v n : ℕ) (cs : List ℕ) → m.flight v ≡ None → IsNext m n → AreChildren m n cs → Stands start m
    → Stands start (read_all (begun m v n) v (first_flight m n) cs)
stands_begun start m v n cs free chosen children h =
    let clear : IsClear m n = keeps_clear.clear m n h.sheltered chosen in
    let k = reads_keep (begun m v n) h.idle v (first_flight m n) cs (same_at m.flight v _ v refl)
    (valid_begun m v n h.valid free chosen.may) (keeps_fair.begin m v n h.valid h.fair free chosen.may clear)
    (keeps_clear.begin m v n h.valid free h.sheltered chosen) (alike_begun m h.idle v n h.alike) in record {
      valid = k.valid;
      fair = k.fair;
      reads = stays_read.begin m v n cs h.reads children;
      sheltered = k.sheltered;
      idle = h.idle;
      runs = h.runs;
      is_idle = h.is_idle;
      idle_valid = h.idle_valid;
      alike = k.alike;
    }

-- ---- a commit
-- the idle machine behind a turn is valid and idle
record IsTurnedWell (k : Machine) (n : ℕ) (cs : List ℕ) (p : Bool) : Type 0 where
  valid : IsValid (turned_at k n cs p)
  is_idle : IsIdle (turned_at k n cs p)
  node : (read_by_each k.number (first_flight k n) cs).node ≡ n

turned_well : (k : Machine) (n : ℕ) (cs : List ℕ) (p : Bool) → IsValid k → IsIdle k → MayBegin k n → IsTurnedWell k n cs p
turned_well k n cs p valid idle may =
    let x : Machine = read_each (begun k 0 n) (first_flight k n) cs in
    let reads : AreReads (begun k 0 n) (first_flight k n) cs x =
    reads_are (begun k 0 n) (first_flight k n) cs (valid_begun k 0 n valid (idle 0) may) (same_at k.flight 0 _ 0 refl) in record {
      valid = valid_committed x 0 (read_by_each k.number (first_flight k n) cs) p reads.valid (turn_flown k n cs x reads);
      is_idle = freed x (λ u ne. reads.others u ne ∙ begun_others k n u idle ne);
      node = node_read k.number (first_flight k n) cs;
    }

pub child_from : (m k : Machine) → AreAlike m k → (n c : ℕ) → IsChild k n c → IsChild m n c
child_from m k e n c q = record {
  live = ap (λ (l : ℕ → Bool). l c) (sym e.live) ∙ q.live;
  lower = q.lower;
  parent = ap (λ (p : ℕ → ℕ). p c) (sym e.parent) ∙ q.parent;
}

children_of : (m k : Machine) → AreAlike m k → (n : ℕ) (cs : List ℕ) → AreChildren m n cs → AreChildren k n cs
children_of m k e n cs h c = ((λ q. (h c).0 (child_from m k e n c q)), (λ q. child_to m k e n c ((h c).1 q)))

stands_committed : (start m : Machine) (v : ℕ) (f : Flight) (cs : List ℕ) (p : Bool) → IsFlown m f.node v f → AreChildren m f.node cs
    → Stands start m → Stands start (committed m v f p)
stands_committed start m v f cs p mine children h =
    let here : AreChildren h.idle f.node cs = children_of m h.idle h.alike f.node cs children in
    let turn : IsATurn m h.idle v f cs p =
    commit_turns m h.idle v f cs p h.valid h.fair h.idle_valid h.is_idle h.alike mine (h.reads f.node v f mine) here in
    let well : IsTurnedWell h.idle f.node cs p = turned_well h.idle f.node cs p h.idle_valid h.is_idle turn.may in record {
      valid = valid_committed m v f p h.valid mine;
      fair = keeps_fair.commit m v f p h.valid h.fair mine;
      reads = stays_read.commit m v f p h.reads;
      sheltered = keeps_clear.commit m v f p h.valid h.fair mine h.sheltered;
      idle = turned_at h.idle f.node cs p;
      runs = turns h.idle (turned_at h.idle f.node cs p) f.node cs false h.runs turn.may here (commits_turn p);
      is_idle = well.is_idle;
      idle_valid = well.valid;
      alike = turn.alike;
    }

pub alike_raised : (m k : Machine) (q : ℕ) → AreAlike m k → AreAlike (raised m q) (raised k q)
alike_raised m k q e = record {
  live = e.live;
  parent = e.parent;
  run = e.run;
  commits = e.commits;
  number = ap (λ (f : ℕ → ℕ). with_at f q (f q + 1)) e.number;
  commit = e.commit;
  point = e.point;
  above = e.above;
  below = λ n d child. e.below n d (record { live = child.live; lower = child.lower; parent = child.parent });
}

stands_added : (start m : Machine) (v : ℕ) (f : Flight) (cs : List ℕ) (p : Bool) → IsFlown m f.node v f → AreChildren m f.node cs → 0 < f.node
    → Stands start m → Stands start (raised (committed m v f p) f.node)
stands_added start m v f cs p mine children low h =
    let here : AreChildren h.idle f.node cs = children_of m h.idle h.alike f.node cs children in
    let turn : IsATurn m h.idle v f cs p =
    commit_turns m h.idle v f cs p h.valid h.fair h.idle_valid h.is_idle h.alike mine (h.reads f.node v f mine) here in
    let well : IsTurnedWell h.idle f.node cs p = turned_well h.idle f.node cs p h.idle_valid h.is_idle turn.may in
    let b : Stands start (committed m v f p) = stands_committed start m v f cs p mine children h in
    let live : IsLive m f.node = h.valid.flown_live f.node v f mine in
    let r : Flight = read_by_each h.idle.number (first_flight h.idle f.node) cs in
    let t : Machine = turned_at h.idle f.node cs p in
    let P : ℕ → Type 0 = λ j. EndsTurn 0 (read_each (begun h.idle 0 f.node) (first_flight h.idle f.node) cs) r true (raised t j) in
    let ends : EndsTurn 0 (read_each (begun h.idle 0 f.node) (first_flight h.idle f.node) cs) r true (raised t f.node) =
    subst P well.node (adds_turn p (let q = well.node in omega arith)) in record {
      valid = valid_raised (committed m v f p) f.node b.valid;
      fair = keeps_fair.raise (committed m v f p) f.node b.fair;
      reads = stays_read.raise (committed m v f p) f.node (stays_read.free m v f p h.fair mine low) b.reads;
      sheltered = keeps_clear.raise (committed m v f p) f.node b.valid low live b.sheltered;
      idle = raised t f.node;
      runs = turns h.idle (raised t f.node) f.node cs true h.runs turn.may here ends;
      is_idle = well.is_idle;
      idle_valid = valid_raised t f.node well.valid;
      alike = alike_raised (committed m v f p) t f.node turn.alike;
    }

-- ---- one that leaves no last solve
alike_dropped : (m k : Machine) (v : ℕ) → AreAlike m k → AreAlike (dropped m v) (dropped k 0)
alike_dropped m k v e = record {
  live = e.live;
  parent = e.parent;
  run = e.run;
  commits = ap (λ (x : ℕ). x + 1) e.commits;
  number = e.number;
  commit = e.commit;
  point = e.point;
  above = e.above;
  below = λ n d child. e.below n d (record { live = child.live; lower = child.lower; parent = child.parent });
}

idle_dropped : (k : Machine) → IsIdle k → IsIdle (dropped k 0)
idle_dropped k idle = freed k (λ u ne. idle u)

sheltered_late : (m : Machine) (v : ℕ) (f : Flight) → m.flight v ≡ Some f → (f.run ≡ m.run → ⊥) → IsSheltered m → IsSheltered (dropped m v)
sheltered_late m v f has late h d a (u, (g, flown)) up may =
    h d a (u, (g, record { flight = flight_left m v u g flown.flight; run = flown.run; node = flown.node })) up
    (may_dropped m v f has a (λ r. absurd (late r)) may)

stands_dropped : (start m : Machine) (v : ℕ) → IsSheltered (dropped m v) → Stands start m → Stands start (dropped m v)
stands_dropped start m v sheltered h = record {
  valid = valid_dropped m v h.valid;
  fair = keeps_fair.drop m v h.fair;
  reads = stays_read.drop m v h.reads;
  sheltered = sheltered;
  idle = dropped h.idle 0;
  runs = turn_drops h.idle h.runs;
  is_idle = idle_dropped h.idle h.is_idle;
  idle_valid = valid_dropped h.idle 0 h.idle_valid;
  alike = alike_dropped m h.idle v h.alike;
}

-- with a cut that is added where no solve of the node above is in flight
stands_adding : (start m : Machine) (v n : ℕ) → 0 < n → IsLive m n → (IsFlying (dropped m v) (m.parent n) → ⊥)
    → Stands start (dropped m v) → (idle : Machine) → TurnRuns start idle → IsIdle idle → IsValid idle → AreAlike m idle
    → Stands start (raised (dropped m v) n)
stands_adding start m v n low live still b idle runs is_idle valid alike = record {
  valid = valid_raised (dropped m v) n b.valid;
  fair = keeps_fair.raise (dropped m v) n b.fair;
  reads = stays_read.raise (dropped m v) n still b.reads;
  sheltered = keeps_clear.raise (dropped m v) n b.valid low live b.sheltered;
  idle = raised (dropped idle 0) n;
  runs = turn_adds_late idle n runs low (ap (λ (l : ℕ → Bool). l n) alike.live ∙ live);
  is_idle = idle_dropped idle is_idle;
  idle_valid = valid_raised (dropped idle 0) n (valid_dropped idle 0 valid);
  alike = alike_raised (dropped m v) (dropped idle 0) n (alike_dropped m idle v alike);
}

stands_late : (start m : Machine) (v : ℕ) (f : Flight) → m.flight v ≡ Some f → (f.run ≡ m.run → ⊥) → 0 < f.node → IsLive m f.node
    → (IsFlying m (m.parent f.node) → ⊥) → Stands start m → Stands start (raised (dropped m v) f.node)
stands_late start m v f has late low live free h =
    let b : Stands start (dropped m v) = stands_dropped start m v (sheltered_late m v f has late h.sheltered) h in
    let still : IsFlying (dropped m v) (m.parent f.node) → ⊥ = λ (u, (g, flown)). free (
      u,
      (
        g,
        record {
          flight = flight_left m v u g flown.flight;
          run = flown.run;
          node = flown.node;
        },
      ),
    ) in stands_adding start m v f.node low live still b h.idle h.runs h.is_idle h.idle_valid h.alike

stands_dropping : (start m : Machine) (v : ℕ) (f : Flight) → IsFlown m f.node v f → 0 < f.node → Stands start m
    → Stands start (raised (dropped m v) f.node)
stands_dropping start m v f mine low h =
    let b : Stands start (dropped m v) = stands_dropped start m v (keeps_clear.drop m v f h.fair mine h.sheltered) h in
    let still : IsFlying (dropped m v) (m.parent f.node) → ⊥ = λ (u, (g, flown)). stays_read.free m v f true h.fair mine low (
      u,
      (
        g,
        record {
          flight = flown.flight;
          run = flown.run;
          node = flown.node;
        },
      ),
    ) in
    stands_adding start m v f.node low (h.valid.flown_live f.node v f mine) still b h.idle h.runs h.is_idle h.idle_valid h.alike

-- ---- an opening
closed_to : (m k : Machine) → AreAlike m k → IsClosed m → IsClosed k
closed_to m k e closed n live =
    let o : IsOpen m n = closed n (ap (λ (l : ℕ → Bool). l n) (sym e.live) ∙ live) in (fresh_to m k e n o.0, e.point n ∙ o.1)

stands_opened : (start m : Machine) (number : ℕ → ℕ) → IsClosed m → Stands start m → Stands start (opened m number)
stands_opened start m number closed h = record {
  valid = valid_opened m number h.valid;
  fair = keeps_fair.reopen m number h.valid;
  reads = stays_read.reopen m number h.valid;
  sheltered = keeps_clear.start (opened m number)
      (λ n (u, (g, flown)). let e = h.valid.earlier u g flown.flight in let r = flown.run in absurd (omega arith));
  idle = opened h.idle number;
  runs = turn_opens h.idle number h.runs (closed_to m h.idle h.alike closed);
  is_idle = h.is_idle;
  idle_valid = valid_opened h.idle number h.idle_valid;
  alike = record {
    live = h.alike.live;
    parent = h.alike.parent;
    run = ap (λ (x : ℕ). x + 1) h.alike.run;
    commits = h.alike.commits;
    number = refl;
    commit = λ n. refl;
    point = λ n. refl;
    above = λ n a up. refl;
    below = λ n c child. refl;
  };
}

-- ---- the run
stands : (start m : Machine) → IsValid start → IsIdle start → CrewRuns start m → Stands start m
stands start m valid idle no_event = record {
  valid = valid;
  fair = keeps_fair.idle start idle;
  reads = λ n v f flown. absurd (none_some f (sym (idle v) ∙ flown.flight));
  sheltered = keeps_clear.start start (λ n (v, (f, flown)). none_some f (sym (idle v) ∙ flown.flight));
  idle = start;
  runs = no_turn;
  is_idle = idle;
  idle_valid = valid;
  alike = record {
    live = refl;
    parent = refl;
    run = refl;
    commits = refl;
    number = refl;
    commit = λ n. refl;
    point = λ n. refl;
    above = λ n a up. refl;
    below = λ n c child. refl;
  };
}
stands start m' valid idle (begins m v n cs before free chosen children) =
    stands_begun start m v n cs free chosen children (stands start m valid idle before)
stands start m' valid idle (commits m v f cs p before mine children) =
    stands_committed start m v f cs p mine children (stands start m valid idle before)
stands start m' valid idle (adds m v f cs p before mine children low) =
    stands_added start m v f cs p mine children low (stands start m valid idle before)
stands start m' valid idle (drops m v f before mine) =
    let h : Stands start m = stands start m valid idle before in
    stands_dropped start m v (keeps_clear.drop m v f h.fair mine h.sheltered) h
stands start m' valid idle (drops_adding m v f before mine low) =
    stands_dropping start m v f mine low (stands start m valid idle before)
stands start m' valid idle (comes_late m v f before has late) =
    let h : Stands start m = stands start m valid idle before in stands_dropped start m v (sheltered_late m v f has late h.sheltered) h
stands start m' valid idle (adds_late m v f before has late low live free) =
    stands_late start m v f has late low live free (stands start m valid idle before)
stands start m' valid idle (opens m number before closed) = stands_opened start m number closed (stands start m valid idle before)

pub crews_turn : CrewsTakeTurns
crews_turn start m valid idle runs = let h : Stands start m = stands start m valid idle runs in
    record { idle = h.idle; runs = h.runs; is_idle = h.is_idle; alike = h.alike }
