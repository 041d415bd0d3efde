-- Turns that add no cut: those of the round that is under way, of one node each, and those behind it, which are a stretch of events.
use Rattle.std.proofs.Common.{◌≡◌, ℕ, zero, suc, ◌+◌, ◌*◌, ◌<◌, ◌≤◌, ◌⊎◌, inl, inr, Bool, true, false, cond, Option, Some, None, List, [], ◌∷◌, length, get_or, arith, refl, sym, ap, subst, ◌∙◌}
use Rattle.std.proofs.lemmas.Bool.{cases_eq, cases_lt, false≢true}
use Rattle.pass_table.specs.Machine.{IsAbove, Last, Flight, Machine, IsLive, IsChild, IsFresh, IsOpen, IsFlown, MayBegin, IsValid, with_at, begun_waits, begun, read_by, read, committed}
use Rattle.pass_table.specs.Progress.{count_below, Stretch, empty, begins, reads, commits}
use Rattle.pass_table.proofs.Stale.{same_at, other_at, above_live, above_less, may_before}
use Rattle.pass_table.proofs.Above.{above_above}
use Rattle.pass_table.proofs.Agree.{fresh_told}
use Rattle.pass_table.proofs.Events.{may_begun}
use Rattle.pass_table.proofs.ReadLaws.{may_read}
use Rattle.pass_table.proofs.CountBelow.{count_less, count_more}
use Rattle.pass_table.proofs.Progressing.{progress}
use Rattle.pass_table.proofs.Valid.{valid_committed}
use Rattle.crew_turns.specs.Turn.{IsIdle, first_flight, read_by_each, read_each}
use Rattle.crew_turns.specs.Work.{TakesVainTurn, VainTurns, none, more}
use Rattle.crew_turns.proofs.Turning.{AreReads, node_read, below_read, turn_reads, turn_flown, idle_free, freed, begun_others}

-- ---- Reads
-- a stretch goes on by Reads of these pools by the worker's solve, which has none of them left to read
record ReadsOn (start m : Machine) (f : Flight) (cs : List ℕ) (unread : ℕ → ℕ → Bool) : Type 0 where
  left : ℕ → ℕ → Bool
  stretch : Stretch 1 start (read_each m f cs) left false
  keeps : (d : ℕ) → unread 0 d ≡ false → left 0 d ≡ false
  read_all : (d i : ℕ) → i < length cs → get_or cs i d ≡ d → left 0 d ≡ false

after_read : (unread : ℕ → ℕ → Bool) (c d : ℕ) → with_at unread 0 (with_at (unread 0) c false) 0 d ≡ with_at (unread 0) c false d
after_read unread c d = ap (λ (h : ℕ → Bool). h d) (same_at unread 0 (with_at (unread 0) c false) 0 refl)

read_self : (unread : ℕ → ℕ → Bool) (c : ℕ) → with_at unread 0 (with_at (unread 0) c false) 0 c ≡ false
read_self unread c = after_read unread c c ∙ same_at (unread 0) c false c refl

read_keeps : (unread : ℕ → ℕ → Bool) (c d : ℕ) → unread 0 d ≡ false → with_at unread 0 (with_at (unread 0) c false) 0 d ≡ false
read_keeps unread c d e = go (cases_eq d c)
  where
    go : (d ≡ c) ⊎ (d ≡ c → ⊥) → with_at unread 0 (with_at (unread 0) c false) 0 d ≡ false
    go (inl same) = after_read unread c d ∙ same_at (unread 0) c false d same
    go (inr ne) = after_read unread c d ∙ other_at (unread 0) c false d ne ∙ e

reads_on : (start m : Machine) (f : Flight) (cs : List ℕ) (unread : ℕ → ℕ → Bool) → Stretch 1 start m unread false → m.flight 0 ≡ Some f
    → ReadsOn start m f cs unread
reads_on start m f [] unread s has =
    record { left = unread; stretch = s; keeps = λ d e. e; read_all = λ d i less e. absurd (omega (arith, less)) }
reads_on start m f (c ∷ cs) unread s has =
    let next : ℕ → ℕ → Bool = with_at unread 0 (with_at (unread 0) c false) in
    let rest = reads_on start (read m 0 f c) (read_by f c (m.number c)) cs next (reads m unread false 0 f c s has) (same_at m.flight 0 _ 0 refl) in
    record {
      left = rest.left;
      stretch = rest.stretch;
      keeps = λ d e. rest.keeps d (read_keeps unread c d e);
      read_all = λ d i less e. by_place rest.left rest.keeps rest.read_all d i less e;
    }
  where
    by_place : (left : ℕ → ℕ → Bool) → ((d : ℕ) → with_at unread 0 (with_at (unread 0) c false) 0 d ≡ false → left 0 d ≡ false)
        → ((d i : ℕ) → i < length cs → get_or cs i d ≡ d → left 0 d ≡ false)
        → (d i : ℕ) → i < length (c ∷ cs) → get_or (c ∷ cs) i d ≡ d → left 0 d ≡ false
    by_place left keeps read_all d zero less e = keeps d (subst (λ (x : ℕ). with_at unread 0 (with_at (unread 0) c false) 0 x ≡ false) e (read_self unread c))
    by_place left keeps read_all d (suc i) less e = read_all d i (omega (arith, less)) e

-- ---- turns
-- all nodes above are open
abbrev BelowOpen : Machine → ℕ → Type 0
BelowOpen m n = (a : ℕ) → IsAbove m.parent a n → IsOpen m a

-- no node below this number may be begun
abbrev IsSwept : Machine → ℕ → Type 0
IsSwept m n = (k : ℕ) → k < n → MayBegin m k → ⊥

none_flown : (x : Option Flight) (f : Flight) → x ≡ None → x ≡ Some f → ⊥
none_flown x f e d = cc

-- so the nodes above the one that is begun are open
below_open : (m : Machine) (n : ℕ) → IsValid m → IsIdle m → MayBegin m n → IsSwept m n → BelowOpen m n
below_open m n valid idle may swept a up = (fresh_told m a (λ stale. swept a (above_less m valid a n up may.live) (begins_too stale)), (may.above a up).1)
  where
    begins_too : (IsFresh m a → ⊥) → MayBegin m a
    begins_too stale = record {
      live = above_live m valid a n up may.live;
      stale = stale;
      idle = λ (w, (f, flown)). none_flown (m.flight w) f (idle w) flown.flight;
      above = λ b more. may.above b (above_above m.parent b a n more up);
    }

-- Reads let nothing be begun
may_read_each : (m : Machine) (f : Flight) (cs : List ℕ) (k : ℕ) → m.flight 0 ≡ Some f → MayBegin (read_each m f cs) k → MayBegin m k
may_read_each m f [] k has may = may
may_read_each m f (c ∷ cs) k has may =
    may_read m 0 f c k has (may_read_each (read m 0 f c) (read_by f c (m.number c)) cs k (same_at m.flight 0 _ 0 refl) may)

above_read : (number : ℕ → ℕ) (f : Flight) (cs : List ℕ) → (read_by_each number f cs).above ≡ f.above
above_read number f [] = refl
above_read number f (c ∷ cs) = above_read number (read_by f c (number c)) cs

-- what stands behind a turn that adds no cut
record IsBehind (m k : Machine) (n : ℕ) : Type 0 where
  live : k.live ≡ m.live
  waits : k.waits ≡ begun_waits m.waits n
  node : IsLive m n
  valid : IsValid k
  idle : IsIdle k
  swept : IsSwept m n → IsSwept k (n + 1)

behind : (m k : Machine) → IsValid m → IsIdle m → (turn : TakesVainTurn m k) → IsBehind m k turn.node
behind m k valid idle turn = subst (λ (x : Machine). IsBehind m x turn.node) (sym turn.is) (record {
  live = all.live;
  waits = all.waits;
  node = turn.next.may.live;
  valid = valid_committed reached 0 flight turn.point all.valid flown;
  idle = freed reached (λ w ne. all.others w ne ∙ begun_others m turn.node w idle ne);
  swept = λ swept j less may. by_number swept j less may (cases_eq j turn.node);
})
  where
    flight : Flight
    flight = read_by_each m.number (first_flight m turn.node) turn.children

    reached : Machine
    reached = read_each (begun m 0 turn.node) (first_flight m turn.node) turn.children

    after : Machine
    after = committed reached 0 flight turn.point

    all : AreReads (begun m 0 turn.node) (first_flight m turn.node) turn.children reached
    all = turn_reads m turn.node turn.children valid idle turn.next.may

    flown : IsFlown reached flight.node 0 flight
    flown = turn_flown m turn.node turn.children reached all

    same : flight.node ≡ turn.node
    same = node_read m.number (first_flight m turn.node) turn.children

    solve : Last
    solve = record { commit = reached.commits + 1; point = turn.point; above = flight.above; below = flight.below }

    here : after.last flight.node ≡ solve
    here = same_at reached.last flight.node solve flight.node refl

    child_of : (c : ℕ) → IsChild after flight.node c → IsChild m turn.node c
    child_of c h = record {
      live = ap (λ (l : ℕ → Bool). l c) (sym all.live) ∙ h.live;
      lower = h.lower;
      parent = ap (λ (p : ℕ → ℕ). p c) (sym all.parent) ∙ h.parent ∙ same;
    }

    -- the node is fresh
    fresh : IsFresh after flight.node
    fresh = record {
      made = record {
        solved = omega (arith, ap (λ (x : Last). x.commit) here);
        above = λ a up.
            ap (λ (x : Last). x.commit) (other_at reached.last flight.node solve a (λ e. omega (arith, e, above_less reached all.valid a flight.node up alive)))
            ∙ ap (λ (l : ℕ → Last). (l a).commit) all.last ∙ ap (λ (x : ℕ → ℕ). x a) (sym (above_read m.number (first_flight m turn.node) turn.children))
            ∙ ap (λ (x : Last). x.above a) (sym here);
      };
      below = λ c h. let at = (turn.are_children c).0 (child_of c h) in
          ap (λ (x : ℕ → ℕ). x c) all.number ∙ sym (below_read m.number (first_flight m turn.node) turn.children c at.0 at.1 at.2) ∙ ap (λ (x : Last). x.below c) (sym here);
    }
      where
        alive : IsLive reached flight.node
        alive = all.valid.flown_live flight.node 0 flight flown

    -- what may be begun behind the turn, and is less, may be begun before
    before : (j : ℕ) → j < turn.node → MayBegin after j → MayBegin m j
    before j less may =
        may_begun m 0 turn.node j (idle 0) (may_read_each (begun m 0 turn.node) (first_flight m turn.node) turn.children j (same_at m.flight 0 _ 0 refl)
        (may_before reached all.valid 0 flight turn.point flown j (λ e. omega (arith, less, e, same)) (λ child. apart child) may))
      where
        apart : IsChild reached flight.node j → ⊥
        apart child = omega (arith, less, all.valid.lower j child.lower child.live, child.parent, same)

    by_number : IsSwept m turn.node → (j : ℕ) → j < turn.node + 1 → MayBegin after j → (j ≡ turn.node) ⊎ (j ≡ turn.node → ⊥) → ⊥
    by_number swept j less may (inl e) = may.stale (subst (IsFresh after) (same ∙ sym e) fresh)
    by_number swept j less may (inr ne) = let low : j < turn.node = omega (arith, less, ne) in swept j low (before j low may)

-- a stretch of so many commits leads to a valid machine without a solve in flight
record GoesOn (m k : Machine) (turns : ℕ) : Type 0 where
  unread : ℕ → ℕ → Bool
  stretch : Stretch 1 m k unread false
  valid : IsValid k
  idle : IsIdle k
  count : k.commits ≡ m.commits + turns

one_more : (start m k : Machine) (turns : ℕ) → GoesOn start m turns → (turn : TakesVainTurn m k) → BelowOpen m turn.node → GoesOn start k (turns + 1)
one_more start m k turns before turn opens = subst (λ (x : Machine). GoesOn start x (turns + 1)) (sym turn.is) (record {
  unread = on.left;
  stretch = commits at on.left false 0 flight turn.point on.stretch flown (λ c child. whole c child);
  valid = valid_committed at 0 flight turn.point all.valid flown;
  idle = freed at (λ w ne. all.others w ne ∙ begun_others m turn.node w before.idle ne);
  count = omega (arith, before.count, all.commits);
})
  where
    flight : Flight
    flight = read_by_each m.number (first_flight m turn.node) turn.children

    at : Machine
    at = read_each (begun m 0 turn.node) (first_flight m turn.node) turn.children

    all : AreReads (begun m 0 turn.node) (first_flight m turn.node) turn.children at
    all = turn_reads m turn.node turn.children before.valid before.idle turn.next.may

    flown : IsFlown at flight.node 0 flight
    flown = turn_flown m turn.node turn.children at all

    on : ReadsOn start (begun m 0 turn.node) (first_flight m turn.node) turn.children (with_at before.unread 0 (λ c. true))
    on = reads_on start (begun m 0 turn.node) (first_flight m turn.node) turn.children (with_at before.unread 0 (λ c. true))
        (begins m before.unread 0 turn.node before.stretch (omega arith) (before.idle 0) turn.next.may opens) (same_at m.flight 0 _ 0 refl)

    child_of : (c : ℕ) → IsChild at flight.node c → IsChild m turn.node c
    child_of c h = record {
      live = ap (λ (l : ℕ → Bool). l c) (sym all.live) ∙ h.live;
      lower = h.lower;
      parent = ap (λ (p : ℕ → ℕ). p c) (sym all.parent) ∙ h.parent ∙ node_read m.number (first_flight m turn.node) turn.children;
    }

    whole : (c : ℕ) → IsChild at flight.node c → on.left 0 c ≡ false
    whole c h = let here = (turn.are_children c).0 (child_of c h) in on.read_all c here.0 here.1 here.2

-- the live nodes that wait
abbrev WaitsAlive : Machine → Machine → ℕ → Bool
WaitsAlive start m k = cond (m.waits k) (start.live k) false

waits_most : (start m : Machine) (nodes : ℕ) → count_below (WaitsAlive start m) nodes ≤ count_below start.live nodes
waits_most start m nodes = count_less (WaitsAlive start m) start.live nodes (λ j h. alive (m.waits j) (start.live j) h)
  where
    alive : (a b : Bool) → cond a b false ≡ true → b ≡ true
    alive true b h = h
    alive false b h = absurd (false≢true h)

-- how turns that add no cut have gone on: within the round that was under way, each of another node, which waits from then on; or a whole
-- round has begun since, and goes on from this number
data HasGone (start : Machine) (nodes : ℕ) : ℕ → Machine → Type 0 where
  in_round : (turns : ℕ) (m : Machine) → turns ≤ count_below (WaitsAlive start m) nodes → HasGone start nodes turns m
  behind_it : (turns since from : ℕ) (j m : Machine) → turns ≤ count_below start.live nodes → j.live ≡ start.live → IsValid j → IsIdle j → IsSwept m from
      → ((k : ℕ) → m.waits k ≡ true → k < from) → GoesOn j m since → HasGone start nodes (turns + since) m

record Goes (start : Machine) (nodes turns : ℕ) (m : Machine) : Type 0 where
  valid : IsValid m
  idle : IsIdle m
  live : m.live ≡ start.live
  gone : HasGone start nodes turns m

step : (start : Machine) (nodes : ℕ) → ((n : ℕ) → IsLive start n → n < nodes) → (turns : ℕ) (m k : Machine) → Goes start nodes turns m → TakesVainTurn m k
    → Goes start nodes (turns + 1) k
step start nodes within turns m k goes turn = record {
  valid = to.valid;
  idle = to.idle;
  live = to.live ∙ goes.live;
  gone = by_gone turns goes.gone;
}
  where
    to : IsBehind m k turn.node
    to = behind m k goes.valid goes.idle turn

    n : ℕ
    n = turn.node

    live_at : start.live n ≡ true
    live_at = ap (λ (l : ℕ → Bool). l n) (sym goes.live) ∙ to.node

    waits_at : (b : Bool) → m.waits n ≡ b → (j : ℕ) → k.waits j ≡ with_at (cond b (λ x. false) m.waits) n true j
    waits_at b e j = ap (λ (w : ℕ → Bool). w j) to.waits ∙ ap (λ x. with_at (cond x (λ y. false) m.waits) n true j) e

    -- the node that begins a round is the first of all
    swept_round : m.waits n ≡ true → IsSwept m n
    swept_round e j less may = go (m.waits j) refl
      where
        go : (b : Bool) → m.waits j ≡ b → ⊥
        go true t = turn.next.first j (inr (t ∙ sym e, less)) (idle_free m j goes.idle may)
        go false f = turn.next.first j (inl (f, e)) (idle_free m j goes.idle may)

    begin_round : (turns : ℕ) → turns ≤ count_below start.live nodes → m.waits n ≡ true → HasGone start nodes (turns + 1) k
    begin_round turns few e = behind_it turns 1 (n + 1) m k few goes.live goes.valid goes.idle (to.swept (swept_round e)) low
        (one_more m m k 0 (record { unread = λ w c. false; stretch = empty; valid = goes.valid; idle = goes.idle; count = omega arith }) turn
        (below_open m n goes.valid goes.idle turn.next.may (swept_round e)))
      where
        low : (j : ℕ) → k.waits j ≡ true → j < n + 1
        low j t = go (cases_eq j n)
          where
            go : (j ≡ n) ⊎ (j ≡ n → ⊥) → j < n + 1
            go (inl same) = omega (arith, same)
            go (inr ne) = absurd (false≢true (sym (other_at (λ (x : ℕ). false) n true j ne) ∙ sym (waits_at true e j) ∙ t))

    -- one more node waits
    one_waits : m.waits n ≡ false → count_below (WaitsAlive start k) nodes ≡ count_below (WaitsAlive start m) nodes + 1
    one_waits e = count_more (WaitsAlive start m) (WaitsAlive start k) n nodes (within n live_at)
        (ap (λ b. cond b (start.live n) false) e)
        (ap (λ b. cond b (start.live n) false) (waits_at false e n ∙ same_at m.waits n true n refl) ∙ live_at)
        (λ j ne. ap (λ b. cond b (start.live j) false) (sym (waits_at false e j ∙ other_at m.waits n true j ne)))

    by_gone : (turns : ℕ) → HasGone start nodes turns m → HasGone start nodes (turns + 1) k
    by_gone t (in_round turns i few) = go (m.waits n) refl
      where
        go : (b : Bool) → m.waits n ≡ b → HasGone start nodes (turns + 1) k
        go true e = begin_round turns (omega (arith, few, waits_most start m nodes)) e
        go false e = in_round (turns + 1) k (omega (arith, few, one_waits e))
    by_gone t (behind_it first since from j i few same valid idle swept low on) = subst (λ (t : ℕ). HasGone start nodes t k) (omega arith)
        (behind_it first (since + 1) (n + 1) j k few same valid idle (to.swept here) low_on (one_more j m k since on turn (below_open m n goes.valid goes.idle turn.next.may here)))
      where
        late : from ≤ n
        late = go (cases_lt n from)
          where
            go : (n < from) ⊎ (from ≤ n) → from ≤ n
            go (inl early) = absurd (swept n early turn.next.may)
            go (inr z) = z

        off : (x : ℕ) → from ≤ x → m.waits x ≡ false
        off x high = go (m.waits x) refl
          where
            go : (b : Bool) → m.waits x ≡ b → m.waits x ≡ false
            go true t = absurd (omega (arith, low x t, high))
            go false f = f

        here : IsSwept m n
        here x less may = go (cases_lt x from)
          where
            go : (x < from) ⊎ (from ≤ x) → ⊥
            go (inl early) = swept x early may
            go (inr high) = turn.next.first x (inr (off x high ∙ sym (off n late), less)) (idle_free m x goes.idle may)

        low_on : (x : ℕ) → k.waits x ≡ true → x < n + 1
        low_on x t = go (cases_eq x n)
          where
            go : (x ≡ n) ⊎ (x ≡ n → ⊥) → x < n + 1
            go (inl e) = omega (arith, e)
            go (inr ne) = omega (arith, late, low x (sym (other_at m.waits n true x ne) ∙ sym (waits_at false (off n late) x) ∙ t))

have_gone : (m : Machine) (nodes : ℕ) → IsValid m → IsIdle m → ((n : ℕ) → IsLive m n → n < nodes) → (k : Machine) (turns : ℕ) → VainTurns m turns k → Goes m nodes turns k
have_gone m nodes valid idle within k turns none =
    record { valid = valid; idle = idle; live = refl; gone = in_round 0 m (omega arith) }
have_gone m nodes valid idle within k turns (more before j l all turn) = step m nodes within before j l (have_gone m nodes valid idle within j before all) turn

pub turns_add_cuts : (m k : Machine) (turns nodes : ℕ) → IsValid m → IsIdle m → ((n : ℕ) → IsLive m n → n < nodes) → VainTurns m turns k
    → turns ≤ 2 * count_below m.live nodes
turns_add_cuts m k turns nodes valid idle live all = by_gone turns k (have_gone m nodes valid idle live k turns all).gone
  where
    by_gone : (turns : ℕ) (k : Machine) → HasGone m nodes turns k → turns ≤ 2 * count_below m.live nodes
    by_gone t i (in_round turns k few) = omega (arith, few, waits_most m k nodes)
    by_gone t i (behind_it first since from j k few same valid' idle' swept low on) =
        let bound = progress.from_idle j k nodes 1 on.unread false valid' (record { live = λ n h. live n (ap (λ (l : ℕ → Bool). l n) (sym same) ∙ h); flown = λ w f e. absurd (none_flown (j.flight w) f (idle' w) e) }) idle' on.stretch in
        omega (arith, few, bound, on.count, ap (λ (l : ℕ → Bool). count_below l nodes) same)
