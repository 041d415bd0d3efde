-- Rounds by the nodes that wait, and by a number.
use Rattle.std.proofs.Common.{◌≡◌, ℕ, ◌+◌, ◌≤◌, ◌<◌, ◌⊎◌, inl, inr, Bool, true, false, cond, Option, Some, None, List, [], ◌∷◌, arith, refl, sym, ap, subst, ◌∙◌}
use Rattle.std.proofs.lemmas.Bool.{cases_eq, cases_lt, false≢true}
use Rattle.pass_table.specs.Machine.{Flight, Machine, IsLive, IsFlown, MayBegin, ComesBefore, IsNext, IsValid, with_at, begun_waits, begun, read_by, read}
use Rattle.pass_table.specs.Machine.{dropped, committed, raised}
use Rattle.pass_table.proofs.Stale.{same_at, other_at, may_before}
use Rattle.pass_table.proofs.Events.{may_dropped, may_begun, may_raised}
use Rattle.pass_table.proofs.ReadLaws.{may_read}
use Rattle.pass_table.proofs.Valid.{valid_committed}
use Rattle.crew_turns.specs.Turn.{IsIdle, first_flight, read_by_each, read_each, EndsTurn, drops, commits, adds, TakesTurn}
use Rattle.crew_turns.specs.Order.{ComesFrom, IsNextFrom, GoesFrom, TurnsGoRound}
use Rattle.crew_turns.proofs.Turning.{AreReads, node_read, turn_reads, turn_flown, idle_free}

clash : (b : Bool) → b ≡ true → b ≡ false → ⊥
clash b t f = false≢true (sym f ∙ t)

-- ---- the same node is next
waits_not : (m : Machine) (from k : ℕ) → GoesFrom m from → from ≤ k → m.waits k ≡ false
waits_not m from k h late = go (m.waits k) refl
  where
    go : (b : Bool) → m.waits k ≡ b → m.waits k ≡ false
    go true t = absurd (omega (arith, h.low k t, late))
    go false f = f

next_to : (m : Machine) (from n : ℕ) → IsIdle m → GoesFrom m from → IsNext m n → IsNextFrom m from n
next_to m from n idle h next = record { may = next.may; first = λ k comes may. go k comes may (cases_lt n from) (cases_lt k from) }
  where
    go : (k : ℕ) → ComesFrom from k n → MayBegin m k → (n < from) ⊎ (from ≤ n) → (k < from) ⊎ (from ≤ k) → ⊥
    go k comes may (inl early) (inl low) = next.first k (inr (h.wait k may low ∙ sym (h.wait n next.may early), less comes)) (idle_free m k idle may)
      where
        less : ComesFrom from k n → k < n
        less (inl (late, which)) = absurd (omega (arith, late, low))
        less (inr (l, e)) = l
    go k comes may (inl early) (inr high) = next.first k (inl (waits_not m from k h high, h.wait n next.may early)) (idle_free m k idle may)
    go k (inl (late, inl less)) may (inr high) low = next.first k (inr (waits_not m from k h late ∙ sym (waits_not m from n h high), less)) (idle_free m k idle may)
    go k (inl (late, inr early)) may (inr high) low = absurd (omega (arith, early, high))
    go k (inr (less, early)) may (inr high) low = absurd (omega (arith, early, high))

next_from : (m : Machine) (from n : ℕ) → IsIdle m → GoesFrom m from → IsNextFrom m from n → IsNext m n
next_from m from n idle h next = record {
  may = next.may;
  above = (idle_free m n idle next.may).above;
  round = λ e k (w, (f, flown)). none_flown (m.flight w) f (idle w) flown.flight;
  first = λ k comes free. go k comes free.may (cases_lt n from) (cases_lt k from);
}
  where
    none_flown : (x : Option Flight) (f : Flight) → x ≡ None → x ≡ Some f → ⊥
    none_flown x f e d = cc

    go : (k : ℕ) → ComesBefore m.waits k n → MayBegin m k → (n < from) ⊎ (from ≤ n) → (k < from) ⊎ (from ≤ k) → ⊥
    go k (inl (now, wait)) may (inr high) low = clash (m.waits n) wait (waits_not m from n h high)
    go k (inl (now, wait)) may (inl early) (inl low) = clash (m.waits k) (h.wait k may low) now
    go k (inl (now, wait)) may (inl early) (inr high) = next.first k (inl (high, inr early)) may
    go k (inr (e, less)) may (inl early) low = next.first k (inr (less, early)) may
    go k (inr (e, less)) may (inr high) (inr late) = next.first k (inl (late, inl less)) may
    go k (inr (e, less)) may (inr high) (inl low) = clash (m.waits k) (h.wait k may low) (e ∙ waits_not m from n h high)

-- ---- the events
goes_begun : (m : Machine) (v from n : ℕ) → m.flight v ≡ None → IsNextFrom m from n → GoesFrom m from → GoesFrom (begun m v n) (n + 1)
goes_begun m v from n free next h = go (m.waits n) refl
  where
    less_than : (j : ℕ) → j < n + 1 → (j ≡ n → ⊥) → j < n
    less_than j l ne = omega (arith, l, ne)

    go : (b : Bool) → m.waits n ≡ b → GoesFrom (begun m v n) (n + 1)
    go true e = record {
      low = λ k t. by_low k (sym (here k) ∙ t) (cases_eq k n);
      wait = λ k may less. here k ∙ by_wait k may less (cases_eq k n);
    }
      where
        here : (k : ℕ) → begun_waits m.waits n k ≡ with_at (λ (j : ℕ). false) n true k
        here k = ap (λ (b : Bool). with_at (cond b (λ (j : ℕ). false) m.waits) n true k) e

        by_low : (k : ℕ) → with_at (λ (j : ℕ). false) n true k ≡ true → (k ≡ n) ⊎ (k ≡ n → ⊥) → k < n + 1
        by_low k t (inl q) = omega (arith, q)
        by_low k t (inr q) = absurd (clash _ t (other_at (λ (j : ℕ). false) n true k q))

        by_wait : (k : ℕ) → MayBegin (begun m v n) k → k < n + 1 → (k ≡ n) ⊎ (k ≡ n → ⊥) → with_at (λ (j : ℕ). false) n true k ≡ true
        by_wait k may less (inl q) = same_at (λ (j : ℕ). false) n true k q
        by_wait k may less (inr q) = absurd (next.first k (inr (less_than k less q, h.low n e)) (may_begun m v n k free may))
    go false e = record {
      low = λ k t. by_low k (sym (here k) ∙ t) (cases_eq k n);
      wait = λ k may less. here k ∙ by_wait k may less (cases_eq k n) (cases_lt k from);
    }
      where
        here : (k : ℕ) → begun_waits m.waits n k ≡ with_at m.waits n true k
        here k = ap (λ (b : Bool). with_at (cond b (λ (j : ℕ). false) m.waits) n true k) e

        late : from ≤ n
        late = at (cases_lt n from)
          where
            at : (n < from) ⊎ (from ≤ n) → from ≤ n
            at (inl early) = absurd (clash (m.waits n) (h.wait n next.may early) e)
            at (inr z) = z

        by_low : (k : ℕ) → with_at m.waits n true k ≡ true → (k ≡ n) ⊎ (k ≡ n → ⊥) → k < n + 1
        by_low k t (inl q) = omega (arith, q)
        by_low k t (inr q) = omega (arith, h.low k (sym (other_at m.waits n true k q) ∙ t), late)

        by_wait : (k : ℕ) → MayBegin (begun m v n) k → k < n + 1 → (k ≡ n) ⊎ (k ≡ n → ⊥) → (k < from) ⊎ (from ≤ k) → with_at m.waits n true k ≡ true
        by_wait k may less (inl q) place = same_at m.waits n true k q
        by_wait k may less (inr q) (inl early) = other_at m.waits n true k q ∙ h.wait k (may_begun m v n k free may) early
        by_wait k may less (inr q) (inr behind) = absurd (next.first k (inl (behind, inl (less_than k less q))) (may_begun m v n k free may))

goes_read : (m : Machine) (v from : ℕ) (f : Flight) (c : ℕ) → m.flight v ≡ Some f → GoesFrom m from → GoesFrom (read m v f c) from
goes_read m v from f c has h = record { low = h.low; wait = λ k may less. h.wait k (may_read m v f c k has may) less }

goes_reads : (m : Machine) (from : ℕ) (f : Flight) (cs : List ℕ) → m.flight 0 ≡ Some f → GoesFrom m from → GoesFrom (read_each m f cs) from
goes_reads m from f [] has h = h
goes_reads m from f (c ∷ cs) has h =
    goes_reads (read m 0 f c) from (read_by f c (m.number c)) cs (same_at m.flight 0 _ 0 refl) (goes_read m 0 from f c has h)

-- the node of the solve waits, and the round goes on behind it
goes_committed : (m : Machine) (v from : ℕ) (f : Flight) (p : Bool) → IsValid m → IsFlown m f.node v f → from ≡ f.node + 1
    → m.waits f.node ≡ true → GoesFrom m from → GoesFrom (committed m v f p) from
goes_committed m v from f p valid flown is waits h = record {
  low = h.low;
  wait = λ k may less. go k may less (cases_eq k f.node) (cases_eq (m.parent k) f.node) (cases_lt 0 k);
}
  where
    go : (k : ℕ) → MayBegin (committed m v f p) k → k < from → (k ≡ f.node) ⊎ (k ≡ f.node → ⊥) → (m.parent k ≡ f.node) ⊎ (m.parent k ≡ f.node → ⊥)
        → (0 < k) ⊎ (k ≤ 0) → m.waits k ≡ true
    go k may less (inl q) parent low = ap m.waits q ∙ waits
    go k may less (inr q) (inl parent) (inl low) = absurd (omega (arith, valid.lower k low may.live, parent, less, is, q))
    go k may less (inr q) (inl parent) (inr root) = h.wait k (may_before m valid v f p flown k q (λ c. omega (arith, c.lower, root)) may) less
    go k may less (inr q) (inr other) low = h.wait k (may_before m valid v f p flown k q (λ c. other c.parent) may) less

goes_dropped : (m : Machine) (v from : ℕ) (f : Flight) → m.flight v ≡ Some f → m.waits f.node ≡ true → GoesFrom m from → GoesFrom (dropped m v) from
goes_dropped m v from f has waits h = record {
  low = h.low;
  wait = λ k may less. go k may less (cases_eq k f.node);
}
  where
    go : (k : ℕ) → MayBegin (dropped m v) k → k < from → (k ≡ f.node) ⊎ (k ≡ f.node → ⊥) → m.waits k ≡ true
    go k may less (inl q) = ap m.waits q ∙ waits
    go k may less (inr q) = h.wait k (may_dropped m v f has k (λ _. q) may) less

goes_raised : (m : Machine) (q from : ℕ) → IsValid m → 0 < q → IsLive m q → m.parent q < from → GoesFrom m from → GoesFrom (raised m q) from
goes_raised m q from valid low live early h = record {
  low = λ k t. by_low k t (cases_eq k (m.parent q));
  wait = λ k may less. by_wait k may less (cases_eq k (m.parent q));
}
  where
    by_low : (k : ℕ) → with_at m.waits (m.parent q) true k ≡ true → (k ≡ m.parent q) ⊎ (k ≡ m.parent q → ⊥) → k < from
    by_low k t (inl e) = omega (arith, e, early)
    by_low k t (inr e) = h.low k (sym (other_at m.waits (m.parent q) true k e) ∙ t)

    by_wait : (k : ℕ) → MayBegin (raised m q) k → k < from → (k ≡ m.parent q) ⊎ (k ≡ m.parent q → ⊥) → with_at m.waits (m.parent q) true k ≡ true
    by_wait k may less (inl e) = same_at m.waits (m.parent q) true k e
    by_wait k may less (inr e) = other_at m.waits (m.parent q) true k e ∙ h.wait k (may_raised m valid q low live k e may) less

-- ---- a whole turn
goes_ends : (m : Machine) (from : ℕ) (f : Flight) (added : Bool) (k : Machine) → IsValid m → IsFlown m f.node 0 f → IsLive m f.node
    → from ≡ f.node + 1 → m.waits f.node ≡ true → GoesFrom m from → EndsTurn 0 m f added k → GoesFrom k from
goes_ends m from f added k valid flown live is waits h drops = goes_dropped m 0 from f flown.flight waits h
goes_ends m from f added k valid flown live is waits h (commits point) = goes_committed m 0 from f point valid flown is waits h
goes_ends m from f added k valid flown live is waits h (adds point low) =
    goes_raised (committed m 0 f point) f.node from (valid_committed m 0 f point valid flown) low live
    (omega (arith, valid.lower f.node low live, is)) (goes_committed m 0 from f point valid flown is waits h)

goes_turn : (m k : Machine) (from : ℕ) → IsValid m → IsIdle m → GoesFrom m from → (turn : TakesTurn m k) → IsNext m turn.node
    → GoesFrom k (turn.node + 1)
goes_turn m k from valid idle h turn next =
    let n : ℕ = turn.node in
    let c : List ℕ = turn.children in
    let x : Machine = read_each (begun m 0 n) (first_flight m n) c in
    let reads : AreReads (begun m 0 n) (first_flight m n) c x = turn_reads m n c valid idle turn.may in
    let f : Flight = read_by_each m.number (first_flight m n) c in
    let here : f.node ≡ n = node_read m.number (first_flight m n) c in
    let behind : GoesFrom x (n + 1) = goes_reads (begun m 0 n) (n + 1) (first_flight m n) c (same_at m.flight 0 _ 0 refl)
    (goes_begun m 0 from n (idle 0) (next_to m from n idle h next) h) in
    let live : IsLive x f.node = subst (IsLive x) (sym here) (ap (λ (l : ℕ → Bool). l n) reads.live ∙ turn.may.live) in
    let waits : x.waits f.node ≡ true = ap (λ (w : ℕ → Bool). w f.node) reads.waits ∙ same_at (cond (m.waits n) (λ (j : ℕ). false) m.waits) n true f.node here in
    goes_ends x (n + 1) f turn.added k reads.valid (turn_flown m n c x reads) live (ap (λ (j : ℕ). j + 1) (sym here)) waits behind turn.ends

goes_start : (m : Machine) → ((n : ℕ) → m.waits n ≡ false) → GoesFrom m 0
goes_start m none = record {
  low = λ k t. absurd (clash (m.waits k) t (none k));
  wait = λ k may less. absurd (omega (arith, less));
}

pub turns_round : TurnsGoRound
turns_round = record { start = goes_start; next = λ m from n idle h. (next_to m from n idle h, next_from m from n idle h); turn = goes_turn }
