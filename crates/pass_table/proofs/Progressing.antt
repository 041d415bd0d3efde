-- How many commits a stretch has: each but those of the solves that were in flight at its start is of another node.
use Rattle.std.proofs.Common.{◌≡◌, ℕ, ◌+◌, ◌<◌, ◌≤◌, ◌⊎◌, inl, inr, Bool, true, false, Option, Some, None, arith, refl, sym, ap, subst, ◌∙◌}
use Rattle.std.proofs.lemmas.Bool.{cases_eq, false≢true}
use Rattle.pass_table.specs.Machine.{Flight, Machine, IsLive, IsChild, IsFlown, MayBegin, with_at, begun, read_by, read, dropped, committed, IsValid, IsAbove, IsOpen}
use Rattle.pass_table.specs.Progress.{count_below, Stretch, empty, begins, reads, commits, drops, stops, IsBounded, WorkAddsCuts}
use Rattle.pass_table.proofs.Stale.{same_at, other_at}
use Rattle.pass_table.proofs.Events.{flight_left}
use Rattle.pass_table.proofs.Valid.{flight_or, started, valid_begun, valid_read, valid_committed, valid_dropped}
use Rattle.pass_table.proofs.CountBelow.{count_most, count_none, count_less, count_same, count_more}
use Rattle.pass_table.proofs.Steady.{Unread, IsKept, unbegun, kept_begun, new_begun, kept_read, kept_dropped, kept_committed}

-- ---- which workers have a solve in flight
abbrev flies : Option Flight → Bool
flies None = false
flies (Some f) = true

abbrev aloft : Machine → ℕ → Bool
aloft m worker = flies (m.flight worker)

aloft_begun : (m : Machine) (w n workers : ℕ) → w < workers → m.flight w ≡ None → count_below (aloft (begun m w n)) workers ≡ count_below (aloft m) workers + 1
aloft_begun m w n workers less free = count_more (aloft m) (aloft (begun m w n)) w workers less (ap flies free) (ap flies (same_at m.flight w (Some (started m n)) w refl)) (λ k ne. ap flies (sym (other_at m.flight w (Some (started m n)) k ne)))

aloft_read : (m : Machine) (w : ℕ) (f : Flight) (c workers : ℕ) → m.flight w ≡ Some f → count_below (aloft (read m w f c)) workers ≡ count_below (aloft m) workers
aloft_read m w f c workers has = count_same (aloft (read m w f c)) (aloft m) workers (λ k less. go k (cases_eq k w))
  where
    go : (k : ℕ) → (k ≡ w) ⊎ (k ≡ w → ⊥) → aloft (read m w f c) k ≡ aloft m k
    go k (inl e) = ap flies (same_at m.flight w (Some (read_by f c (m.number c))) k e) ∙ sym (ap flies (ap m.flight e ∙ has))
    go k (inr ne) = ap flies (other_at m.flight w (Some (read_by f c (m.number c))) k ne)

aloft_dropped : (m : Machine) (w : ℕ) (f : Flight) (workers : ℕ) → w < workers → m.flight w ≡ Some f → count_below (aloft m) workers ≡ count_below (aloft (dropped m w)) workers + 1
aloft_dropped m w f workers less has = count_more (aloft (dropped m w)) (aloft m) w workers less (ap flies (same_at m.flight w None w refl)) (ap flies has) (λ k ne. ap flies (other_at m.flight w None k ne))

-- ---- what holds after a stretch; `started_on` are the nodes that it has begun
record HasCome (start : Machine) (nodes workers : ℕ) (m : Machine) (unread : Unread) (stopped : Bool) (started_on : ℕ → Bool) : Type 0 where
  valid : IsValid m
  bounded : IsBounded m nodes workers
  same : m.live ≡ start.live
  count : m.commits + count_below (aloft m) workers ≡ start.commits + count_below (aloft start) workers + count_below started_on nodes
  live : (n : ℕ) → started_on n ≡ true → IsLive m n
  kept : stopped ≡ false → (n : ℕ) → started_on n ≡ true → IsKept m unread n

bool_cases : (b : Bool) → (b ≡ true) ⊎ (b ≡ false)
bool_cases true = inl refl
bool_cases false = inr refl

come_empty : (start : Machine) (nodes workers : ℕ) → IsValid start → IsBounded start nodes workers → HasCome start nodes workers start (λ w c. false) false (λ n. false)
come_empty start nodes workers valid bounded = record {
  valid = valid;
  bounded = bounded;
  same = refl;
  count = omega (arith, count_none (λ n. false) nodes (λ k. refl));
  live = λ n h. absurd (false≢true h);
  kept = λ e n h. absurd (false≢true h);
}

come_begun : (start : Machine) (nodes workers : ℕ) (m : Machine) (unread : Unread) (w n : ℕ) (on : ℕ → Bool) → w < workers → m.flight w ≡ None → MayBegin m n → ((a : ℕ) → IsAbove m.parent a n → IsOpen m a)
    → HasCome start nodes workers m unread false on → HasCome start nodes workers (begun m w n) (with_at unread w (λ c. true)) false (with_at on n true)
come_begun start nodes workers m unread w n on less free may opens come = record {
  valid = valid_begun m w n come.valid free may;
  bounded = record { live = come.bounded.live; flown = λ v g e. below v g (flight_or m w (started m n) v g e) };
  same = come.same;
  count = omega (arith, come.count, aloft_begun m w n workers less free, one);
  live = λ k h. alive k h (cases_eq k n);
  kept = λ e k h. kept k h (cases_eq k n);
}
  where
    below : (v : ℕ) (g : Flight) → ((v ≡ w) × (started m n ≡ g)) ⊎ ((v ≡ w → ⊥) × (m.flight v ≡ Some g)) → v < workers
    below v g (inl e) = omega (arith, less, e.0)
    below v g (inr e) = come.bounded.flown v g e.1

    off : (on n ≡ true) ⊎ (on n ≡ false) → on n ≡ false
    off (inl h) = absurd (unbegun m unread n may (come.kept refl n h))
    off (inr h) = h

    one : count_below (with_at on n true) nodes ≡ count_below on nodes + 1
    one = count_more on (with_at on n true) n nodes (come.bounded.live n may.live) (off (bool_cases (on n))) (same_at on n true n refl) (λ k ne. sym (other_at on n true k ne))

    alive : (k : ℕ) → with_at on n true k ≡ true → (k ≡ n) ⊎ (k ≡ n → ⊥) → IsLive m k
    alive k h (inl e) = subst (IsLive m) (sym e) may.live
    alive k h (inr ne) = come.live k (sym (other_at on n true k ne) ∙ h)

    kept : (k : ℕ) → with_at on n true k ≡ true → (k ≡ n) ⊎ (k ≡ n → ⊥) → IsKept (begun m w n) (with_at unread w (λ c. true)) k
    kept k h (inl e) = new_begun m unread w n k opens e
    kept k h (inr ne) = kept_begun m unread w n k free (come.kept refl k (sym (other_at on n true k ne) ∙ h))

come_read : (start : Machine) (nodes workers : ℕ) (m : Machine) (unread : Unread) (stopped : Bool) (w : ℕ) (f : Flight) (c : ℕ) (on : ℕ → Bool) → m.flight w ≡ Some f
    → HasCome start nodes workers m unread stopped on → HasCome start nodes workers (read m w f c) (with_at unread w (with_at (unread w) c false)) stopped on
come_read start nodes workers m unread stopped w f c on has come = record {
  valid = valid_read m w f c come.valid has;
  bounded = record { live = come.bounded.live; flown = λ v g e. below v g (flight_or m w (read_by f c (m.number c)) v g e) };
  same = come.same;
  count = omega (arith, come.count, aloft_read m w f c workers has);
  live = come.live;
  kept = λ e k h. kept_read m unread w f c k has (come.kept e k h);
}
  where
    below : (v : ℕ) (g : Flight) → ((v ≡ w) × (read_by f c (m.number c) ≡ g)) ⊎ ((v ≡ w → ⊥) × (m.flight v ≡ Some g)) → v < workers
    below v g (inl e) = omega (arith, come.bounded.flown w f has, e.0)
    below v g (inr e) = come.bounded.flown v g e.1

come_committed : (start : Machine) (nodes workers : ℕ) (m : Machine) (unread : Unread) (stopped : Bool) (w : ℕ) (f : Flight) (p : Bool) (on : ℕ → Bool) → IsFlown m f.node w f → ((c : ℕ) → IsChild m f.node c → unread w c ≡ false)
    → HasCome start nodes workers m unread stopped on → HasCome start nodes workers (committed m w f p) unread stopped on
come_committed start nodes workers m unread stopped w f p on flown whole come = record {
  valid = valid_committed m w f p come.valid flown;
  bounded = record { live = come.bounded.live; flown = λ v g e. come.bounded.flown v g (flight_left m w v g e) };
  same = come.same;
  count = omega (arith, come.count, aloft_dropped m w f workers (come.bounded.flown w f flown.flight) flown.flight);
  live = come.live;
  kept = λ e k h. kept_committed m unread w f p k come.valid flown whole (come.kept e k h);
}

come_dropped : (start : Machine) (nodes workers : ℕ) (m : Machine) (unread : Unread) (stopped after : Bool) (w : ℕ) (f : Flight) (on : ℕ → Bool) → m.flight w ≡ Some f
    → (after ≡ false → (stopped ≡ false) × (f.run ≡ m.run → ⊥)) → HasCome start nodes workers m unread stopped on → HasCome start nodes workers (dropped m w) unread after on
come_dropped start nodes workers m unread stopped after w f on has old come = record {
  valid = valid_dropped m w come.valid;
  bounded = record { live = come.bounded.live; flown = λ v g e. come.bounded.flown v g (flight_left m w v g e) };
  same = come.same;
  count = omega (arith, come.count, aloft_dropped m w f workers (come.bounded.flown w f has) has);
  live = come.live;
  kept = λ e k h. let o = old e in kept_dropped m unread w f k has o.1 (come.kept o.0 k h);
}

come : (workers : ℕ) (start : Machine) (nodes : ℕ) → IsValid start → IsBounded start nodes workers → (k : Machine) (unread : Unread) (stopped : Bool) → Stretch workers start k unread stopped
    → (on : ℕ → Bool) × HasCome start nodes workers k unread stopped on
come workers start nodes valid bounded k unread stopped empty = ((λ n. false), come_empty start nodes workers valid bounded)
come workers start nodes valid bounded k unread stopped (begins m u w n s less free may opens) =
    let h = come workers start nodes valid bounded m u false s in (with_at h.0 n true, come_begun start nodes workers m u w n h.0 less free may opens h.1)
come workers start nodes valid bounded k unread stopped (reads m u x w f c s has) =
    let h = come workers start nodes valid bounded m u x s in (h.0, come_read start nodes workers m u x w f c h.0 has h.1)
come workers start nodes valid bounded k unread stopped (commits m u x w f p s flown whole) =
    let h = come workers start nodes valid bounded m u x s in (h.0, come_committed start nodes workers m u x w f p h.0 flown whole h.1)
come workers start nodes valid bounded k unread stopped (drops m u x w f s has old) =
    let h = come workers start nodes valid bounded m u x s in (h.0, come_dropped start nodes workers m u x x w f h.0 has (λ e. (e, old)) h.1)
come workers start nodes valid bounded k unread stopped (stops m u x w f s flown) =
    let h = come workers start nodes valid bounded m u x s in (h.0, come_dropped start nodes workers m u x true w f h.0 flown.flight (λ e. absurd (false≢true (sym e))) h.1)

-- as many commits as live nodes and solves in flight at the start
pub within_aloft : (m k : Machine) (nodes workers : ℕ) (unread : Unread) (stopped : Bool) → IsValid m → IsBounded m nodes workers → Stretch workers m k unread stopped
    → k.commits ≤ m.commits + (count_below m.live nodes + count_below (aloft m) workers)
within_aloft m k nodes workers unread stopped valid bounded stretch =
    let h = come workers m nodes valid bounded k unread stopped stretch in
    omega (arith, h.1.count, count_less h.0 m.live nodes (λ n on. sym (ap (λ (f : ℕ → Bool). f n) h.1.same) ∙ h.1.live n on))

pub progress : WorkAddsCuts
progress = record {
  any = λ m k nodes workers unread stopped valid bounded stretch. omega (arith, within_aloft m k nodes workers unread stopped valid bounded stretch, count_most (aloft m) workers);
  from_idle = λ m k nodes workers unread stopped valid bounded idle stretch.
      omega (arith, within_aloft m k nodes workers unread stopped valid bounded stretch, count_none (aloft m) workers (λ w. ap flies (idle w)));
}
