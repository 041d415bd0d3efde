-- Rounds of several workers keep solves in flight apart.
use Rattle.std.proofs.Common.{◌≡◌, ℕ, ◌<◌, ◌⊎◌, inl, inr, Bool, true, false, cond, Some, None, refl, sym, ap, subst, ◌∙◌}
use Rattle.std.proofs.lemmas.Bool.{cases_eq}
use Rattle.pass_table.specs.Machine.{IsAbove, next, Flight, Machine, IsLive, IsFlown, IsFlying, MayBegin, IsFree, IsNext, IsValid, with_at, begun_waits, begun}
use Rattle.pass_table.specs.Machine.{dropped, committed, raised}
use Rattle.pass_table.proofs.Above.{above_above}
use Rattle.pass_table.proofs.Stale.{same_at, other_at, may_before, above_less}
use Rattle.pass_table.proofs.Events.{some_same, flight_left, flight_not, may_dropped, may_begun, may_raised}
use Rattle.crew_turns.specs.Clear.{SharePath, IsClear, IsFair}
use Rattle.crew_turns.specs.Rounds.{IsSheltered, RoundsKeepClear}

-- ---- next is clear
clear_next : (m : Machine) (n : ℕ) → IsSheltered m → IsNext m n → IsClear m n
clear_next m n h chosen k (inl same) flies = chosen.may.idle (subst (IsFlying m) (sym same) flies)
clear_next m n h chosen k (inr (inr up)) flies = chosen.above k up flies
clear_next m n h chosen k (inr (inl down)) flies = chosen.round (h k n flies down chosen.may) k flies

-- ---- a Begin
-- what flies behind it is the node, or flew before
flies_before : (m : Machine) (v n d : ℕ) → IsFlying (begun m v n) d → (d ≡ n) ⊎ IsFlying m d
flies_before m v n d (u, (g, h)) = go (cases_eq u v)
  where
    go : (u ≡ v) ⊎ (u ≡ v → ⊥) → (d ≡ n) ⊎ IsFlying m d
    go (inl same) = inl (sym h.node ∙ sym (ap (λ (f : Flight). f.node)
        (some_same (record { node = n; run = m.run; above = λ a. (m.last a).commit; below = λ c. 0 }) g (sym (same_at m.flight v _ u same) ∙ h.flight))))
    go (inr other) = inr (u, (g, record { flight = sym (other_at m.flight v _ u other) ∙ h.flight; run = h.run; node = h.node }))

begin_shelters : (m : Machine) (v n : ℕ) → IsValid m → m.flight v ≡ None → IsSheltered m → IsNext m n → IsSheltered (begun m v n)
begin_shelters m v n valid free h chosen d a flies up may = go (m.waits n) refl (m.waits a) refl (flies_before m v n d flies)
  where
    was : MayBegin m a
    was = may_begun m v n a free may

    over : d ≡ n → IsAbove m.parent a n
    over same = subst (λ (j : ℕ). IsAbove m.parent a j) same up

    -- a free node above the one that is begun would come before it
    less : IsAbove m.parent a n → a < n
    less higher = above_less m valid a n higher chosen.may.live

    at : IsAbove m.parent a n → IsFree m a
    at higher = record { may = was; above = λ b upper. chosen.above b (above_above m.parent b a n upper higher) }

    kept : m.waits n ≡ false → m.waits a ≡ true → begun_waits m.waits n a ≡ true
    kept f t = by (cases_eq a n)
      where
        Q : Bool → Type 0
        Q b = with_at (cond b (λ (j : ℕ). false) m.waits) n true a ≡ true

        by : (a ≡ n) ⊎ (a ≡ n → ⊥) → begun_waits m.waits n a ≡ true
        by (inl e) = same_at (cond (m.waits n) (λ (j : ℕ). false) m.waits) n true a e
        by (inr e) = subst Q (sym f) (other_at m.waits n true a e ∙ t)

    go : (b : Bool) → m.waits n ≡ b → (c : Bool) → m.waits a ≡ c → (d ≡ n) ⊎ IsFlying m d → begun_waits m.waits n a ≡ true
    go true e c q (inr flew) = absurd (chosen.round e d flew)
    go false e c q (inr flew) = kept e (h d a flew up was)
    go true e true q (inl same) = absurd (chosen.first a (inr (q ∙ sym e, less (over same))) (at (over same)))
    go true e false q (inl same) = absurd (chosen.first a (inl (q, e)) (at (over same)))
    go false e true q (inl same) = kept e q
    go false e false q (inl same) = absurd (chosen.first a (inr (q ∙ sym e, less (over same))) (at (over same)))

-- ---- the end of a solve
-- what flies behind it flew before, in another worker's flight
left_flying : (m : Machine) (v d : ℕ) (u : ℕ) (g : Flight) → with_at m.flight v None u ≡ Some g → g.run ≡ m.run → g.node ≡ d
    → IsFlown m d u g × (u ≡ v → ⊥)
left_flying m v d u g e run node = (record { flight = flight_left m v u g e; run = run; node = node }, flight_not m v u g e)

-- so it doesn't meet the node of the solve
apart_from : (m : Machine) (v d u : ℕ) (f g : Flight) → IsFair m → IsFlown m f.node v f → IsFlown m d u g → (u ≡ v → ⊥) → SharePath m f.node d → ⊥
apart_from m v d u f g fair mine other ne meets = ne (sym (fair.apart f.node d v u f g mine other meets))

commit_shelters : (m : Machine) (v : ℕ) (f : Flight) (p : Bool) → IsValid m → IsFair m → IsFlown m f.node v f → IsSheltered m
    → IsSheltered (committed m v f p)
commit_shelters m v f p valid fair mine h d a (u, (g, flown)) up may =
    let left = left_flying m v d u g flown.flight flown.run flown.node in
    let away : SharePath m f.node d → ⊥ = apart_from m v d u f g fair mine left.0 left.1 in
    h d a (u, (g, left.0)) up (may_before m valid v f p mine a
    (λ e. away (inr (inl (subst (λ (j : ℕ). IsAbove m.parent j d) e up))))
    (λ c. away (inr (inl (above_above m.parent f.node a d (next a c.lower c.parent) up)))) may)

drop_shelters : (m : Machine) (v : ℕ) (f : Flight) → IsFair m → IsFlown m f.node v f → IsSheltered m → IsSheltered (dropped m v)
drop_shelters m v f fair mine h d a (u, (g, flown)) up may =
    let left = left_flying m v d u g flown.flight flown.run flown.node in
    let away : SharePath m f.node d → ⊥ = apart_from m v d u f g fair mine left.0 left.1 in
    h d a (u, (g, left.0)) up (may_dropped m v f mine.flight a (λ r e. away (inr (inl (subst (λ (j : ℕ). IsAbove m.parent j d) e up)))) may)

-- ---- a rise
raise_shelters : (m : Machine) (q : ℕ) → IsValid m → 0 < q → IsLive m q → IsSheltered m → IsSheltered (raised m q)
raise_shelters m q valid low live h d a (u, (g, flown)) up may = go (cases_eq a (m.parent q))
  where
    go : (a ≡ m.parent q) ⊎ (a ≡ m.parent q → ⊥) → with_at m.waits (m.parent q) true a ≡ true
    go (inl e) = same_at m.waits (m.parent q) true a e
    go (inr e) = other_at m.waits (m.parent q) true a e
        ∙ h d a (u, (g, record { flight = flown.flight; run = flown.run; node = flown.node })) up (may_raised m valid q low live a e may)

pub keeps_clear : RoundsKeepClear
keeps_clear = record {
  clear = clear_next;
  start = λ m none d a flies up may. absurd (none d flies);
  begin = begin_shelters;
  commit = commit_shelters;
  drop = drop_shelters;
  raise = raise_shelters;
}
