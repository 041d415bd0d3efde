-- What the events keep of solves in flight side by side.
use Rattle.std.proofs.Common.{◌≡◌, ℕ, ◌<◌, ◌⊎◌, inl, inr, Bool, Some, None, arith, refl, sym, ap, subst, ◌∙◌}
use Rattle.std.proofs.lemmas.Bool.{cases_eq}
use Rattle.pass_table.specs.Machine.{IsAbove, Last, Flight, Machine, IsGood, IsFlown, MayBegin, IsValid, with_at, begun, read_by, read}
use Rattle.pass_table.specs.Machine.{dropped, committed, raised, opened}
use Rattle.pass_table.proofs.Above.{above_above}
use Rattle.pass_table.proofs.Stale.{same_at, other_at}
use Rattle.pass_table.proofs.Events.{some_same, none_some, flight_left, flight_not}
use Rattle.crew_turns.specs.Clear.{SharePath, IsClear, IsFair, EventsKeepFair}

meets_back : (m : Machine) (n k : ℕ) → SharePath m n k → SharePath m k n
meets_back m n k (inl e) = inl (sym e)
meets_back m n k (inr (inl up)) = inr (inr up)
meets_back m n k (inr (inr up)) = inr (inl up)

-- ---- a Begin
-- the worker's flight, and those of others
begun_mine : (m : Machine) (w n v : ℕ) (g : Flight) → (begun m w n).flight v ≡ Some g → v ≡ w
    → record { node = n; run = m.run; above = λ a. (m.last a).commit; below = λ c. 0 } ≡ g
begun_mine m w n v g e same = some_same _ g (sym (same_at m.flight w _ v same) ∙ e)

begun_other : (m : Machine) (w n k v : ℕ) (g : Flight) → IsFlown (begun m w n) k v g → (v ≡ w → ⊥) → IsFlown m k v g
begun_other m w n k v g h other = record { flight = sym (other_at m.flight w _ v other) ∙ h.flight; run = h.run; node = h.node }

begun_node : (m : Machine) (w n k v : ℕ) (g : Flight) → IsFlown (begun m w n) k v g → v ≡ w → n ≡ k
begun_node m w n k v g h same = ap (λ (f : Flight). f.node) (begun_mine m w n v g h.flight same) ∙ h.node

fair_begun : (m : Machine) (w n : ℕ) → IsFair m → MayBegin m n → IsClear m n → IsFair (begun m w n)
fair_begun m w n fair may clear = record {
  apart = λ i k v u f g one two meets. apart i k v u f g one two meets (cases_eq v w) (cases_eq u w);
  above = λ k v g h a up. seen k v g h a up (cases_eq v w);
  good = λ k v g h a up. good k v g h a up (cases_eq v w);
}
  where
    hits : (i k v u : ℕ) (f g : Flight) → IsFlown (begun m w n) i v f → IsFlown (begun m w n) k u g → SharePath m i k → v ≡ w → (u ≡ w → ⊥) → ⊥
    hits i k v u f g one two meets same other =
        let here : n ≡ i = begun_node m w n i v f one same in
        clear k (subst (λ (j : ℕ). SharePath m j k) (sym here) meets) (u, (g, begun_other m w n k u g two other))

    apart : (i k v u : ℕ) (f g : Flight) → IsFlown (begun m w n) i v f → IsFlown (begun m w n) k u g → SharePath m i k
        → (v ≡ w) ⊎ (v ≡ w → ⊥) → (u ≡ w) ⊎ (u ≡ w → ⊥) → v ≡ u
    apart i k v u f g one two meets (inl a) (inl b) = a ∙ sym b
    apart i k v u f g one two meets (inl a) (inr b) = absurd (hits i k v u f g one two meets a b)
    apart i k v u f g one two meets (inr a) (inl b) = absurd (hits k i u v g f two one (meets_back m i k meets) b a)
    apart i k v u f g one two meets (inr a) (inr b) =
        fair.apart i k v u f g (begun_other m w n i v f one a) (begun_other m w n k u g two b) meets

    seen : (k v : ℕ) (g : Flight) → IsFlown (begun m w n) k v g → (a : ℕ) → IsAbove m.parent a k → (v ≡ w) ⊎ (v ≡ w → ⊥)
        → g.above a ≡ (m.last a).commit
    seen k v g h a up (inl same) = ap (λ (f : Flight). f.above a) (sym (begun_mine m w n v g h.flight same))
    seen k v g h a up (inr other) = fair.above k v g (begun_other m w n k v g h other) a up

    good : (k v : ℕ) (g : Flight) → IsFlown (begun m w n) k v g → (a : ℕ) → IsAbove m.parent a k → (v ≡ w) ⊎ (v ≡ w → ⊥)
        → IsGood (begun m w n) a
    good k v g h a up (inl same) =
        let b : IsGood m a = may.above a (subst (λ (j : ℕ). IsAbove m.parent a j) (sym (begun_node m w n k v g h same)) up) in
        (record { solved = b.0.solved; above = b.0.above }, b.1)
    good k v g h a up (inr other) =
        let b : IsGood m a = fair.good k v g (begun_other m w n k v g h other) a up in (record { solved = b.0.solved; above = b.0.above }, b.1)

-- ---- a Read
-- the flights are of the same nodes and runs, and saw the same above
pub read_before : (m : Machine) (w : ℕ) (f : Flight) (c n v : ℕ) (g : Flight) → m.flight w ≡ Some f → IsFlown (read m w f c) n v g
    → (h : Flight) × (IsFlown m n v h × (h.above ≡ g.above))
read_before m w f c n v g has flown = go (cases_eq v w)
  where
    go : (v ≡ w) ⊎ (v ≡ w → ⊥) → (h : Flight) × (IsFlown m n v h × (h.above ≡ g.above))
    go (inl same) =
        let e : read_by f c (m.number c) ≡ g = some_same (read_by f c (m.number c)) g (sym (same_at m.flight w _ v same) ∙ flown.flight) in (
          f,
          (
            record {
              flight = ap m.flight same ∙ has;
              run = ap (λ (x : Flight). x.run) e ∙ flown.run;
              node = ap (λ (x : Flight). x.node) e ∙ flown.node;
            },
            ap (λ (x : Flight). x.above) e,
          ),
        )
    go (inr other) = (g, (record { flight = sym (other_at m.flight w _ v other) ∙ flown.flight; run = flown.run; node = flown.node }, refl))

fair_read : (m : Machine) (w : ℕ) (f : Flight) (c : ℕ) → IsFair m → m.flight w ≡ Some f → IsFair (read m w f c)
fair_read m w f c fair has = record {
  apart = λ n k v u g i one two meets.
      fair.apart n k v u (read_before m w f c n v g has one).0 (read_before m w f c k u i has two).0
      (read_before m w f c n v g has one).1.0 (read_before m w f c k u i has two).1.0 meets;
  above = λ n v g h a up. let b = read_before m w f c n v g has h in
      ap (λ (s : ℕ → ℕ). s a) (sym b.1.1) ∙ fair.above n v b.0 b.1.0 a up;
  good = λ n v g h a up. let b = read_before m w f c n v g has h in
      let q : IsGood m a = fair.good n v b.0 b.1.0 a up in (record { solved = q.0.solved; above = q.0.above }, q.1);
}

-- ---- a Commit
-- those that are left were there before, of other workers
left_before : (m : Machine) (w : ℕ) (n v : ℕ) (g : Flight) → with_at m.flight w None v ≡ Some g → g.run ≡ m.run → g.node ≡ n → IsFlown m n v g
left_before m w n v g e run node = record { flight = flight_left m w v g e; run = run; node = node }

fair_dropped : (m : Machine) (w : ℕ) → IsFair m → IsFair (dropped m w)
fair_dropped m w fair = record {
  apart = λ n k v u f g one two meets.
      fair.apart n k v u f g (left_before m w n v f one.flight one.run one.node) (left_before m w k u g two.flight two.run two.node) meets;
  above = λ n v g h a up. fair.above n v g (left_before m w n v g h.flight h.run h.node) a up;
  good = λ n v g h a up.
      let q : IsGood m a = fair.good n v g (left_before m w n v g h.flight h.run h.node) a up in (record { solved = q.0.solved; above = q.0.above }, q.1);
}

-- what is above a node with another solve in flight isn't the committed one, nor below it
fair_committed : (m : Machine) (w : ℕ) (f : Flight) (p : Bool) → IsFair m → IsFlown m f.node w f → IsFair (committed m w f p)
fair_committed m w f p fair mine = record {
  apart = λ n k v u g i one two meets.
      fair.apart n k v u g i (left_before m w n v g one.flight one.run one.node) (left_before m w k u i two.flight two.run two.node) meets;
  above = λ n v g h a up. fair.above n v g (was n v g h) a up ∙ ap (λ (l : Last). l.commit) (sym (last_same n v g h a up));
  good = λ n v g h a up. good n v g h a up;
}
  where
    was : (n v : ℕ) (g : Flight) → IsFlown (committed m w f p) n v g → IsFlown m n v g
    was n v g h = left_before m w n v g h.flight h.run h.node

    away : (n v : ℕ) (g : Flight) → IsFlown (committed m w f p) n v g → SharePath m f.node n → ⊥
    away n v g h meets = flight_not m w v g h.flight (sym (fair.apart f.node n w v f g mine (was n v g h) meets))

    other : (n v : ℕ) (g : Flight) → IsFlown (committed m w f p) n v g → (a : ℕ) → IsAbove m.parent a n → a ≡ f.node → ⊥
    other n v g h a up e = away n v g h (inr (inl (subst (λ (j : ℕ). IsAbove m.parent j n) e up)))

    last_same : (n v : ℕ) (g : Flight) → IsFlown (committed m w f p) n v g → (a : ℕ) → IsAbove m.parent a n
        → (committed m w f p).last a ≡ m.last a
    last_same n v g h a up = other_at m.last f.node _ a (other n v g h a up)

    good : (n v : ℕ) (g : Flight) → IsFlown (committed m w f p) n v g → (a : ℕ) → IsAbove m.parent a n → IsGood (committed m w f p) a
    good n v g h a up =
        let q : IsGood m a = fair.good n v g (was n v g h) a up in
        let e : (committed m w f p).last a ≡ m.last a = last_same n v g h a up in (
          record {
            solved = subst (λ (l : Last). 0 < l.commit) (sym e) q.0.solved;
            above = λ b upper. ap (λ (l : Last). l.commit) (last_same n v g h b (above_above m.parent b a n upper up)) ∙ q.0.above b upper
                ∙ ap (λ (l : Last). l.above b) (sym e);
          },
          ap (λ (l : Last). l.point) e ∙ q.1,
        )

-- ---- the others
fair_raised : (m : Machine) (pool : ℕ) → IsFair m → IsFair (raised m pool)
fair_raised m pool fair = record {
  apart = λ n k v u f g one two meets. fair.apart n k v u f g (same n v f one) (same k u g two) meets;
  above = λ n v g h a up. fair.above n v g (same n v g h) a up;
  good = λ n v g h a up. let q : IsGood m a = fair.good n v g (same n v g h) a up in (record { solved = q.0.solved; above = q.0.above }, q.1);
}
  where
    same : (n v : ℕ) (g : Flight) → IsFlown (raised m pool) n v g → IsFlown m n v g
    same n v g h = record { flight = h.flight; run = h.run; node = h.node }

fair_opened : (m : Machine) (number : ℕ → ℕ) → IsValid m → IsFair (opened m number)
fair_opened m number valid = record {
  apart = λ n k v u f g one two meets. absurd (late n v f one);
  above = λ n v g h a up. absurd (late n v g h);
  good = λ n v g h a up. absurd (late n v g h);
}
  where
    late : (n v : ℕ) (g : Flight) → IsFlown (opened m number) n v g → ⊥
    late n v g h = let e = valid.earlier v g h.flight in let r = h.run in omega arith

fair_idle : (m : Machine) → ((worker : ℕ) → m.flight worker ≡ None) → IsFair m
fair_idle m idle = record {
  apart = λ n k v u f g one two meets. absurd (none_some f (sym (idle v) ∙ one.flight));
  above = λ n v g h a up. absurd (none_some g (sym (idle v) ∙ h.flight));
  good = λ n v g h a up. absurd (none_some g (sym (idle v) ∙ h.flight));
}

pub keeps_fair : EventsKeepFair
keeps_fair = record {
  idle = fair_idle;
  begin = λ m w n valid fair free may clear. fair_begun m w n fair may clear;
  reads = fair_read;
  commit = λ m w f p valid fair mine. fair_committed m w f p fair mine;
  drop = fair_dropped;
  raise = fair_raised;
  reopen = fair_opened;
}
