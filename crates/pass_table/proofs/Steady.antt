-- Nodes that a stretch has begun: each is fresh below fresh nodes, or its solve is still in flight.
use Rattle.std.proofs.Common.{◌≡◌, ℕ, ◌⊎◌, inl, inr, Bool, true, false, Some, None, arith, refl, sym, ap, subst, ◌∙◌}
use Rattle.std.proofs.lemmas.Bool.{cases_eq, false≢true}
use Rattle.pass_table.specs.Machine.{IsAbove, Last, Flight, Machine, IsChild, IsFresh, IsFlown, IsOpen, MayBegin, with_at, begun, read_by, read, dropped, committed, IsValid}
use Rattle.pass_table.proofs.Above.{above_above}
use Rattle.pass_table.proofs.Stale.{same_at, other_at, last_by, above_less, fresh_on}
use Rattle.pass_table.proofs.Events.{some_same, none_some, fresh_begun, fresh_read, fresh_dropped}
use Rattle.pass_table.proofs.Valid.{started}

abbrev pub Unread : Type 0
Unread = ℕ → ℕ → Bool

-- fresh, and so is all above
pub record IsSteady (m : Machine) (n : ℕ) : Type 0 where
  pub fresh : IsFresh m n
  pub above : (a : ℕ) → IsAbove m.parent a n → IsFresh m a

-- its solve in flight has what is present of the nodes above, which are fresh, and of the pools that it has read
pub record IsYoung (m : Machine) (unread : Unread) (n worker : ℕ) (f : Flight) : Type 0 where
  pub flown : IsFlown m n worker f
  pub seen : (a : ℕ) → IsAbove m.parent a n → (m.last a).commit ≡ f.above a
  pub above : (a : ℕ) → IsAbove m.parent a n → IsFresh m a
  pub read : (c : ℕ) → unread worker c ≡ false → m.number c ≡ f.below c

abbrev pub IsKept : Machine → Unread → ℕ → Type 0
IsKept m unread n = IsSteady m n ⊎ ((worker : ℕ) × ((f : Flight) × IsYoung m unread n worker f))

-- ---- a Begin
pub unbegun : (m : Machine) (unread : Unread) (n : ℕ) → MayBegin m n → IsKept m unread n → ⊥
unbegun m unread n may (inl steady) = may.stale steady.fresh
unbegun m unread n may (inr (w, (f, young))) = may.idle (w, (f, young.flown))

pub kept_begun : (m : Machine) (unread : Unread) (w n k : ℕ) → m.flight w ≡ None → IsKept m unread k → IsKept (begun m w n) (with_at unread w (λ c. true)) k
kept_begun m unread w n k free (inl steady) = inl (record { fresh = fresh_begun m w n k steady.fresh; above = λ a up. fresh_begun m w n a (steady.above a up) })
kept_begun m unread w n k free (inr (v, (f, young))) = inr (
  v,
  (
    f,
    record {
      flown = record { flight = other_at m.flight w (Some (started m n)) v apart ∙ young.flown.flight; run = young.flown.run; node = young.flown.node };
      seen = young.seen;
      above = λ a up. fresh_begun m w n a (young.above a up);
      read = λ c e. young.read c (sym (ap (λ (u : ℕ → Bool). u c) (other_at unread w (λ d. true) v apart)) ∙ e);
    },
  ),
)
  where
    apart : v ≡ w → ⊥
    apart e = none_some f (sym free ∙ ap m.flight (sym e) ∙ young.flown.flight)

pub new_begun : (m : Machine) (unread : Unread) (w n k : ℕ) → ((a : ℕ) → IsAbove m.parent a n → IsOpen m a) → k ≡ n → IsKept (begun m w n) (with_at unread w (λ c. true)) k
new_begun m unread w n k opens e = inr (
  w,
  (
    started m n,
    record {
      flown = record { flight = same_at m.flight w (Some (started m n)) w refl; run = refl; node = sym e };
      seen = λ a up. refl;
      above = λ a up. fresh_begun m w n a (opens a (let P : ℕ → Type 0 = λ x. IsAbove m.parent a x in subst P e up)).0;
      read = λ c h. absurd (false≢true (sym h ∙ ap (λ (u : ℕ → Bool). u c) (same_at unread w (λ d. true) w refl)));
    },
  ),
)

-- ---- a Read
pub kept_read : (m : Machine) (unread : Unread) (w : ℕ) (f : Flight) (c k : ℕ) → m.flight w ≡ Some f → IsKept m unread k
    → IsKept (read m w f c) (with_at unread w (with_at (unread w) c false)) k
kept_read m unread w f c k has (inl steady) = inl (record { fresh = fresh_read m w f c k steady.fresh; above = λ a up. fresh_read m w f c a (steady.above a up) })
kept_read m unread w f c k has (inr (v, (g, young))) = inr (go (cases_eq v w))
  where
    other : (v ≡ w → ⊥) → IsYoung (read m w f c) (with_at unread w (with_at (unread w) c false)) k v g
    other ne = record {
      flown = record { flight = other_at m.flight w (Some (read_by f c (m.number c))) v ne ∙ young.flown.flight; run = young.flown.run; node = young.flown.node };
      seen = young.seen;
      above = λ a up. fresh_read m w f c a (young.above a up);
      read = λ d e. young.read d (sym (ap (λ (u : ℕ → Bool). u d) (other_at unread w (with_at (unread w) c false) v ne)) ∙ e);
    }

    -- the child that is read has the number that is present
    below : (d : ℕ) → v ≡ w → f ≡ g → with_at (unread w) c false d ≡ false → (d ≡ c) ⊎ (d ≡ c → ⊥) → m.number d ≡ with_at f.below c (m.number c) d
    below d e same h (inl at) = ap m.number at ∙ sym (same_at f.below c (m.number c) d at)
    below d e same h (inr ne) =
        let was : unread v d ≡ false = ap (λ x. unread x d) e ∙ sym (other_at (unread w) c false d ne) ∙ h in
        young.read d was ∙ ap (λ (x : Flight). x.below d) (sym same) ∙ sym (other_at f.below c (m.number c) d ne)

    own : (e : v ≡ w) → f ≡ g → IsYoung (read m w f c) (with_at unread w (with_at (unread w) c false)) k v (read_by f c (m.number c))
    own e same = record {
      flown = record { flight = same_at m.flight w (Some (read_by f c (m.number c))) v e; run = ap (λ (x : Flight). x.run) same ∙ young.flown.run; node = ap (λ (x : Flight). x.node) same ∙ young.flown.node };
      seen = λ a up. young.seen a up ∙ ap (λ (x : Flight). x.above a) (sym same);
      above = λ a up. fresh_read m w f c a (young.above a up);
      read = λ d h. below d e same (sym (ap (λ (u : ℕ → Bool). u d) (same_at unread w (with_at (unread w) c false) v e)) ∙ h) (cases_eq d c);
    }

    go : (v ≡ w) ⊎ (v ≡ w → ⊥) → (worker : ℕ) × ((x : Flight) × IsYoung (read m w f c) (with_at unread w (with_at (unread w) c false)) k worker x)
    go (inl e) = (v, (read_by f c (m.number c), own e (some_same f g (sym has ∙ ap m.flight (sym e) ∙ young.flown.flight))))
    go (inr ne) = (v, (g, other ne))

-- ---- a commit that leaves no last solve, of another worker's
pub kept_dropped : (m : Machine) (unread : Unread) (w : ℕ) (f : Flight) (k : ℕ) → m.flight w ≡ Some f → (f.run ≡ m.run → ⊥) → IsKept m unread k → IsKept (dropped m w) unread k
kept_dropped m unread w f k has old (inl steady) = inl (record { fresh = fresh_dropped m w k steady.fresh; above = λ a up. fresh_dropped m w a (steady.above a up) })
kept_dropped m unread w f k has old (inr (v, (g, young))) = inr (
  v,
  (
    g,
    record {
      flown = record { flight = other_at m.flight w None v apart ∙ young.flown.flight; run = young.flown.run; node = young.flown.node };
      seen = young.seen;
      above = λ a up. fresh_dropped m w a (young.above a up);
      read = young.read;
    },
  ),
)
  where
    apart : v ≡ w → ⊥
    apart e = let same : f ≡ g = some_same f g (sym has ∙ ap m.flight (sym e) ∙ young.flown.flight) in old (ap (λ (x : Flight). x.run) same ∙ young.flown.run)

-- ---- a commit of the present run
-- the committed node was stale, so it stands above no fresh one that has fresh ones above
pub not_above : (m : Machine) (w : ℕ) (f : Flight) (k : ℕ) → IsValid m → IsFlown m f.node w f → ((a : ℕ) → IsAbove m.parent a k → IsFresh m a) → IsAbove m.parent f.node k → ⊥
not_above m w f k valid flown above up = valid.flown_stale f.node w f flown (above f.node up)

-- what is fresh above a node that the committed one doesn't stand above stays so
pub fresh_above : (m : Machine) (w : ℕ) (f : Flight) (p : Bool) (k a : ℕ) → (IsAbove m.parent f.node k → ⊥) → IsAbove m.parent a k → IsFresh m a → IsFresh (committed m w f p) a
fresh_above m w f p k a off up fresh =
    fresh_on m w f p a (λ e. off (let P : ℕ → Type 0 = λ x. IsAbove m.parent x k in subst P e up)) (λ more. off (above_above m.parent f.node a k more up)) fresh

pub steady_committed : (m : Machine) (w : ℕ) (f : Flight) (p : Bool) (k : ℕ) → IsValid m → IsFlown m f.node w f → IsSteady m k → IsSteady (committed m w f p) k
steady_committed m w f p k valid flown steady = record {
  fresh = fresh_on m w f p k (λ e. valid.flown_stale f.node w f flown (subst (IsFresh m) e steady.fresh)) off steady.fresh;
  above = λ a up. fresh_above m w f p k a off up (steady.above a up);
}
  where
    off : IsAbove m.parent f.node k → ⊥
    off = not_above m w f k valid flown steady.above

commit_other : (m : Machine) (w : ℕ) (f : Flight) (p : Bool) (a : ℕ) → (a ≡ f.node → ⊥) → ((committed m w f p).last a).commit ≡ (m.last a).commit
commit_other m w f p a ne = ap (λ (x : Last). x.commit) (other_at m.last f.node (last_by m f p) a ne)

-- the node of a solve of the stretch is steady after its commit
pub made_steady : (m : Machine) (unread : Unread) (w : ℕ) (f : Flight) (p : Bool) → IsValid m → IsYoung m unread f.node w f → ((c : ℕ) → IsChild m f.node c → unread w c ≡ false) → IsSteady (committed m w f p) f.node
made_steady m unread w f p valid young whole = record {
  fresh = record {
    made = record {
      solved = omega (arith, ap (λ (x : Last). x.commit) last);
      above = λ a up. commit_other m w f p a (λ e. apart a up e) ∙ young.seen a up ∙ ap (λ (x : Last). x.above a) (sym last);
    };
    below = λ c child. young.read c (whole c (record { live = child.live; lower = child.lower; parent = child.parent })) ∙ ap (λ (x : Last). x.below c) (sym last);
  };
  above = λ a up. fresh_above m w f p f.node a (λ more. apart f.node more refl) up (young.above a up);
}
  where
    last : (committed m w f p).last f.node ≡ last_by m f p
    last = same_at m.last f.node (last_by m f p) f.node refl

    apart : (a : ℕ) → IsAbove m.parent a f.node → a ≡ f.node → ⊥
    apart a up e = omega (arith, e, above_less m valid a f.node up (valid.flown_live f.node w f young.flown))

-- another solve of the stretch is as before
pub young_committed : (m : Machine) (unread : Unread) (w : ℕ) (f : Flight) (p : Bool) (k v : ℕ) (g : Flight) → IsValid m → IsFlown m f.node w f → (v ≡ w → ⊥) → IsYoung m unread k v g → IsYoung (committed m w f p) unread k v g
young_committed m unread w f p k v g valid flown ne young = record {
  flown = record { flight = other_at m.flight w None v ne ∙ young.flown.flight; run = young.flown.run; node = young.flown.node };
  seen = λ a up. commit_other m w f p a (λ e. off (let P : ℕ → Type 0 = λ x. IsAbove m.parent x k in subst P e up)) ∙ young.seen a up;
  above = λ a up. fresh_above m w f p k a off up (young.above a up);
  read = young.read;
}
  where
    off : IsAbove m.parent f.node k → ⊥
    off = not_above m w f k valid flown young.above

pub kept_committed : (m : Machine) (unread : Unread) (w : ℕ) (f : Flight) (p : Bool) (k : ℕ) → IsValid m → IsFlown m f.node w f → ((c : ℕ) → IsChild m f.node c → unread w c ≡ false) → IsKept m unread k
    → IsKept (committed m w f p) unread k
kept_committed m unread w f p k valid flown whole (inl steady) = inl (steady_committed m w f p k valid flown steady)
kept_committed m unread w f p k valid flown whole (inr (v, (g, young))) = go (cases_eq v w)
  where
    own : v ≡ w → f ≡ g → IsYoung m unread f.node w f
    own e same = record {
      flown = flown;
      seen = λ a up. young.seen a (above a up) ∙ ap (λ (x : Flight). x.above a) (sym same);
      above = λ a up. young.above a (above a up);
      read = λ c h. young.read c (ap (λ x. unread x c) e ∙ h) ∙ ap (λ (x : Flight). x.below c) (sym same);
    }
      where
        above : (a : ℕ) → IsAbove m.parent a f.node → IsAbove m.parent a k
        above a up = let P : ℕ → Type 0 = λ x. IsAbove m.parent a x in subst P (ap (λ (x : Flight). x.node) same ∙ young.flown.node) up

    go : (v ≡ w) ⊎ (v ≡ w → ⊥) → IsKept (committed m w f p) unread k
    go (inl e) =
        let same : f ≡ g = some_same f g (sym flown.flight ∙ ap m.flight (sym e) ∙ young.flown.flight) in
        inl (subst (IsSteady (committed m w f p)) (ap (λ (x : Flight). x.node) same ∙ young.flown.node) (made_steady m unread w f p valid (own e same) whole))
    go (inr ne) = inr (v, (g, young_committed m unread w f p k v g valid flown ne young))
