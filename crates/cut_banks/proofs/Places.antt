-- What a change of one pool leaves, by the place that is read and written.
use Rattle.std.proofs.Common.{◌≡◌, ℕ, zero, suc, ◌<◌, ◌≤◌, Bool, true, false, List, [], ◌∷◌, length, get_or, set, take, drop, ◌++◌, Some, None}
use Rattle.std.proofs.Common.{slice_get, refl, subst, sym, ap, ap₂, ◌∙◌, arith}
use Rattle.std.proofs.lemmas.List.{length-map, length-set, set-get_or, get_or_default, append-nil, drop_all, take_all, map-set}
use Rattle.rationals.specs.Choices.{pick}
use Rattle.scen_defs.specs.Lists.{passes_at}
use Rattle.cut_defs.specs.declared.versions.Due.{Due}
use Rattle.cut_defs.specs.Stored.{Stored}
use Rattle.cut_pool.specs.declared.offer.Offer.{Offer}
use Rattle.cut_pool.specs.Held.{Held}
use Rattle.cut_pool.specs.Pool.{after_offer, swept}
use Rattle.cut_banks.specs.Pools.{no_cuts, numbers_of, AreOfNodes, IsBank, pool_if, with_pool, may_change, fitting, swept_for}
use Rattle.cut_banks.proofs.Nodes.{KeepsNode, of_nodes_changed, of_nodes_set}

-- ---- past the last place
pub past_pool : (test : Held → Bool) (ps : List Held) (i : ℕ) → length ps ≤ i → None ≡ pool_if test i ps
past_pool test [] i h = refl
past_pool test (p ∷ ps) zero h = absurd (omega (arith, h))
past_pool test (p ∷ ps) (suc i) h = past_pool test ps i (omega (arith, h))

pub past_passes : (test : Held → Bool) (ps : List Held) (i : ℕ) → length ps ≤ i → false ≡ passes_at test i ps
past_passes test [] i h = refl
past_passes test (p ∷ ps) zero h = absurd (omega (arith, h))
past_passes test (p ∷ ps) (suc i) h = past_passes test ps i (omega (arith, h))

pub past_change : (test : Held → Bool) (change : Held → Held) (ps : List Held) (i : ℕ) → length ps ≤ i → ps ≡ with_pool test change i ps
past_change test change [] i h = refl
past_change test change (p ∷ ps) zero h = absurd (omega (arith, h))
past_change test change (p ∷ ps) (suc i) h = ap (λ qs. p ∷ qs) (past_change test change ps i (omega (arith, h)))

-- ---- at a place
pub at_pool : (test : Held → Bool) (ps : List Held) (i : ℕ) (p : Held) → i < length ps → p ≡ get_or ps i p → pool_if test i ps ≡ pick (test p) (Some p) None
at_pool test [] i p h e = absurd (omega (arith, h))
at_pool test (q ∷ ps) zero p h e = ap (λ x. pick (test x) (Some x) None) (sym e)
at_pool test (q ∷ ps) (suc i) p h e = at_pool test ps i p (omega (arith, h)) e

pub at_passes : (test : Held → Bool) (ps : List Held) (i : ℕ) (p : Held) → i < length ps → p ≡ get_or ps i p → passes_at test i ps ≡ test p
at_passes test [] i p h e = absurd (omega (arith, h))
at_passes test (q ∷ ps) zero p h e = ap test (sym e)
at_passes test (q ∷ ps) (suc i) p h e = at_passes test ps i p (omega (arith, h)) e

pub at_change : (test : Held → Bool) (change : Held → Held) (ps : List Held) (i : ℕ) (p : Held) → i < length ps → p ≡ get_or ps i p → with_pool test change i ps ≡ pick (test p) (set ps i (change p)) ps
at_change test change [] i p h e = absurd (omega (arith, h))
at_change test change (q ∷ ps) zero p h e = go (test p) refl
  where
    go : (b : Bool) → test p ≡ b → pick (test q) (change q) q ∷ ps ≡ pick b (change p ∷ ps) (q ∷ ps)
    go true t = ap₂ (λ b x. pick b x q ∷ ps) (ap test (sym e) ∙ t) (ap change (sym e))
    go false t = ap (λ b. pick b (change q) q ∷ ps) (ap test (sym e) ∙ t)
at_change test change (q ∷ ps) (suc i) p h e = go (test p) (at_change test change ps i p (omega (arith, h)) e)
  where
    go : (b : Bool) → with_pool test change i ps ≡ pick b (set ps i (change p)) ps → q ∷ with_pool test change i ps ≡ pick b (q ∷ set ps i (change p)) (q ∷ ps)
    go true t = ap (λ qs. q ∷ qs) t
    go false t = ap (λ qs. q ∷ qs) t

-- ---- what a function that reads a place, tests it and writes it leaves
module _ (test : Held → Bool) (ps : List Held) (i : ℕ) (d : Held) (h : i < length ps) where
  pub no_pool : test (get_or ps i d) ≡ false → None ≡ pool_if test i ps
  no_pool t = sym (at_pool test ps i (get_or ps i d) h (get_or_default ps i d (get_or ps i d) h) ∙ ap (λ b. pick b (Some (get_or ps i d)) None) t)

  pub a_pool : test (get_or ps i d) ≡ true → Some (get_or ps i d) ≡ pool_if test i ps
  a_pool t = sym (at_pool test ps i (get_or ps i d) h (get_or_default ps i d (get_or ps i d) h) ∙ ap (λ b. pick b (Some (get_or ps i d)) None) t)

  pub not_done : test (get_or ps i d) ≡ false → false ≡ passes_at test i ps
  not_done t = sym (at_passes test ps i (get_or ps i d) h (get_or_default ps i d (get_or ps i d) h) ∙ t)

  pub is_done : test (get_or ps i d) ≡ true → true ≡ passes_at test i ps
  is_done t = sym (at_passes test ps i (get_or ps i d) h (get_or_default ps i d (get_or ps i d) h) ∙ t)

  pub stays : (change : Held → Held) → test (get_or ps i d) ≡ false → set ps i (get_or ps i d) ≡ with_pool test change i ps
  stays change t =
      set-get_or ps i d
      ∙ sym (at_change test change ps i (get_or ps i d) h (get_or_default ps i d (get_or ps i d) h) ∙ ap (λ b. pick b (set ps i (change (get_or ps i d))) ps) t)

  pub changes : (change : Held → Held) (q : Held) → test (get_or ps i d) ≡ true → q ≡ change (get_or ps i d) → set ps i q ≡ with_pool test change i ps
  changes change q t f =
      ap (set ps i) f
      ∙ sym (at_change test change ps i (get_or ps i d) h (get_or_default ps i d (get_or ps i d) h) ∙ ap (λ b. pick b (set ps i (change (get_or ps i d))) ps) t)

-- the pool that is left
pub swept_is : (due : Due) (p q : Held) → may_change p ≡ true → q ≡ swept p due.touch (fitting due.touch due.shift) → q ≡ swept_for due p
swept_is due p q t e = e ∙ sym (ap (λ b. pick b (swept p due.touch (fitting due.touch due.shift)) p) t)

pub offered_is : (cut : Stored) (p q : Held) (a b : Offer) → q ≡ after_offer p cut a → a ≡ b → q ≡ after_offer p cut b
offered_is cut p q a b e f = e ∙ ap (after_offer p cut) f

-- ---- the numbers behind a change
pub change_length : (test : Held → Bool) (change : Held → Held) (i : ℕ) (ps : List Held) → length (with_pool test change i ps) ≡ length ps
change_length test change i [] = refl
change_length test change zero (p ∷ ps) = refl
change_length test change (suc i) (p ∷ ps) = ap (λ (n : ℕ). suc n) (change_length test change i ps)

noted : (test : Held → Bool) (change : Held → Held) (i : ℕ) (ps : List Held)
    → set (numbers_of ps) i (get_or (numbers_of (with_pool test change i ps)) i 0) ≡ numbers_of (with_pool test change i ps)
noted test change i [] = refl
noted test change zero (p ∷ ps) = refl
noted test change (suc i) (p ∷ ps) = ap (λ ns. p.number ∷ ns) (noted test change i ps)

-- the numbers are as many as the pools behind a change
pub still_as_many : (test : Held → Bool) (change : Held → Held) (i : ℕ) (ps qs : List Held) (ns : List ℕ) → ns ≡ numbers_of ps → qs ≡ with_pool test change i ps → length ns ≡ length qs
still_as_many test change i ps qs ns n q = ap length n ∙ length-map ps (λ p. p.number) ∙ sym (change_length test change i ps) ∙ sym (ap length q)

-- and where the number of the pool at the place is noted, each pool has its number
pub renumbered : (test : Held → Bool) (change : Held → Held) (i : ℕ) (ps qs : List Held) (ns : List ℕ) → ns ≡ numbers_of ps → qs ≡ with_pool test change i ps → set ns i (get_or (numbers_of qs) i 0) ≡ numbers_of qs
renumbered test change i ps qs ns n q =
    ap₂ (λ ms rs. set ms i (get_or (numbers_of rs) i 0)) n q ∙ noted test change i ps ∙ sym (ap numbers_of q)

-- the same where both lists are written back into their vectors
written : {X : Type 0} (items new : List X) (n : ℕ) → n ≡ length items → length new ≡ length items → take n (new ++ drop (length new) items) ≡ new
written items new n e h =
    ap (λ xs. take n (new ++ xs)) (drop_all (length new) items (omega (arith, h))) ∙ ap (take n) (append-nil new) ∙ take_all n new (omega (arith, e, h))

module _ (test : Held → Bool) (change : Held → Held) (i : ℕ) (ps0 ps qs rs : List Held) (ns0 ns ms : List ℕ) (pn nn : ℕ)
    (keeps : KeepsNode test change) (inv : IsBank ns0 ps0) (pv : ps ≡ ps0) (pl : length ps ≡ pn) (q : qs ≡ with_pool test change i ps)
    (rv : rs ≡ take pn (qs ++ drop (length qs) ps0)) (nv : ns ≡ ns0) (nl : length ns ≡ nn)
    (m : ms ≡ set ns i (get_or (numbers_of rs) i 0)) where
  as_long : length qs ≡ length ps0
  as_long = ap length q ∙ change_length test change i ps ∙ ap length pv

  back : take pn (qs ++ drop (length qs) ps0) ≡ qs
  back = written ps0 qs pn (sym pl ∙ ap length pv) as_long

  right : ms ≡ numbers_of qs
  right = m ∙ ap (λ xs. set ns i (get_or (numbers_of xs) i 0)) (rv ∙ back) ∙ renumbered test change i ps qs ns (nv ∙ inv.numbers_are ∙ ap numbers_of (sym pv)) q

  as_many : length ms ≡ length ns0
  as_many = ap length m ∙ length-set ns i (get_or (numbers_of rs) i 0) ∙ ap length nv

  numbered_again : take nn (ms ++ drop (length ms) ns0) ≡ numbers_of (take pn (qs ++ drop (length qs) ps0))
  numbered_again = written ns0 ms nn (sym nl ∙ ap length nv) as_many ∙ right ∙ ap numbers_of (sym back)

  at_nodes : AreOfNodes 0 qs
  at_nodes = subst (AreOfNodes 0) (sym (q ∙ ap (with_pool test change i) pv)) (of_nodes_changed test change 0 i ps0 keeps inv.of_nodes)

  pub banked_again : IsBank (take nn (ms ++ drop (length ms) ns0)) (take pn (qs ++ drop (length qs) ps0))
  banked_again = record { numbers_are = numbered_again; of_nodes = subst (AreOfNodes 0) (sym back) at_nodes }

-- an empty pool in the place of another
pub cleared : (ps : List Held) (ns : List ℕ) (i : ℕ) (p : Held) → IsBank ns ps → p ≡ no_cuts i → IsBank (set ns i 0) (set ps i p)
cleared ps ns i p h e = record {
  numbers_are = ap₂ (λ ms k. set ms i k) h.numbers_are (sym (ap (λ (r : Held). r.number) e)) ∙ sym (map-set (λ r. r.number) ps i p);
  of_nodes = subst (λ r. AreOfNodes 0 (set ps i r)) (sym e) (of_nodes_set 0 i i ps (omega arith) h.of_nodes);
}

-- ---- what is read at a place
pub none_read : (ps : List Held) (i : ℕ) → length ps ≤ i → slice_get ps i ≡ None
none_read [] i h = refl
none_read (p ∷ ps) zero h = absurd (omega (arith, h))
none_read (p ∷ ps) (suc i) h = none_read ps i (omega (arith, h))

pub one_read : (ps : List Held) (i : ℕ) (d : Held) → i < length ps → slice_get ps i ≡ Some (get_or ps i d)
one_read [] i d h = absurd (omega (arith, h))
one_read (p ∷ ps) zero d h = refl
one_read (p ∷ ps) (suc i) d h = one_read ps i d (omega (arith, h))
