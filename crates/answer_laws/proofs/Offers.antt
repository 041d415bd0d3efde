-- An offer leaves a cut that holds as much as the offered one, and every cut that there was.
use Rattle.std.proofs.Common.{◌≡◌, ◌∙◌, ℕ, zero, suc, Bool, true, false, List, [], ◌∷◌, Option, Some, None, Result, Ok, Err, slice_get}
use Rattle.std.proofs.Common.{refl, sym, ap, subst, arith}
use Rattle.std.specs.List.{Contains}
use Rattle.std.proofs.lemmas.List.Elements.{Contains-append_left, Contains-append_right, Contains-push}
use Rattle.rationals.specs.Rational.{ℚ, zero_ℚ, ◌≤ℚ◌, at_most, at_most_true, le_refl_ℚ}
use Rattle.rationals.specs.Sparse.{Entry}
use Rattle.rationals.specs.Passes.{Operation, then_walk}
use Rattle.rationals.specs.Choices.{pick}
use Rattle.cut_defs.specs.declared.kinds.CutKind.{CutKind}
use Rattle.cut_defs.specs.declared.kinds.CutKind.TheVariants.{Bound, Ray}
use Rattle.cut_defs.specs.declared.versions.Stamp.{Stamp}
use Rattle.cut_defs.specs.Stored.{Stored, source_of}
use Rattle.cut_defs.specs.Support.{support, first_stale}
use Rattle.cut_sums.specs.Walks.{value_walk}
use Rattle.cut_proof.proofs.RepairLaws.{values_are_exact}
use Rattle.cut_pool.specs.declared.offer.Offer.{Offer}
use Rattle.cut_pool.specs.declared.offer.Offer.TheVariants.{Added, NotNeeded, Stale, Passed}
use Rattle.cut_pool.specs.Held.{Held}
use Rattle.cut_pool.specs.Pool.{greater, same_kind, best_from, least_of, judged, or_passed, offer_by, offer_of, with_cut, after_offer}
use Rattle.cut_banks.specs.Pools.{may_take, pool_if, with_pool}
use Rattle.node_lp.specs.Answers.{value_at_trial}
use Rattle.answer_laws.specs.Offers.{offered_pools, IsCompared, HoldsAsMuch, StaysOrGrows, KeepsCuts, OffersHold}
use Rattle.answer_laws.specs.Offers.HoldsAsMuch.{by_cut, by_zero}
use Rattle.answer_laws.specs.Offers.StaysOrGrows.{stays, grows}

-- ---- the number with which an offered cut is compared
the_same : (k l : CutKind) → same_kind k l ≡ true → l ≡ k
the_same Bound Bound e = refl
the_same Bound Ray e = absurd (let no : false ≡ true = e in cc)
the_same Ray Bound e = absurd (let no : false ≡ true = e in cc)
the_same Ray Ray e = refl

-- 0 for a Ray cut, or the value of a held cut of the kind
data IsOfHeld (kind : CutKind) (trial : List Entry) (cuts : List Stored) (b : ℚ) : Type 0 where
  of_zero : kind ≡ Ray → b ≡ zero_ℚ → IsOfHeld kind trial cuts b
  of_cut : (c : Stored) → Contains cuts c → (source_of c).kind ≡ kind → b ≡ value_at_trial c trial → IsOfHeld kind trial cuts b

module _ (kind : CutKind) (trial : List Entry) (all : List Stored) where
  abbrev AreOfHeld : Option ℚ → Type 0
  AreOfHeld best = (d : ℚ) → best ≡ Some d → IsOfHeld kind trial all d

  greater_held : (best : Option ℚ) (v : ℚ) → AreOfHeld best → IsOfHeld kind trial all v → IsOfHeld kind trial all (greater best v)
  greater_held None v h k = k
  greater_held (Some d) v h k = go (at_most d v)
    where
      go : (b : Bool) → IsOfHeld kind trial all (pick b v d)
      go true = k
      go false = h d refl

  least_held : (b : ℚ) → least_of kind ≡ Some b → IsOfHeld kind trial all b
  least_held b e = go kind refl e
    where
      go : (k : CutKind) → kind ≡ k → least_of k ≡ Some b → IsOfHeld kind trial all b
      go Bound q e = absurd (let no : ◌≡◌ {A = Option ℚ} None (Some b) = e in cc)
      go Ray q e = of_zero q (let same : ◌≡◌ {A = Option ℚ} (Some zero_ℚ) (Some b) = e in cc)

  best_held : (best : Option ℚ) (cs : List Stored) (b : ℚ) → AreOfHeld best → ((c : Stored) → Contains cs c → Contains all c)
      → best_from kind trial best cs ≡ Ok (Some b) → IsOfHeld kind trial all b
  best_held best [] b h among e = h b (let same : ◌≡◌ {A = Result (Option ℚ) Operation} (Ok best) (Ok (Some b)) = e in cc)
  best_held best (c ∷ cs) b h among e =
      go (same_kind kind (source_of c).kind) refl (value_walk c trial) refl e
      (λ next k f. best_held next cs b k (λ d i. among d (Contains-append_right (c ∷ []) cs d i)) f)
    where
      own : (v : ℚ) → same_kind kind (source_of c).kind ≡ true → value_walk c trial ≡ Ok v → IsOfHeld kind trial all v
      own v s w = of_cut c (among c (Contains-append_left (c ∷ []) cs c (Contains-push [] c))) (the_same kind (source_of c).kind s)
          (values_are_exact c trial v w)

      go : (t : Bool) → same_kind kind (source_of c).kind ≡ t → (w : Result ℚ Operation) → value_walk c trial ≡ w
          → pick t (then_walk w (λ v. best_from kind trial (Some (greater best v)) cs)) (best_from kind trial best cs) ≡ Ok (Some b)
          → ((next : Option ℚ) → AreOfHeld next → best_from kind trial next cs ≡ Ok (Some b) → IsOfHeld kind trial all b)
          → IsOfHeld kind trial all b
      go false s w i e rest = rest best h e
      go true s (Ok v) i e rest = rest (Some (greater best v)) (λ d k. subst (IsOfHeld kind trial all)
          (let same : ◌≡◌ {A = Option ℚ} (Some (greater best v)) (Some d) = k in cc) (greater_held best v h (own v s i))) e
      go true s (Err o) i e rest = absurd (let no : ◌≡◌ {A = Result (Option ℚ) Operation} (Err o) (Ok (Some b)) = e in cc)

-- ---- one pool behind its answer
module _ (p : Held) (cut : Stored) (trial : List Entry) where
  abbrev AsMuch : Offer → Type 0
  AsMuch o = IsCompared o → HoldsAsMuch cut trial (after_offer p cut o)

  added : AsMuch Added
  added h = by_cut cut (Contains-push p.cuts cut) refl (le_refl_ℚ (value_at_trial cut trial))

  not_needed : (v b : ℚ) → v ≡ value_at_trial cut trial → v ≤ℚ b → IsOfHeld (source_of cut).kind trial p.cuts b → AsMuch (NotNeeded b)
  not_needed v b q l (of_zero r z) h = by_zero r (subst (λ y. y ≤ℚ zero_ℚ) q (subst (λ y. v ≤ℚ y) z l))
  not_needed v b q l (of_cut c i k z) h = by_cut c i k (subst (λ y. y ≤ℚ value_at_trial c trial) q (subst (λ y. v ≤ℚ y) z l))

  as_judged : (v : ℚ) (best : Option ℚ) → v ≡ value_at_trial cut trial
      → ((d : ℚ) → best ≡ Some d → IsOfHeld (source_of cut).kind trial p.cuts d) → AsMuch (judged v best)
  as_judged v None q h = added
  as_judged v (Some b) q h = go (at_most v b) refl
    where
      go : (t : Bool) → at_most v b ≡ t → AsMuch (pick t (NotNeeded b) Added)
      go true e = not_needed v b q (at_most_true v b e) (h b refl)
      go false e = added

  compared : (v : ℚ) → v ≡ value_at_trial cut trial → (w : Result (Option ℚ) Operation)
      → best_from (source_of cut).kind trial (least_of (source_of cut).kind) p.cuts ≡ w
      → AsMuch (or_passed (then_walk w (λ best. Ok (judged v best))))
  compared v q (Ok best) e = as_judged v best q (λ d k. best_held (source_of cut).kind trial p.cuts
      (least_of (source_of cut).kind) p.cuts d (least_held (source_of cut).kind trial p.cuts) (λ c i. i) (e ∙ ap Ok k))
  compared v q (Err o) e = λ h. absurd h

  valued : (w : Result ℚ Operation) → value_walk cut trial ≡ w
      → AsMuch (or_passed (then_walk w (λ v. then_walk (best_from (source_of cut).kind trial (least_of (source_of cut).kind) p.cuts)
      (λ best. Ok (judged v best)))))
  valued (Ok v) e = compared v (values_are_exact cut trial v e)
      (best_from (source_of cut).kind trial (least_of (source_of cut).kind) p.cuts) refl
  valued (Err o) e = λ h. absurd h

  tested : (stale : Option Stamp) → AsMuch (offer_by stale p cut trial)
  tested None = valued (value_walk cut trial) refl
  tested (Some a) = λ h. absurd h

  offer_holds : AsMuch (offer_of p cut trial)
  offer_holds = tested (first_stale p.known (support cut))

-- ---- the pools behind a change of one
pub placed : (test : Held → Bool) (change : Held → Held) (n : ℕ) (ps : List Held) (p : Held) → pool_if test n ps ≡ Some p
    → slice_get (with_pool test change n ps) n ≡ Some (change p)
placed test change n [] p e = absurd (let no : ◌≡◌ {A = Option Held} None (Some p) = e in cc)
placed test change zero (q ∷ ps) p e = go (test q) e
  where
    go : (b : Bool) → pick b (Some q) None ≡ Some p → Some (pick b (change q) q) ≡ Some (change p)
    go true e = ap (λ r. Some (change r)) (let same : ◌≡◌ {A = Option Held} (Some q) (Some p) = e in cc)
    go false e = absurd (let no : ◌≡◌ {A = Option Held} None (Some p) = e in cc)
placed test change (suc n) (q ∷ ps) p e = placed test change n ps p e

pub data ChangesAt (change : Held → Held) (ps new : List Held) (n k : ℕ) : Type 0 where
  as_before : slice_get new k ≡ slice_get ps k → ChangesAt change ps new n k
  changed : (p : Held) → k ≡ n → slice_get ps k ≡ Some p → slice_get new k ≡ Some (change p) → ChangesAt change ps new n k

pub changes_at : (test : Held → Bool) (change : Held → Held) (n k : ℕ) (ps : List Held) → ChangesAt change ps (with_pool test change n ps) n k
changes_at test change n k [] = as_before refl
changes_at test change zero zero (p ∷ ps) = go (test p)
  where
    go : (b : Bool) → ChangesAt change (p ∷ ps) (pick b (change p) p ∷ ps) zero zero
    go true = changed p refl refl refl
    go false = as_before refl
changes_at test change zero (suc k) (p ∷ ps) = as_before refl
changes_at test change (suc n) zero (p ∷ ps) = as_before refl
changes_at test change (suc n) (suc k) (p ∷ ps) = go (changes_at test change n k ps)
  where
    go : ChangesAt change ps (with_pool test change n ps) n k
        → ChangesAt change (p ∷ ps) (p ∷ with_pool test change n ps) (suc n) (suc k)
    go (as_before e) = as_before e
    go (changed q i e f) = changed q (ap suc i) e f

-- ---- the pools behind an offer
stays_or_grows : (cut : Stored) (trial : List Entry) (pools : List Held) (k : ℕ) → StaysOrGrows cut pools (offered_pools cut trial pools) k
stays_or_grows cut trial pools k =
    go (changes_at (may_take cut) (λ p. after_offer p cut (offer_of p cut trial)) (source_of cut).node k pools)
  where
    by_answer : (p : Held) (new : List Held) (o : Offer) → k ≡ (source_of cut).node → slice_get pools k ≡ Some p
        → slice_get new k ≡ Some (after_offer p cut o) → StaysOrGrows cut pools new k
    by_answer p new Added i e f = grows p i e f
    by_answer p new (NotNeeded best) i e f = stays (f ∙ sym e)
    by_answer p new (Stale node part seen known) i e f = stays (f ∙ sym e)
    by_answer p new (Passed o) i e f = stays (f ∙ sym e)

    go : ChangesAt (λ p. after_offer p cut (offer_of p cut trial)) pools (offered_pools cut trial pools) (source_of cut).node k
        → StaysOrGrows cut pools (offered_pools cut trial pools) k
    go (as_before e) = stays e
    go (changed p i e f) = by_answer p (offered_pools cut trial pools) (offer_of p cut trial) i e f

one_pool : {p q : Held} → ◌≡◌ {A = Option Held} (Some p) (Some q) → p ≡ q
one_pool {p} {q} e = cc

same_pool : (cut : Stored) (old new : List Held) (k : ℕ) (p q : Held) → StaysOrGrows cut old new k → slice_get old k ≡ Some p
    → slice_get new k ≡ Some q → q.number ≡ p.number → q ≡ p
same_pool cut old new k p q (stays s) e f n = one_pool (sym f ∙ s ∙ e)
same_pool cut old new k p q (grows r i s t) e f n =
    let a : r ≡ p = one_pool (sym s ∙ e) in
    let b : q ≡ with_cut r cut = one_pool (sym f ∙ t) in
    let m : q.number ≡ suc r.number = ap (λ (h : Held). h.number) b in
    let l : r.number ≡ p.number = ap (λ (h : Held). h.number) a in
    absurd (omega (arith, m, l, n))

kept_cuts : (cut : Stored) (old new : List Held) (k : ℕ) (p : Held) → StaysOrGrows cut old new k → slice_get old k ≡ Some p
    → KeepsCuts p new k
kept_cuts cut old new k p (stays s) e = record { pool = p; stands = s ∙ e; kept = λ c i. i }
kept_cuts cut old new k p (grows r i s t) e =
    let a : r ≡ p = one_pool (sym s ∙ e) in
    record {
      pool = with_cut p cut;
      stands = t ∙ ap (λ h. Some (with_cut h cut)) a;
      kept = λ c i. Contains-append_left p.cuts (cut ∷ []) c i;
    }

pub offers_hold : OffersHold
offers_hold = record {
  holds = λ cut trial pools p e c. record {
    pool = after_offer p cut (offer_of p cut trial);
    stands = placed (may_take cut) (λ q. after_offer q cut (offer_of q cut trial)) (source_of cut).node pools p e;
    holds = offer_holds p cut trial c;
  };
  places = stays_or_grows;
  same = λ cut trial pools k p q. same_pool cut pools (offered_pools cut trial pools) k p q (stays_or_grows cut trial pools k);
  kept = λ cut trial pools k p. kept_cuts cut pools (offered_pools cut trial pools) k p (stays_or_grows cut trial pools k);
}
