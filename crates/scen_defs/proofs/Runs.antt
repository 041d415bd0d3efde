-- What is good, and worth at least 0, on the recession form is good.
use Rattle.std.proofs.Common.{◌≡◌, ℕ, List, [], ◌∷◌, Option, Some, None, map, refl, ap, subst}
use Rattle.rationals.specs.Rational.{ℚ, zero_ℚ, one_ℚ, neg_ℚ, ◌+ℚ◌, ◌*ℚ◌, ◌-ℚ◌, ◌≤ℚ◌, ◌<ℚ◌, by_linear, terms, le_refl_ℚ, le_trans_ℚ, le_of_same_ℚ, not_le_of_lt_ℚ, mul_zero_ℚ}
use Rattle.rationals.specs.Ring.Given.{nothing, fact}
use Rattle.rationals.specs.Sums.{sum_ℚ, sum-zero}
use Rattle.rationals.specs.Sparse.{coefficient}
use Rattle.scen_defs.specs.Lists.{Each}
use Rattle.rationals.specs.Intervals.{AtLeast, AtMost}
use Rattle.scen_defs.specs.Ends.{IsFinite, IsGoodAt, worth}
use Rattle.scen_defs.specs.Program.{View, total}
use Rattle.scen_defs.specs.declared.program.NodeRow.{NodeRow}
use Rattle.scen_defs.specs.Flat.{subtree, reduced, value, zero_end, zero_row, recession}
use Rattle.scen_defs.specs.Laws.{RecessionMakesGood}
use Rattle.scen_defs.proofs.SumLaws.{each-map, each-both, each-three, sum-ext, sum-below}
use Rattle.scen_defs.proofs.EndLaws.{Asks, asks, good-if, worth-below}

-- ---- rows
finite-back : (e : Option ℚ) → IsFinite (zero_end e) → IsFinite e
finite-back None f = f
finite-back (Some v) f = tt

row-good : (low high : Option ℚ) (y : ℚ) → IsGoodAt (zero_end low) (zero_end high) y → IsGoodAt low high y
row-good low high y g = let a : Asks (zero_end low) (zero_end high) y = asks (zero_end low) (zero_end high) y g in
    good-if low high y record { when_above = λ p. finite-back low (a.when_above p); when_below = λ p. finite-back high (a.when_below p) }

-- a zero end is worth nothing
row-worth : (low high : Option ℚ) (y : ℚ) → IsGoodAt (zero_end low) (zero_end high) y → worth (zero_end low) (zero_end high) y ≤ℚ zero_ℚ
row-worth low high y g = le_trans_ℚ (worth-below (zero_end low) (zero_end high) y zero_ℚ g (record { above = over low; below = under high })) (le_of_same_ℚ (mul_zero_ℚ y))
  where
    over : (e : Option ℚ) → AtLeast (zero_end e) zero_ℚ
    over None = tt
    over (Some v) = le_refl_ℚ zero_ℚ

    under : (e : Option ℚ) → AtMost (zero_end e) zero_ℚ
    under None = tt
    under (Some v) = le_refl_ℚ zero_ℚ

rows-back : (y : ℕ → ℚ) (rs : List NodeRow) → Each (λ (r : NodeRow). IsGoodAt r.low r.high (y r.row)) (map zero_row rs) → Each (λ (r : NodeRow). IsGoodAt r.low r.high (y r.row)) rs
rows-back y [] h = tt
rows-back y (r ∷ rs) h = (row-good r.low r.high (y r.row) h.0, rows-back y rs h.1)

rows-worth : (y : ℕ → ℚ) (rs : List NodeRow) → Each (λ (r : NodeRow). IsGoodAt r.low r.high (y r.row)) (map zero_row rs) → sum_ℚ (λ (r : NodeRow). worth r.low r.high (y r.row)) (map zero_row rs) ≤ℚ zero_ℚ
rows-worth y [] h = le_refl_ℚ zero_ℚ
rows-worth y (r ∷ rs) h = sums _ _ (row-worth r.low r.high (y r.row) h.0) (rows-worth y rs h.1)
  where
    sums : (a b : ℚ) → a ≤ℚ zero_ℚ → b ≤ℚ zero_ℚ → a +ℚ b ≤ℚ zero_ℚ
    sums a b p q = by_linear (a ∷ b ∷ []) (fact p (fact q nothing)) (search terms depth 40) tt

rows-slope : (y : ℕ → ℚ) (j : ℕ) (rs : List NodeRow) → sum_ℚ (λ (r : NodeRow). coefficient r.entries j *ℚ y r.row) (map zero_row rs) ≡ sum_ℚ (λ (r : NodeRow). coefficient r.entries j *ℚ y r.row) rs
rows-slope y j [] = refl
rows-slope y j (r ∷ rs) = ap (λ z. coefficient r.entries j *ℚ y r.row +ℚ z) (rows-slope y j rs)

reduced-same : (v : View) (y : ℕ → ℕ → ℚ) (m j : ℕ) → reduced (recession v) y m j ≡ reduced v y m j
unfolding reduced
reduced-same v y m j = ap (λ z. total v m *ℚ coefficient (v.cost m) j -ℚ z) (sum-ext _ _ (λ n. rows-slope (y n) j (v.rows n)) (subtree v m))

-- ---- columns
low_of : Option ℚ → ℚ
low_of e = elim e [ None ↦ neg_ℚ one_ℚ | Some e ↦ zero_ℚ ]

high_of : Option ℚ → ℚ
high_of e = elim e [ None ↦ one_ℚ | Some e ↦ zero_ℚ ]

low-nonpos : (e : Option ℚ) → low_of e ≤ℚ zero_ℚ
unfolding low_of
low-nonpos None = by_linear [] nothing (search terms depth 40) tt
low-nonpos (Some v) = le_refl_ℚ zero_ℚ

high-nonneg : (e : Option ℚ) → zero_ℚ ≤ℚ high_of e
unfolding high_of
high-nonneg None = by_linear [] nothing (search terms depth 40) tt
high-nonneg (Some v) = le_refl_ℚ zero_ℚ

box-worth : (low high : Option ℚ) (q : ℚ) → IsGoodAt (Some (low_of low)) (Some (high_of high)) q → worth (Some (low_of low)) (Some (high_of high)) q ≤ℚ zero_ℚ
box-worth low high q g = le_trans_ℚ (worth-below (Some (low_of low)) (Some (high_of high)) q zero_ℚ g (record { above = low-nonpos low; below = high-nonneg high })) (le_of_same_ℚ (mul_zero_ℚ q))

-- an absent bound that is used is worth less than 0
box-good : (low high : Option ℚ) (q : ℚ) → IsGoodAt (Some (low_of low)) (Some (high_of high)) q → zero_ℚ ≤ℚ worth (Some (low_of low)) (Some (high_of high)) q → IsGoodAt low high q
unfolding low_of high_of
box-good low high q g w = good-if low high q record {
  when_above = λ p. by_low low p (le_trans_ℚ w (worth-below (Some (low_of low)) (Some (high_of high)) q (low_of low) g (record { above = le_refl_ℚ (low_of low); below = le_trans_ℚ (low-nonpos low) (high-nonneg high) })));
  when_below = λ p. by_high high p (le_trans_ℚ w (worth-below (Some (low_of low)) (Some (high_of high)) q (high_of high) g (record { above = le_trans_ℚ (low-nonpos low) (high-nonneg high); below = le_refl_ℚ (high_of high) })));
}
  where
    by_low : (e : Option ℚ) → zero_ℚ <ℚ q → zero_ℚ ≤ℚ q *ℚ low_of e → IsFinite e
    by_low (Some v) p k = tt
    by_low None p k = absurd (not_le_of_lt_ℚ p (out k))
      where
        out : zero_ℚ ≤ℚ q *ℚ neg_ℚ one_ℚ → q ≤ℚ zero_ℚ
        out k = by_linear (q ∷ []) (fact k nothing) (search terms depth 40) tt

    by_high : (e : Option ℚ) → q <ℚ zero_ℚ → zero_ℚ ≤ℚ q *ℚ high_of e → IsFinite e
    by_high (Some v) p k = tt
    by_high None p k = absurd (not_le_of_lt_ℚ p (out k))
      where
        out : zero_ℚ ≤ℚ q *ℚ one_ℚ → zero_ℚ ≤ℚ q
        out k = by_linear (q ∷ []) (fact k nothing) (search terms depth 40) tt

-- ---- numbers that aren't above 0 and add up to at least 0 are at least 0
below-zero : {A : Type 0} (f : A → ℚ) (xs : List A) → Each (λ a. f a ≤ℚ zero_ℚ) xs → sum_ℚ f xs ≤ℚ zero_ℚ
below-zero f xs h = le_trans_ℚ (sum-below f (λ a. zero_ℚ) xs h) (le_of_same_ℚ (sum-zero xs))

all-at_least : {A : Type 0} (f : A → ℚ) (xs : List A) → Each (λ a. f a ≤ℚ zero_ℚ) xs → zero_ℚ ≤ℚ sum_ℚ f xs → Each (λ a. zero_ℚ ≤ℚ f a) xs
all-at_least f [] h k = tt
all-at_least f (x ∷ xs) h k = (one (f x) (sum_ℚ f xs) k (below-zero f xs h.1), all-at_least f xs h.1 (two (f x) (sum_ℚ f xs) k h.0))
  where
    one : (a b : ℚ) → zero_ℚ ≤ℚ a +ℚ b → b ≤ℚ zero_ℚ → zero_ℚ ≤ℚ a
    one a b p q = by_linear (a ∷ b ∷ []) (fact p (fact q nothing)) (search terms depth 40) tt

    two : (a b : ℚ) → zero_ℚ ≤ℚ a +ℚ b → a ≤ℚ zero_ℚ → zero_ℚ ≤ℚ b
    two a b p q = by_linear (a ∷ b ∷ []) (fact p (fact q nothing)) (search terms depth 40) tt

pub recession_makes_good : RecessionMakesGood
unfolding value low_of high_of
recession_makes_good v y t g w =
    let box : ℕ → ℕ → ℚ = λ n j. worth (Some (low_of (v.lower j))) (Some (high_of (v.upper j))) (reduced (recession v) y n j) in
    let rows : sum_ℚ (λ n. sum_ℚ (λ (r : NodeRow). worth r.low r.high (y n r.row)) (map zero_row (v.rows n))) v.live ≤ℚ zero_ℚ = below-zero _ v.live (each-map (λ n h. rows-worth (y n) (v.rows n) h.rows) v.live g) in
    let cells : Each (λ n. Each (λ j. box n j ≤ℚ zero_ℚ) (v.columns (v.stage n))) v.live = each-map (λ n h. each-map (λ j k. box-worth (v.lower j) (v.upper j) (reduced (recession v) y n j) k) (v.columns (v.stage n)) h.bounds) v.live g in
    let columns : zero_ℚ ≤ℚ sum_ℚ (λ n. sum_ℚ (box n) (v.columns (v.stage n))) v.live = rest _ _ w rows in
    let each : Each (λ n. zero_ℚ ≤ℚ sum_ℚ (box n) (v.columns (v.stage n))) v.live = all-at_least (λ n. sum_ℚ (box n) (v.columns (v.stage n))) v.live (each-map (λ n h. below-zero (box n) (v.columns (v.stage n)) h) v.live cells) columns in
    each-three (λ n a c d. record {
      rows = rows-back (y n) (v.rows n) a.rows;
      bounds = each-both (λ j k e. subst (IsGoodAt (v.lower j) (v.upper j)) (reduced-same v y n j) (box-good (v.lower j) (v.upper j) (reduced (recession v) y n j) k e)) (v.columns (v.stage n)) a.bounds (all-at_least (box n) (v.columns (v.stage n)) c d);
    }) v.live g cells each
  where
    rest : (a b : ℚ) → zero_ℚ ≤ℚ a +ℚ b → a ≤ℚ zero_ℚ → zero_ℚ ≤ℚ b
    rest a b p q = by_linear (a ∷ b ∷ []) (fact p (fact q nothing)) (search terms depth 40) tt
