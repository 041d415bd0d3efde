-- What stands in the columns of a tally, and what a pass over it does there.
use Rattle.std.proofs.Common.{◌≡◌, ℕ, zero, suc, ◌+◌, ◌-◌, ◌<◌, ◌≤◌, Bool, true, false, eqb, List, [], ◌∷◌, ◌++◌, Result, Ok, Err, OnOk, length, drop, get_or, slice_set, refl, sym, ap, ap₂, subst, ◌∙◌, arith, eqb-true}
use Rattle.std.proofs.lemmas.Bool.{ne_eqb, eq-eqb}
use Rattle.rationals.specs.declared.Op.TheVariants.{Add}
use Rattle.rationals.specs.Rational.{ℚ, zero_ℚ, one_ℚ, neg_ℚ, ◌+ℚ◌, ◌-ℚ◌, ◌*ℚ◌, add_zero_ℚ, zero_add_ℚ, mul_zero_ℚ, by_ring, by_eqs, terms}
use Rattle.rationals.specs.Ring.Eqs.{done, by_eq}
use Rattle.rationals.specs.Sparse.{Entry, Ascending, coefficient, value_if}
use Rattle.rationals.specs.Forms.{EndsBelow}
use Rattle.rationals.specs.Passes.{Operation, answer, too_wide, add_product_walk, less_product_walk, then_walk, IsNarrow}
use Rattle.rationals.proofs.WalkLaws.{step_value, less_zero_product, product_fits}
use Rattle.frac128.proofs.FormLemmas.{value_here, value_past, value_none, rises_from, drop_read}
use Rattle.scen_defs.specs.Lists.{Each}
use Rattle.scen_defs.specs.Walks.{less_from}
use Rattle.rationals.proofs.OrderMeaning.{mul_walk_zero}
use Rattle.rationals.specs.Choices.{pick}
use Rattle.cut_defs.specs.declared.kinds.CutKind.{CutKind}
use Rattle.cut_defs.specs.declared.kinds.CutKind.TheVariants.{Bound, Ray}
use Rattle.cut_defs.specs.Data.{Datum}
use Rattle.cut_defs.specs.Stored.{Source, StoredUses, cost_of}
use Rattle.cut_sums.specs.Walks.{column_walk, uses_from}
use Rattle.cut_sums.specs.Tallies.{MovesColumns, weighted_from, all_weighted_from, AreZeros, AreCosts, AreSums}

-- what holds where a call gives a value
pub on_ok : {X E : Type 0} {P Q : Type 0} (r : Result X E) → (P → Q) → OnOk r P → OnOk r Q
on_ok (Ok x) f h = f h
on_ok (Err e) f h = h

-- ---- steps
answered : {X P : Type 0} (b : Bool) (p : P) (x y : X) → answer b p x ≡ Ok y → (b ≡ false) × (x ≡ y)
answered true p x y e = absurd (cc)
answered false p x y e = (refl, cc)

gives : (r q : ℚ) → r ≡ q → IsNarrow q → (p : Operation) → answer (too_wide r) p r ≡ Ok q
gives r q e f p = ap (λ z. answer (too_wide z) p z) e ∙ ap (λ b. answer b p q) f

-- a sum that fits is what the step comes to
pub stepped : (s w u q : ℚ) → q ≡ s +ℚ w *ℚ u → IsNarrow q → add_product_walk s w u ≡ Ok q
stepped s w u q e f = gives (s +ℚ w *ℚ u) q (sym e) f _

pub adds_nothing : (s w u : ℚ) → IsNarrow s → w *ℚ u ≡ zero_ℚ → add_product_walk s w u ≡ Ok s
adds_nothing s w u f e = stepped s w u s (sym (ap (λ q. s +ℚ q) e ∙ add_zero_ℚ s)) f

pub one_times : (a b : ℚ) → a ≡ one_ℚ → b ≡ a *ℚ b
one_times a b e = by_ring (b ∷ []) (search terms depth 40) tt ∙ ap (λ q. q *ℚ b) (sym e)

pub times_one : (a b : ℚ) → b ≡ one_ℚ → a ≡ a *ℚ b
times_one a b e = by_ring (a ∷ []) (search terms depth 40) tt ∙ ap (λ q. a *ℚ q) (sym e)

pub times_minus_one : (a b : ℚ) → neg_ℚ b ≡ one_ℚ → neg_ℚ a ≡ a *ℚ b
times_minus_one a b e = by_eqs (a ∷ b ∷ []) (by_eq a e done) (search terms depth 40) tt

-- what is added to 0
pub zero_plus : (s w u p q : ℚ) → s ≡ zero_ℚ → p ≡ w *ℚ u → q ≡ p → q ≡ s +ℚ w *ℚ u
zero_plus s w u p q none product same = same ∙ product ∙ sym (zero_add_ℚ (w *ℚ u)) ∙ ap (λ z. z +ℚ w *ℚ u) (sym none)

-- what is added with the other sign is taken away
pub less_from_added : (s n y v t : ℚ) → n ≡ neg_ℚ y → add_product_walk s n v ≡ Ok t → less_product_walk s v y ≡ Ok t
less_from_added s n y v t e h =
    let p = answered (too_wide (s +ℚ n *ℚ v)) _ (s +ℚ n *ℚ v) t h in
    let same : s -ℚ v *ℚ y ≡ s +ℚ neg_ℚ y *ℚ v = by_ring (s ∷ v ∷ y ∷ []) (search terms depth 40) tt in
    gives (s -ℚ v *ℚ y) t (same ∙ ap (λ z. s +ℚ z *ℚ v) (sym e) ∙ p.1) (subst (λ q. too_wide q ≡ false) p.1 p.0) _

-- ---- reading and writing
no_entry : (x : Entry) (rest : List Entry) → [] ≡ x ∷ rest → ⊥
no_entry x rest e = let d : 0 ≡ suc (length rest) = ap length e in absurd (omega arith)

read_from : (n i : ℕ) (xs : List Entry) (x : Entry) (rest : List Entry) (c : ℕ) → Ascending n xs → drop i xs ≡ x ∷ rest → x.column ≡ c → x.value ≡ coefficient xs c
read_from n zero xs x rest c a e q = let A : List Entry → Type 0 = λ l. Ascending n l in value_here x rest c n (subst A e a) q ∙ ap (λ l. coefficient l c) (sym e)
read_from n (suc i) [] x rest c a e q = absurd (no_entry x rest e)
read_from n (suc i) (y ∷ ys) x rest c a e q =
    let A : List Entry → Type 0 = λ l. Ascending (suc y.column) l in
    let k : suc y.column ≤ x.column = (subst A e (rises_from (suc y.column) i ys a.1)).0 in
    read_from (suc y.column) i ys x rest c a.1 e q ∙ sym (value_past y ys c (λ p. absurd (omega arith)))

-- what is read at a place stands in its column
pub read_at : (xs : List Entry) (i : ℕ) (x y : Entry) (c : ℕ) → Ascending 0 xs → i < length xs → x ≡ get_or xs i x → y ≡ x → y.column ≡ c → y.value ≡ coefficient xs c
read_at xs i x y c a h r same q = ap (λ (z : Entry). z.value) same ∙ read_from 0 i xs x (drop (i + 1) xs) c a (drop_read xs i x h r) (ap (λ (z : Entry). z.column) (sym same) ∙ q)

abbrev with_value : Entry → ℚ → Entry
with_value x v = record { column = x.column; value = v }

-- where another number is written at a place
written : (n i : ℕ) (xs : List Entry) (x : Entry) (rest : List Entry) (v : ℚ) (j : ℕ) → Ascending n xs → drop i xs ≡ x ∷ rest → coefficient (slice_set xs i (with_value x v)) j ≡ pick (eqb x.column j) v (coefficient xs j)
written n zero [] x rest v j a e = absurd (no_entry x rest e)
written n zero (y ∷ ys) x rest v j a e = subst (λ (l : List Entry). coefficient (slice_set l 0 (with_value x v)) j ≡ pick (eqb x.column j) v (coefficient l j)) (sym e) (go (eqb x.column j) refl)
  where
    front : Ascending n (x ∷ rest)
    front = let A : List Entry → Type 0 = λ l. Ascending n l in subst A e a

    go : (b : Bool) → eqb x.column j ≡ b → coefficient (with_value x v ∷ rest) j ≡ pick b v (coefficient (x ∷ rest) j)
    go true p = sym (value_here (with_value x v) rest j n front (eqb-true x.column j p))
    go false p = let past : x.column ≡ j → ⊥ = (λ q. let c : true ≡ false = sym (eq-eqb x.column j q) ∙ p in absurd (cc)) in value_past (with_value x v) rest j past ∙ sym (value_past x rest j past)
written n (suc i) [] x rest v j a e = absurd (no_entry x rest e)
written n (suc i) (y ∷ ys) x rest v j a e = go (eqb x.column j) refl (written (suc y.column) i ys x rest v j a.1 e)
  where
    above : suc y.column ≤ x.column
    above = let A : List Entry → Type 0 = λ l. Ascending (suc y.column) l in (subst A e (rises_from (suc y.column) i ys a.1)).0

    go : (b : Bool) → eqb x.column j ≡ b → coefficient (slice_set ys i (with_value x v)) j ≡ pick (eqb x.column j) v (coefficient ys j)
        → value_if (eqb y.column j) y.value +ℚ coefficient (slice_set ys i (with_value x v)) j ≡ pick b v (value_if (eqb y.column j) y.value +ℚ coefficient ys j)
    go true p ih =
        let apart : eqb y.column j ≡ false = ne_eqb y.column j (λ q. absurd (omega (arith, above, q, eqb-true x.column j p))) in
        ap₂ (λ b q. value_if b y.value +ℚ q) apart (ih ∙ ap (λ b. pick b v (coefficient ys j)) p) ∙ zero_add_ℚ v
    go false p ih = ap (λ q. value_if (eqb y.column j) y.value +ℚ q) (ih ∙ ap (λ b. pick b v (coefficient ys j)) p)

still_rises : (n i : ℕ) (xs : List Entry) (x : Entry) (rest : List Entry) (v : ℚ) → Ascending n xs → drop i xs ≡ x ∷ rest → Ascending n (slice_set xs i (with_value x v))
still_rises n zero [] x rest v a e = absurd (no_entry x rest e)
still_rises n zero (y ∷ ys) x rest v a e = let A : List Entry → Type 0 = λ l. Ascending n l in let W : List Entry → Type 0 = λ l. Ascending n (slice_set l 0 (with_value x v)) in subst W (sym e) (let f : Ascending n (x ∷ rest) = subst A e a in f)
still_rises n (suc i) [] x rest v a e = absurd (no_entry x rest e)
still_rises n (suc i) (y ∷ ys) x rest v a e = (a.0, still_rises (suc y.column) i ys x rest v a.1 e)

-- a sum is written
module _ (tally new : List Entry) (i : ℕ) (x y t : Entry) (w v : ℚ) (a : Ascending 0 tally) (h : i < length tally) (r : x ≡ get_or tally i x) (same : y ≡ x) (here : y.column ≡ t.column) (is : new ≡ slice_set tally i (with_value y v)) where
  left : drop i tally ≡ y ∷ drop (i + 1) tally
  left = drop_read tally i x h r ∙ ap (λ z. z ∷ drop (i + 1) tally) (sym same)

  pub sum_rises : Ascending 0 new
  sum_rises = let A : List Entry → Type 0 = λ l. Ascending 0 l in subst A (sym is) (still_rises 0 i tally y (drop (i + 1) tally) v a left)

  pub sum_moves : v ≡ y.value +ℚ w *ℚ t.value → IsNarrow v → MovesColumns (weighted_from w t) tally new
  sum_moves e f j g = go (eqb t.column j) refl
    where
      there : coefficient new j ≡ pick (eqb t.column j) v (coefficient tally j)
      there = ap (λ l. coefficient l j) is ∙ written 0 i tally y (drop (i + 1) tally) v j a left ∙ ap (λ c. pick (eqb c j) v (coefficient tally j)) here

      go : (b : Bool) → eqb t.column j ≡ b → (pick b (add_product_walk (coefficient tally j) w t.value) (Ok (coefficient tally j)) ≡ Ok (coefficient new j)) × IsNarrow (coefficient new j)
      go true p =
          let now : coefficient new j ≡ v = there ∙ ap (λ b. pick b v (coefficient tally j)) p in
          let old : y.value ≡ coefficient tally j = read_from 0 i tally y (drop (i + 1) tally) j a left (here ∙ eqb-true t.column j p) in
          (stepped (coefficient tally j) w t.value (coefficient new j) (now ∙ e ∙ ap (λ q. q +ℚ w *ℚ t.value) old) (subst IsNarrow (sym now) f), subst IsNarrow (sym now) f)
      go false p =
          let now : coefficient new j ≡ coefficient tally j = there ∙ ap (λ b. pick b v (coefficient tally j)) p in
          (ap (λ q. Ok q) (sym now), subst IsNarrow (sym now) g)

-- ---- passes
-- what is left to do from the numbers now is what there was to do from those at the start
abbrev pub Remains : {A : Type 0} → (ℕ → ℚ → A → Result ℚ Operation) → List Entry → A → List Entry → A → Type 0
Remains walk now rest start all = (j : ℕ) → IsNarrow (coefficient start j) → (walk j (coefficient now j) rest ≡ walk j (coefficient start j) all) × IsNarrow (coefficient now j)

pub remains_start : {A : Type 0} (walk : ℕ → ℚ → A → Result ℚ Operation) (start : List Entry) (all : A) → Remains walk start all start all
remains_start walk start all j f = (refl, f)

pub remains_next : {A : Type 0} (walk : ℕ → ℚ → A → Result ℚ Operation) (step : ℕ → ℚ → Result ℚ Operation) (now new start : List Entry) (before rest all : A)
    → ((j : ℕ) (s : ℚ) → walk j s before ≡ then_walk (step j s) (λ t. walk j t rest)) → Remains walk now before start all → MovesColumns step now new → Remains walk new rest start all
remains_next walk step now new start before rest all law same moves j f =
    let p = same j f in
    let m = moves j p.1 in
    (sym (ap (λ r. then_walk r (λ u. walk j u rest)) m.0) ∙ sym (law j (coefficient now j)) ∙ p.0, m.1)

pub remains_end : {A : Type 0} (walk : ℕ → ℚ → A → Result ℚ Operation) (now start : List Entry) (rest all : A) → ((j : ℕ) (s : ℚ) → walk j s rest ≡ Ok s)
    → Remains walk now rest start all → MovesColumns (λ j s. walk j s all) start now
remains_end walk now start rest all ends same j f =
    let p = same j f in
    (sym p.0 ∙ ends j (coefficient now j), p.1)

-- ---- entries whose columns rise
pub absent : (c j : ℕ) (es : List Entry) → j < c → Ascending c es → coefficient es j ≡ zero_ℚ
absent c j [] h a = refl
absent c j (e ∷ es) h a = value_none e es j c a (let k : c ≤ e.column = a.0 in omega arith)

absent_weighted : (c j : ℕ) (w s : ℚ) (es : List Entry) → j < c → Ascending c es → all_weighted_from w j s es ≡ Ok s
absent_weighted c j w s [] h a = refl
absent_weighted c j w s (e ∷ es) h a =
    let above : c ≤ e.column = a.0 in
    ap (λ b. then_walk (pick b (add_product_walk s w e.value) (Ok s)) (λ t. all_weighted_from w j t es)) (ne_eqb e.column j (λ same. absurd (omega (arith, same, h, above))))
    ∙ absent_weighted (suc e.column) j w s es (omega arith) a.1

only : (w : Result ℚ Operation) (t : ℚ) (f : ℚ → Result ℚ Operation) → ((u : ℚ) → f u ≡ Ok u) → then_walk w f ≡ Ok t → w ≡ Ok t
only (Ok u) t f h e = sym (h u) ∙ e
only (Err p) t f h e = absurd (cc)

weighted_sum : (c j : ℕ) (w s t : ℚ) (es : List Entry) → Ascending c es → IsNarrow s → all_weighted_from w j s es ≡ Ok t → add_product_walk s w (coefficient es j) ≡ Ok t
weighted_sum c j w s t [] a f e = adds_nothing s w zero_ℚ f (mul_zero_ℚ w) ∙ e
weighted_sum c j w s t (d ∷ es) a f e = go (eqb d.column j) refl (weighted_sum (suc d.column) j w s t es a.1 f) e
  where
    go : (b : Bool) → eqb d.column j ≡ b → (all_weighted_from w j s es ≡ Ok t → add_product_walk s w (coefficient es j) ≡ Ok t)
        → then_walk (pick b (add_product_walk s w d.value) (Ok s)) (λ u. all_weighted_from w j u es) ≡ Ok t → add_product_walk s w (value_if b d.value +ℚ coefficient es j) ≡ Ok t
    go true p ih e =
        let below : j < suc d.column = omega (arith, eqb-true d.column j p) in
        ap (λ q. add_product_walk s w q) (ap (λ q. d.value +ℚ q) (absent (suc d.column) j es below a.1) ∙ add_zero_ℚ d.value)
        ∙ only (add_product_walk s w d.value) t (λ u. all_weighted_from w j u es) (λ u. absent_weighted (suc d.column) j w u es below a.1) e
    go false p ih e = ap (λ q. add_product_walk s w q) (zero_add_ℚ (coefficient es j)) ∙ ih e

pub form_moves : (w : ℚ) (es read old new : List Entry) → Ascending 0 es → read ≡ es → MovesColumns (λ j s. all_weighted_from w j s read) old new → MovesColumns (λ j s. add_product_walk s w (coefficient es j)) old new
form_moves w es read old new a same moves j f =
    let m = moves j f in
    (weighted_sum 0 j w (coefficient old j) (coefficient new j) es a f (ap (all_weighted_from w j (coefficient old j)) (sym same) ∙ m.0), m.1)

pub row_moves : (n y : ℚ) (es old new : List Entry) → n ≡ neg_ℚ y → MovesColumns (λ j s. add_product_walk s n (coefficient es j)) old new → MovesColumns (λ j s. less_product_walk s (coefficient es j) y) old new
row_moves n y es old new e moves j f =
    let m = moves j f in
    (less_from_added (coefficient old j) n y (coefficient es j) (coefficient new j) e m.0, m.1)

pub row_stays : (y : ℚ) (es old : List Entry) → y ≡ zero_ℚ → MovesColumns (λ j s. less_product_walk s (coefficient es j) y) old old
row_stays y es old e j f = (less_zero_product (coefficient old j) (coefficient es j) y f (ap (λ q. coefficient es j *ℚ q) e ∙ mul_zero_ℚ (coefficient es j)), f)

-- ---- the start
zeros_are : (es : List Entry) (j : ℕ) → Each (λ (e : Entry). e.value ≡ zero_ℚ) es → coefficient es j ≡ zero_ℚ
zeros_are [] j h = refl
zeros_are (e ∷ es) j h = ap₂ (λ v q. value_if (eqb e.column j) v +ℚ q) h.0 (zeros_are es j h.1) ∙ add_zero_ℚ (value_if (eqb e.column j) zero_ℚ) ∙ both (eqb e.column j)
  where
    both : (b : Bool) → value_if b zero_ℚ ≡ zero_ℚ
    both true = refl
    both false = refl

zero_fits : IsNarrow zero_ℚ
zero_fits = product_fits zero_ℚ zero_ℚ zero_ℚ (mul_walk_zero zero_ℚ)

pub costs_added : (es old new : List Entry) (j : ℕ) → AreZeros old → MovesColumns (λ j s. add_product_walk s one_ℚ (coefficient es j)) old new → (coefficient new j ≡ coefficient es j) × IsNarrow (coefficient new j)
costs_added es old new j z moves =
    let none : coefficient old j ≡ zero_ℚ = zeros_are old j z.zeros in
    let m = moves j (subst IsNarrow (sym none) zero_fits) in
    let v : coefficient new j ≡ coefficient old j +ℚ one_ℚ *ℚ coefficient es j = step_value Add (coefficient old j) one_ℚ (coefficient es j) (coefficient new j) m.0 in
    (v ∙ ap (λ q. q +ℚ one_ℚ *ℚ coefficient es j) none ∙ by_ring (coefficient es j ∷ []) (search terms depth 40) tt, m.1)

pub no_costs : (old : List Entry) (j : ℕ) → AreZeros old → (coefficient old j ≡ zero_ℚ) × IsNarrow (coefficient old j)
no_costs old j z = let none : coefficient old j ≡ zero_ℚ = zeros_are old j z.zeros in (none, subst IsNarrow (sym none) zero_fits)

pub bound_costs : (d : Datum) (k : CutKind) (one : ℚ) (es old new : List Entry) → k ≡ Bound → one ≡ one_ℚ → es ≡ d.cost → AreZeros old → MovesColumns (λ j q. add_product_walk q one (coefficient es j)) old new → AreCosts d k new
bound_costs d k one es old new kind unit same z moves j =
    let p = costs_added es old new j z (subst (λ w. MovesColumns (λ j q. add_product_walk q w (coefficient es j)) old new) unit moves) in
    (p.0 ∙ ap (λ l. coefficient l j) same ∙ sym (ap (λ k. cost_of d k j) kind), p.1)

pub ray_costs : (d : Datum) (k : CutKind) (old : List Entry) → k ≡ Ray → AreZeros old → AreCosts d k old
ray_costs d k old kind z j =
    let p = no_costs old j z in
    (p.0 ∙ sym (ap (λ k. cost_of d k j) kind), p.1)

-- a column behind all others, with 0
pub zero_pushed : (n c : ℕ) (es : List Entry) → n ≤ c → Ascending n es → EndsBelow c es → Ascending n (es ++ record { column = c; value = zero_ℚ } ∷ [])
zero_pushed n c [] h a b = (h, tt)
zero_pushed n c (e ∷ es) h a b = (a.0, zero_pushed (suc e.column) c es (let k : e.column < c = b.0 in omega arith) a.1 b.1)

pub zeros_pushed : (c : ℕ) (es : List Entry) → Each (λ (e : Entry). e.value ≡ zero_ℚ) es → Each (λ (e : Entry). e.value ≡ zero_ℚ) (es ++ record { column = c; value = zero_ℚ } ∷ [])
zeros_pushed c [] h = (refl, tt)
zeros_pushed c (e ∷ es) h = (h.0, zeros_pushed c es h.1)

pub pushed : (c : ℕ) (v : ℚ) (es all : List Entry) → AreZeros es → EndsBelow c es → v ≡ zero_ℚ → all ≡ es ++ record { column = c; value = v } ∷ [] → AreZeros all
pushed c v es all z b e is =
    let same : all ≡ es ++ record { column = c; value = zero_ℚ } ∷ [] = is ∙ ap (λ q. es ++ record { column = c; value = q } ∷ []) e in
    subst AreZeros (sym same) (record { rises = zero_pushed 0 c es (omega arith) z.rises b; zeros = zeros_pushed c es z.zeros })

-- below what is above the last column all columns are
last_below : (n c : ℕ) (es : List Entry) (x : Entry) (k : ℕ) → Ascending n es → suc k ≡ length es → x ≡ get_or es k x → x.column < c → EndsBelow c es
last_below n c [] x k a q e h = tt
last_below n c (y ∷ []) x zero a q e h = (subst (λ (z : Entry). z.column < c) e h, tt)
last_below n c (y ∷ []) x (suc k) a q e h = absurd (omega (arith, q))
last_below n c (y ∷ z ∷ es) x zero a q e h = absurd (omega (arith, q))
last_below n c (y ∷ z ∷ es) x (suc k) a q e h =
    let i : EndsBelow c (z ∷ es) = last_below (suc y.column) c (z ∷ es) x k a.1 (omega (arith, q)) e h in
    (let k : suc y.column ≤ z.column = a.1.0 in let l : z.column < c = i.0 in omega arith, i)

pub ends_below : (c : ℕ) (es : List Entry) (x y : Entry) → Ascending 0 es → (length es ≡ 0 → ⊥) → x ≡ get_or es (length es - 1) x → y ≡ x → y.column < c → EndsBelow c es
ends_below c es x y a n e same h =
    let q : suc (length es - 1) ≡ length es = omega (arith, n) in
    last_below 0 c es x (length es - 1) a q e (subst (λ (z : Entry). z.column < c) same h)

-- ---- all of it
pub filled : (d : Datum) (s : Source) (uses : StoredUses) (first second third : List Entry) → AreCosts d s.kind first → MovesColumns (λ j q. less_from j (coefficient s.multipliers) q d.rows) first second → MovesColumns (λ j q. uses_from j q uses) second third
    → Ascending 0 third → AreSums d s uses third
filled d s uses first second third costs rows used a = record {
  rises = a;
  ends = λ j.
      let c = costs j in
      let r = rows j c.1 in
      let u = used j r.1 in
      ap (λ q. column_walk d.rows s.multipliers uses j q) (sym c.0) ∙ ap (λ w. then_walk w (λ t. uses_from j t uses)) r.0 ∙ u.0;
}
