-- Forms that are merged by column.
use Rattle.std.proofs.Common.{◌≡◌, ◌≢◌, ℕ, suc, ◌+◌, ◌<◌, ◌≤◌, Bool, true, false, ltb, List, [], ◌∷◌, ◌++◌, length, refl, sym, ap, ◌∙◌, arith, append_assoc}
use Rattle.std.proofs.lemmas.Bool.{ltb-true, ltb-false, lt-ltb, le-ltb}
use Rattle.rationals.specs.Rational.{ℚ, zero_ℚ, one_ℚ, neg_ℚ, ◌+ℚ◌, ◌*ℚ◌, by_ring, by_eqs, terms, zero_add_ℚ}
use Rattle.rationals.specs.Ring.Eqs.{done, by_eq}
use Rattle.rationals.specs.Choices.{pick}
use Rattle.rationals.specs.Sparse.{Entry, product, Ascending}
use Rattle.rationals.specs.Forms.{AllNonzero, EndsBelow, IsForm}
use Rattle.scen_defs.specs.Lists.{Each}
use Rattle.tail_risk.specs.TailRow.{merged, put_among, with_other_signs}
use Rattle.tail_risk.specs.Paths.{HaveNoCommonColumn}

-- ---- what holds of the entries of both holds of the entries of what is merged
module _ (P : Entry → Type 0) where
  among_each : (e : Entry) (rest : List Entry → List Entry) → P e → ((g : List Entry) → Each P g → Each P (rest g)) → (g : List Entry) → Each P g → Each P (put_among e rest g)
  among_each e rest p h [] k = (p, h [] tt)
  among_each e rest p h (d ∷ g) k = go (ltb e.column d.column) (among_each e rest p h g k.1)
    where
      go : (b : Bool) → Each P (put_among e rest g) → Each P (pick b (e ∷ rest (d ∷ g)) (d ∷ put_among e rest g))
      go true i = (p, h (d ∷ g) k)
      go false i = (k.0, i)

  pub merged_each : (f g : List Entry) → Each P f → Each P g → Each P (merged f g)
  merged_each [] g h k = k
  merged_each (e ∷ f) g h k = among_each e (merged f) h.0 (λ g k. merged_each f g h.1 k) g k

-- ---- length and product
among_length : (e : Entry) (rest : List Entry → List Entry) (n : ℕ) → ((g : List Entry) → length (rest g) ≡ n + length g) → (g : List Entry) → length (put_among e rest g) ≡ suc n + length g
among_length e rest n h [] = let i : length (rest []) ≡ n + 0 = h [] in omega (arith, i)
among_length e rest n h (d ∷ g) = go (ltb e.column d.column) (among_length e rest n h g)
  where
    go : (b : Bool) → length (put_among e rest g) ≡ suc n + length g → length (pick b (e ∷ rest (d ∷ g)) (d ∷ put_among e rest g)) ≡ suc n + suc (length g)
    go true i = let j : length (rest (d ∷ g)) ≡ n + suc (length g) = h (d ∷ g) in omega (arith, j)
    go false i = ap suc i ∙ (let q : suc (suc n + length g) ≡ suc n + suc (length g) = omega arith in q)

pub merged_length : (f g : List Entry) → length (merged f g) ≡ length f + length g
merged_length [] g = let e : length g ≡ 0 + length g = omega arith in e
merged_length (e ∷ f) g = among_length e (merged f) (length f) (merged_length f) g

module _ (x : ℕ → ℚ) where
  among_product : (e : Entry) (rest : List Entry → List Entry) (s : ℚ) → ((g : List Entry) → product (rest g) x ≡ s +ℚ product g x) → (g : List Entry)
      → product (put_among e rest g) x ≡ (e.value *ℚ x e.column +ℚ s) +ℚ product g x
  among_product e rest s h [] = by_eqs (e.value *ℚ x e.column ∷ s ∷ product (rest []) x ∷ []) (by_eq one_ℚ (h []) done) (search terms depth 40) tt
  among_product e rest s h (d ∷ g) = go (ltb e.column d.column) (among_product e rest s h g)
    where
      go : (b : Bool) → product (put_among e rest g) x ≡ (e.value *ℚ x e.column +ℚ s) +ℚ product g x
          → product (pick b (e ∷ rest (d ∷ g)) (d ∷ put_among e rest g)) x ≡ (e.value *ℚ x e.column +ℚ s) +ℚ (d.value *ℚ x d.column +ℚ product g x)
      go true i = by_eqs (e.value *ℚ x e.column ∷ s ∷ d.value *ℚ x d.column ∷ product g x ∷ product (rest (d ∷ g)) x ∷ []) (by_eq one_ℚ (h (d ∷ g)) done) (search terms depth 40) tt
      go false i = by_eqs (e.value *ℚ x e.column ∷ s ∷ d.value *ℚ x d.column ∷ product g x ∷ product (put_among e rest g) x ∷ []) (by_eq one_ℚ i done) (search terms depth 40) tt

  pub merged_product : (f g : List Entry) → product (merged f g) x ≡ product f x +ℚ product g x
  merged_product [] g = sym (zero_add_ℚ (product g x))
  merged_product (e ∷ f) g = among_product e (merged f) (product f x) (merged_product f) g

-- ---- a form
nonzero_each : (f : List Entry) → AllNonzero f → Each (λ (e : Entry). e.value ≢ zero_ℚ) f
nonzero_each [] h = tt
nonzero_each (e ∷ f) h = (h.0, nonzero_each f h.1)

each_nonzero : (f : List Entry) → Each (λ (e : Entry). e.value ≢ zero_ℚ) f → AllNonzero f
each_nonzero [] h = tt
each_nonzero (e ∷ f) h = (h.0, each_nonzero f h.1)

among_rises : (e : Entry) (f : List Entry) → ((n : ℕ) (g : List Entry) → Ascending n f → Ascending n g → HaveNoCommonColumn f g → Ascending n (merged f g))
    → (n : ℕ) (g : List Entry) → Ascending n (e ∷ f) → Ascending n g → HaveNoCommonColumn (e ∷ f) g → Ascending n (put_among e (merged f) g)
among_rises e f h n [] a b k = (a.0, h (suc e.column) [] a.1 tt k.1)
among_rises e f h n (d ∷ g) a b k = go (ltb e.column d.column) refl
    (λ q. among_rises e f h (suc d.column) g (q, a.1) b.1 (k.0.1, fewer f k.1))
  where
    fewer : (f : List Entry) → HaveNoCommonColumn f (d ∷ g) → HaveNoCommonColumn f g
    fewer [] k = tt
    fewer (e ∷ f) k = (k.0.1, fewer f k.1)

    go : (b' : Bool) → ltb e.column d.column ≡ b' → (suc d.column ≤ e.column → Ascending (suc d.column) (put_among e (merged f) g)) → Ascending n (pick b' (e ∷ merged f (d ∷ g)) (d ∷ put_among e (merged f) g))
    go true q i = let l : e.column < d.column = ltb-true e.column d.column q in (a.0, h (suc e.column) (d ∷ g) a.1 (omega (arith, l), b.1) k.1)
    go false q i =
        let l : d.column ≤ e.column = ltb-false e.column d.column q in
        let ne : ¬ (d.column ≡ e.column) = k.0.0 in
        (b.0, i (omega (arith, l, ne)))

merged_rises : (f : List Entry) (n : ℕ) (g : List Entry) → Ascending n f → Ascending n g → HaveNoCommonColumn f g → Ascending n (merged f g)
merged_rises [] n g a b k = b
merged_rises (e ∷ f) n g a b k = among_rises e f (λ n g. merged_rises f n g) n g a b k

pub merged_is_form : (f g : List Entry) → IsForm f → IsForm g → HaveNoCommonColumn f g → IsForm (merged f g)
merged_is_form f g a b k = record {
  rises = merged_rises f 0 g a.rises b.rises k;
  nonzero = each_nonzero (merged f g) (merged_each (λ (e : Entry). e.value ≢ zero_ℚ) f g (nonzero_each f a.nonzero) (nonzero_each g b.nonzero));
}

-- ---- a step of the merge
pub merged_less : (x : Entry) (f : List Entry) (y : Entry) (g : List Entry) → x.column < y.column → merged (x ∷ f) (y ∷ g) ≡ x ∷ merged f (y ∷ g)
merged_less x f y g h = ap (λ b. pick b (x ∷ merged f (y ∷ g)) (y ∷ merged (x ∷ f) g)) (lt-ltb x.column y.column h)

pub merged_not_less : (x : Entry) (f : List Entry) (y : Entry) (g : List Entry) → y.column ≤ x.column → merged (x ∷ f) (y ∷ g) ≡ y ∷ merged (x ∷ f) g
merged_not_less x f y g h = ap (λ b. pick b (x ∷ merged f (y ∷ g)) (y ∷ merged (x ∷ f) g)) (le-ltb x.column y.column h)

pub merged_nothing : (f : List Entry) → merged f [] ≡ f
merged_nothing [] = refl
merged_nothing (e ∷ f) = ap (λ l. e ∷ l) (merged_nothing f)

-- an entry is pushed
pub pushed_less : (all more xs ys whole f g : List Entry) (x y : Entry) → xs ≡ x ∷ f → ys ≡ y ∷ g → x.column < y.column → more ≡ all ++ x ∷ [] → all ++ merged xs ys ≡ whole → more ++ merged f ys ≡ whole
pushed_less all more xs ys whole f g x y ex ey h m so =
    ap (λ l. l ++ merged f ys) m ∙ append_assoc all (x ∷ []) (merged f ys)
    ∙ ap (λ l. all ++ l) (ap (λ l. x ∷ merged f l) ey ∙ sym (merged_less x f y g h) ∙ sym (ap (λ l. merged l (y ∷ g)) ex ∙ refl) ∙ sym (ap (merged xs) ey)) ∙ so

pub pushed_not_less : (all more xs ys whole f g : List Entry) (x y : Entry) → xs ≡ x ∷ f → ys ≡ y ∷ g → y.column ≤ x.column → more ≡ all ++ y ∷ [] → all ++ merged xs ys ≡ whole → more ++ merged xs g ≡ whole
pushed_not_less all more xs ys whole f g x y ex ey h m so =
    ap (λ l. l ++ merged xs g) m ∙ append_assoc all (y ∷ []) (merged xs g)
    ∙ ap (λ l. all ++ l) (ap (λ l. y ∷ merged l g) ex ∙ sym (merged_not_less x f y g h) ∙ sym (ap (λ l. merged l (y ∷ g)) ex) ∙ sym (ap (merged xs) ey)) ∙ so

-- ---- other signs
pub turned_each : (P : ℕ → Type 0) (f : List Entry) → Each (λ (e : Entry). P e.column) f → Each (λ (e : Entry). P e.column) (with_other_signs f)
turned_each P [] h = tt
turned_each P (e ∷ f) h = (h.0, turned_each P f h.1)

turned_back : (v : ℚ) → neg_ℚ (neg_ℚ v) ≡ v
turned_back v = by_ring (v ∷ []) (search terms depth 40) tt

turned_zero : (v : ℚ) → neg_ℚ v ≡ zero_ℚ → v ≡ zero_ℚ
turned_zero v h = sym (turned_back v) ∙ ap neg_ℚ h ∙ by_ring [] (search terms depth 40) tt

turned_rises : (n : ℕ) (f : List Entry) → Ascending n f → Ascending n (with_other_signs f)
turned_rises n [] h = tt
turned_rises n (e ∷ f) h = (h.0, turned_rises (suc e.column) f h.1)

turned_nonzero : (f : List Entry) → AllNonzero f → AllNonzero (with_other_signs f)
turned_nonzero [] h = tt
turned_nonzero (e ∷ f) h = ((λ z. h.0 (turned_zero e.value z)), turned_nonzero f h.1)

pub turned_is_form : (f : List Entry) → IsForm f → IsForm (with_other_signs f)
turned_is_form f h = record { rises = turned_rises 0 f h.rises; nonzero = turned_nonzero f h.nonzero }

pub turned_product : (x : ℕ → ℚ) (f : List Entry) → product (with_other_signs f) x ≡ neg_ℚ (product f x)
turned_product x [] = by_ring [] (search terms depth 40) tt
turned_product x (e ∷ f) = by_eqs (e.value ∷ x e.column ∷ product f x ∷ product (with_other_signs f) x ∷ []) (by_eq one_ℚ (turned_product x f) done) (search terms depth 40) tt

pub turned_length : (f : List Entry) → length (with_other_signs f) ≡ length f
turned_length [] = refl
turned_length (e ∷ f) = ap suc (turned_length f)

pub ends_below : (c : ℕ) (f : List Entry) → Each (λ (e : Entry). e.column < c) f → EndsBelow c f
ends_below c [] h = tt
ends_below c (e ∷ f) h = (h.0, ends_below c f h.1)
