-- The walks give the sums and the value, and so decide.
use Rattle.std.proofs.Common.{◌≡◌, ℕ, zero, suc, add-one, ◌+◌, ◌-◌, ◌<◌, ◌≤◌, ◌&&◌, not, Bool, true, false, List, [], ◌∷◌, Ok, Err, eqb, length, refl, sym, ap, ap₂, ◌∙◌, subst, arith, eqb-true}
use Rattle.std.specs.Prelude.{Decides}
use Rattle.std.proofs.lemmas.Bool.{false≢true, eqb-false}
use Rattle.rationals.specs.declared.Op.TheVariants.{Add}
use Rattle.rationals.specs.Rational.{ℚ, zero_ℚ, one_ℚ, ◌+ℚ◌, ◌*ℚ◌, ◌≤ℚ◌, ◌<ℚ◌, not_le_of_lt_ℚ, zero_add_ℚ, by_eqs, terms}
use Rattle.rationals.specs.Ring.Eqs.{done, by_eq}
use Rattle.rationals.specs.Sums.{dot}
use Rattle.rationals.specs.Passes.{Operation, add_product_walk, then_walk}
use Rattle.rationals.specs.Sparse.{Entry, coefficient}
use Rattle.rationals.proofs.WalkLaws.{step_value}
use Rattle.lp_defs.specs.Tests.{is_above_zero, is_above_zero_true, is_above_zero_false}
use Rattle.lp_defs.specs.Walks.{Walk, after_ok}
use Rattle.lp_defs.specs.Program.{Program}
use Rattle.lp_defs.specs.Certificates.{column_of, IsInfeasible}
use Rattle.farkas_ray.specs.Sums.{column_from, columns_from, value_from, ray_walk}

column_is : (s : ℚ) (rows : List (List Entry)) (y : List ℚ) (j : ℕ) (v : ℚ) → column_from s rows y j ≡ Ok v → v ≡ s +ℚ dot y (column_of rows j)
column_is s [] [] j v e = let h : v ≡ s = cc in by_eqs (s ∷ v ∷ []) (by_eq one_ℚ h done) (search terms depth 40) tt
column_is s [] (w ∷ y) j v e = let h : v ≡ s = cc in by_eqs (s ∷ v ∷ []) (by_eq one_ℚ h done) (search terms depth 40) tt
column_is s (f ∷ rows) [] j v e = let h : v ≡ s = cc in by_eqs (s ∷ v ∷ []) (by_eq one_ℚ h done) (search terms depth 40) tt
column_is s (f ∷ rows) (w ∷ y) j v e =
    let a = after_ok (add_product_walk s (coefficient f j) w) (λ t. column_from t rows y j) v e in
    let t : a.0 ≡ s +ℚ coefficient f j *ℚ w = step_value Add s (coefficient f j) w a.0 a.1 in
    let r : v ≡ a.0 +ℚ dot y (column_of rows j) = column_is a.0 rows y j v a.2 in
    by_eqs (s ∷ v ∷ w ∷ coefficient f j ∷ a.0 ∷ dot y (column_of rows j) ∷ []) (by_eq one_ℚ r (by_eq one_ℚ t done)) (search terms depth 40) tt

value_is : (s : ℚ) (y right : List ℚ) (v : ℚ) → value_from s y right ≡ Ok v → v ≡ s +ℚ dot y right
value_is s [] right v e = let h : v ≡ s = cc in by_eqs (s ∷ v ∷ []) (by_eq one_ℚ h done) (search terms depth 40) tt
value_is s (w ∷ y) [] v e = let h : v ≡ s = cc in by_eqs (s ∷ v ∷ []) (by_eq one_ℚ h done) (search terms depth 40) tt
value_is s (w ∷ y) (q ∷ right) v e =
    let a = after_ok (add_product_walk s w q) (λ t. value_from t y right) v e in
    let t : a.0 ≡ s +ℚ w *ℚ q = step_value Add s w q a.0 a.1 in
    let r : v ≡ a.0 +ℚ dot y right = value_is a.0 y right v a.2 in
    by_eqs (s ∷ v ∷ w ∷ q ∷ a.0 ∷ dot y right ∷ []) (by_eq one_ℚ r (by_eq one_ℚ t done)) (search terms depth 40) tt

-- ---- what the tests say
both : (a b : Bool) → a && b ≡ true → (a ≡ true) × (b ≡ true)
both true b e = (refl, e)
both false b e = absurd (false≢true e)

join : (a b : Bool) → a ≡ true → b ≡ true → a && b ≡ true
join true b p q = q
join false b p q = absurd (false≢true p)

low_of : (s : ℚ) → not (is_above_zero s) ≡ true → s ≤ℚ zero_ℚ
low_of s e = go (is_above_zero s) refl e
  where
    go : (b : Bool) → is_above_zero s ≡ b → not b ≡ true → s ≤ℚ zero_ℚ
    go true p e = absurd (false≢true e)
    go false p e = is_above_zero_false s p

low_to : (s : ℚ) → s ≤ℚ zero_ℚ → not (is_above_zero s) ≡ true
low_to s h = go (is_above_zero s) refl
  where
    go : (b : Bool) → is_above_zero s ≡ b → not b ≡ true
    go true p = absurd (not_le_of_lt_ℚ (is_above_zero_true s p) h)
    go false p = refl

above_to : (s : ℚ) → zero_ℚ <ℚ s → is_above_zero s ≡ true
above_to s h = go (is_above_zero s) refl
  where
    go : (b : Bool) → is_above_zero s ≡ b → is_above_zero s ≡ true
    go true p = p
    go false p = absurd (not_le_of_lt_ℚ h (is_above_zero_false s p))

-- all sums of m columns from j on are at most 0
abbrev Low : List (List Entry) → List ℚ → ℕ → ℕ → Type 0
Low rows y j m = (c : ℕ) → j ≤ c → c < j + m → dot y (column_of rows c) ≤ℚ zero_ℚ

sum_is : (rows : List (List Entry)) (y : List ℚ) (j : ℕ) (v : ℚ) → column_from zero_ℚ rows y j ≡ Ok v → v ≡ dot y (column_of rows j)
sum_is rows y j v e = column_is zero_ℚ rows y j v e ∙ zero_add_ℚ (dot y (column_of rows j))

good_of : (rows : List (List Entry)) (y : List ℚ) (j m : ℕ) (good b : Bool) → columns_from rows y j m good ≡ Ok b → b ≡ true → (good ≡ true) × Low rows y j m
good_of rows y j zero good b e t = let h : good ≡ b = cc in (h ∙ t, λ c l u. absurd (omega arith))
good_of rows y j (suc m) good b e t =
    let a = after_ok (column_from zero_ℚ rows y j) (λ s. columns_from rows y (suc j) m (good && not (is_above_zero s))) b e in
    let r = good_of rows y (suc j) m (good && not (is_above_zero a.0)) b a.2 t in
    let k = both good (not (is_above_zero a.0)) r.0 in
    let here : dot y (column_of rows j) ≤ℚ zero_ℚ = subst (λ (x : ℚ). x ≤ℚ zero_ℚ) (sum_is rows y j a.0 a.1) (low_of a.0 k.1) in
    (k.0, λ c l u. at c l u (eqb c j) refl here r.1)
  where
    at : (c : ℕ) → j ≤ c → c < j + suc m → (b : Bool) → eqb c j ≡ b → dot y (column_of rows j) ≤ℚ zero_ℚ → Low rows y (suc j) m → dot y (column_of rows c) ≤ℚ zero_ℚ
    at c l u true q here rest = subst (λ (x : ℕ). dot y (column_of rows x) ≤ℚ zero_ℚ) (sym (eqb-true c j q)) here
    at c l u false q here rest = rest c (let ne : ¬ (c ≡ j) = eqb-false c j q in omega arith) (omega arith)

good_to : (rows : List (List Entry)) (y : List ℚ) (j m : ℕ) (good b : Bool) → columns_from rows y j m good ≡ Ok b → good ≡ true → Low rows y j m → b ≡ true
good_to rows y j zero good b e g low = let h : good ≡ b = cc in sym h ∙ g
good_to rows y j (suc m) good b e g low =
    let a = after_ok (column_from zero_ℚ rows y j) (λ s. columns_from rows y (suc j) m (good && not (is_above_zero s))) b e in
    let here : a.0 ≤ℚ zero_ℚ = subst (λ (x : ℚ). x ≤ℚ zero_ℚ) (sym (sum_is rows y j a.0 a.1)) (low j (omega arith) (omega arith)) in
    good_to rows y (suc j) m (good && not (is_above_zero a.0)) b a.2 (join good (not (is_above_zero a.0)) g (low_to a.0 here)) (λ c l u. low c (omega arith) (omega arith))

-- ---- the whole
record Parts (p : Program) (y : List ℚ) (b : Bool) : Type 0 where
  good : Bool
  value : ℚ
  sums : columns_from p.rows y 0 p.columns true ≡ Ok good
  is : value ≡ dot y p.right
  both_are : good && is_above_zero value ≡ b

parts : (p : Program) (y : List ℚ) (b : Bool) → ray_walk p y ≡ Ok b → Parts p y b
parts p y b e =
    let a = after_ok (columns_from p.rows y 0 p.columns true) (λ good. then_walk (value_from zero_ℚ y p.right) (λ v. Ok (good && is_above_zero v))) b e in
    let c = after_ok (value_from zero_ℚ y p.right) (λ v. Ok (a.0 && is_above_zero v)) b a.2 in
    record { good = a.0; value = c.0; sums = a.1; is = value_is zero_ℚ y p.right c.0 c.1 ∙ zero_add_ℚ (dot y p.right); both_are = cc }

ray_shows : (p : Program) (y : List ℚ) → length y ≡ length p.rows → ray_walk p y ≡ Ok true → IsInfeasible p y
ray_shows p y h e =
    let k : Parts p y true = parts p y true e in
    let t = both k.good (is_above_zero k.value) k.both_are in
    let low = good_of p.rows y 0 p.columns true k.good k.sums t.0 in
    record { one_each = h; sums = λ j l. low.1 j (omega arith) (omega arith); above = subst (λ (x : ℚ). zero_ℚ <ℚ x) k.is (is_above_zero_true k.value t.1) }

none_shows : (p : Program) (y : List ℚ) → ray_walk p y ≡ Ok false → IsInfeasible p y → ⊥
none_shows p y e h =
    let k : Parts p y false = parts p y false e in
    let g : k.good ≡ true = good_to p.rows y 0 p.columns true k.good k.sums refl (λ c l u. h.sums c (omega arith)) in
    let a : is_above_zero k.value ≡ true = above_to k.value (subst (λ (x : ℚ). zero_ℚ <ℚ x) (sym k.is) h.above) in
    false≢true (sym k.both_are ∙ join k.good (is_above_zero k.value) g a)

pub ray_decides : (p : Program) (y : List ℚ) (b : Bool) → length y ≡ length p.rows → ray_walk p y ≡ Ok b → Decides b (IsInfeasible p y)
ray_decides p y true h e = (λ is. ray_shows p y h e, λ shown. refl)
ray_decides p y false h e = (λ is. absurd (false≢true is), λ shown. absurd (none_shows p y e shown))

-- ---- one more column
at_column : (rows : List (List Entry)) (y : List ℚ) (c n : ℕ) (good : Bool) (whole : Walk Bool) → c < n → columns_from rows y c (n - c) good ≡ whole → columns_from rows y c (suc (n - (c + 1))) good ≡ whole
at_column rows y c n good whole h w = let k : n - c ≡ suc (n - (c + 1)) = omega arith in subst (λ (m : ℕ). columns_from rows y c m good ≡ whole) k w

pub next_column : (rows : List (List Entry)) (y : List ℚ) (c n : ℕ) (good new : Bool) (r : Walk ℚ) (s : ℚ) (whole : Walk Bool) → c < n → r ≡ column_from zero_ℚ rows y c → r ≡ Ok s → new ≡ good && not (is_above_zero s) → columns_from rows y c (n - c) good ≡ whole → columns_from rows y (c + 1) (n - (c + 1)) new ≡ whole
next_column rows y c n good new r s whole h k e g w =
    ap₂ (λ (j : ℕ) (b : Bool). columns_from rows y j (n - (c + 1)) b) (add-one c) g
    ∙ sym (ap (λ (x : Walk ℚ). then_walk x (λ v. columns_from rows y (suc c) (n - (c + 1)) (good && not (is_above_zero v)))) (sym k ∙ e))
    ∙ at_column rows y c n good whole h w

pub stop_column : (rows : List (List Entry)) (y : List ℚ) (c n : ℕ) (good : Bool) (r : Walk ℚ) (o : Operation) (whole : Walk Bool) → c < n → r ≡ column_from zero_ℚ rows y c → r ≡ Err o → columns_from rows y c (n - c) good ≡ whole → whole ≡ Err o
stop_column rows y c n good r o whole h k e w =
    sym (at_column rows y c n good whole h w) ∙ ap (λ (x : Walk ℚ). then_walk x (λ v. columns_from rows y (suc c) (n - (c + 1)) (good && not (is_above_zero v)))) (sym k ∙ e)
