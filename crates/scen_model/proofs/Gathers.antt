-- Passes over the numbers of many places.
use Rattle.std.proofs.Common.{◌≡◌, ℕ, ◌<◌, Bool, true, false, ◌||◌, eqb, List, [], ◌∷◌, Result, Ok, length, get_or, refl, sym, ap, subst, ◌∙◌, eqb-true}
use Rattle.rationals.specs.Rational.{ℚ, zero_ℚ}
use Rattle.rationals.specs.Passes.{Operation, add_walk, then_walk, IsNarrow}
use Rattle.rationals.proofs.OrderMeaning.{mul_walk_zero}
use Rattle.rationals.specs.Choices.{pick}
use Rattle.scen_defs.specs.Lists.{is_in}
use Rattle.scen_defs.specs.Program.{View}
use Rattle.scen_defs.specs.Walks.{total_from}
use Rattle.scen_model.specs.Gathered.{Moves, everywhere, AreTotals}
use Rattle.rationals.proofs.WalkLaws.{product_fits}

-- what is left to do from the numbers now is what there was to do from those at the start
abbrev pub Same : {A P : Type 0} → (ℕ → Bool) → (ℕ → ℚ → List A → Result ℚ P) → List ℚ → List A → List ℚ → List A → Type 0
Same test walk now rest start all =
    (n : ℕ) (d : ℚ) → n < length start → test n ≡ true → IsNarrow (get_or start n d) → (walk n (get_or now n d) rest ≡ walk n (get_or start n d) all) × IsNarrow (get_or now n d)

-- nothing is done
pub same_start : {A P : Type 0} (test : ℕ → Bool) (walk : ℕ → ℚ → List A → Result ℚ P) (start : List ℚ) (all : List A) → Same test walk start all start all
same_start test walk start all n d h t f = (refl, f)

-- all is done
pub same_end : {A P : Type 0} (test : ℕ → Bool) (walk : ℕ → ℚ → List A → Result ℚ P) (now start : List ℚ) (rest all : List A) → rest ≡ [] → ((n : ℕ) (s : ℚ) → walk n s [] ≡ Ok s)
    → Same test walk now rest start all → Moves test (λ n s. walk n s all) start now
same_end test walk now start rest all none ends same n d h t f =
    let p = same n d h t f in
    (sym p.0 ∙ ap (walk n (get_or now n d)) none ∙ ends n (get_or now n d), p.1)

-- one more member is done
pub same_next : {A P : Type 0} (test : ℕ → Bool) (walk : ℕ → ℚ → List A → Result ℚ P) (step : ℕ → ℚ → Result ℚ P) (now new start : List ℚ) (x : A) (left rest all : List A)
    → left ≡ x ∷ rest → length now ≡ length start → ((n : ℕ) (s : ℚ) → walk n s (x ∷ rest) ≡ then_walk (step n s) (λ t. walk n t rest))
    → Same test walk now left start all → Moves test step now new → Same test walk new rest start all
same_next test walk step now new start x left rest all read long law same moves n d h t f =
    let p = same n d h t f in
    let m = moves n d (subst (λ k. n < k) (sym long) h) t p.1 in
    (sym (ap (λ r. then_walk r (λ u. walk n u rest)) m.0) ∙ sym (law n (get_or now n d)) ∙ sym (ap (walk n (get_or now n d)) read) ∙ p.0, m.1)

-- ---- a path
abbrev pub path_walk : ℚ → ℕ → ℚ → List ℕ → Result ℚ Operation
path_walk p n s path = pick (is_in n path) (add_walk s p) (Ok s)

clash : true ≡ false → ⊥
clash e = cc

-- one more node of a path, which stands there once
pub path_next : (p : ℚ) (now new start : List ℚ) (x : ℕ) (left rest all : List ℕ) → left ≡ x ∷ rest → length now ≡ length start → is_in x rest ≡ false
    → Same (λ n. true) (path_walk p) now left start all → Moves (λ n. true) (λ n s. pick (eqb x n) (add_walk s p) (Ok s)) now new → Same (λ n. true) (path_walk p) new rest start all
path_next p now new start x left rest all read long once same moves n d h t f =
    let q = same n d h t f in
    let m = moves n d (subst (λ k. n < k) (sym long) h) t q.1 in
    (go (eqb x n) refl (get_or now n d) (get_or new n d) m.0 ∙ sym (ap (path_walk p n (get_or now n d)) read) ∙ q.0, m.1)
  where
    go : (b : Bool) → eqb x n ≡ b → (s t : ℚ) → pick b (add_walk s p) (Ok s) ≡ Ok t → path_walk p n t rest ≡ path_walk p n s (x ∷ rest)
    go true e s t m =
        let here : is_in n rest ≡ false = subst (λ k. is_in k rest ≡ false) (eqb-true x n e) once in
        ap (λ b. pick b (add_walk t p) (Ok t)) here ∙ sym m ∙ sym (ap (λ b. pick (b || is_in n rest) (add_walk s p) (Ok s)) e)
    go false e s t m =
        let same : s ≡ t = cc in
        ap (λ u. path_walk p n u rest) (sym same) ∙ sym (ap (λ b. pick (b || is_in n rest) (add_walk s p) (Ok s)) e)

-- ---- totals
-- sums that were 0 at the start and to which all scenarios are added
pub totals_moved : (v : View) (start sums : List ℚ) → length sums ≡ length start → ((n : ℕ) (d : ℚ) → n < length start → get_or start n d ≡ zero_ℚ)
    → Moves everywhere (λ n s. total_from n s v.scenarios) start sums → AreTotals v sums
totals_moved v start sums long zeros moves n d h =
    let within = subst (λ k. n < k) long h in
    let zero = zeros n d within in
    let m = moves n d within refl (subst IsNarrow (sym zero) (product_fits zero_ℚ zero_ℚ zero_ℚ (mul_walk_zero zero_ℚ))) in ap (λ s. total_from n s v.scenarios) (sym zero) ∙ m.0
