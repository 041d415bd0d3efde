-- What is known of all totals at once, or of all reduced costs of a node at once, is what the walks take one by one.
use Rattle.std.proofs.Common.{◌≡◌, ℕ, suc, ◌+◌, ◌<◌, Bool, true, false, eqb, List, [], ◌∷◌, Option, Some, None, Result, Ok, length, get_or, refl, sym, ap, subst, ◌∙◌, arith}
use Rattle.rationals.specs.Rational.{ℚ, zero_ℚ}
use Rattle.rationals.specs.Sparse.{Entry}
use Rattle.rationals.specs.Passes.{add_product_walk, then_walk}
use Rattle.scen_defs.specs.declared.program.Column.{Column}
use Rattle.scen_defs.specs.declared.program.Program.{Program as ProgramOf}
use Rattle.scen_defs.specs.Lists.{places, passes_at}
use Rattle.scen_defs.specs.Program.{View, Node, content, nodes_content, is_live, view_of}
use Rattle.scen_model.specs.declared.stop.Stop.{Stop}
use Rattle.rationals.specs.Forms.{product_from}
use Rattle.scen_model.specs.Walks.{fold_walk, total_walk, totals_walk, cost_step, costs_walk, cost_walk, stopping, bound_step, worth_step, column_step, columns_step, reduced_walk, all_rows, all_columns, dual_by}
use Rattle.scen_model.specs.Gathered.{AreTotals, AreAll, column_number, is_of, cost_step_with, costs_with, columns_with}
use Rattle.scen_model.proofs.Reduces.{then_same}
use Rattle.scen_model.proofs.Homes.{content_long}

-- ---- two walks over the places of what passes a test
module _ {A S P : Type 0} (f g : S → ℕ → Result S P) (test : A → Bool) where
  by_test : Bool → ℕ → List A → List ℕ
  by_test b k xs = elim b [ true ↦ k ∷ places test (suc k) xs | false ↦ places test (suc k) xs ]

  first : (k : ℕ) (xs : List A) (b : Bool) (s : S) → (b ≡ true → f s k ≡ g s k) → ((t : S) → fold_walk f t (places test (suc k) xs) ≡ fold_walk g t (places test (suc k) xs)) → fold_walk f s (by_test b k xs) ≡ fold_walk g s (by_test b k xs)
  unfolding by_test
  first k xs true s h ih = ap (λ r. then_walk r (λ t. fold_walk f t (places test (suc k) xs))) (h refl) ∙ then_same (g s k) (λ t. fold_walk f t (places test (suc k) xs)) (λ t. fold_walk g t (places test (suc k) xs)) ih
  first k xs false s h ih = ih s

  pub places_same : (k : ℕ) (xs : List A) → ((n i : ℕ) → n ≡ k + i → i < length xs → passes_at test i xs ≡ true → (s : S) → f s n ≡ g s n) → (s : S) → fold_walk f s (places test k xs) ≡ fold_walk g s (places test k xs)
  unfolding by_test
  places_same k [] h s = refl
  places_same k (x ∷ xs) h s = first k xs (test x) s (λ e. h k 0 (omega arith) (omega arith) e s) (places_same (suc k) xs (λ n i e l t. h n (suc i) (omega (arith, e)) (omega (arith, l)) t))

-- ---- totals
totals_from : (v : View) (k : ℕ) (xs : List (Option Node)) → ((n i : ℕ) → n ≡ k + i → i < length xs → (t : ℚ) × (total_walk v n ≡ Ok t)) → totals_walk v (places is_live k xs) ≡ Ok tt
totals_from v k [] h = refl
totals_from v k (None ∷ xs) h = totals_from v (suc k) xs (λ n i e l. h n (suc i) (omega (arith, e)) (omega (arith, l)))
totals_from v k (Some m ∷ xs) h =
    ap (λ r. then_walk r (λ _. totals_walk v (places is_live (suc k) xs))) (h k 0 (omega arith) (omega arith)).1
    ∙ totals_from v (suc k) xs (λ n i e l. h n (suc i) (omega (arith, e)) (omega (arith, l)))

module _ (p : ProgramOf) (totals : List ℚ) (long : length totals ≡ length p.nodes.items) (are : AreTotals (view_of (content p)) totals) where
  within : (n i : ℕ) → n ≡ 0 + i → i < length (nodes_content p.nodes.items) → n < length totals
  within n i e l = omega (arith, e, l, long, content_long p.nodes.items)

  -- all totals are there
  pub totals_done : totals_walk (view_of (content p)) (view_of (content p)).live ≡ Ok tt
  totals_done = totals_from (view_of (content p)) 0 (nodes_content p.nodes.items) (λ n i e l. (get_or totals n zero_ℚ, are n zero_ℚ (within n i e l)))

  -- the cost
  pub costs_are : (x : ℕ → ℕ → ℚ) → costs_with (view_of (content p)) totals x ≡ cost_walk (view_of (content p)) x
  costs_are x =
      let v = view_of (content p) in
      places_same (λ s n. cost_step_with (get_or totals n zero_ℚ) (v.cost n) (x n) s) (λ s n. cost_step v.scenarios (v.cost n) (x n) n s) is_live 0 (nodes_content p.nodes.items)
      (λ n i e l t s. then_same (product_from (x n) zero_ℚ (v.cost n)) (λ c. add_product_walk s (get_or totals n zero_ℚ) c) (λ c. then_walk (total_walk v n) (λ t. add_product_walk s t c))
      (λ c. sym (ap (λ r. then_walk r (λ t. add_product_walk s t c)) (are n zero_ℚ (within n i e l))))) zero_ℚ
      ∙ sym (ap (λ r. then_walk r (λ _. costs_walk v x)) totals_done)

-- ---- reduced costs
module _ (p : ProgramOf) (costs : ℕ → List Entry) (y : ℕ → ℕ → ℚ) (seats : List ℕ) (numbers : List (List ℚ))
    (are : AreAll (content p) seats (reduced_walk costs (view_of (content p)) y) numbers) where
  pub columns_are : (m : ℕ) (s : ℚ) → passes_at is_live m (nodes_content p.nodes.items) ≡ true → columns_with (view_of (content p)) (column_number numbers seats m) s m ≡ columns_step costs (view_of (content p)) y s m
  columns_are m s h =
      let v = view_of (content p) in
      places_same (λ t j. worth_step (v.lower j) (v.upper j) (column_number numbers seats m j) t) (column_step costs v y m) (λ (c : Column). eqb c.stage (v.stage m)) 0 p.columns.items
      (λ n i e l t u.
      let same : i ≡ n = omega (arith, e) in
      sym (ap (λ r. bound_step r (v.lower n) (v.upper n) u) (are m n h (subst (λ k. is_of p.columns.items (v.stage m) k ≡ true) same t)).0)) s

  pub all_are : (s : ℚ) → fold_walk (λ t n. columns_with (view_of (content p)) (column_number numbers seats n) t n) s (view_of (content p)).live ≡ all_columns costs (view_of (content p)) y s
  all_are s =
      let v = view_of (content p) in
      places_same (λ t n. columns_with v (column_number numbers seats n) t n) (columns_step costs v y) is_live 0 (nodes_content p.nodes.items)
      (λ n i e l t u.
      let same : i ≡ n = omega (arith, e) in
      columns_are n u (subst (λ k. passes_at is_live k (nodes_content p.nodes.items) ≡ true) same t)) s

-- ---- the value
pub dual_is : (costs : ℕ → List Entry) (v : View) (y : ℕ → ℕ → ℚ) (rows : Result ℚ Stop) → totals_walk v v.live ≡ Ok tt → rows ≡ all_rows v y → then_walk rows (λ s. all_columns costs v y s) ≡ dual_by costs v y
dual_is costs v y rows done is =
    ap (λ r. then_walk r (λ s. all_columns costs v y s)) is
    ∙ sym (ap (λ r. then_walk (stopping r) (λ _. then_walk (all_rows v y) (λ s. all_columns costs v y s))) done)
