-- Loops over the members of a list that pass a test.
use Rattle.std.proofs.Common.{◌≡◌, ℕ, ◌+◌, ◌<◌, Bool, true, false, List, ◌∷◌, length, drop, get_or, sym, ap, ◌∙◌, Result, Ok, Err, add-one}
use Rattle.rationals.specs.Passes.{then_walk}
use Rattle.scen_defs.specs.Lists.{places}
use Rattle.scen_defs.proofs.NodeReads.{drop_read}
use Rattle.scen_model.specs.Walks.{fold_walk}

-- the places from i on
abbrev pub places_from : {A : Type 0} → (A → Bool) → ℕ → List A → List ℕ
places_from test i xs = places test i (drop i xs)

by_test : {A : Type 0} → Bool → (A → Bool) → ℕ → List A → List ℕ
by_test b test i xs = elim b [ true ↦ i ∷ places_from test (i + 1) xs | false ↦ places_from test (i + 1) xs ]

read : {A : Type 0} (test : A → Bool) (xs : List A) (i : ℕ) (x : A) → i < length xs → x ≡ get_or xs i x → places_from test i xs ≡ by_test (test x) test i xs
unfolding by_test
read test xs i x h e = ap (places test i) (drop_read xs i x h e)
    ∙ ap (λ k. elim (test x) [ true ↦ i ∷ places test k (drop (i + 1) xs) | false ↦ places test k (drop (i + 1) xs) ]) (sym (add-one i))

passed : {A : Type 0} (test : A → Bool) (xs : List A) (i : ℕ) (x : A) → i < length xs → x ≡ get_or xs i x → test x ≡ true → places_from test i xs ≡ i ∷ places_from test (i + 1) xs
unfolding by_test
passed test xs i x h e t = read test xs i x h e ∙ ap (λ b. by_test b test i xs) t

failed : {A : Type 0} (test : A → Bool) (xs : List A) (i : ℕ) (x : A) → i < length xs → x ≡ get_or xs i x → test x ≡ false → places_from test i xs ≡ places_from test (i + 1) xs
unfolding by_test
failed test xs i x h e t = read test xs i x h e ∙ ap (λ b. by_test b test i xs) t

-- `items` is the slice that the loop reads
module _ {A S P : Type 0} (f : S → ℕ → Result S P) (s : S) (test : A → Bool) (xs items : List A) (same : items ≡ xs) (i : ℕ) (whole : Result S P) (kept : fold_walk f s (places_from test i xs) ≡ whole) where
  kept_items : fold_walk f s (places_from test i items) ≡ whole
  kept_items = ap (λ l. fold_walk f s (places_from test i l)) same ∙ kept

  back : (t : S) → fold_walk f t (places_from test (i + 1) items) ≡ whole → fold_walk f t (places_from test (i + 1) xs) ≡ whole
  back t e = ap (λ l. fold_walk f t (places_from test (i + 1) l)) (sym same) ∙ e

  pub next_place : (x : A) (t : S) → i < length items → x ≡ get_or items i x → test x ≡ true → Ok t ≡ f s i → fold_walk f t (places_from test (i + 1) xs) ≡ whole
  next_place x t h e q k = back t (ap (λ r. then_walk r (λ u. fold_walk f u (places_from test (i + 1) items))) k ∙ sym (ap (fold_walk f s) (passed test items i x h e q)) ∙ kept_items)

  pub stop_place : (x : A) (p : P) → i < length items → x ≡ get_or items i x → test x ≡ true → Err p ≡ f s i → Err p ≡ whole
  stop_place x p h e q k = ap (λ r. then_walk r (λ u. fold_walk f u (places_from test (i + 1) items))) k ∙ sym (ap (fold_walk f s) (passed test items i x h e q)) ∙ kept_items

  pub skip_place : (x : A) → i < length items → x ≡ get_or items i x → test x ≡ false → fold_walk f s (places_from test (i + 1) xs) ≡ whole
  skip_place x h e q = back s (sym (ap (fold_walk f s) (failed test items i x h e q)) ∙ kept_items)
