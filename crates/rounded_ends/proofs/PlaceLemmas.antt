-- The members of a list that a loop has come to.
use Rattle.std.proofs.Common.{◌≡◌, refl, ℕ, ◌+◌, ◌<◌, ◌≤◌, Bool, true, false, List, [], ◌∷◌, Option, Some, None, is_some, length, drop, get_or, sym, ap, subst, ◌∙◌, add-one}
use Rattle.scen_defs.specs.declared.program.Node.{Node as NodeOf}
use Rattle.std.proofs.Math.ListN.{drop_of_length-le}
use Rattle.scen_defs.specs.Program.{is_live, nodes_content}
use Rattle.scen_defs.specs.Lists.{places, Each}
use Rattle.scen_defs.proofs.NodeReads.{drop_read}
use Rattle.scen_model.proofs.NodeSteps.{live_from, live_there, dead_there}
use Rattle.scen_model.proofs.PlaceSteps.{places_from}

by_test : {A : Type 0} → Bool → (A → Bool) → ℕ → List A → List ℕ
by_test b test i xs = elim b [ true ↦ i ∷ places_from test (i + 1) xs | false ↦ places_from test (i + 1) xs ]

read : {A : Type 0} (test : A → Bool) (xs : List A) (i : ℕ) (x : A) → i < length xs → x ≡ get_or xs i x → places_from test i xs ≡ by_test (test x) test i xs
unfolding by_test
read test xs i x h e = ap (places test i) (drop_read xs i x h e)
    ∙ ap (λ k. elim (test x) [ true ↦ i ∷ places test k (drop (i + 1) xs) | false ↦ places test k (drop (i + 1) xs) ]) (sym (add-one i))

module _ {A : Type 0} (test : A → Bool) (xs items : List A) (same : items ≡ xs) (i : ℕ) (x : A) (h : i < length items) (e : x ≡ get_or items i x) where
  pub place_there : test x ≡ true → places_from test i xs ≡ i ∷ places_from test (i + 1) xs
  unfolding by_test
  place_there t = subst (λ (l : List A). places_from test i l ≡ i ∷ places_from test (i + 1) l) same (read test items i x h e ∙ ap (λ b. by_test b test i items) t)

  pub place_past : test x ≡ false → places_from test i xs ≡ places_from test (i + 1) xs
  unfolding by_test
  place_past t = subst (λ (l : List A). places_from test i l ≡ places_from test (i + 1) l) same (read test items i x h e ∙ ap (λ b. by_test b test i items) t)

module _ (nodes items : List (Option NodeOf)) (same : items ≡ nodes) (i : ℕ) (place : Option NodeOf) (h : i < length items) (e : place ≡ get_or items i place) where
  pub some_there : is_some place ≡ true → live_from i nodes ≡ i ∷ live_from (i + 1) nodes
  some_there b = go place refl
    where
      go : (p : Option NodeOf) → place ≡ p → live_from i nodes ≡ i ∷ live_from (i + 1) nodes
      go None d = absurd (let q : is_some place ≡ false = ap is_some d in cc)
      go (Some n) d = live_there nodes items same i place n h e d

  pub none_there : is_some place ≡ false → live_from i nodes ≡ live_from (i + 1) nodes
  none_there b = go place refl
    where
      go : (p : Option NodeOf) → place ≡ p → live_from i nodes ≡ live_from (i + 1) nodes
      go None d = dead_there nodes items same i place h e d
      go (Some n) d = absurd (let q : is_some place ≡ true = ap is_some d in cc)

-- ---- no member is left
pub place_done : {A : Type 0} (test : A → Bool) (xs items : List A) → items ≡ xs → (i : ℕ) → length items ≤ i → places_from test i xs ≡ []
place_done {A} test xs items same i h = subst (λ (l : List A). places_from test i l ≡ []) same (ap (places test i) (drop_of_length-le items h))

pub live_done : (nodes items : List (Option NodeOf)) → items ≡ nodes → (i : ℕ) → length items ≤ i → live_from i nodes ≡ []
live_done nodes items same i h =
    subst (λ (l : List (Option NodeOf)). live_from i l ≡ []) same (ap (λ (l : List (Option NodeOf)). places is_live i (nodes_content l)) (drop_of_length-le items h))

-- what holds of all where it holds of the rest
module _ {A : Type 0} (P : A → Type 0) (G : Type 0) where
  pub each_next : (rest more : List A) (x : A) → rest ≡ x ∷ more → (Each P rest → G) → P x → Each P more → G
  each_next rest more x e f h k = f (subst (Each P) (sym e) (h, k))

  pub each_past : (rest more : List A) → rest ≡ more → (Each P rest → G) → Each P more → G
  each_past rest more e f k = f (subst (Each P) (sym e) k)

  pub each_done : (rest : List A) → rest ≡ [] → (Each P rest → G) → G
  each_done rest e f = f (subst (Each P) (sym e) tt)
