-- The numbers of a new path, and the copies of its nodes, stage by stage.
use Rattle.std.proofs.Common.{◌≡◌, ℕ, zero, suc, ◌+◌, ◌-◌, ◌<◌, ◌≤◌, Bool, true, false, ltb, List, [], ◌∷◌, ◌++◌, length, drop, append-nil, Option, Some, None, refl, sym, ap, ap₂, ◌∙◌, arith}
use Rattle.std.proofs.lemmas.Bool.{ltb-true, ltb-false}
use Rattle.rationals.specs.Choices.{pick}
use Rattle.scen_defs.specs.Program.{Node}
use Rattle.edit_defs.specs.After.{copies, copy, new_path}
use Rattle.edit_apply.specs.Kept.{new_node}

abbrev pub numbered : ℕ → ℕ → ℕ → List ℕ → List ℕ
numbered t k i [] = []
numbered t k i (n ∷ path) = new_node t k i n ∷ numbered t k (i + 1) path

abbrev pub copied : List (Option Node) → ℕ → ℕ → ℕ → Option ℕ → List ℕ → List (Option Node)
copied nodes t k i above [] = []
copied nodes t k i above (n ∷ path) = pick (ltb i t) [] (copy nodes above n ∷ []) ++ copied nodes t k (i + 1) (Some (new_node t k i n)) path

numbered-is : (t k i : ℕ) (path : List ℕ) → numbered t k i path ≡ new_path (t - i) (k + (i - t)) path
numbered-is t k i [] = refl
numbered-is t k i (n ∷ path) = go (ltb i t) refl (numbered-is t k (i + 1) path)
  where
    go : (b : Bool) → ltb i t ≡ b → numbered t k (i + 1) path ≡ new_path (t - (i + 1)) (k + ((i + 1) - t)) path → pick b n (k + (i - t)) ∷ numbered t k (i + 1) path ≡ new_path (t - i) (k + (i - t)) (n ∷ path)
    go true e h =
        let l : i < t = ltb-true i t e in
        ap (λ (ns : List ℕ). n ∷ ns) (h ∙ ap (λ (m : ℕ). new_path (t - (i + 1)) m path) (let z : k + ((i + 1) - t) ≡ k + (i - t) = omega (arith, l) in z))
        ∙ ap (λ (s : ℕ). new_path s (k + (i - t)) (n ∷ path)) (let z : suc (t - (i + 1)) ≡ t - i = omega (arith, l) in z)
    go false e h =
        let l : t ≤ i = ltb-false i t e in
        ap (λ (ns : List ℕ). (k + (i - t)) ∷ ns) (h ∙ ap₂ (λ (s m : ℕ). new_path s m path) (let z : t - (i + 1) ≡ 0 = omega (arith, l) in z) (let z : k + ((i + 1) - t) ≡ suc (k + (i - t)) = omega (arith, l) in z))
        ∙ ap (λ (s : ℕ). new_path s (k + (i - t)) (n ∷ path)) (let z : 0 ≡ t - i = omega (arith, l) in z)

copied-is : (nodes : List (Option Node)) (t k i : ℕ) (above : Option ℕ) (path : List ℕ) → copied nodes t k i above path ≡ copies nodes (t - i) above (k + (i - t)) path
copied-is nodes t k i above [] = refl
copied-is nodes t k i above (n ∷ path) = go (ltb i t) refl (λ a. copied-is nodes t k (i + 1) a path)
  where
    go : (b : Bool) → ltb i t ≡ b → ((a : Option ℕ) → copied nodes t k (i + 1) a path ≡ copies nodes (t - (i + 1)) a (k + ((i + 1) - t)) path)
        → pick b [] (copy nodes above n ∷ []) ++ copied nodes t k (i + 1) (Some (pick b n (k + (i - t)))) path ≡ copies nodes (t - i) above (k + (i - t)) (n ∷ path)
    go true e h =
        let l : i < t = ltb-true i t e in
        h (Some n) ∙ ap (λ (m : ℕ). copies nodes (t - (i + 1)) (Some n) m path) (let z : k + ((i + 1) - t) ≡ k + (i - t) = omega (arith, l) in z)
        ∙ ap (λ (s : ℕ). copies nodes s above (k + (i - t)) (n ∷ path)) (let z : suc (t - (i + 1)) ≡ t - i = omega (arith, l) in z)
    go false e h =
        let l : t ≤ i = ltb-false i t e in
        ap (λ (ns : List (Option Node)). copy nodes above n ∷ ns) (h (Some (k + (i - t))) ∙ ap₂ (λ (s m : ℕ). copies nodes s (Some (k + (i - t))) m path) (let z : t - (i + 1) ≡ 0 = omega (arith, l) in z) (let z : k + ((i + 1) - t) ≡ suc (k + (i - t)) = omega (arith, l) in z))
        ∙ ap (λ (s : ℕ). copies nodes s above (k + (i - t)) (n ∷ path)) (let z : 0 ≡ t - i = omega (arith, l) in z)

plain : (k t : ℕ) → k + (0 - t) ≡ k
plain k t = omega arith

pub numbers_are : (t k : ℕ) (path : List ℕ) → numbered t k 0 path ≡ new_path t k path
numbers_are t k path = numbered-is t k 0 path ∙ ap₂ (λ (s m : ℕ). new_path s m path) (let z : t - 0 ≡ t = omega arith in z) (plain k t)

pub copies_are : (nodes : List (Option Node)) (t k : ℕ) (path : List ℕ) → copied nodes t k 0 None path ≡ copies nodes t None k path
copies_are nodes t k path = copied-is nodes t k 0 None path ∙ ap₂ (λ (s m : ℕ). copies nodes s None m path) (let z : t - 0 ≡ t = omega arith in z) (plain k t)

past-end : {A : Type 0} (xs : List A) (i : ℕ) → length xs ≤ i → drop i xs ≡ []
past-end [] zero h = refl
past-end [] (suc i) h = refl
past-end (x ∷ xs) zero h = absurd (omega (arith, h))
past-end (x ∷ xs) (suc i) h = past-end xs i (omega (arith, h))

pub numbers_end : (new path : List ℕ) (t k i : ℕ) → length path ≤ i → new ++ numbered t k i (drop i path) ≡ numbered t k 0 path → new ≡ new_path t k path
numbers_end new path t k i h w = sym (append-nil new) ∙ ap (λ (ns : List ℕ). new ++ numbered t k i ns) (sym (past-end path i h)) ∙ w ∙ numbers_are t k path

pub copies_end : (nodes all : List (Option Node)) (path : List ℕ) (t k i : ℕ) (above : Option ℕ) → length path ≤ i → all ++ copied nodes t k i above (drop i path) ≡ copied nodes t k 0 None path → all ≡ copies nodes t None k path
copies_end nodes all path t k i above h w = sym (append-nil all) ∙ ap (λ (ns : List ℕ). all ++ copied nodes t k i above ns) (sym (past-end path i h)) ∙ w ∙ copies_are nodes t k path
