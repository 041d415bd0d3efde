-- Lists over the stages, one by one.
use Rattle.std.proofs.Common.{◌≡◌, ◌∙◌, ap, sym, refl, ℕ, zero, suc, ◌+◌, ◌<◌, ◌≤◌, List, [], ◌∷◌, ◌++◌, length, get_or, map, flat_map, arith, append-nil}
use Rattle.std.proofs.lemmas.Grind.{flat_map-append}
use Rattle.build_defs.specs.Scenarios.{stages_from}
use Rattle.tree_build.specs.declared.numbering.Keys.{Keys}
use Rattle.tree_build.specs.Numbering.{rows_content}
use Rattle.tree_build.proofs.BaseLemmas.{stages_push, map_push}

one_more : (n : ℕ) → stages_from 0 (n + 1) ≡ stages_from 0 n ++ n ∷ []
one_more n = stages_push 0 n ∙ ap (λ m. stages_from 0 n ++ m ∷ []) (let e : 0 + n ≡ n = omega arith in e)

pub range_push : {A : Type 0} (f : ℕ → A) (n : ℕ) → map f (stages_from 0 (n + 1)) ≡ map f (stages_from 0 n) ++ f n ∷ []
range_push f n = ap (map f) (one_more n) ∙ map_push f (stages_from 0 n) n

pub flat_push : {A : Type 0} (f : ℕ → List A) (n : ℕ) → flat_map f (stages_from 0 (n + 1)) ≡ flat_map f (stages_from 0 n) ++ f n
flat_push f n = ap (flat_map f) (one_more n) ∙ flat_map-append f (stages_from 0 n) (n ∷ []) ∙ ap (λ last. flat_map f (stages_from 0 n) ++ last) (append-nil (f n))

pub keys_at : (rows : List Keys) (i : ℕ) (row : Keys) → i < length rows → row ≡ get_or rows i row → get_or (rows_content rows) i [] ≡ row.by_stage.items
keys_at [] i row below read = absurd (omega (arith, below))
keys_at (first ∷ rows) zero row below read = ap (λ (r : Keys). r.by_stage.items) (sym read)
keys_at (first ∷ rows) (suc i) row below read = keys_at rows i row (omega (arith, below)) read

pub keys_past : (rows : List Keys) (i : ℕ) → length rows ≤ i → get_or (rows_content rows) i [] ≡ []
keys_past [] i past = refl
keys_past (first ∷ rows) zero past = absurd (omega (arith, past))
keys_past (first ∷ rows) (suc i) past = keys_past rows i (omega (arith, past))

pub keys_length : (rows : List Keys) → length (rows_content rows) ≡ length rows
keys_length [] = refl
keys_length (row ∷ rows) = ap suc (keys_length rows)

pub keys_push : (rows : List Keys) (row : Keys) → rows_content (rows ++ row ∷ []) ≡ rows_content rows ++ row.by_stage.items ∷ []
keys_push [] row = refl
keys_push (first ∷ rows) row = ap (λ (rest : List (List ℕ)). first.by_stage.items ∷ rest) (keys_push rows row)

pub past_end : (xs : List ℕ) (i : ℕ) → length xs ≤ i → 0 ≡ get_or xs i 0
past_end [] i past = refl
past_end (x ∷ xs) zero past = absurd (omega (arith, past))
past_end (x ∷ xs) (suc i) past = past_end xs i (omega (arith, past))
