-- What the code of a word stands for.
use Rattle.std.proofs.Common.{◌≡◌, ◌∙◌, ap, ℕ, Bool, true, false, List, [], ◌∷◌, Option, Some, None, refl, if◌then◌else◌}
use Rattle.std.specs.Prelude.{codes}
use Rattle.smps_words.specs.Line.{fields_of}
use Rattle.smps_words.specs.Names.{same_name}
use Rattle.smps_words.specs.Words.{WordRow, rows_of, code_of}
use Rattle.core_defs.specs.Bounds.{bound_kind}
use Rattle.core_defs.specs.Section.{section_of}
use Rattle.mps_core.specs.Keywords.{section_at, bound_kind_at}

-- what the word stands for: the code of the first row with it, by what a code stands for
abbrev pub meaning_by : {A : Type 0} → (Option ℕ → A) → List WordRow → List ℕ → A
meaning_by of_code [] word = of_code None
meaning_by of_code (row ∷ rows) word = if same_name word row.word then of_code (Some row.code) else meaning_by of_code rows word

of_either : {A B : Type 0} (f : A → B) (b : Bool) (x y : A) → f (if b then x else y) ≡ (if b then f x else f y)
of_either f true x y = refl
of_either f false x y = refl

pub code_means : {A : Type 0} (of_code : Option ℕ → A) (rows : List WordRow) (word : List ℕ) → of_code (code_of rows word) ≡ meaning_by of_code rows word
code_means of_code [] word = refl
code_means of_code (row ∷ rows) word =
    of_either of_code (same_name word row.word) (Some row.code) (code_of rows word)
    ∙ ap (λ later. if same_name word row.word then of_code (Some row.code) else later) (code_means of_code rows word)

pub section_means : (rows : List WordRow) (word : List ℕ) → rows ≡ rows_of (fields_of (codes "NAME ROWS COLUMNS RHS RANGES BOUNDS ENDATA")) (1 ∷ 2 ∷ 3 ∷ 4 ∷ 5 ∷ 6 ∷ 7 ∷ []) → section_at (code_of rows word) ≡ section_of word
section_means rows word is = code_means section_at rows word ∙ ap (λ (all : List WordRow). meaning_by section_at all word) is

pub bound_means : (rows : List WordRow) (word : List ℕ) → rows ≡ rows_of (fields_of (codes "LO UP FX FR MI PL")) (1 ∷ 2 ∷ 3 ∷ 4 ∷ 5 ∷ 6 ∷ []) → bound_kind_at (code_of rows word) ≡ bound_kind word
bound_means rows word is = code_means bound_kind_at rows word ∙ ap (λ (all : List WordRow). meaning_by bound_kind_at all word) is
