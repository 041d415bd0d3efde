-- More than six fields fit no line.
use Rattle.std.proofs.Common.{◌≡◌, ◌<◌, ℕ, suc, Bool, true, false, List, ◌∷◌, [], length, Some, Err, refl, sym, ap, ◌∙◌, arith}
use Rattle.std.specs.Prelude.{if◌then◌else◌}
use Rattle.refusals.specs.declared.cause.Cause.TheVariants as cause
use Rattle.core_defs.specs.declared.kinds.BoundKind.{BoundKind}
use Rattle.core_defs.specs.Bounds.{bound_kind, has_value}
use Rattle.core_defs.specs.Filed.{Filed}
use Rattle.core_defs.specs.Step.{row_line, column_line, rhs_line, range_line, value_line, plain_line, bound_line}
use Rattle.mps_core.specs.declared.pairs.PairSection.{PairSection}
use Rattle.mps_core.specs.declared.pairs.PairSection.TheVariants.{Rhs, Ranges}
use Rattle.mps_core.specs.Pairs.{pairs_line}
use Rattle.reader_defs.proofs.ManyFields.{many_fields}

pub long_row : (f : Filed) (fields : List (List ℕ)) → length fields ≡ 7 → row_line f fields ≡ Err cause.FieldCount
unfolding row_line
long_row f fields seven = many_fields 3 (λ all. row_line f all ≡ Err cause.FieldCount) fields (omega arith) (λ a b c rest. refl)

pub long_column : (f : Filed) (fields : List (List ℕ)) → length fields ≡ 7 → column_line f fields ≡ Err cause.FieldCount
unfolding column_line
long_column f fields seven = many_fields 6 (λ all. column_line f all ≡ Err cause.FieldCount) fields (omega arith) (λ a b c d e g rest. refl)

pub long_pairs : (section : PairSection) (f : Filed) (fields : List (List ℕ)) → length fields ≡ 7 → pairs_line section f fields ≡ Err cause.FieldCount
long_pairs section f fields seven = many_fields 6 (λ all. pairs_line section f all ≡ Err cause.FieldCount) fields (omega arith) (λ a b c d e g rest. refl)

-- The lines of pairs are those of RHS and of RANGES.
pub rhs_pairs : (f : Filed) (fields : List (List ℕ)) → pairs_line Rhs f fields ≡ rhs_line f fields
unfolding rhs_line
rhs_pairs f [] = refl
rhs_pairs f (a ∷ []) = refl
rhs_pairs f (a ∷ b ∷ []) = refl
rhs_pairs f (a ∷ b ∷ c ∷ []) = refl
rhs_pairs f (a ∷ b ∷ c ∷ d ∷ []) = refl
rhs_pairs f (a ∷ b ∷ c ∷ d ∷ e ∷ []) = refl
rhs_pairs f (a ∷ b ∷ c ∷ d ∷ e ∷ g ∷ rest) = refl

pub range_pairs : (f : Filed) (fields : List (List ℕ)) → pairs_line Ranges f fields ≡ range_line f fields
unfolding range_line
range_pairs f [] = refl
range_pairs f (a ∷ []) = refl
range_pairs f (a ∷ b ∷ []) = refl
range_pairs f (a ∷ b ∷ c ∷ []) = refl
range_pairs f (a ∷ b ∷ c ∷ d ∷ []) = refl
range_pairs f (a ∷ b ∷ c ∷ d ∷ e ∷ []) = refl
range_pairs f (a ∷ b ∷ c ∷ d ∷ e ∷ g ∷ rest) = refl

-- Nor do more than three behind a kind of bounds.
pub long_value : (f : Filed) (kind : BoundKind) (fields : List (List ℕ)) → 3 < length fields → value_line f kind fields ≡ Err cause.FieldCount
unfolding value_line
long_value f kind fields many = many_fields 4 (λ all. value_line f kind all ≡ Err cause.FieldCount) fields (omega arith) (λ a b c d rest. refl)

pub long_plain : (f : Filed) (kind : BoundKind) (fields : List (List ℕ)) → 3 < length fields → plain_line f kind fields ≡ Err cause.FieldCount
unfolding plain_line
long_plain f kind fields many = many_fields 4 (λ all. plain_line f kind all ≡ Err cause.FieldCount) fields (omega arith) (λ a b c d rest. refl)

-- and seven fields fit no line of BOUNDS
pub long_bound : (f : Filed) (fields : List (List ℕ)) (kind : BoundKind) (word : List ℕ) → (rest : List (List ℕ)) × (fields ≡ word ∷ rest) → bound_kind word ≡ Some kind → length fields ≡ 7 → bound_line f fields ≡ Err cause.FieldCount
unfolding bound_line
long_bound f fields kind word (rest, e) k seven =
    let many : 3 < length rest = let n : suc (length rest) ≡ 7 = sym (ap length e) ∙ seven in omega (arith, n) in
    rw (e, k) (go (has_value kind) many)
  where
    go : (b : Bool) → 3 < length rest → (if b then value_line f kind rest else plain_line f kind rest) ≡ Err cause.FieldCount
    go true many = long_value f kind rest many
    go false many = long_plain f kind rest many

pub ruleset bound_lines = (long_value, long_plain, long_bound)
