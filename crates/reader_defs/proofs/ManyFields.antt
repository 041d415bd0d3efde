-- Lines with many fields.
use Rattle.std.proofs.Common.{◌≤◌, ℕ, zero, suc, List, [], ◌∷◌, length, arith}

-- it is so of each list of at least so many fields
abbrev pub IsSoFrom : ℕ → (List (List ℕ) → Type 0) → Type 0
IsSoFrom zero P = (fields : List (List ℕ)) → P fields
IsSoFrom (suc count) P = (field : List ℕ) → IsSoFrom count (λ fields. P (field ∷ fields))

pub many_fields : (count : ℕ) (P : List (List ℕ) → Type 0) (fields : List (List ℕ)) → count ≤ length fields → IsSoFrom count P → P fields
many_fields zero P fields many each = each fields
many_fields (suc count) P [] many each = absurd (omega arith)
many_fields (suc count) P (field ∷ fields) many each = many_fields count (λ rest. P (field ∷ rest)) fields (omega arith) (each field)
