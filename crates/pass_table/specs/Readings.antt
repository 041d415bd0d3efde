-- What a solve read of its children's pools, and what comes into a set.
use Rattle.std.specs.Prelude.{◌≡◌, ℕ, ◌<◌, ◌⊎◌, Bool, true, false, List, length, slice_index, slice_index_or}
use Rattle.pass_table.specs.declared.table.Reading.{Reading}

abbrev pub no_reading : Reading
no_reading = record { child = 0; number = 0 }

abbrev pub reading_at : List Reading → ℕ → Reading
reading_at readings i = slice_index_or readings i no_reading

-- a node that was read
abbrev pub IsRead : List Reading → ℕ → Type 0
IsRead readings n = (i : ℕ) × ((i < length readings) × ((reading_at readings i).child ≡ n))

-- each child that was read has a number below this
abbrev pub AreWithin : List Reading → ℕ → Type 0
AreWithin readings bound = (i : ℕ) → i < length readings → (reading_at readings i).child < bound

-- each pool has the number that was read
abbrev pub ArePresent : List ℕ → List Reading → Type 0
ArePresent numbers readings = (i : ℕ) → i < length readings
    → slice_index numbers (reading_at readings i).child ≡ (reading_at readings i).number

-- the numbers with the property came into the set, and no others
pub record Adds (P : ℕ → Type 0) (old new : List Bool) : Type 0 where
  pub long : length new ≡ length old
  pub stay : (n : ℕ) → slice_index_or old n false ≡ true → slice_index_or new n false ≡ true
  pub came : (n : ℕ) → P n → slice_index_or new n false ≡ true
  pub only : (n : ℕ) → slice_index_or new n false ≡ true → (slice_index_or old n false ≡ true) ⊎ P n
