-- A set of numbers that come in rounds, in each by rising numbers.
use Rattle.std.specs.Prelude.{◌≡◌, ℕ, ◌<◌, ◌||◌, Bool, true, false, cond, List, [], ◌∷◌, length, slice_index_or, slice_set, replicate}
use Rattle.pass_table.specs.Marks.{nothing}
use Rattle.pass_table.specs.Machine.{ComesBefore}

-- flags by number: those that are in the set, those that were put in since it was cleared, and those that wait for the next round
pub record Round : Type 0 where
  pub flags : List Bool
  pub met : List Bool
  pub waits : List Bool

-- the flag of each number
abbrev pub flag_in : List Bool → ℕ → Bool
flag_in flags n = slice_index_or flags n false

-- the numbers of both sets
unfoldable pub either : List Bool → List Bool → List Bool
either [] waiting = waiting
either (b ∷ coming) [] = b ∷ coming
either (b ∷ coming) (c ∷ waiting) = (b || c) ∷ either coming waiting

-- the numbers of the present round are in the one set, those that wait for the next one in the other
pub record IsSplit (coming waiting met waits : List Bool) : Type 0 where
  pub small : length coming < nothing
  pub long : length waiting ≡ length coming
  pub met_long : length met ≡ length coming
  pub waits_long : length waits ≡ length coming
  pub present : (n : ℕ) → slice_index_or coming n false ≡ true → slice_index_or waits n false ≡ false
  pub later : (n : ℕ) → slice_index_or waiting n false ≡ true → slice_index_or waits n false ≡ true

-- this number is in the set, and none that comes before it
pub record IsFirst (r : Round) (n : ℕ) : Type 0 where
  pub within : n < length r.flags
  pub there : slice_index_or r.flags n false ≡ true
  pub first : (k : ℕ) → ComesBefore (flag_in r.waits) k n → slice_index_or r.flags k false ≡ false

-- which numbers wait behind one that came: one that waited begins a round; it waits for the next one from then on
abbrev pub passed_waits : List Bool → ℕ → List Bool
passed_waits waits n = slice_set (cond (slice_index_or waits n false) (replicate (length waits) false) waits) n true

-- the root alone came, and comes
abbrev pub root_round : ℕ → Round
root_round places = record {
  flags = slice_set (replicate places false) 0 true;
  met = slice_set (replicate places false) 0 true;
  waits = replicate places false;
}
