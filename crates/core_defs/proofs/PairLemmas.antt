-- Values on field pairs.
use Rattle.std.proofs.Common.{◌≡◌, ◌∙◌, ◌++◌, ◌+◌, ◌&&◌, ap, ℕ, Bool, true, false, List, [], ◌∷◌, Option, Some, None, Ok, refl, sym, if◌then◌else◌, add_assoc, arith}
use Rattle.rationals.specs.Rational.{ℚ}
use Rattle.frac128.specs.Numbers.{read_number}
use Rattle.smps_words.specs.Names.{same_name}
use Rattle.smps_words.proofs.NumberedNames.{same_name_refl}
use Rattle.refusals.specs.declared.cause.Cause.{Cause}
use Rattle.core_defs.specs.Fault.{◌orelse◌, counts, count_pairs}
use Rattle.core_defs.specs.Stated.{Pair, number_in, number_or_zero, value_on}
use Rattle.core_defs.proofs.NameLemmas.{Changes}

abbrev pub or_later : {A : Type 0} → Option A → Option A → Option A
or_later (Some x) later = Some x
or_later None later = later

or_here : (here : Bool) (value : ℚ) (rest more whole : Option ℚ) → whole ≡ or_later rest more → (if here then Some value else whole) ≡ or_later (if here then Some value else rest) more
or_here true value rest more whole e = refl
or_here false value rest more whole e = e

-- pairs that come later
pub value_on-append : (pairs more : List Pair) (column row : List ℕ) → value_on (pairs ++ more) column row ≡ or_later (value_on pairs column row) (value_on more column row)
value_on-append [] more column row = refl
value_on-append (pair ∷ pairs) more column row =
    or_here (same_name column pair.column && same_name row pair.row) (number_in pair.word) (value_on pairs column row) (value_on more column row) (value_on (pairs ++ more) column row) (value_on-append pairs more column row)

or_none : {A : Type 0} (o : Option A) → or_later o None ≡ o
or_none None = refl
or_none (Some x) = refl

pub and_false : (b : Bool) → (b && false) ≡ false
and_false true = refl
and_false false = refl

-- a pair of another column changes no value
pub other_column : (pairs : List Pair) (pair : Pair) (column row : List ℕ) → same_name column pair.column ≡ false → value_on (pairs ++ pair ∷ []) column row ≡ value_on pairs column row
other_column pairs pair column row other =
    value_on-append pairs (pair ∷ []) column row ∙ ap (or_later (value_on pairs column row)) (rw other refl) ∙ or_none (value_on pairs column row)

-- nor does one of another row
other_row : (pairs : List Pair) (pair : Pair) (column row : List ℕ) → same_name row pair.row ≡ false → value_on (pairs ++ pair ∷ []) column row ≡ value_on pairs column row
other_row pairs pair column row other =
    value_on-append pairs (pair ∷ []) column row ∙ ap (or_later (value_on pairs column row)) (rw (other, and_false (same_name column pair.column)) refl) ∙ or_none (value_on pairs column row)

abbrev pub pair_of : List ℕ → List ℕ → List ℕ → Pair
pair_of column row word = record { column = column; row = row; word = word }

pub pair_changes : (pairs : List Pair) (column row word : List ℕ) → Changes row (value_on pairs column) (value_on (pairs ++ pair_of column row word ∷ []) column)
pair_changes pairs column row word = record { others = λ other apart. other_row pairs (pair_of column row word) column other apart }

-- a first pair gives its value
pub first_value : (pairs : List Pair) (column row word : List ℕ) (value : ℚ) → value_on pairs column row ≡ None → read_number word ≡ Ok value → value_on (pairs ++ pair_of column row word ∷ []) column row ≡ Some value
first_value pairs column row word value none read =
    value_on-append pairs (pair_of column row word ∷ []) column row
    ∙ ap (λ known. or_later known (value_on (pair_of column row word ∷ []) column row)) none
    ∙ ap (λ known. if known && same_name row row then Some (number_in word) else None) (same_name_refl column)
    ∙ ap (λ known. if known then Some (number_in word) else None) (same_name_refl row)
    ∙ ap (λ known. Some (number_or_zero known)) read

pub count_snoc : (rows : List (List ℕ)) (pairs : List Pair) (pair : Pair) → count_pairs rows (pairs ++ pair ∷ []) ≡ count_pairs rows pairs + (if counts rows pair then 1 else 0)
count_snoc rows [] pair = omega arith
count_snoc rows (first ∷ pairs) pair =
    ap (λ (rest : ℕ). (if counts rows first then 1 else 0) + rest) (count_snoc rows pairs pair) ∙ sym (add_assoc (if counts rows first then 1 else 0) (count_pairs rows pairs) (if counts rows pair then 1 else 0))

pub no_more : (fault : Option Cause) → (fault orelse None) ≡ fault
no_more None = refl
no_more (Some cause) = refl

pub orelse_assoc : (a b c : Option Cause) → ((a orelse b) orelse c) ≡ (a orelse (b orelse c))
orelse_assoc None b c = refl
orelse_assoc (Some cause) b c = refl

pub orelse_none : (a b : Option Cause) → (a orelse b) ≡ None → (a ≡ None) × (b ≡ None)
orelse_none None b e = (refl, e)
orelse_none (Some cause) b e = cc
