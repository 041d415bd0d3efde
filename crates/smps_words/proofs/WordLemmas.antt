-- The rows of a table of words, one after another.
use Rattle.std.proofs.Common.{◌≡◌, ◌<◌, ◌+◌, ℕ, zero, suc, Bool, true, false, not, ◌&&◌, ◌||◌, Option, Some, None, List, [], ◌∷◌, length, get_or, drop, refl, sym, ap, subst, nat_eq, arith, add-one, if◌then◌else◌}
use Rattle.std.proofs.Math.Seq.{drop-cons}
use Rattle.std.specs.Cmp.Lexicographic.{same_text}
use Rattle.std.specs.List.{Contains, list_any}
use Rattle.std.specs.Prelude.{IfSome}
use Rattle.smps_words.proofs.NumberedNames.{same_name_refl}
use Rattle.smps_words.specs.Line.{fields_of}
use Rattle.smps_words.specs.Names.{same_name}
use Rattle.smps_words.specs.Words.{WordRow, rows_of, code_of, all_differ, is_table, spaced}

abbrev the_row : List ℕ → ℕ → WordRow
the_row word code = record { word = word; code = code }

-- the row with the code at that place is the first, and the others come behind it
row_at : (fields : List (List ℕ)) (first : List ℕ) (rest : List (List ℕ)) (codes : List ℕ) (place : ℕ) → fields ≡ first ∷ rest → place < length codes →
    rows_of fields (drop place codes) ≡ record { word = first; code = get_or codes place 0 } ∷ rows_of rest (drop (place + 1) codes)
row_at fields first rest codes place is within = rw (is, add-one, drop-cons codes place 0) refl

pub first_row : (fields : List (List ℕ)) (first : List ℕ) (rest : List (List ℕ)) (codes : List ℕ) (place : ℕ) (word : List ℕ) → fields ≡ first ∷ rest → place < length codes →
    same_name word first ≡ true → code_of (rows_of fields (drop place codes)) word ≡ Some (get_or codes place 0)
first_row fields first rest codes place word is within same = rw (row_at fields first rest codes place is within, same) refl

pub later_row : (fields : List (List ℕ)) (first : List ℕ) (rest : List (List ℕ)) (codes : List ℕ) (place : ℕ) (word : List ℕ) → fields ≡ first ∷ rest → place < length codes →
    same_name word first ≡ false → code_of (rows_of fields (drop place codes)) word ≡ code_of (rows_of rest (drop (place + 1) codes)) word
later_row fields first rest codes place word is within other = rw (row_at fields first rest codes place is within, other) refl

-- ---- what is found stands in the table

later_contains : (first : WordRow) (rows : List WordRow) (row : WordRow) → Contains rows row → Contains (first ∷ rows) row
later_contains first rows row (place, within, is) = (suc place, omega arith, is)

if_later : (first : WordRow) (rows : List WordRow) (word : List ℕ) (found : Option ℕ) → IfSome found (λ code. Contains rows (record { word = word; code = code })) → IfSome found (λ code. Contains (first ∷ rows) (record { word = word; code = code }))
if_later first rows word None inside = tt
if_later first rows word (Some code) inside = later_contains first rows (record { word = word; code = code }) inside

found_at : (first : WordRow) (rows : List WordRow) (word : List ℕ) (b : Bool) → same_name word first.word ≡ b → IfSome (code_of rows word) (λ code. Contains rows (record { word = word; code = code })) →
    IfSome (if b then Some first.code else code_of rows word) (λ code. Contains (first ∷ rows) (record { word = word; code = code }))
found_at first rows word true same inside = (0, omega arith, ap (λ (w : List ℕ). the_row w first.code) (sym (same_text word first.word (sym same))))
found_at first rows word false same inside = if_later first rows word (code_of rows word) inside

pub found_inside : (rows : List WordRow) (word : List ℕ) → IfSome (code_of rows word) (λ code. Contains rows (record { word = word; code = code }))
found_inside [] word = tt
found_inside (first ∷ rows) word = found_at first rows word (same_name word first.word) refl (found_inside rows word)

-- ---- each row's word has its code

both : (x y : Bool) → (x && y) ≡ true → (x ≡ true) × (y ≡ true)
both true y e = (refl, e)
both false y e = cc

neither : (x y : Bool) → (x || y) ≡ false → (x ≡ false) × (y ≡ false)
neither true y e = cc
neither false y e = (refl, e)

turned : (x : Bool) → not x ≡ true → x ≡ false
turned true e = cc
turned false e = refl

none_inside : (test : List ℕ → Bool) (words : List (List ℕ)) (codes : List ℕ) (row : WordRow) → list_any test words ≡ false → Contains (rows_of words codes) row → test row.word ≡ false
none_inside test [] codes row none (place, within, is) = absurd (omega arith)
none_inside test (word ∷ words) [] row none (place, within, is) = absurd (omega arith)
none_inside test (word ∷ words) (code ∷ codes) row none (zero, within, is) = subst (λ (r : WordRow). test r.word ≡ false) is (neither (test word) (list_any test words) none).0
none_inside test (word ∷ words) (code ∷ codes) row none (suc place, within, is) =
    none_inside test words codes row (neither (test word) (list_any test words) none).1 (place, omega arith, is)

own_row : (words : List (List ℕ)) (codes : List ℕ) (row : WordRow) → all_differ words ≡ true → Contains (rows_of words codes) row → code_of (rows_of words codes) row.word ≡ Some row.code
own_row [] codes row differ (place, within, is) = absurd (omega arith)
own_row (word ∷ words) [] row differ (place, within, is) = absurd (omega arith)
own_row (word ∷ words) (code ∷ codes) row differ (zero, within, is) =
    subst (λ (r : WordRow). code_of (rows_of (word ∷ words) (code ∷ codes)) r.word ≡ Some r.code) is (rw (same_name_refl word) refl)
own_row (word ∷ words) (code ∷ codes) row differ (suc place, within, is) =
    let split = both (not (list_any (λ other. same_name other word) words)) (all_differ words) differ in
    let inside : Contains (rows_of words codes) row = (place, omega arith, is) in
    let other : same_name row.word word ≡ false = none_inside (λ other. same_name other word) words codes row (turned _ split.0) inside in
    rw other (own_row words codes row split.1 inside)

pub own_code : (count : ℕ) (text codes : List ℕ) (row : WordRow) → is_table count text ≡ true → Contains (rows_of (fields_of text) codes) row → code_of (rows_of (fields_of text) codes) row.word ≡ Some row.code
own_code count text codes row table inside =
    own_row (fields_of text) codes row (both _ _ (both (nat_eq (length (fields_of text)) count) (same_name (spaced (fields_of text)) text && all_differ (fields_of text)) table).1).1 inside
