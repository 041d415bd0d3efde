-- Each number of a list is read as it is printed.
use Rattle.std.proofs.Common.{◌≡◌, ◌≢◌, ◌∙◌, ◌^◌, ◌<◌, ◌++◌, ◌&&◌, ◌||◌, eqb, ℕ, zero, suc, Bool}
use Rattle.std.proofs.Common.{true, false, List, [], ◌∷◌, Ok, is_some, length, get_or, nat_eq, nat_lt, refl, sym, ap, ap₂, subst}
use Rattle.std.proofs.Common.{append_assoc, arith}
use Rattle.std.specs.Prelude.{not}
use Rattle.std.specs.Fmt.{decimal}
use Rattle.std.proofs.lemmas.Bool.{or_parts}
use Rattle.std.proofs.lemmas.Bool.Decides.{nat_tests}
use Rattle.std.proofs.lemmas.List.{append-nil}
use Rattle.rationals.specs.Rational.{ℚ, zero_ℚ}
use Rattle.rationals.specs.Order.{same}
use Rattle.rationals.specs.OrderLaws.{same_means}
use Rattle.rationals.specs.Choices.{pick}
use Rattle.frac128.specs.Text.{text_of}
use Rattle.smps_words.specs.Line.{is_blank}
use Rattle.smps_words.specs.Names.{place_of, IsNumbered}
use Rattle.smps_words.proofs.NumberedNames.{none_numbered, numbered_snoc}
use Rattle.scen_defs.specs.Lists.{Each}
use Rattle.smps_words.specs.Field.{IsField}
use Rattle.scen_defs.specs.Valid.{Differ, AreNames}
use Rattle.scen_defs.specs.Values.{At, IsBefore, EndsBefore, Rises}
use Rattle.report_reader.specs.Answers.{bad}
use Rattle.report_reader.specs.Lines.{pushed, numbered, value_line}
use Rattle.scen_defs.proofs.NewNames.{is_new}
use Rattle.report_reader.proofs.OrderLemmas.{all_before_means}
use Rattle.report_laws.specs.Printable.{IsOneOf}
use Rattle.report_laws.proofs.WordLemmas.{lacks, lacks-append, then_ok, field_word, small_lacks, text_lacks}
use Rattle.report_laws.proofs.NumberLemmas.{fraction_read, small_read}

-- ---- names

numbered_on : (front rest : List (List ℕ)) → IsNumbered front → Differ (front ++ rest) → IsNumbered (front ++ rest)
numbered_on front [] h d = subst IsNumbered (sym (append-nil front)) h
numbered_on front (name ∷ rest) h d =
    let seam : (front ++ name ∷ []) ++ rest ≡ front ++ name ∷ rest = append_assoc front (name ∷ []) rest in
    let more : IsNumbered (front ++ name ∷ []) = numbered_snoc front name h (ap is_some (is_new front name rest d)) in
    subst IsNumbered seam (numbered_on (front ++ name ∷ []) rest more (subst Differ (sym seam) d))

-- names that differ are each found at their own place
pub names_numbered : (names : List (List ℕ)) → AreNames names → IsNumbered names
names_numbered names h = numbered_on [] names none_numbered h.differ

-- a field has no space and no line feed
field_lacks : (name : List ℕ) → Each (λ b. (is_blank b || eqb b 10) ≡ false) name
    → (lacks 32 name ≡ true) × (lacks 10 name ≡ true)
field_lacks [] h = (refl, refl)
field_lacks (byte ∷ name) h =
    let p = or_parts (is_blank byte) (eqb byte 10) h.0 in
    let q = or_parts (nat_eq byte 32 || nat_eq byte 9) (nat_eq byte 13) p.0 in
    let s = or_parts (nat_eq byte 32) (nat_eq byte 9) q.0 in
    let rest = field_lacks name h.1 in
    (ap₂ (λ (b : Bool) (c : Bool). not b && c) s.0 rest.0, ap₂ (λ (b : Bool) (c : Bool). not b && c) p.1 rest.1)

pub name_lacks : (names : List (List ℕ)) (i : ℕ) → Each IsField names → i < length names
    → (lacks 32 (get_or names i []) ≡ true) × (lacks 10 (get_or names i []) ≡ true)
name_lacks [] i h l = absurd (omega (arith, l))
name_lacks (name ∷ names) zero h l = field_lacks name h.0.unbroken
name_lacks (name ∷ names) (suc i) h l = name_lacks names i h.1 (omega (arith, l))

-- ---- order

pub rises_before : (front : List At) (a : At) (rest : List At) → Rises (front ++ a ∷ rest) → EndsBefore front a.node a.index
rises_before [] a rest h = tt
rises_before (first ∷ front) a rest h = (before first front a rest h.0, rises_before front a rest h.1)
  where
    before : (first : At) (front : List At) (a : At) (rest : List At) → Each (λ b. IsBefore b.node b.index first) (front ++ a ∷ rest)
        → IsBefore a.node a.index first
    before first [] a rest h = h.0
    before first (second ∷ front) a rest h = before first front a rest h.1

not_zero : (v : ℚ) → v ≢ zero_ℚ → (b : Bool) → same v zero_ℚ ≡ b → same v zero_ℚ ≡ false
not_zero v h true e = absurd (h ((same_means v zero_ℚ).0 e))
not_zero v h false e = e

pushed_read : (list : List At) (a : At) → EndsBefore list a.node a.index → a.value ≢ zero_ℚ
    → pushed list a.node a.index a.value ≡ Ok (list ++ a ∷ [])
pushed_read list a h z =
    ap₂ (λ (b : Bool) (c : Bool). pick (b && not c) (Ok (list ++ a ∷ [])) bad)
    ((all_before_means a.node a.index list).1 h) (not_zero a.value z (same a.value zero_ℚ) refl)

-- ---- the line of a number

-- the line without its line feed
abbrev pub value_words : List (List ℕ) → At → List ℕ
value_words names a = decimal a.node ++ 32 ∷ (get_or names a.index [] ++ 32 ∷ text_of a.value)

pub value_words_lack : (names : List (List ℕ)) (a : At) → Each IsField names → IsOneOf (length names) a
    → lacks 10 (value_words names a) ≡ true
value_words_lack names a f h =
    let name : List ℕ = get_or names a.index [] in
    lacks-append 10 (decimal a.node) (32 ∷ (name ++ 32 ∷ text_of a.value)) (small_lacks 10 a.node (omega arith) h.node)
    (lacks-append 10 name (32 ∷ text_of a.value) (name_lacks names a.index f h.index).1 (text_lacks 10 a.value (omega arith) h.value))

index_read : (names : List (List ℕ)) (i : ℕ) → AreNames names → i < length names → i < 2 ^ 32
    → numbered (place_of names (get_or names i [])) ≡ Ok i
index_read names i h l s =
    let below : nat_lt i (2 ^ 32) ≡ true = grind (arith, nat_tests) in
    ap numbered ((names_numbered names h).own i l) ∙ ap (λ (b : Bool). pick b (Ok i) bad) below

pub value_read : (names : List (List ℕ)) (list : List At) (a : At) → AreNames names → IsOneOf (length names) a
    → EndsBefore list a.node a.index → a.value ≢ zero_ℚ
    → value_line names list (value_words names a) ≡ Ok (list ++ a ∷ [])
value_read names list a n h before z =
    let name : List ℕ = get_or names a.index [] in
    then_ok (decimal a.node, name ++ 32 ∷ text_of a.value) _
    (field_word (decimal a.node) (name ++ 32 ∷ text_of a.value) (small_lacks 32 a.node (omega arith) h.node))
    (then_ok a.node _ (small_read a.node h.node)
    (then_ok (name, text_of a.value) _ (field_word name (text_of a.value) (name_lacks names a.index n.fields h.index).0)
    (then_ok a.index _ (index_read names a.index n h.index h.small)
    (then_ok a.value _ (fraction_read a.value h.value) (pushed_read list a before z)))))
