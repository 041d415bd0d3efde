-- Entries that are the same, and the values that are set for them.
use Rattle.std.proofs.Common.{◌≡◌, ◌∙◌, ◌+◌, ap, ℕ, Bool, true, false, List, [], ◌∷◌, ◌++◌, Option, Some, None, refl, sym, nat_eq, ◌&&◌, length, add-zero, arith, if◌then◌else◌}
use Rattle.std.proofs.lemmas.Bool.{eqb-true, eq-eqb}
use Rattle.core_defs.proofs.NameLemmas.{agree}
use Rattle.rationals.specs.Rational.{ℚ}
use Rattle.smps_words.specs.declared.entry.Entry.{Entry}
use Rattle.smps_words.specs.declared.entry.Entry.TheVariants.{Cost, Matrix, Rhs}
use Rattle.stoch_defs.specs.Entries.{same_entry}
use Rattle.stoch_defs.specs.Random.{Sets}
use Rattle.stoch_defs.specs.Stated.{value_set, entry_from, place_of_entry}

both : (one other : Bool) → (one && other) ≡ true → (one ≡ true) × (other ≡ true)
both true true e = (refl, refl)
both true false e = cc
both false other e = cc

pub same_is : (one other : Entry) → same_entry one other ≡ true → one ≡ other
same_is (Cost a) (Cost b) e = ap Cost (eqb-true a b e)
same_is (Cost a) (Matrix r c) e = cc
same_is (Cost a) (Rhs r) e = cc
same_is (Matrix r c) (Cost a) e = cc
same_is (Matrix r c) (Matrix s d) e =
    let parts = both (nat_eq r s) (nat_eq c d) e in
    ap (λ row. Matrix row c) (eqb-true r s parts.0) ∙ ap (Matrix s) (eqb-true c d parts.1)
same_is (Matrix r c) (Rhs s) e = cc
same_is (Rhs r) (Cost a) e = cc
same_is (Rhs r) (Matrix s c) e = cc
same_is (Rhs r) (Rhs s) e = ap Rhs (eqb-true r s e)

pub same_self : (entry : Entry) → same_entry entry entry ≡ true
same_self (Cost a) = eq-eqb a a refl
same_self (Matrix r c) = ap (λ b. b && nat_eq c c) (eq-eqb r r refl) ∙ eq-eqb c c refl
same_self (Rhs r) = eq-eqb r r refl

turned : (one other : Entry) → same_entry one other ≡ true → same_entry other one ≡ true
turned one other e = ap (λ x. same_entry x one) (sym (same_is one other e)) ∙ same_self one

pub same_both_ways : (one other : Entry) → same_entry one other ≡ same_entry other one
same_both_ways one other = agree (same_entry one other) (same_entry other one) (turned one other) (turned other one)

-- ---- places of entries

not_here : (here : Bool) (start : ℕ) (rest : Option ℕ) → (if here then Some start else rest) ≡ None → (here ≡ false) × (rest ≡ None)
not_here false start rest e = (refl, e)
not_here true start rest e = cc

-- one more entry, which isn't there yet
pub entry_snoc : (start : ℕ) (entries : List Entry) (last entry : Entry) → entry_from start entries entry ≡ None →
    entry_from start (entries ++ last ∷ []) entry ≡ (if same_entry entry last then Some (start + length entries) else None)
entry_snoc start [] last entry none = ap (λ (n : ℕ). if same_entry entry last then Some n else None) (sym (add-zero start))
entry_snoc start (first ∷ entries) last entry none =
    let parts = not_here (same_entry entry first) start (entry_from (start + 1) entries entry) none in
    let more : (start + 1) + length entries ≡ start + length (first ∷ entries) = omega arith in
    ap (λ b. if b then Some start else entry_from (start + 1) (entries ++ last ∷ []) entry) parts.0
    ∙ entry_snoc (start + 1) entries last entry parts.1 ∙ ap (λ (n : ℕ). if same_entry entry last then Some n else None) more

still : (here : Bool) (start place : ℕ) (rest new : Option ℕ) → (if here then Some start else rest) ≡ Some place → (rest ≡ Some place → new ≡ Some place) → (if here then Some start else new) ≡ Some place
still true start place rest new e more = e
still false start place rest new e more = more e

-- the place of an entry that is there stays
pub entry_stays : (start : ℕ) (entries : List Entry) (last entry : Entry) (place : ℕ) → entry_from start entries entry ≡ Some place → entry_from start (entries ++ last ∷ []) entry ≡ Some place
entry_stays start [] last entry place e = cc
entry_stays start (first ∷ entries) last entry place e =
    still (same_entry entry first) start place (entry_from (start + 1) entries entry) (entry_from (start + 1) (entries ++ last ∷ []) entry) e (entry_stays (start + 1) entries last entry place)
