-- An edit without a cause applies.
use Rattle.std.proofs.Common.{◌≡◌, ℕ, ◌+◌, ◌<◌, ◌≤◌, ◌^◌, Bool, true, false, not, ◌&&◌, ltb, List, [], ◌∷◌, ◌++◌, map, length, length-append, Option, None, refl, arith}
use Rattle.std.proofs.lemmas.List.{length-map}
use Rattle.std.proofs.lemmas.Bool.{ltb-true, ltb-false, leb-false, and_parts, or_parts}
use Rattle.rationals.specs.Rational.{ℚ, zero_ℚ, one_ℚ, ◌-ℚ◌, ◌<ℚ◌, at_most, at_most_false}
use Rattle.smps_words.specs.declared.entry.Entry.{Entry}
use Rattle.smps_words.specs.declared.entry.Entry.TheVariants.{Cost, Matrix, Rhs}
use Rattle.scen_defs.specs.Program.{Scenario, Program, column_at}
use Rattle.smps_words.specs.Field.{IsField}
use Rattle.scen_defs.specs.Valid.{row_at}
use Rattle.edit_defs.specs.declared.edit.Edit.TheVariants.{Set, Prob, Drop, Add}
use Rattle.refusals.specs.declared.cause.Cause.{Cause}
use Rattle.edit_defs.specs.After.{is_known, times, new_path, after}
use Rattle.edit_defs.specs.Applies.{IsEntryOf, IsProb, IsDrop, IsAdd}
use Rattle.edit_defs.specs.Touches.{path_of}
use Rattle.edit_defs.specs.Limits.{is_above_limits}
use Rattle.edit_defs.specs.Causes.{HasNumbers, refused, refused_if, is_inner, is_late, is_last}
use Rattle.edit_defs.specs.Laws.{EditsWithoutCauseApply}

-- a test that is passed, and those behind it
pub passed : (b : Bool) (cause : Cause) (rest : Option Cause) → refused_if b cause rest ≡ None → (b ≡ false) × (rest ≡ None)
passed true cause rest h = absurd (cc)
passed false cause rest h = (refl, h)

yes : (b : Bool) → not b ≡ false → b ≡ true
yes true h = refl
yes false h = absurd (cc)

nay : (b : Bool) → not b ≡ true → b ≡ false
nay true h = absurd (cc)
nay false h = refl

inner : (q : ℚ) → is_inner q ≡ true → (zero_ℚ <ℚ q) × (q <ℚ one_ℚ)
inner q h = let s : (not (at_most q zero_ℚ) ≡ true) × (not (at_most one_ℚ q) ≡ true) = and_parts (not (at_most q zero_ℚ)) (not (at_most one_ℚ q)) h in
    (at_most_false q zero_ℚ (nay (at_most q zero_ℚ) s.0), at_most_false one_ℚ q (nay (at_most one_ℚ q) s.1))

entry_fits : (p : Program) (entry : Entry) → HasNumbers p entry → is_late p entry ≡ false → IsEntryOf p entry
entry_fits p (Cost j) h l = h
entry_fits p (Matrix i j) h l = record { row = h.0; column = h.1; stage = ltb-false (row_at p.rows i).stage (column_at p.columns j).stage l }
entry_fits p (Rhs i) h l = h

pub prob_applies : (p : Program) (name : List ℕ) (q : ℚ) → refused p (Prob name q) ≡ None → IsProb p name q
prob_applies p name q h =
    let one = passed (not (is_known name p.scenarios)) _ _ h in
    let two = passed (not (is_inner q)) _ _ one.1 in
    let three = passed (is_last p) _ _ two.1 in
    let between : (zero_ℚ <ℚ q) × (q <ℚ one_ℚ) = inner q (yes (is_inner q) two.0) in
    record { known = yes (is_known name p.scenarios) one.0; above = between.0; below = between.1; others_left = leb-false (length p.scenarios) 1 three.0 }

pub drop_applies : (p : Program) (name : List ℕ) → refused p (Drop name) ≡ None → IsDrop p name
drop_applies p name h =
    let one = passed (not (is_known name p.scenarios)) _ _ h in
    let two = passed (is_last p) _ _ one.1 in
    record { known = yes (is_known name p.scenarios) one.0; others_left = leb-false (length p.scenarios) 1 two.0 }

-- the numbers of an ADD's nodes, at most 16, keep within 32 bits
pub add_applies : (p : Program) (name parent : List ℕ) (q : ℚ) (t : ℕ) → length p.nodes + 16 < 2 ^ 32 → IsField name → refused p (Add name parent q t) ≡ None → IsAdd p name parent q t
add_applies p name parent q t n a h =
    let one = passed (is_known name p.scenarios) _ _ h in
    let two = passed (not (is_known parent p.scenarios)) _ _ one.1 in
    let three = passed (not (is_inner q)) _ _ two.1 in
    let four = passed (not (ltb 0 t && ltb t (length p.periods))) _ _ three.1 in
    let five = passed (is_above_limits (after p (Add name parent q t))) _ _ four.1 in
    let between : (zero_ℚ <ℚ q) × (q <ℚ one_ℚ) = inner q (yes (is_inner q) three.0) in
    let period : (ltb 0 t ≡ true) × (ltb t (length p.periods) ≡ true) = and_parts (ltb 0 t) (ltb t (length p.periods)) (yes (ltb 0 t && ltb t (length p.periods)) four.0) in
    let new : Scenario = record { name = name; probability = q; path = new_path t (length p.nodes) (path_of p parent) } in
    let limit : length (map (times (one_ℚ -ℚ q)) p.scenarios ++ new ∷ []) ≤ 10000 = ltb-false 10000 (length (map (times (one_ℚ -ℚ q)) p.scenarios ++ new ∷ [])) (or_parts _ _ five.0).0 in
    let long : length (map (times (one_ℚ -ℚ q)) p.scenarios ++ new ∷ []) ≡ length (map (times (one_ℚ -ℚ q)) p.scenarios) + 1 = length-append (map (times (one_ℚ -ℚ q)) p.scenarios) (new ∷ []) in
    let same : length (map (times (one_ℚ -ℚ q)) p.scenarios) ≡ length p.scenarios = length-map p.scenarios (times (one_ℚ -ℚ q)) in
    record {
      field = a;
      new = one.0;
      known = yes (is_known parent p.scenarios) two.0;
      above = between.0;
      below = between.1;
      behind_first = ltb-true 0 t period.0;
      within = ltb-true t (length p.periods) period.1;
      nodes = n;
      scenarios = omega (arith, limit, long, same);
    }

pub edits_without_cause_apply : EditsWithoutCauseApply
edits_without_cause_apply p (Set name entry v) n a h =
    let one = passed (not (is_known name p.scenarios)) _ _ h in
    let two = passed (is_late p entry) _ _ one.1 in
    record { known = yes (is_known name p.scenarios) one.0; entry_is = entry_fits p entry a two.0 }
edits_without_cause_apply p (Prob name q) n a h = prob_applies p name q h
edits_without_cause_apply p (Drop name) n a h = drop_applies p name h
edits_without_cause_apply p (Add name parent q t) n a h = add_applies p name parent q t (omega (arith, n)) a h
