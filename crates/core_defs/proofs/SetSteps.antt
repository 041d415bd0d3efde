-- Lines of RHS and RANGES.
use Rattle.std.proofs.Common.{◌≡◌, ◌∙◌, ◌++◌, ◌&&◌, ◌||◌, ap, map, set, length, ℕ, Bool, true, false, List, [], ◌∷◌, Option, Some, None, Result, Ok, Err, not, is_some, refl, sym, append_assoc, append-nil, nat_lt, arith, if◌then◌else◌}
use Rattle.std.proofs.lemmas.Bool.Decides.{nat_tests}
use Rattle.rationals.specs.Rational.{ℚ}
use Rattle.rationals.specs.Forms.{is_zero}
use Rattle.frac128.specs.Numbers.{read_number}
use Rattle.frac128.specs.declared.text.NumFault.{NumFault}
use Rattle.smps_words.specs.Line.{TextLine}
use Rattle.smps_words.specs.Names.{place_of}
use Rattle.refusals.specs.declared.cause.Cause.{Cause}
use Rattle.refusals.specs.declared.cause.Cause.TheVariants as cause
use Rattle.refusals.specs.Results.{◌>>=◌, needs, unless_refused}
use Rattle.core_defs.specs.declared.section.Section.TheVariants as sections
use Rattle.core_defs.specs.Fault.{◌orelse◌, is_row, is_first, fits_set, is_used, rhs_pair_fault, rhs_pairs_fault, rhs_fault, range_pair_fault, range_pairs_fault, range_fault}
use Rattle.core_defs.specs.Filed.{Filed}
use Rattle.core_defs.specs.Lines.{data_of}
use Rattle.core_defs.specs.Number.{number_or_cause, cause_of}
use Rattle.core_defs.specs.Section.{rank}
use Rattle.core_defs.specs.Stated.{free_rows, constraints, Pair, number_or_zero, value_on, set_on, set_pairs, same_set, chosen, pairs_of_set}
use Rattle.core_defs.specs.Step.{place_among, is_cost_rhs, with_rhs_at, with_rhs, rhs_line, constraint_at, with_range_at, with_range, range_line}
use Rattle.core_defs.proofs.NameLemmas.{At, Missing, Distinct, place_at, place_missing, map_missing, map_set, map_get}
use Rattle.core_defs.proofs.Gathered.{Data, data_on, free_in, rows_in, filed_of, AreRows, Sound}
use Rattle.core_defs.proofs.LineLemmas.{then_judged}
use Rattle.core_defs.proofs.PairLemmas.{pair_of, pair_changes, first_value, no_more}

-- ---- values by row

abbrev stated : List Pair → List (List ℕ) → List (Option ℚ)
stated pairs rows = map (value_on pairs []) rows

-- a first value goes to its row
value_set : (rows : List (List ℕ)) (pairs : List Pair) (row word : List ℕ) (place : ℕ) (value : ℚ) → Distinct rows → At rows place row → read_number word ≡ Ok value → value_on pairs [] row ≡ None → set (stated pairs rows) place (Some value) ≡ stated (pairs ++ pair_of [] row word ∷ []) rows
value_set rows pairs row word place value distinct at read none =
    ap (set (stated pairs rows) place) (sym (first_value pairs [] row word value none read)) ∙ map_set rows place row (value_on pairs []) (value_on (pairs ++ pair_of [] row word ∷ []) []) distinct at (pair_changes pairs [] row word)

-- a row that isn't there keeps its value
value_kept : (rows : List (List ℕ)) (pairs : List Pair) (row word : List ℕ) → Missing rows row → stated pairs rows ≡ stated (pairs ++ pair_of [] row word ∷ []) rows
value_kept rows pairs row word missing = sym (map_missing rows row (value_on pairs []) (value_on (pairs ++ pair_of [] row word ∷ []) []) missing (pair_changes pairs [] row word))

by_twice : (value known : Option ℚ) (f g : Filed) → value ≡ known → (known ≡ None → f ≡ g) → (if is_some value then Err cause.EntryTwice else Ok f) ≡ unless_refused (if is_some known then Some cause.EntryTwice else None) g
by_twice value None f g e later = ap (λ o. if is_some o then Err cause.EntryTwice else Ok f) e ∙ ap Ok (later refl)
by_twice value (Some x) f g e later = ap (λ o. if is_some o then Err cause.EntryTwice else Ok f) e

by_cost : (cost : Bool) (r : Result Filed Cause) (c : Option Cause) (g : Filed) → r ≡ unless_refused c g → (if cost then Err cause.ObjectiveRhs else r) ≡ unless_refused (if cost then Some cause.ObjectiveRhs else c) g
by_cost true r c g e = refl
by_cost false r c g e = e

long : (a b c d e f : List ℕ) (rest : List (List ℕ)) → fits_set (a ∷ b ∷ c ∷ d ∷ e ∷ f ∷ rest) ≡ false
long a b c d e f rest =
    let over : nat_lt (length (a ∷ b ∷ c ∷ d ∷ e ∷ f ∷ rest)) 6 ≡ false = grind (arith, nat_tests) in
    let some : nat_lt 1 (length (a ∷ b ∷ c ∷ d ∷ e ∷ f ∷ rest)) ≡ true = grind (arith, nat_tests) in
    rw (over, some) refl

-- ---- RHS

abbrev with_rhs_pairs : Data → Option (Option (List ℕ)) → List Pair → Data
with_rhs_pairs d used pairs = record d { rhs_set = used; rhs_pairs = pairs }

free_rhs_filed : (d : Data) (used : Option (Option (List ℕ))) (pairs : List Pair) (row word : List ℕ) (place : ℕ) (value : ℚ) → AreRows (free_in d) (rows_in d) → place_of (free_in d) row ≡ Some place → place_of (rows_in d) row ≡ None → read_number word ≡ Ok value → value_on pairs [] row ≡ None →
    record (filed_of (with_rhs_pairs d used pairs)) { free_rhs = set (stated pairs (free_in d)) place (Some value) } ≡ filed_of (with_rhs_pairs d used (pairs ++ pair_of [] row word ∷ []))
free_rhs_filed d used pairs row word place value known at missing read none =
    ap (λ (values : List (Option ℚ)). record (filed_of (with_rhs_pairs d used pairs)) { free_rhs = values }) (value_set (free_in d) pairs row word place value known.free_differ (place_at (free_in d) row place at) read none)
    ∙ ap (λ (values : List (Option ℚ)). record (filed_of (with_rhs_pairs d used (pairs ++ pair_of [] row word ∷ []))) { rhs = values }) (value_kept (rows_in d) pairs row word (place_missing 0 (rows_in d) row missing))

rhs_filed : (d : Data) (used : Option (Option (List ℕ))) (pairs : List Pair) (row word : List ℕ) (place : ℕ) (value : ℚ) → AreRows (free_in d) (rows_in d) → place_of (rows_in d) row ≡ Some place → read_number word ≡ Ok value → value_on pairs [] row ≡ None →
    record (filed_of (with_rhs_pairs d used pairs)) { rhs = set (stated pairs (rows_in d)) place (Some value) } ≡ filed_of (with_rhs_pairs d used (pairs ++ pair_of [] row word ∷ []))
rhs_filed d used pairs row word place value known at read none =
    let there : At (rows_in d) place row = place_at (rows_in d) row place at in
    ap (λ (values : List (Option ℚ)). record (filed_of (with_rhs_pairs d used pairs)) { rhs = values }) (value_set (rows_in d) pairs row word place value known.rows_differ there read none)
    ∙ ap (λ (values : List (Option ℚ)). record (filed_of (with_rhs_pairs d used (pairs ++ pair_of [] row word ∷ []))) { free_rhs = values }) (value_kept (free_in d) pairs row word (known.apart row place there))

rhs_by : (d : Data) (used : Option (Option (List ℕ))) (pairs : List Pair) (row word : List ℕ) (in_rows in_free : Option ℕ) (read : Result ℚ NumFault) → AreRows (free_in d) (rows_in d) → place_of (rows_in d) row ≡ in_rows → place_of (free_in d) row ≡ in_free → read_number word ≡ read →
    (needs cause.RowUnknown (place_among in_rows in_free) >>= λ place. number_or_cause read >>= λ value. with_rhs_at (filed_of (with_rhs_pairs d used pairs)) value place)
    ≡ unless_refused (if not (is_some in_rows || is_some in_free) then Some cause.RowUnknown
    else (cause_of read orelse (if (not (is_some in_rows) && is_first in_free) && not (is_zero (number_or_zero read)) then Some cause.ObjectiveRhs else (if is_some (value_on pairs [] row) then Some cause.EntryTwice else None))))
    (filed_of (with_rhs_pairs d used (pairs ++ pair_of [] row word ∷ [])))
rhs_by d used pairs row word None None read known is_row is_free reads = refl
rhs_by d used pairs row word None (Some place) (Err fault) known is_row is_free reads = refl
rhs_by d used pairs row word None (Some place) (Ok value) known is_row is_free reads =
    by_cost (is_cost_rhs place value) _ _ _
    (by_twice _ (value_on pairs [] row) _ _ (map_get (free_in d) place row (value_on pairs []) None (place_at (free_in d) row place is_free)) (λ none. free_rhs_filed d used pairs row word place value known is_free is_row reads none))
rhs_by d used pairs row word (Some place) in_free (Err fault) known is_row is_free reads = refl
rhs_by d used pairs row word (Some place) in_free (Ok value) known is_row is_free reads =
    by_twice _ (value_on pairs [] row) _ _ (map_get (rows_in d) place row (value_on pairs []) None (place_at (rows_in d) row place is_row)) (λ none. rhs_filed d used pairs row word place value known is_row reads none)

rhs_step : (before : List TextLine) (used : Option (Option (List ℕ))) (pairs : List Pair) (row word : List ℕ) → AreRows (free_rows before) (constraints before) →
    with_rhs (filed_of (with_rhs_pairs (data_on before) used pairs)) row word ≡ unless_refused (rhs_pair_fault before pairs (pair_of [] row word)) (filed_of (with_rhs_pairs (data_on before) used (pairs ++ pair_of [] row word ∷ [])))
unfolding with_rhs
rhs_step before used pairs row word known = rhs_by (data_on before) used pairs row word (place_of (constraints before) row) (place_of (free_rows before) row) (read_number word) known refl refl refl

one_rhs : (before : List TextLine) (used : Option (Option (List ℕ))) (pairs : List Pair) (row word : List ℕ) → AreRows (free_rows before) (constraints before) →
    with_rhs (filed_of (with_rhs_pairs (data_on before) used pairs)) row word ≡ unless_refused (rhs_pairs_fault before pairs (pair_of [] row word ∷ [])) (filed_of (with_rhs_pairs (data_on before) used (pairs ++ pair_of [] row word ∷ [])))
one_rhs before used pairs row word known = rhs_step before used pairs row word known ∙ ap (λ all. unless_refused all (filed_of (with_rhs_pairs (data_on before) used (pairs ++ pair_of [] row word ∷ [])))) (sym (no_more (rhs_pair_fault before pairs (pair_of [] row word))))

two_rhs : (before : List TextLine) (used : Option (Option (List ℕ))) (pairs : List Pair) (row word second other : List ℕ) → AreRows (free_rows before) (constraints before) →
    (with_rhs (filed_of (with_rhs_pairs (data_on before) used pairs)) row word >>= λ h. with_rhs h second other)
    ≡ unless_refused (rhs_pairs_fault before pairs (pair_of [] row word ∷ pair_of [] second other ∷ [])) (filed_of (with_rhs_pairs (data_on before) used (pairs ++ pair_of [] row word ∷ pair_of [] second other ∷ [])))
two_rhs before used pairs row word second other known =
    then_judged _ (λ h. with_rhs h second other) _ _ _ _ (rhs_step before used pairs row word known) (λ fine.
    one_rhs before used (pairs ++ pair_of [] row word ∷ []) second other known
    ∙ ap (λ (all : List Pair). unless_refused (rhs_pairs_fault before (pairs ++ pair_of [] row word ∷ []) (pair_of [] second other ∷ [])) (filed_of (with_rhs_pairs (data_on before) used all))) (append_assoc pairs (pair_of [] row word ∷ []) (pair_of [] second other ∷ [])))

by_used_rhs : (is : Bool) (d : Data) (used : Option (Option (List ℕ))) (pairs more : List Pair) (r : Result Filed Cause) (c : Option Cause) → r ≡ unless_refused c (filed_of (with_rhs_pairs d used (pairs ++ more))) →
    (if is then r else Ok (filed_of (with_rhs_pairs d used pairs))) ≡ unless_refused (if is then c else None) (filed_of (with_rhs_pairs d used (pairs ++ (if is then more else []))))
by_used_rhs true d used pairs more r c e = e
by_used_rhs false d used pairs more r c e = ap (λ (all : List Pair). Ok (filed_of (with_rhs_pairs d used all))) (sym (append-nil pairs))

abbrev pub rhs_data_of : List TextLine → List (List ℕ) → Data
rhs_data_of before fields = with_rhs_pairs (data_on before) (Some (chosen (data_on before).rhs_set (set_on fields))) ((data_on before).rhs_pairs ++ pairs_of_set (data_on before).rhs_set fields)

pub rhs_line_step : (before : List TextLine) (fields : List (List ℕ)) → Sound (data_on before) → rhs_line (filed_of (data_on before)) fields ≡ unless_refused (rhs_fault before fields) (filed_of (rhs_data_of before fields))
unfolding rhs_line
rhs_line_step before [] sound = refl
rhs_line_step before (_ ∷ []) sound = refl
rhs_line_step before (row ∷ word ∷ []) sound =
    let d : Data = data_on before in
    by_used_rhs (same_set (chosen d.rhs_set None) None) d (Some (chosen d.rhs_set None)) d.rhs_pairs (pair_of [] row word ∷ []) _ _ (one_rhs before (Some (chosen d.rhs_set None)) d.rhs_pairs row word sound.rows)
rhs_line_step before (name ∷ row ∷ word ∷ []) sound =
    let d : Data = data_on before in
    by_used_rhs (same_set (chosen d.rhs_set (Some name)) (Some name)) d (Some (chosen d.rhs_set (Some name))) d.rhs_pairs (pair_of [] row word ∷ []) _ _ (one_rhs before (Some (chosen d.rhs_set (Some name))) d.rhs_pairs row word sound.rows)
rhs_line_step before (row ∷ word ∷ second ∷ other ∷ []) sound =
    let d : Data = data_on before in
    by_used_rhs (same_set (chosen d.rhs_set None) None) d (Some (chosen d.rhs_set None)) d.rhs_pairs (pair_of [] row word ∷ pair_of [] second other ∷ []) _ _ (two_rhs before (Some (chosen d.rhs_set None)) d.rhs_pairs row word second other sound.rows)
rhs_line_step before (name ∷ row ∷ word ∷ second ∷ other ∷ []) sound =
    let d : Data = data_on before in
    by_used_rhs (same_set (chosen d.rhs_set (Some name)) (Some name)) d (Some (chosen d.rhs_set (Some name))) d.rhs_pairs (pair_of [] row word ∷ pair_of [] second other ∷ []) _ _ (two_rhs before (Some (chosen d.rhs_set (Some name))) d.rhs_pairs row word second other sound.rows)
rhs_line_step before (a ∷ b ∷ c ∷ d ∷ e ∷ f ∷ rest) sound =
    ap (λ (fits : Bool). unless_refused (if not fits then Some cause.FieldCount else (if is_used (data_of sections.Rhs before) (a ∷ b ∷ c ∷ d ∷ e ∷ f ∷ rest) then rhs_pairs_fault before (data_on before).rhs_pairs (set_pairs (a ∷ b ∷ c ∷ d ∷ e ∷ f ∷ rest)) else None)) (filed_of (rhs_data_of before (a ∷ b ∷ c ∷ d ∷ e ∷ f ∷ rest)))) (sym (long a b c d e f rest))

pub rhs_sound : (d : Data) (used : Option (Option (List ℕ))) (pairs : List Pair) → Sound d → d.section ≡ sections.Rhs → Sound (with_rhs_pairs d used pairs)
rhs_sound d used pairs sound at = record {
  rows = sound.rows;
  columns = sound.columns;
  early = record {
    no_named = sound.early.no_named;
    no_pairs = sound.early.no_pairs;
    no_rhs_set = λ early. let never : nat_lt 4 4 ≡ true = ap (λ section. nat_lt (rank section) 4) (sym at) ∙ early in absurd (cc);
    no_rhs_pairs = λ early. let never : nat_lt 4 4 ≡ true = ap (λ section. nat_lt (rank section) 4) (sym at) ∙ early in absurd (cc);
    no_range_set = sound.early.no_range_set;
    no_range_pairs = sound.early.no_range_pairs;
    no_bounds = sound.early.no_bounds;
  };
  objective = sound.objective;
  in_order = sound.in_order;
}

-- ---- RANGES

abbrev with_range_pairs : Data → Option (Option (List ℕ)) → List Pair → Data
with_range_pairs d used pairs = record d { range_set = used; range_pairs = pairs }

range_by : (d : Data) (used : Option (Option (List ℕ))) (pairs : List Pair) (row word : List ℕ) (in_rows in_free : Option ℕ) (read : Result ℚ NumFault) → AreRows (free_in d) (rows_in d) → place_of (rows_in d) row ≡ in_rows → read_number word ≡ read →
    (needs cause.RowUnknown (place_among in_rows in_free) >>= λ place. constraint_at place >>= λ row. number_or_cause read >>= λ value. with_range_at (filed_of (with_range_pairs d used pairs)) value row)
    ≡ unless_refused (if not (is_some in_rows || is_some in_free) then Some cause.RowUnknown
    else (if not (is_some in_rows) then Some cause.RangeOnFree else (cause_of read orelse (if is_some (value_on pairs [] row) then Some cause.EntryTwice else None))))
    (filed_of (with_range_pairs d used (pairs ++ pair_of [] row word ∷ [])))
range_by d used pairs row word None None read known is_row reads = refl
range_by d used pairs row word None (Some place) read known is_row reads = refl
range_by d used pairs row word (Some place) in_free (Err fault) known is_row reads = refl
range_by d used pairs row word (Some place) in_free (Ok value) known is_row reads =
    let there : At (rows_in d) place row = place_at (rows_in d) row place is_row in
    by_twice _ (value_on pairs [] row) _ _ (map_get (rows_in d) place row (value_on pairs []) None there)
    (λ none. ap (λ (values : List (Option ℚ)). record (filed_of (with_range_pairs d used pairs)) { ranges = values }) (value_set (rows_in d) pairs row word place value known.rows_differ there reads none))

range_step : (before : List TextLine) (used : Option (Option (List ℕ))) (pairs : List Pair) (row word : List ℕ) → AreRows (free_rows before) (constraints before) →
    with_range (filed_of (with_range_pairs (data_on before) used pairs)) row word ≡ unless_refused (range_pair_fault before pairs (pair_of [] row word)) (filed_of (with_range_pairs (data_on before) used (pairs ++ pair_of [] row word ∷ [])))
unfolding with_range
range_step before used pairs row word known = range_by (data_on before) used pairs row word (place_of (constraints before) row) (place_of (free_rows before) row) (read_number word) known refl refl

one_range : (before : List TextLine) (used : Option (Option (List ℕ))) (pairs : List Pair) (row word : List ℕ) → AreRows (free_rows before) (constraints before) →
    with_range (filed_of (with_range_pairs (data_on before) used pairs)) row word ≡ unless_refused (range_pairs_fault before pairs (pair_of [] row word ∷ [])) (filed_of (with_range_pairs (data_on before) used (pairs ++ pair_of [] row word ∷ [])))
one_range before used pairs row word known = range_step before used pairs row word known ∙ ap (λ all. unless_refused all (filed_of (with_range_pairs (data_on before) used (pairs ++ pair_of [] row word ∷ [])))) (sym (no_more (range_pair_fault before pairs (pair_of [] row word))))

two_ranges : (before : List TextLine) (used : Option (Option (List ℕ))) (pairs : List Pair) (row word second other : List ℕ) → AreRows (free_rows before) (constraints before) →
    (with_range (filed_of (with_range_pairs (data_on before) used pairs)) row word >>= λ h. with_range h second other)
    ≡ unless_refused (range_pairs_fault before pairs (pair_of [] row word ∷ pair_of [] second other ∷ [])) (filed_of (with_range_pairs (data_on before) used (pairs ++ pair_of [] row word ∷ pair_of [] second other ∷ [])))
two_ranges before used pairs row word second other known =
    then_judged _ (λ h. with_range h second other) _ _ _ _ (range_step before used pairs row word known) (λ fine.
    one_range before used (pairs ++ pair_of [] row word ∷ []) second other known
    ∙ ap (λ (all : List Pair). unless_refused (range_pairs_fault before (pairs ++ pair_of [] row word ∷ []) (pair_of [] second other ∷ [])) (filed_of (with_range_pairs (data_on before) used all))) (append_assoc pairs (pair_of [] row word ∷ []) (pair_of [] second other ∷ [])))

by_used_range : (is : Bool) (d : Data) (used : Option (Option (List ℕ))) (pairs more : List Pair) (r : Result Filed Cause) (c : Option Cause) → r ≡ unless_refused c (filed_of (with_range_pairs d used (pairs ++ more))) →
    (if is then r else Ok (filed_of (with_range_pairs d used pairs))) ≡ unless_refused (if is then c else None) (filed_of (with_range_pairs d used (pairs ++ (if is then more else []))))
by_used_range true d used pairs more r c e = e
by_used_range false d used pairs more r c e = ap (λ (all : List Pair). Ok (filed_of (with_range_pairs d used all))) (sym (append-nil pairs))

abbrev pub range_data_of : List TextLine → List (List ℕ) → Data
range_data_of before fields = with_range_pairs (data_on before) (Some (chosen (data_on before).range_set (set_on fields))) ((data_on before).range_pairs ++ pairs_of_set (data_on before).range_set fields)

pub range_line_step : (before : List TextLine) (fields : List (List ℕ)) → Sound (data_on before) → range_line (filed_of (data_on before)) fields ≡ unless_refused (range_fault before fields) (filed_of (range_data_of before fields))
unfolding range_line
range_line_step before [] sound = refl
range_line_step before (_ ∷ []) sound = refl
range_line_step before (row ∷ word ∷ []) sound =
    let d : Data = data_on before in
    by_used_range (same_set (chosen d.range_set None) None) d (Some (chosen d.range_set None)) d.range_pairs (pair_of [] row word ∷ []) _ _ (one_range before (Some (chosen d.range_set None)) d.range_pairs row word sound.rows)
range_line_step before (name ∷ row ∷ word ∷ []) sound =
    let d : Data = data_on before in
    by_used_range (same_set (chosen d.range_set (Some name)) (Some name)) d (Some (chosen d.range_set (Some name))) d.range_pairs (pair_of [] row word ∷ []) _ _ (one_range before (Some (chosen d.range_set (Some name))) d.range_pairs row word sound.rows)
range_line_step before (row ∷ word ∷ second ∷ other ∷ []) sound =
    let d : Data = data_on before in
    by_used_range (same_set (chosen d.range_set None) None) d (Some (chosen d.range_set None)) d.range_pairs (pair_of [] row word ∷ pair_of [] second other ∷ []) _ _ (two_ranges before (Some (chosen d.range_set None)) d.range_pairs row word second other sound.rows)
range_line_step before (name ∷ row ∷ word ∷ second ∷ other ∷ []) sound =
    let d : Data = data_on before in
    by_used_range (same_set (chosen d.range_set (Some name)) (Some name)) d (Some (chosen d.range_set (Some name))) d.range_pairs (pair_of [] row word ∷ pair_of [] second other ∷ []) _ _ (two_ranges before (Some (chosen d.range_set (Some name))) d.range_pairs row word second other sound.rows)
range_line_step before (a ∷ b ∷ c ∷ d ∷ e ∷ f ∷ rest) sound =
    ap (λ (fits : Bool). unless_refused (if not fits then Some cause.FieldCount else (if is_used (data_of sections.Ranges before) (a ∷ b ∷ c ∷ d ∷ e ∷ f ∷ rest) then range_pairs_fault before (data_on before).range_pairs (set_pairs (a ∷ b ∷ c ∷ d ∷ e ∷ f ∷ rest)) else None)) (filed_of (range_data_of before (a ∷ b ∷ c ∷ d ∷ e ∷ f ∷ rest)))) (sym (long a b c d e f rest))

pub range_sound : (d : Data) (used : Option (Option (List ℕ))) (pairs : List Pair) → Sound d → d.section ≡ sections.Ranges → Sound (with_range_pairs d used pairs)
range_sound d used pairs sound at = record {
  rows = sound.rows;
  columns = sound.columns;
  early = record {
    no_named = sound.early.no_named;
    no_pairs = sound.early.no_pairs;
    no_rhs_set = sound.early.no_rhs_set;
    no_rhs_pairs = sound.early.no_rhs_pairs;
    no_range_set = λ early. let never : nat_lt 5 5 ≡ true = ap (λ section. nat_lt (rank section) 5) (sym at) ∙ early in absurd (cc);
    no_range_pairs = λ early. let never : nat_lt 5 5 ≡ true = ap (λ section. nat_lt (rank section) 5) (sym at) ∙ early in absurd (cc);
    no_bounds = sound.early.no_bounds;
  };
  objective = sound.objective;
  in_order = sound.in_order;
}
