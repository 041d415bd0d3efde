-- Lines of COLUMNS.
use Rattle.std.proofs.Common.{◌≡◌, ◌∙◌, ◌++◌, ◌+◌, ◌&&◌, ◌||◌, ◌≤◌, ap, map, flat_map, length, ℕ, Bool, true, false, List, [], ◌∷◌, Option, Some, None, Result, Ok, Err, not, is_some, refl, sym, subst, append_assoc, nat_lt, arith, if◌then◌else◌}
use Rattle.std.specs.Prelude.{codes}
use Rattle.std.proofs.lemmas.Bool.Decides.{nat_tests}
use Rattle.std.proofs.lemmas.List.{map-append}
use Rattle.rationals.specs.Rational.{ℚ}
use Rattle.rationals.specs.Sparse.{Entry}
use Rattle.rationals.specs.Forms.{is_zero}
use Rattle.frac128.specs.Numbers.{read_number}
use Rattle.frac128.specs.declared.text.NumFault.{NumFault}
use Rattle.smps_words.specs.Line.{TextLine}
use Rattle.smps_words.specs.Names.{same_name, place_of}
use Rattle.refusals.specs.declared.cause.Cause.{Cause}
use Rattle.refusals.specs.declared.cause.Cause.TheVariants as cause
use Rattle.refusals.specs.Results.{◌>>=◌, needs, unless_refused}
use Rattle.core_defs.specs.declared.parts.ColumnPart.{ColumnPart}
use Rattle.core_defs.specs.declared.section.Section.TheVariants as sections
use Rattle.core_defs.specs.Bounds.{Bound, first_bound_set, bounds_by, first_bounds}
use Rattle.core_defs.specs.Fault.{◌orelse◌, is_row, split_fault, pair_fault, pairs_fault, count_pairs, limit_fault, column_fault}
use Rattle.core_defs.specs.Filed.{Filed, last_of, part_of, closed_at, closed}
use Rattle.core_defs.specs.Lines.{last_section}
use Rattle.core_defs.specs.Number.{number_or_cause, cause_of}
use Rattle.core_defs.specs.Section.{rank}
use Rattle.core_defs.specs.Stated.{constraint_kind, free_rows, constraints, Pair, pairs_after, columns, entry_pairs, number_in, number_or_zero, value_on, with_new}
use Rattle.core_defs.specs.Step.{most_columns, most_entries, is_named, place_among, opened, with_column, count_of, with_value_at, with_value, within_limits, column_line}
use Rattle.core_defs.specs.Terms.{with_term}
use Rattle.core_defs.proofs.NameLemmas.{At, Missing, Distinct, name_is, same_either_way, place_at, place_missing, not_there, missing_front, distinct_last, map_missing, front, front_last, last_none, last_snoc, front_snoc, distinct_from-snoc, all_distinct}
use Rattle.core_defs.proofs.TermLemmas.{find_at, terms_missing, terms_same, terms_none, with_at}
use Rattle.core_defs.proofs.Gathered.{Data, data_on, free_in, rows_in, names_in, values_of, last_values, part_in, filed_of, AreRows, AreColumns, Sound}
use Rattle.core_defs.proofs.LineLemmas.{then_judged}
use Rattle.core_defs.proofs.PairLemmas.{or_later, value_on-append, other_column, pair_of, pair_changes, first_value, count_snoc, no_more, orelse_assoc, orelse_none}

-- what is filed where the columns have these names, of which this is the last, and these pairs
abbrev pub filed_by : Data → List (List ℕ) → Option (List ℕ) → List Pair → Filed
filed_by d names last pairs = record {
  section = d.section;
  has_columns = d.has_columns;
  free = free_in d;
  rows = rows_in d;
  kinds = flat_map constraint_kind d.rows;
  names = names;
  parts = map (part_in pairs (free_in d) (rows_in d)) (front names);
  costs = last_values pairs (free_in d) last;
  terms = last_values pairs (rows_in d) last;
  entries = count_pairs (rows_in d) pairs;
  rhs_set = d.rhs_set;
  rhs = map (value_on d.rhs_pairs []) (rows_in d);
  free_rhs = map (value_on d.rhs_pairs []) (free_in d);
  range_set = d.range_set;
  ranges = map (value_on d.range_pairs []) (rows_in d);
  bound_set = first_bound_set d.bounds;
  bounds = map (bounds_by d.bounds) names;
}

-- ---- a new column

closed_by : (d : Data) (names : List (List ℕ)) (last : Option (List ℕ)) (pairs : List Pair) → last_of names ≡ last →
    closed_at last (filed_by d names last pairs) ≡ record (filed_by d names None pairs) { parts = map (part_in pairs (free_in d) (rows_in d)) names }
closed_by d names None pairs e =
    let none : names ≡ [] = last_none names e in
    ap (λ (parts : List ColumnPart). record (filed_by d names None pairs) { parts = parts }) (ap (λ known. map (part_in pairs (free_in d) (rows_in d)) (front known)) none ∙ ap (map (part_in pairs (free_in d) (rows_in d))) (sym none))
closed_by d names (Some name) pairs e =
    ap (λ (parts : List ColumnPart). record (filed_by d names None pairs) { parts = parts })
    (sym (ap (map (part_in pairs (free_in d) (rows_in d))) (front_last names name e) ∙ map-append (part_in pairs (free_in d) (rows_in d)) (front names) (name ∷ [])))

-- the last column is whole
pub closed_filed : (d : Data) → closed (filed_of d) ≡ record (filed_by d (names_in d) None d.pairs) { parts = map (part_in d.pairs (free_in d) (rows_in d)) (names_in d) }
unfolding closed
closed_filed d = closed_by d (names_in d) (last_of (names_in d)) d.pairs refl

fresh_values : (d : Data) (rows : List (List ℕ)) (name : List ℕ) → AreColumns (names_in d) d.pairs → Missing (names_in d) name → values_of d.pairs rows name ≡ []
fresh_values d rows name known missing = terms_none 0 rows (value_on d.pairs name) (λ row. known.fresh name row missing)

opened_filed : (d : Data) (name : List ℕ) → Sound d → d.bounds ≡ [] → Missing (names_in d) name → opened (filed_of d) name ≡ filed_by d (names_in d ++ name ∷ []) (Some name) d.pairs
opened_filed d name sound none missing =
    let names = names_in d in
    ap (λ (f : Filed). record f { names = f.names ++ name ∷ []; bounds = f.bounds ++ first_bounds ∷ [] }) (closed_filed d)
    ∙ ap (λ (parts : List ColumnPart). record (filed_by d (names ++ name ∷ []) None d.pairs) { parts = parts; bounds = map (bounds_by d.bounds) names ++ first_bounds ∷ [] })
    (ap (map (part_in d.pairs (free_in d) (rows_in d))) (sym (front_snoc names name)))
    ∙ ap (λ (all : List Bound). record (filed_by d (names ++ name ∷ []) None d.pairs) { bounds = map (bounds_by d.bounds) names ++ bounds_by all name ∷ [] }) (sym none)
    ∙ ap (λ bounds. record (filed_by d (names ++ name ∷ []) None d.pairs) { bounds = bounds }) (sym (map-append (bounds_by d.bounds) names (name ∷ [])))
    ∙ ap (λ (costs : List Entry). record (filed_by d (names ++ name ∷ []) None d.pairs) { costs = costs }) (sym (fresh_values d (free_in d) name sound.columns missing))
    ∙ ap (λ (terms : List Entry). record (filed_by d (names ++ name ∷ []) (Some name) d.pairs) { terms = terms }) (sym (fresh_values d (rows_in d) name sound.columns missing))

-- the names with one more
new_names : (d : Data) (name : List ℕ) → names_in (record d { named = d.named ++ name ∷ [] }) ≡ with_new (names_in d) name
new_names d name = distinct_from-snoc [] d.named name

-- the last name is there
last_there : (names : List (List ℕ)) (last : Option (List ℕ)) (name : List ℕ) (there : Bool) → last_of names ≡ last → is_named last name ≡ true → is_some (place_of names name) ≡ there → there ≡ true
last_there names last name true e same is = refl
last_there names None name false e same is = cc
last_there names (Some held) name false e same is =
    let missing : Missing (front names ++ held ∷ []) name = subst (λ (all : List (List ℕ)). Missing all name) (front_last names held e) (not_there names name is) in
    let apart : same_name name held ≡ false = (missing_front (front names) held name missing).1 in
    let other : same_name name held ≡ true = same_either_way name held ∙ same in
    absurd (cc)

-- behind a column's name
record IsOpened (before : List TextLine) (column : List ℕ) (names : List (List ℕ)) : Type 0 where
  pub is : names_in (record (data_on before) { named = (data_on before).named ++ column ∷ [] }) ≡ names
  pub last : last_of names ≡ Some column

column_by : (before : List TextLine) (column : List ℕ) (last : Option (List ℕ)) (same there : Bool) → Sound (data_on before) → (data_on before).bounds ≡ [] → last_of (columns before) ≡ last → is_named last column ≡ same → is_some (place_of (columns before) column) ≡ there →
    (names : List (List ℕ)) × ((if not same && there then Some cause.ColumnSplit else None) ≡ None → IsOpened before column names)
    × ((if same then Ok (filed_of (data_on before)) else (if there then Err cause.ColumnSplit else Ok (opened (filed_of (data_on before)) column))) ≡ unless_refused (if not same && there then Some cause.ColumnSplit else None) (filed_by (data_on before) names (Some column) (entry_pairs before)))
column_by before column last true there sound none at named is =
    let found : there ≡ true = last_there (columns before) last column there at named is in
    let whole = known last named at in (
      columns before,
      (λ fine. record { is = new_names (data_on before) column ∙ ap (λ b. if b then columns before else columns before ++ column ∷ []) (is ∙ found); last = whole }),
      ap (λ last. Ok (filed_by (data_on before) (columns before) last (entry_pairs before))) whole,
    )
  where
    known : (last : Option (List ℕ)) → is_named last column ≡ true → last_of (columns before) ≡ last → last_of (columns before) ≡ Some column
    known None named at = cc
    known (Some held) named at = at ∙ ap Some (name_is held column named)
column_by before column last false true sound none at named is = (columns before, (λ fine. cc), refl)
column_by before column last false false sound none at named is = (
  columns before ++ column ∷ [],
  (λ fine. record { is = new_names (data_on before) column ∙ ap (λ b. if b then columns before else columns before ++ column ∷ []) is; last = last_snoc (columns before) column }),
  ap Ok (opened_filed (data_on before) column sound none (not_there (columns before) column is)),
)

record ColumnStep (before : List TextLine) (column : List ℕ) : Type 0 where
  pub names : List (List ℕ)
  pub opened : split_fault before column ≡ None → IsOpened before column names
  pub step : with_column (filed_of (data_on before)) column ≡ unless_refused (split_fault before column) (filed_by (data_on before) names (Some column) (entry_pairs before))

column_step : (before : List TextLine) (column : List ℕ) → Sound (data_on before) → (data_on before).bounds ≡ [] → ColumnStep before column
unfolding with_column
column_step before column sound none =
    let by = column_by before column (last_of (columns before)) (is_named (last_of (columns before)) column) (is_some (place_of (columns before) column)) sound none refl refl refl in
    record { names = by.0; opened = by.1; step = by.2 }

-- ---- a pair

-- the columns before the last one keep their values
parts_kept : (d : Data) (names : List (List ℕ)) (column row word : List ℕ) (pairs : List Pair) → Distinct names → last_of names ≡ Some column →
    map (part_in (pairs ++ pair_of column row word ∷ []) (free_in d) (rows_in d)) (front names) ≡ map (part_in pairs (free_in d) (rows_in d)) (front names)
parts_kept d names column row word pairs distinct last =
    let more : List Pair = pairs ++ pair_of column row word ∷ [] in
    let missing : Missing (front names) column = distinct_last (front names) column (subst Distinct (front_last names column last) distinct) in
    map_missing (front names) column (part_in pairs (free_in d) (rows_in d)) (part_in more (free_in d) (rows_in d)) missing (record {
      others = λ other apart.
          let same : (rows : List (List ℕ)) → values_of more rows other ≡ values_of pairs rows other = λ rows. terms_same 0 rows (value_on pairs other) (value_on more other) (λ name. other_column pairs (pair_of column row word) other name apart) in
          ap (λ costs. part_of costs (values_of more (rows_in d) other)) (same (free_in d)) ∙ ap (part_of (values_of pairs (free_in d) other)) (same (rows_in d));
    })

-- a value in an N row
cost_filed : (d : Data) (names : List (List ℕ)) (column row word : List ℕ) (pairs : List Pair) (place : ℕ) (value : ℚ) → AreRows (free_in d) (rows_in d) → Distinct names → last_of names ≡ Some column → place_of (free_in d) row ≡ Some place → place_of (rows_in d) row ≡ None → read_number word ≡ Ok value → value_on pairs column row ≡ None →
    record (filed_by d names (Some column) pairs) { costs = with_term place value (values_of pairs (free_in d) column) } ≡ filed_by d names (Some column) (pairs ++ pair_of column row word ∷ [])
cost_filed d names column row word pairs place value known distinct last at missing read none =
    let more : List Pair = pairs ++ pair_of column row word ∷ [] in
    let costs = with_at 0 place (free_in d) place row (value_on pairs column) (value_on more column) value known.free_differ (place_at (free_in d) row place at) (omega arith) (pair_changes pairs column row word) none (first_value pairs column row word value none read) in
    let terms = terms_missing 0 (rows_in d) row (value_on pairs column) (value_on more column) (place_missing 0 (rows_in d) row missing) (pair_changes pairs column row word) in
    let entries : count_pairs (rows_in d) more ≡ count_pairs (rows_in d) pairs = count_snoc (rows_in d) pairs (pair_of column row word) ∙ ap (λ found. count_pairs (rows_in d) pairs + (if is_some found && not (is_zero (number_in word)) then 1 else 0)) missing ∙ omega arith in
    ap (λ known. record (filed_by d names (Some column) pairs) { costs = known }) costs
    ∙ ap (λ (known : List Entry). record (filed_by d names (Some column) pairs) { costs = values_of more (free_in d) column; terms = known }) (sym terms)
    ∙ ap (λ (known : List ColumnPart). record (filed_by d names (Some column) more) { parts = known; entries = count_pairs (rows_in d) pairs }) (sym (parts_kept d names column row word pairs distinct last))
    ∙ ap (λ (known : ℕ). record (filed_by d names (Some column) more) { entries = known }) (sym entries)

counted : (zero_ : Bool) → ◌≡◌ {A = ℕ} (if zero_ then 0 else 1) (if not zero_ then 1 else 0)
counted true = refl
counted false = refl

-- a value in a constraint
entry_filed : (d : Data) (names : List (List ℕ)) (column row word : List ℕ) (pairs : List Pair) (place : ℕ) (value : ℚ) → AreRows (free_in d) (rows_in d) → Distinct names → last_of names ≡ Some column → place_of (rows_in d) row ≡ Some place → read_number word ≡ Ok value → value_on pairs column row ≡ None →
    record (filed_by d names (Some column) pairs) { terms = with_term place value (values_of pairs (rows_in d) column); entries = count_pairs (rows_in d) pairs + count_of value } ≡ filed_by d names (Some column) (pairs ++ pair_of column row word ∷ [])
entry_filed d names column row word pairs place value known distinct last at read none =
    let more : List Pair = pairs ++ pair_of column row word ∷ [] in
    let there : At (rows_in d) place row = place_at (rows_in d) row place at in
    let terms = with_at 0 place (rows_in d) place row (value_on pairs column) (value_on more column) value known.rows_differ there (omega arith) (pair_changes pairs column row word) none (first_value pairs column row word value none read) in
    let costs = terms_missing 0 (free_in d) row (value_on pairs column) (value_on more column) (known.apart row place there) (pair_changes pairs column row word) in
    let entries : count_pairs (rows_in d) more ≡ count_pairs (rows_in d) pairs + count_of value =
    count_snoc (rows_in d) pairs (pair_of column row word) ∙ ap (λ found. count_pairs (rows_in d) pairs + (if is_some found && not (is_zero (number_in word)) then 1 else 0)) at
    ∙ ap (λ read. count_pairs (rows_in d) pairs + (if not (is_zero (number_or_zero read)) then 1 else 0)) read ∙ ap (λ (one : ℕ). count_pairs (rows_in d) pairs + one) (sym (counted (is_zero value))) in
    ap (λ (known : List Entry). record (filed_by d names (Some column) pairs) { terms = known; entries = count_pairs (rows_in d) pairs + count_of value }) terms
    ∙ ap (λ (known : List Entry). record (filed_by d names (Some column) pairs) { costs = known; terms = values_of more (rows_in d) column; entries = count_pairs (rows_in d) pairs + count_of value }) (sym costs)
    ∙ ap (λ (known : List ColumnPart). record (filed_by d names (Some column) more) { parts = known; entries = count_pairs (rows_in d) pairs + count_of value }) (sym (parts_kept d names column row word pairs distinct last))
    ∙ ap (λ (known : ℕ). record (filed_by d names (Some column) more) { entries = known }) (sym entries)

by_twice : (value known : Option ℚ) (taken : Bool) (f g : Filed) → value ≡ known → is_some known ≡ taken → (known ≡ None → f ≡ g) → (if is_some value then Err cause.EntryTwice else Ok f) ≡ unless_refused (if is_some known then Some cause.EntryTwice else None) g
by_twice value None taken f g e is later = ap (λ o. if is_some o then Err cause.EntryTwice else Ok f) e ∙ ap Ok (later refl)
by_twice value (Some x) taken f g e is later = ap (λ o. if is_some o then Err cause.EntryTwice else Ok f) e

value_by : (d : Data) (names : List (List ℕ)) (column row word : List ℕ) (pairs : List Pair) (in_rows in_free : Option ℕ) (read : Result ℚ NumFault) → AreRows (free_in d) (rows_in d) → Distinct names → last_of names ≡ Some column → place_of (rows_in d) row ≡ in_rows → place_of (free_in d) row ≡ in_free → read_number word ≡ read →
    (needs cause.RowUnknown (place_among in_rows in_free) >>= λ place. number_or_cause read >>= λ value. with_value_at (filed_by d names (Some column) pairs) value place)
    ≡ unless_refused (if not (is_some in_rows || is_some in_free) then Some cause.RowUnknown else (cause_of read orelse (if is_some (value_on pairs column row) then Some cause.EntryTwice else None))) (filed_by d names (Some column) (pairs ++ pair_of column row word ∷ []))
value_by d names column row word pairs None None read known distinct last is_row is_free reads = refl
value_by d names column row word pairs None (Some place) (Err fault) known distinct last is_row is_free reads = refl
value_by d names column row word pairs None (Some place) (Ok value) known distinct last is_row is_free reads =
    by_twice _ (value_on pairs column row) _ _ _ (find_at 0 place (free_in d) place row (value_on pairs column) (place_at (free_in d) row place is_free) (omega arith)) refl (λ none. cost_filed d names column row word pairs place value known distinct last is_free is_row reads none)
value_by d names column row word pairs (Some place) in_free (Err fault) known distinct last is_row is_free reads = refl
value_by d names column row word pairs (Some place) in_free (Ok value) known distinct last is_row is_free reads =
    by_twice _ (value_on pairs column row) _ _ _ (find_at 0 place (rows_in d) place row (value_on pairs column) (place_at (rows_in d) row place is_row) (omega arith)) refl (λ none. entry_filed d names column row word pairs place value known distinct last is_row reads none)

value_step : (before : List TextLine) (names : List (List ℕ)) (column row word : List ℕ) (pairs : List Pair) → AreRows (free_rows before) (constraints before) → Distinct names → last_of names ≡ Some column →
    with_value (filed_by (data_on before) names (Some column) pairs) row word ≡ unless_refused (pair_fault before pairs (pair_of column row word)) (filed_by (data_on before) names (Some column) (pairs ++ pair_of column row word ∷ []))
unfolding with_value
value_step before names column row word pairs known distinct last =
    value_by (data_on before) names column row word pairs (place_of (constraints before) row) (place_of (free_rows before) row) (read_number word) known distinct last refl refl refl

-- ---- the limits

-- too many columns or entries
abbrev limit_on : Data → Bool
limit_on d = nat_lt most_columns (length (names_in d)) || nat_lt most_entries (count_pairs (rows_in d) d.pairs)

abbrev limit_of : Data → Option Cause
limit_of d = if limit_on d then Some cause.CoreLimit else None

by_limit : (over : Bool) (f : Filed) → (if over then Err cause.CoreLimit else Ok f) ≡ unless_refused (if over then Some cause.CoreLimit else None) f
by_limit true f = refl
by_limit false f = refl

limit_step : (d : Data) → within_limits (filed_of d) ≡ unless_refused (limit_of d) (filed_of d)
limit_step d = by_limit (limit_on d) (filed_of d)

-- ---- a line

-- the line's column and pairs
abbrev pub with_pairs : List TextLine → List ℕ → List Pair → Data
with_pairs before column more = record (data_on before) { named = (data_on before).named ++ column ∷ []; pairs = entry_pairs before ++ more }

-- behind its pairs
paired : (before : List TextLine) (column : List ℕ) (names : List (List ℕ)) (more : List Pair) → IsOpened before column names → filed_by (data_on before) names (Some column) (entry_pairs before ++ more) ≡ filed_of (with_pairs before column more)
paired before column names more opened =
    ap (λ last. filed_by (data_on before) names last (entry_pairs before ++ more)) (sym opened.last)
    ∙ ap (λ all. filed_by (data_on before) all (last_of all) (entry_pairs before ++ more)) (sym opened.is)

names_distinct : (before : List TextLine) (column : List ℕ) (names : List (List ℕ)) → IsOpened before column names → Distinct names
names_distinct before column names opened = subst Distinct opened.is (all_distinct [] ((data_on before).named ++ column ∷ []) tt)

ending : (before : List TextLine) (column : List ℕ) (names : List (List ℕ)) (more : List Pair) → IsOpened before column names →
    within_limits (filed_by (data_on before) names (Some column) (entry_pairs before ++ more)) ≡ unless_refused (limit_of (with_pairs before column more)) (filed_of (with_pairs before column more))
ending before column names more opened = ap within_limits (paired before column names more opened) ∙ limit_step (with_pairs before column more)

one_pair : (before : List TextLine) (column row word : List ℕ) → Sound (data_on before) → (data_on before).bounds ≡ [] →
    (with_column (filed_of (data_on before)) column >>= λ g. with_value g row word >>= λ h. within_limits h)
    ≡ unless_refused (split_fault before column orelse (pairs_fault before (entry_pairs before) (pair_of column row word ∷ []) orelse limit_of (with_pairs before column (pair_of column row word ∷ [])))) (filed_of (with_pairs before column (pair_of column row word ∷ [])))
one_pair before column row word sound none =
    let by = column_step before column sound none in
    let pair : Pair = pair_of column row word in
    let fault = pair_fault before (entry_pairs before) pair in
    let limit = limit_of (with_pairs before column (pair ∷ [])) in
    let g = filed_of (with_pairs before column (pair ∷ [])) in
    then_judged (with_column (filed_of (data_on before)) column) (λ g. with_value g row word >>= λ h. within_limits h) (split_fault before column) ((fault orelse None) orelse limit) _ g by.step (λ fine.
    let opened = by.opened fine in
    then_judged _ (λ h. within_limits h) fault limit _ g (value_step before by.names column row word (entry_pairs before) sound.rows (names_distinct before column by.names opened) opened.last) (λ fine. ending before column by.names (pair ∷ []) opened)
    ∙ ap (λ first. unless_refused (first orelse limit) g) (sym (no_more fault)))

two_pairs : (before : List TextLine) (column row word second other : List ℕ) → Sound (data_on before) → (data_on before).bounds ≡ [] →
    (with_column (filed_of (data_on before)) column >>= λ g. with_value g row word >>= λ h. with_value h second other >>= λ i. within_limits i)
    ≡ unless_refused (split_fault before column orelse (pairs_fault before (entry_pairs before) (pair_of column row word ∷ pair_of column second other ∷ []) orelse limit_of (with_pairs before column (pair_of column row word ∷ pair_of column second other ∷ [])))) (filed_of (with_pairs before column (pair_of column row word ∷ pair_of column second other ∷ [])))
two_pairs before column row word second other sound none =
    let by = column_step before column sound none in
    let pair : Pair = pair_of column row word in
    let next : Pair = pair_of column second other in
    let pairs : List Pair = entry_pairs before in
    let fault = pair_fault before pairs pair in
    let later = pair_fault before (pairs ++ pair ∷ []) next in
    let limit = limit_of (with_pairs before column (pair ∷ next ∷ [])) in
    let g = filed_of (with_pairs before column (pair ∷ next ∷ [])) in
    then_judged (with_column (filed_of (data_on before)) column) (λ g. with_value g row word >>= λ h. with_value h second other >>= λ i. within_limits i) (split_fault before column) ((fault orelse (later orelse None)) orelse limit) _ g by.step (λ fine.
    let opened = by.opened fine in
    let distinct = names_distinct before column by.names opened in
    then_judged _ (λ h. with_value h second other >>= λ i. within_limits i) fault (later orelse limit) _ g (value_step before by.names column row word pairs sound.rows distinct opened.last) (λ fine.
    then_judged _ (λ i. within_limits i) later limit _ g (value_step before by.names column second other (pairs ++ pair ∷ []) sound.rows distinct opened.last) (λ fine.
    ap (λ all. within_limits (filed_by (data_on before) by.names (Some column) all)) (append_assoc pairs (pair ∷ []) (next ∷ [])) ∙ ending before column by.names (pair ∷ next ∷ []) opened))
    ∙ ap (λ all. unless_refused all g) (ap (λ last. fault orelse (last orelse limit)) (sym (no_more later)) ∙ sym (orelse_assoc fault (later orelse None) limit)))

by_marker : (marker : Bool) (r : Result Filed Cause) (c : Option Cause) (g : Filed) → r ≡ unless_refused c g → (if marker then Err cause.IntegerMarker else r) ≡ unless_refused (if marker then Some cause.IntegerMarker else c) g
by_marker true r c g e = refl
by_marker false r c g e = e

abbrev pub column_data_of : List TextLine → List (List ℕ) → Data
column_data_of before [] = data_on before
column_data_of before (column ∷ rest) = with_pairs before column (pairs_after column rest)

pub column_line_step : (before : List TextLine) (line : TextLine) (fields : List (List ℕ)) → Sound (data_on before) → last_section before ≡ sections.Columns → data_on (before ++ line ∷ []) ≡ column_data_of before fields →
    column_line (filed_of (data_on before)) fields ≡ unless_refused (column_fault before line fields) (filed_of (column_data_of before fields))
unfolding column_line
column_line_step before line [] sound at is = refl
column_line_step before line (_ ∷ []) sound at is = refl
column_line_step before line (_ ∷ _ ∷ []) sound at is = refl
column_line_step before line (column ∷ row ∷ word ∷ []) sound at is =
    let none : (data_on before).bounds ≡ [] = sound.early.no_bounds (ap (λ section. nat_lt (rank section) 6) at) in
    by_marker (same_name row (codes "'MARKER'")) _ _ (filed_of (with_pairs before column (pair_of column row word ∷ [])))
    (one_pair before column row word sound none
    ∙ ap (λ (d : Data). unless_refused (split_fault before column orelse (pairs_fault before (entry_pairs before) (pair_of column row word ∷ []) orelse limit_of d)) (filed_of (with_pairs before column (pair_of column row word ∷ [])))) (sym is))
column_line_step before line (_ ∷ _ ∷ _ ∷ _ ∷ []) sound at is = refl
column_line_step before line (column ∷ row ∷ word ∷ second ∷ other ∷ []) sound at is =
    let none : (data_on before).bounds ≡ [] = sound.early.no_bounds (ap (λ section. nat_lt (rank section) 6) at) in
    let pairs : List Pair = pair_of column row word ∷ pair_of column second other ∷ [] in
    two_pairs before column row word second other sound none
    ∙ ap (λ (d : Data). unless_refused (split_fault before column orelse (pairs_fault before (entry_pairs before) pairs orelse limit_of d)) (filed_of (with_pairs before column pairs))) (sym is)
column_line_step before line (_ ∷ _ ∷ _ ∷ _ ∷ _ ∷ _ ∷ _) sound at is = refl

-- ---- what it keeps

pairs_elsewhere : (column : List ℕ) (fields : List (List ℕ)) (name row : List ℕ) → same_name name column ≡ false → value_on (pairs_after column fields) name row ≡ None
pairs_elsewhere column [] name row apart = refl
pairs_elsewhere column (_ ∷ []) name row apart = refl
pairs_elsewhere column (first ∷ word ∷ rest) name row apart = ap (λ here. if here && same_name row first then Some (number_in word) else value_on (pairs_after column rest) name row) apart ∙ pairs_elsewhere column rest name row apart

missing_old : (names : List (List ℕ)) (column name : List ℕ) (there : Bool) → Missing (if there then names else names ++ column ∷ []) name → Missing names name
missing_old names column name true missing = missing
missing_old names column name false missing = (missing_front names column name missing).0

unlimited : (count : ℕ) (over other : Bool) → nat_lt most_columns count ≡ over → (if over || other then Some cause.CoreLimit else None) ≡ None → count ≤ most_columns
unlimited count true other is fine = cc
unlimited count false other is fine = grind (arith, nat_tests)

unmarked : (marker : Bool) (c : Option Cause) → (if marker then Some cause.IntegerMarker else c) ≡ None → c ≡ None
unmarked true c fine = cc
unmarked false c fine = fine

unsplit : (before : List TextLine) (column : List ℕ) (pairs limit : Option Cause) → (split_fault before column orelse (pairs orelse limit)) ≡ None → (split_fault before column ≡ None) × (limit ≡ None)
unsplit before column pairs limit fine =
    let both = orelse_none (split_fault before column) (pairs orelse limit) fine in
    (both.0, (orelse_none pairs limit both.1).1)

line_sound : (before : List TextLine) (column : List ℕ) (rest : List (List ℕ)) → Sound (data_on before) → last_section before ≡ sections.Columns → split_fault before column ≡ None → limit_of (with_pairs before column (pairs_after column rest)) ≡ None → Sound (with_pairs before column (pairs_after column rest))
line_sound before column rest sound at whole limit =
    let none : (data_on before).bounds ≡ [] = sound.early.no_bounds (ap (λ section. nat_lt (rank section) 6) at) in
    let by = column_step before column sound none in
    let opened = by.opened whole in
    let d : Data = with_pairs before column (pairs_after column rest) in
    record {
      rows = sound.rows;
      columns = record {
        few = unlimited (length (names_in d)) (nat_lt most_columns (length (names_in d))) _ refl limit;
        fresh = λ name row missing.
            let old : Missing (names_in (data_on before)) name = missing_old (columns before) column name (is_some (place_of (columns before) column)) (subst (λ names. Missing names name) (new_names (data_on before) column) missing) in
            let last : by.names ≡ front by.names ++ column ∷ [] = front_last by.names column opened.last in
            let apart : same_name name column ≡ false = (missing_front (front by.names) column name (subst (λ names. Missing names name) (opened.is ∙ last) missing)).1 in
            value_on-append (entry_pairs before) (pairs_after column rest) name row ∙ ap (λ known. or_later known (value_on (pairs_after column rest) name row)) (sound.columns.fresh name row old) ∙ pairs_elsewhere column rest name row apart;
      };
      early = record {
        no_named = λ early. let never : nat_lt 3 3 ≡ true = ap (λ section. nat_lt (rank section) 3) (sym at) ∙ early in absurd (cc);
        no_pairs = λ early. let never : nat_lt 3 3 ≡ true = ap (λ section. nat_lt (rank section) 3) (sym at) ∙ early in absurd (cc);
        no_rhs_set = sound.early.no_rhs_set;
        no_rhs_pairs = sound.early.no_rhs_pairs;
        no_range_set = sound.early.no_range_set;
        no_range_pairs = sound.early.no_range_pairs;
        no_bounds = sound.early.no_bounds;
      };
      objective = sound.objective;
      in_order = sound.in_order;
    }

limit_is : (before : List TextLine) (line : TextLine) (d : Data) → data_on (before ++ line ∷ []) ≡ d → limit_fault (before ++ line ∷ []) ≡ None → limit_of d ≡ None
limit_is before line d is fine = ap limit_of (sym is) ∙ fine

pub column_sound : (before : List TextLine) (line : TextLine) (fields : List (List ℕ)) → Sound (data_on before) → last_section before ≡ sections.Columns → data_on (before ++ line ∷ []) ≡ column_data_of before fields → column_fault before line fields ≡ None → Sound (column_data_of before fields)
column_sound before line [] sound at is fine = cc
column_sound before line (_ ∷ []) sound at is fine = cc
column_sound before line (_ ∷ _ ∷ []) sound at is fine = cc
column_sound before line (column ∷ row ∷ word ∷ []) sound at is fine =
    let both = unsplit before column _ (limit_fault (before ++ line ∷ [])) (unmarked (same_name row (codes "'MARKER'")) _ fine) in
    line_sound before column (row ∷ word ∷ []) sound at both.0 (limit_is before line (with_pairs before column (pairs_after column (row ∷ word ∷ []))) is both.1)
column_sound before line (_ ∷ _ ∷ _ ∷ _ ∷ []) sound at is fine = cc
column_sound before line (column ∷ row ∷ word ∷ second ∷ other ∷ []) sound at is fine =
    let both = unsplit before column _ (limit_fault (before ++ line ∷ [])) fine in
    line_sound before column (row ∷ word ∷ second ∷ other ∷ []) sound at both.0 (limit_is before line (with_pairs before column (pairs_after column (row ∷ word ∷ second ∷ other ∷ []))) is both.1)
column_sound before line (_ ∷ _ ∷ _ ∷ _ ∷ _ ∷ _ ∷ _) sound at is fine = cc
