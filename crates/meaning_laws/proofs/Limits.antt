-- A core file states few entries, and the program of one period that it means is within the limits.
use Rattle.std.proofs.Common.{◌≡◌, ◌∙◌, ap, sym, refl, subst, ℕ, zero, suc, ◌+◌, ◌≤◌, ◌<◌, ◌++◌, ◌||◌, Bool, true, false, not, List, [], ◌∷◌, length, get_or, replicate, nat_eq, nat_lt, Option, Some, None, arith, if◌then◌else◌, append_assoc, append-nil}
use Rattle.std.specs.Prelude.{All, codes, sum_by}
use Rattle.std.proofs.lemmas.Bool.Decides.{nat_tests}
use Rattle.std.proofs.lemmas.List.{length-map, length-replicate}
use Rattle.std.proofs.lemmas.List.Elements.{All-head, All-tail}
use Rattle.std.proofs.lemmas.List.Sums.{sum_by-cons}
use Rattle.rationals.specs.Rational.{ℚ}
use Rattle.rationals.specs.Sparse.{Entry as Term, coefficient}
use Rattle.rationals.specs.Forms.{put_unless, is_zero}
use Rattle.rationals.specs.Choices.{pick}
use Rattle.smps_words.specs.Line.{TextLine}
use Rattle.smps_words.specs.Names.{same_name}
use Rattle.smps_words.specs.declared.entry.Entry.TheVariants.{Matrix}
use Rattle.refusals.specs.declared.cause.Cause.{Cause}
use Rattle.refusals.specs.declared.cause.Cause.TheVariants as cause
use Rattle.reader_defs.specs.Reader.{NoFaultBehind}
use Rattle.core_defs.specs.declared.parts.ColumnDef.{ColumnDef}
use Rattle.core_defs.specs.declared.parts.RowDef.{RowDef}
use Rattle.core_defs.specs.declared.program.Core.{Core}
use Rattle.core_defs.specs.declared.section.Section.{Section}
use Rattle.core_defs.specs.declared.section.Section.TheVariants as sections
use Rattle.core_defs.specs.Core.{row_names, column_names}
use Rattle.core_defs.specs.Fault.{limit_fault, column_fault, data_fault, section_fault, fault, core_file, IsCoreFile, count_pairs}
use Rattle.core_defs.specs.Lines.{first_word, last_section}
use Rattle.core_defs.specs.Means.{Means, IsStatedColumn}
use Rattle.core_defs.specs.Section.{section_of, rank, is_end}
use Rattle.core_defs.specs.Stated.{Pair, entry_pairs, entry_in, constraints}
use Rattle.core_defs.specs.Step.{most_rows, most_columns, most_entries}
use Rattle.core_defs.proofs.NameLemmas.{Distinct, all_distinct}
use Rattle.core_defs.proofs.Gathered.{Data, data_on, rows_in, names_in, Sound}
use Rattle.core_defs.proofs.LineLemmas.{data_text, header_text, row_data, rhs_data, range_data, bound_data, header_data}
use Rattle.core_defs.proofs.PairLemmas.{orelse_none}
use Rattle.core_defs.proofs.Steps.{step_sound, nothing_sound}
use Rattle.core_defs.proofs.Texts.{cause_is, whole_sound, whole_data}
use Rattle.stoch_defs.specs.Entries.{no_column}
use Rattle.stoch_defs.specs.Random.Random.{Blocks}
use Rattle.scen_defs.specs.Lists.{places}
use Rattle.time_defs.specs.Means.{Stages}
use Rattle.build_defs.specs.Nodes.{Stand, nodes_of, form_at, value_in, entries_at}
use Rattle.build_defs.specs.Scenarios.{scenarios_of}
use Rattle.build_defs.specs.Built.{exceeds, most_node_parts, count_entries, count_rows, count_costs}
use Rattle.meaning_laws.proofs.Counts.{one, in_row, in_rows, at_most_pairs}

-- ---- lines without fault state few entries

abbrev IsFew : Data → Type 0
IsFew d = count_pairs (rows_in d) d.pairs ≤ most_entries

unless : (b : Bool) (cause : Cause) (rest : Option Cause) → (if b then Some cause else rest) ≡ None → rest ≡ None
unless true cause rest e = absurd (cc)
unless false cause rest e = e

within : (over more : Bool) → (if over || more then Some cause.CoreLimit else None) ≡ None → more ≡ false
within true more e = absurd (cc)
within false true e = absurd (cc)
within false false e = refl

few_by_test : (most n : ℕ) → nat_lt most n ≡ false → n ≤ most
few_by_test most n e = grind (arith, nat_tests)

few_by_limit : (lines : List TextLine) → limit_fault lines ≡ None → IsFew (data_on lines)
few_by_limit lines e =
    let more : nat_lt most_entries (count_pairs (constraints lines) (entry_pairs lines)) ≡ false = within _ _ e in
    few_by_test _ _ more

column_few : (before : List TextLine) (line : TextLine) (fields : List (List ℕ)) → column_fault before line fields ≡ None → IsFew (data_on (before ++ line ∷ []))
column_few before line [] e = absurd (cc)
column_few before line (_ ∷ []) e = absurd (cc)
column_few before line (_ ∷ _ ∷ []) e = absurd (cc)
column_few before line (column ∷ row ∷ word ∷ []) e =
    let rest = orelse_none _ _ (unless (same_name row (codes "'MARKER'")) cause.IntegerMarker _ e) in
    few_by_limit (before ++ line ∷ []) (orelse_none _ _ rest.1).1
column_few before line (_ ∷ _ ∷ _ ∷ _ ∷ []) e = absurd (cc)
column_few before line (column ∷ row ∷ word ∷ second ∷ other ∷ []) e =
    few_by_limit (before ++ line ∷ []) (orelse_none _ _ (orelse_none _ _ e).1).1
column_few before line (_ ∷ _ ∷ _ ∷ _ ∷ _ ∷ _ ∷ _) e = absurd (cc)

none_few : (rows : List (List ℕ)) (pairs : List Pair) → pairs ≡ [] → count_pairs rows pairs ≤ most_entries
none_few rows pairs e = let none : count_pairs rows pairs ≡ 0 = ap (count_pairs rows) e in omega (arith, none)

data_few : (before : List TextLine) (number : ℕ) (fields : List (List ℕ)) (section : Section) → Sound (data_on before) → last_section before ≡ section
    → data_fault section before (data_text number fields) ≡ None → IsFew (data_on before) → IsFew (data_on (before ++ data_text number fields ∷ []))
data_few before number fields sections.Start sound at fine few = absurd (cc)
data_few before number fields sections.Name sound at fine few = absurd (cc)
data_few before number fields sections.Rows sound at fine few =
    subst IsFew (sym (row_data before number fields at)) (none_few _ (entry_pairs before) (sound.early.no_pairs (ap (λ s. nat_lt (rank s) 3) at)))
data_few before number fields sections.Columns sound at fine few = column_few before (data_text number fields) fields fine
data_few before number fields sections.Rhs sound at fine few = subst IsFew (sym (rhs_data before number fields at)) few
data_few before number fields sections.Ranges sound at fine few = subst IsFew (sym (range_data before number fields at)) few
data_few before number fields sections.Bounds sound at fine few = subst IsFew (sym (bound_data before number fields at)) few
data_few before number fields sections.End sound at fine few = absurd (cc)

header_few : (before : List TextLine) (number : ℕ) (fields : List (List ℕ)) (next : Option Section) → section_of (first_word fields) ≡ next
    → section_fault before next ≡ None → is_end (last_section before) ≡ false → IsFew (data_on before) → IsFew (data_on (before ++ header_text number fields ∷ []))
header_few before number fields None is fine open_ few = absurd (cc)
header_few before number fields (Some next) is fine open_ few = subst IsFew (sym (header_data before number fields next is open_)) few

line_few : (before : List TextLine) (number : ℕ) (header : Bool) (fields : List (List ℕ)) → Sound (data_on before) → is_end (last_section before) ≡ false
    → fault before (record { number = number; header = header; fields = fields }) ≡ None → IsFew (data_on before)
    → IsFew (data_on (before ++ record { number = number; header = header; fields = fields } ∷ []))
line_few before number true fields sound open_ fine few = header_few before number fields (section_of (first_word fields)) refl fine open_ few
line_few before number false fields sound open_ fine few = data_few before number fields (last_section before) sound refl fine few

lines_few : (before lines : List TextLine) → NoFaultBehind core_file before lines → Sound (data_on before) → IsFew (data_on before) → IsFew (data_on (before ++ lines))
lines_few before [] fit sound few = subst (λ (lines : List TextLine). IsFew (data_on lines)) (sym (append-nil before)) few
lines_few before (line ∷ lines) fit sound few =
    let fine : fault before line ≡ None = sym (cause_is (fault before line) (before ++ line ∷ [])) ∙ fit.1 in
    subst (λ (lines : List TextLine). IsFew (data_on lines)) (append_assoc before (line ∷ []) lines)
    (lines_few (before ++ line ∷ []) lines fit.2 (step_sound before line sound fit.0 fine) (line_few before line.number line.header line.fields sound fit.0 fine few))

record IsFewOn (lines : List TextLine) : Type 0 where
  sound : Sound (data_on lines)
  few : IsFew (data_on lines)

file_few : (lines : List TextLine) → IsCoreFile lines → IsFewOn lines
file_few lines file =
    let same : data_on lines ≡ data_on file.read = whole_data lines file.number file.read file.whole in
    let few : IsFew (data_on file.read) = subst (λ (known : List TextLine). IsFew (data_on known)) (sym file.whole.is)
    (lines_few [] (file.whole.read ++ file.whole.line ∷ []) file.whole.fit nothing_sound (omega arith)) in
    record { sound = subst Sound (sym same) (whole_sound lines file.number file.read file.whole); few = subst IsFew (sym same) few }

-- ---- what the program of one period has

length_put : (zero_ : Bool) (j : ℕ) (v : ℚ) (f : List Term) → length (put_unless zero_ j v f) ≡ one (not zero_) + length f
length_put true j v f = omega arith
length_put false j v f = omega arith

one_more : (here none : Bool) (j : ℕ) (v : ℚ) (f : List Term) (n : ℕ) → length f ≤ n → length (pick here (put_unless none j v f) f) ≤ suc n
one_more true true j v f n h = omega arith
one_more true false j v f n h = omega arith
one_more false none j v f n h = omega arith

form_count : (test : ℕ → Bool) (value : ℕ → ℚ) (j : ℕ) (stages : List ℕ) → length (form_at test value j stages) ≤ length stages
form_count test value j [] = omega arith
form_count test value j (stage ∷ stages) =
    one_more (test stage) (is_zero (value j)) j (value j) (form_at test value (suc j) stages) (length stages) (form_count test value (suc j) stages)

places_count : (k n : ℕ) → length (places (λ at. nat_eq at 0) k (replicate n 0)) ≡ n
places_count k zero = refl
places_count k (suc n) = ap suc (places_count (suc k) n)

module _ (lines : List TextLine) (core : Core) (means : Means lines core) where
  abbrev rows : List (List ℕ)
  rows = row_names core.rows.items

  row_entries : (i : ℕ) → i < length rows → (j : ℕ) (cs : List ColumnDef) → ((k : ℕ) → get_or core.columns.items (j + k) no_column ≡ get_or cs k no_column)
      → All (IsStatedColumn lines core.objective rows) cs
      → length (form_at (λ (c : ColumnDef). true) (λ j. value_in core [] (Matrix i j)) j cs) ≡ in_row (entry_pairs lines) (column_names cs) (get_or rows i [])
  row_entries i low j [] at stated = refl
  row_entries i low j (c ∷ cs) at stated =
      let rest = form_at (λ (c : ColumnDef). true) (λ j. value_in core [] (Matrix i j)) (suc j) cs in
      let here : j ≡ j + 0 = omega arith in
      let value : value_in core [] (Matrix i j) ≡ entry_in lines c.name (get_or rows i []) =
      ap (λ (d : ColumnDef). coefficient d.entries i) (ap (λ n. get_or core.columns.items n no_column) here ∙ at 0)
      ∙ (All-head (IsStatedColumn lines core.objective rows) c cs stated).entry i low in
      length_put (is_zero (value_in core [] (Matrix i j))) j (value_in core [] (Matrix i j)) rest
      ∙ ap (λ v. one (not (is_zero v)) + length rest) value
      ∙ ap (λ n. one (not (is_zero (entry_in lines c.name (get_or rows i [])))) + n) (row_entries i low (suc j) cs
      (λ k. let next : suc j + k ≡ j + suc k = omega arith in ap (λ n. get_or core.columns.items n no_column) next ∙ at (suc k))
      (All-tail (IsStatedColumn lines core.objective rows) c cs stated))

  all_entries : (k : ℕ) (rs : List (List ℕ)) → ((n : ℕ) → get_or rows (k + n) [] ≡ get_or rs n []) → k + length rs ≤ length rows
      → sum_by (λ i. length (entries_at core [] i)) (places (λ at. nat_eq at 0) k (replicate (length rs) 0))
      ≡ in_rows (entry_pairs lines) (column_names core.columns.items) rs
  all_entries k [] at low = refl
  all_entries k (r ∷ rs) at low =
      let here : k ≡ k + 0 = omega arith in
      let same : get_or rows k [] ≡ r = ap (λ n. get_or rows n []) here ∙ at 0 in
      sum_by-cons (λ i. length (entries_at core [] i)) k (places (λ at. nat_eq at 0) (suc k) (replicate (length rs) 0))
      ∙ ap (λ n. n + sum_by (λ i. length (entries_at core [] i)) (places (λ at. nat_eq at 0) (suc k) (replicate (length rs) 0)))
      (row_entries k (omega arith) 0 core.columns.items (λ n. let first : 0 + n ≡ n = omega arith in ap (λ m. get_or core.columns.items m no_column) first) means.column
      ∙ ap (in_row (entry_pairs lines) (column_names core.columns.items)) same)
      ∙ ap (λ n. in_row (entry_pairs lines) (column_names core.columns.items) r + n) (all_entries (suc k) rs
      (λ n. let next : suc k + n ≡ k + suc n = omega arith in ap (λ m. get_or rows m []) next ∙ at (suc n)) (omega arith))

  module _ (file : IsCoreFile lines) where
    known : IsFewOn lines
    known = file_few lines file

    few_rows : length core.rows.items ≤ most_rows
    few_rows =
        let few : length (constraints lines) ≤ most_rows = known.sound.rows.few in
        let same : length rows ≡ length (constraints lines) = ap length means.rows in
        omega (arith, few, same, length-map core.rows.items (λ (row : RowDef). row.name))

    few_columns : length core.columns.items ≤ most_columns
    few_columns =
        let few : length (names_in (data_on lines)) ≤ most_columns = known.sound.columns.few in
        let same : length (column_names core.columns.items) ≡ length (names_in (data_on lines)) = ap length means.columns in
        omega (arith, few, same, length-map core.columns.items (λ (column : ColumnDef). column.name))

    few_entries : sum_by (λ i. length (entries_at core [] i)) (places (λ at. nat_eq at 0) 0 (replicate (length core.rows.items) 0)) ≤ most_entries
    few_entries =
        let columns_differ : Distinct (column_names core.columns.items) = subst Distinct (sym means.columns) (all_distinct [] (data_on lines).named tt) in
        let rows_differ : Distinct rows = subst Distinct (sym means.rows) known.sound.rows.rows_differ in
        let pairs = at_most_pairs (column_names core.columns.items) rows columns_differ rows_differ (entry_pairs lines) in
        let few : count_pairs rows (entry_pairs lines) ≤ most_entries = subst (λ (names : List (List ℕ)). count_pairs names (entry_pairs lines) ≤ most_entries) (sym means.rows) known.few in
        let all = all_entries 0 rows (λ n. let first : 0 + n ≡ n = omega arith in ap (λ m. get_or rows m []) first) (omega arith) in
        let places_are = ap (λ n. sum_by (λ i. length (entries_at core [] i)) (places (λ at. nat_eq at 0) 0 (replicate n 0)))
        (length-map core.rows.items (λ (row : RowDef). row.name)) in
        omega (arith, pairs, few, all, places_are)

    abbrev period : Stages
    period = record { names = (80 ∷ 49 ∷ []) ∷ []; columns = replicate (length core.columns.items) 0; rows = replicate (length core.rows.items) 0 }

    abbrev firsts : List Stand
    firsts = nodes_of 1 (scenarios_of period (Blocks []))

    no_more : (most n : ℕ) → n ≤ most → nat_lt most n ≡ false
    no_more most n h = grind (arith, nat_tests)

    none : (a b c : Bool) → a ≡ false → b ≡ false → c ≡ false → (a || (b || c)) ≡ false
    none a b c ea eb ec = ap (λ x. x || (b || c)) ea ∙ ap (λ x. x || c) eb ∙ ec

    pub exceeds_no_limit : exceeds core period (Blocks []) ≡ false
    exceeds_no_limit =
        let entries : count_entries core period firsts ≤ most_node_parts = let h = few_entries in omega (arith, h) in
        let row_count : count_rows period firsts ≤ most_node_parts = let e = places_count 0 (length core.rows.items) in let h = few_rows in omega (arith, e, h) in
        let costs : count_costs core period firsts ≤ most_node_parts =
        let h = form_count (λ at. nat_eq at 0) (λ j. (get_or core.columns.items j no_column).cost) 0 (replicate (length core.columns.items) 0) in
        let e = length-replicate {A = ℕ} (length core.columns.items) 0 in let few = few_columns in omega (arith, h, e, few) in
        none _ _ _ (no_more most_node_parts (count_entries core period firsts) entries) (no_more most_node_parts (count_rows period firsts) row_count)
        (no_more most_node_parts (count_costs core period firsts) costs)

pub core_files_dont_exceed : (lines : List TextLine) (core : Core) → IsCoreFile lines → Means lines core
    → exceeds core (record { names = (80 ∷ 49 ∷ []) ∷ []; columns = replicate (length core.columns.items) 0; rows = replicate (length core.rows.items) 0 }) (Blocks []) ≡ false
core_files_dont_exceed lines core file means = exceeds_no_limit lines core means file
