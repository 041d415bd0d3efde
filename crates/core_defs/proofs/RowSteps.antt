-- Lines of ROWS.
use Rattle.std.proofs.Common.{inl, inr, ◌≡◌, ◌∙◌, ◌++◌, ◌||◌, ◌<◌, ap, map, flat_map, length, length-append, ℕ, Bool, true, false, List, [], ◌∷◌, Option, Some, None, Result, Ok, Err, is_some, refl, sym, subst, append-nil, nat_lt, arith, if◌then◌else◌}
use Rattle.std.proofs.lemmas.Bool.Decides.{nat_tests}
use Rattle.std.proofs.lemmas.List.{map-append}
use Rattle.smps_words.specs.Line.{TextLine}
use Rattle.smps_words.specs.Names.{place_of}
use Rattle.smps_words.specs.declared.row_kind.RowKind.{RowKind}
use Rattle.refusals.specs.declared.cause.Cause.{Cause}
use Rattle.refusals.specs.declared.cause.Cause.TheVariants as cause
use Rattle.refusals.specs.Results.{◌>>=◌, needs, unless_refused}
use Rattle.core_defs.specs.declared.kinds.RowUse.{RowUse}
use Rattle.core_defs.specs.declared.kinds.RowUse.TheVariants as uses
use Rattle.core_defs.specs.declared.section.Section.TheVariants as sections
use Rattle.core_defs.specs.Bounds.{first_bound_set}
use Rattle.core_defs.specs.Fault.{is_there, is_row, use_fault, kind_fault, row_fault}
use Rattle.core_defs.specs.Filed.{Filed}
use Rattle.core_defs.specs.Lines.{last_section, data_of}
use Rattle.core_defs.specs.Section.{rank}
use Rattle.core_defs.specs.Stated.{use_of, free_with, constraint_with, kind_with, free_name, constraint_name, constraint_kind, free_rows, constraints, Pair, value_on}
use Rattle.core_defs.specs.Step.{most_rows, place_among, row_at, with_free, with_row, with_use, row_of, row_line}
use Rattle.core_defs.proofs.NameLemmas.{At, Missing, not_there, missing_at, missing_snoc, distinct_snoc, at_snoc, name_is, same_either_way}
use Rattle.core_defs.proofs.Gathered.{Data, data_on, free_in, rows_in, filed_of, AreRows, Sound}
use Rattle.core_defs.proofs.LineLemmas.{flat_snoc}

-- ---- a known name

pub among_some : (row free : Option ℕ) → is_some (place_among row free) ≡ (is_some row || is_some free)
among_some (Some row) free = refl
among_some None (Some row) = refl
among_some None None = refl

-- ---- what is filed

-- before COLUMNS, by the lines of ROWS
abbrev rows_alone : Data → List (List ℕ) → List (List ℕ) → List RowKind → Filed
rows_alone d free rows kinds = record {
  section = d.section;
  has_columns = d.has_columns;
  free = free;
  rows = rows;
  kinds = kinds;
  names = [];
  parts = [];
  costs = [];
  terms = [];
  entries = 0;
  rhs_set = d.rhs_set;
  rhs = map (value_on [] []) rows;
  free_rhs = map (value_on [] []) free;
  range_set = d.range_set;
  ranges = map (value_on [] []) rows;
  bound_set = first_bound_set d.bounds;
  bounds = [];
}

abbrev part_of_data : Data → List (List ℕ) → List Pair → List Pair → List Pair → Data
part_of_data d named pairs rhs ranges = record d { named = named; pairs = pairs; rhs_pairs = rhs; range_pairs = ranges }

-- nothing is there but rows
record OnlyRows (d : Data) : Type 0 where
  pub named : d.named ≡ []
  pub pairs : d.pairs ≡ []
  pub rhs : d.rhs_pairs ≡ []
  pub ranges : d.range_pairs ≡ []

only_rows : (d : Data) → Sound d → d.section ≡ sections.Rows → OnlyRows d
only_rows d sound at = record {
  named = sound.early.no_named (ap (λ section. nat_lt (rank section) 3) at);
  pairs = sound.early.no_pairs (ap (λ section. nat_lt (rank section) 3) at);
  rhs = sound.early.no_rhs_pairs (ap (λ section. nat_lt (rank section) 4) at);
  ranges = sound.early.no_range_pairs (ap (λ section. nat_lt (rank section) 5) at);
}

rows_filed : (d : Data) (rows : List (List (List ℕ))) → OnlyRows d → filed_of (record d { rows = rows }) ≡ rows_alone d (flat_map free_name rows) (flat_map constraint_name rows) (flat_map constraint_kind rows)
rows_filed d rows only =
    ap (λ named. filed_of (record (part_of_data d named d.pairs d.rhs_pairs d.range_pairs) { rows = rows })) only.named
    ∙ ap (λ pairs. filed_of (record (part_of_data d [] pairs d.rhs_pairs d.range_pairs) { rows = rows })) only.pairs
    ∙ ap (λ pairs. filed_of (record (part_of_data d [] [] pairs d.range_pairs) { rows = rows })) only.rhs
    ∙ ap (λ pairs. filed_of (record (part_of_data d [] [] [] pairs) { rows = rows })) only.ranges

-- the rows with one more line
abbrev with_line : Data → List ℕ → List ℕ → Data
with_line d word name = record d { rows = d.rows ++ (word ∷ name ∷ []) ∷ [] }

free_snoc : (d : Data) (word name : List ℕ) (u : Option RowUse) → use_of word ≡ u → free_in (with_line d word name) ≡ free_in d ++ free_with u name
free_snoc d word name u is = flat_snoc free_name d.rows (word ∷ name ∷ []) ∙ ap (λ known. free_in d ++ free_with known name) is

rows_snoc : (d : Data) (word name : List ℕ) (u : Option RowUse) → use_of word ≡ u → rows_in (with_line d word name) ≡ rows_in d ++ constraint_with u name
rows_snoc d word name u is = flat_snoc constraint_name d.rows (word ∷ name ∷ []) ∙ ap (λ known. rows_in d ++ constraint_with known name) is

kinds_snoc : (d : Data) (word name : List ℕ) (u : Option RowUse) → use_of word ≡ u → flat_map constraint_kind (with_line d word name).rows ≡ flat_map constraint_kind d.rows ++ kind_with u
kinds_snoc d word name u is = flat_snoc constraint_kind d.rows (word ∷ name ∷ []) ∙ ap (λ known. flat_map constraint_kind d.rows ++ kind_with known) is

line_filed : (d : Data) (word name : List ℕ) (u : Option RowUse) → OnlyRows d → use_of word ≡ u →
    filed_of (with_line d word name) ≡ rows_alone d (free_in d ++ free_with u name) (rows_in d ++ constraint_with u name) (flat_map constraint_kind d.rows ++ kind_with u)
line_filed d word name u only is =
    rows_filed d (with_line d word name).rows only
    ∙ ap (λ free. rows_alone d free (rows_in (with_line d word name)) (flat_map constraint_kind (with_line d word name).rows)) (free_snoc d word name u is)
    ∙ ap (λ rows. rows_alone d (free_in d ++ free_with u name) rows (flat_map constraint_kind (with_line d word name).rows)) (rows_snoc d word name u is)
    ∙ ap (rows_alone d (free_in d ++ free_with u name) (rows_in d ++ constraint_with u name)) (kinds_snoc d word name u is)

none_snoc : (names : List (List ℕ)) (name : List ℕ) → map (value_on [] []) names ++ None ∷ [] ≡ map (value_on [] []) (names ++ name ∷ [])
none_snoc names name = sym (map-append (value_on [] []) names (name ∷ []))

free_filed : (d : Data) (word name : List ℕ) → OnlyRows d → use_of word ≡ Some uses.Free → with_free (filed_of d) name ≡ filed_of (with_line d word name)
free_filed d word name only is =
    let rows = append-nil (rows_in d) in
    let kinds = append-nil (flat_map constraint_kind d.rows) in
    ap (λ (f : Filed). with_free f name) (rows_filed d d.rows only)
    ∙ ap (λ (rhs : List _). record (rows_alone d (free_in d ++ name ∷ []) (rows_in d) (flat_map constraint_kind d.rows)) { free_rhs = rhs }) (none_snoc (free_in d) name)
    ∙ ap (λ (known : List _). rows_alone d (free_in d ++ name ∷ []) known (flat_map constraint_kind d.rows)) (sym rows)
    ∙ ap (rows_alone d (free_in d ++ name ∷ []) (rows_in d ++ [])) (sym kinds)
    ∙ sym (line_filed d word name (Some uses.Free) only is)

row_filed : (d : Data) (word name : List ℕ) (kind : RowKind) → OnlyRows d → use_of word ≡ Some (uses.Constraint kind) → with_row (filed_of d) kind name ≡ filed_of (with_line d word name)
row_filed d word name kind only is =
    ap (λ (f : Filed). with_row f kind name) (rows_filed d d.rows only)
    ∙ ap (λ (rhs : List _). record (rows_alone d (free_in d) (rows_in d ++ name ∷ []) (flat_map constraint_kind d.rows ++ kind ∷ [])) { rhs = rhs; ranges = rhs }) (none_snoc (rows_in d) name)
    ∙ ap (λ free. rows_alone d free (rows_in d ++ name ∷ []) (flat_map constraint_kind d.rows ++ kind ∷ [])) (sym (append-nil (free_in d)))
    ∙ sym (line_filed d word name (Some (uses.Constraint kind)) only is)

-- ---- a line

by_taken : (taken : Bool) (r : Result Filed Cause) (c : Option Cause) (g : Filed) → r ≡ unless_refused c g → (if taken then Err cause.RowTwice else r) ≡ unless_refused (if taken then Some cause.RowTwice else c) g
by_taken true r c g e = refl
by_taken false r c g e = e

by_room : (room : Bool) (f g : Filed) → f ≡ g → (if room then Ok f else Err cause.CoreLimit) ≡ unless_refused (if room then None else Some cause.CoreLimit) g
by_room true f g e = ap Ok e
by_room false f g e = refl

use_step : (before : List TextLine) (word name : List ℕ) (purpose : RowUse) → OnlyRows (data_on before) → use_of word ≡ Some purpose →
    with_use (filed_of (data_on before)) name purpose ≡ unless_refused (use_fault before purpose) (filed_of (with_line (data_on before) word name))
use_step before word name uses.Free only is = ap Ok (free_filed (data_on before) word name only is)
use_step before word name (uses.Constraint kind) only is = by_room (nat_lt (length (constraints before)) most_rows) _ _ (row_filed (data_on before) word name kind only is)

kind_step : (before : List TextLine) (word name : List ℕ) (u : Option RowUse) → OnlyRows (data_on before) → use_of word ≡ u →
    (needs cause.RowKind u >>= λ purpose. if is_some (row_at (free_rows before) (constraints before) name) then Err cause.RowTwice else with_use (filed_of (data_on before)) name purpose)
    ≡ unless_refused (kind_fault before name u) (filed_of (with_line (data_on before) word name))
kind_step before word name None only is = refl
kind_step before word name (Some purpose) only is =
    ap (λ taken. if taken then Err cause.RowTwice else with_use (filed_of (data_on before)) name purpose) (among_some (place_of (constraints before) name) (place_of (free_rows before) name))
    ∙ by_taken (is_row before name) (with_use (filed_of (data_on before)) name purpose) (use_fault before purpose) (filed_of (with_line (data_on before) word name)) (use_step before word name purpose only is)

pub row_step : (before : List TextLine) (fields : List (List ℕ)) → Sound (data_on before) → last_section before ≡ sections.Rows →
    row_line (filed_of (data_on before)) fields ≡ unless_refused (row_fault before fields) (filed_of (record (data_on before) { rows = data_of sections.Rows before ++ fields ∷ [] }))
unfolding row_line row_of
row_step before [] sound at = refl
row_step before (_ ∷ []) sound at = refl
row_step before (word ∷ name ∷ []) sound at = kind_step before word name (use_of word) (only_rows (data_on before) sound at) refl
row_step before (_ ∷ _ ∷ _ ∷ _) sound at = refl

-- ---- what it keeps

record IsGoodRow (before : List TextLine) (name : List ℕ) (u : Option RowUse) : Type 0 where
  pub purpose : RowUse
  pub is : u ≡ Some purpose
  pub no_row : Missing (constraints before) name
  pub no_free : Missing (free_rows before) name
  pub room : use_fault before purpose ≡ None

not_either : (names others : List (List ℕ)) (name : List ℕ) (a b : Bool) → is_there names name ≡ a → is_there others name ≡ b → (a || b) ≡ false → Missing names name × Missing others name
not_either names others name true b first second e = cc
not_either names others name false true first second e = cc
not_either names others name false false first second e = (not_there names name first, not_there others name second)

untaken : (taken : Bool) (c : Option Cause) → (if taken then Some cause.RowTwice else c) ≡ None → (taken ≡ false) × (c ≡ None)
untaken true c e = cc
untaken false c e = (refl, e)

good_row : (before : List TextLine) (name : List ℕ) (u : Option RowUse) → kind_fault before name u ≡ None → IsGoodRow before name u
good_row before name None e = cc
good_row before name (Some purpose) e =
    let both = untaken (is_row before name) (use_fault before purpose) e in
    let none = not_either (constraints before) (free_rows before) name (is_there (constraints before) name) (is_there (free_rows before) name) refl refl both.0 in
    record { purpose = purpose; is = refl; no_row = none.0; no_free = none.1; room = both.1 }

has_room : (count : ℕ) (room : Bool) → nat_lt count most_rows ≡ room → (if room then None else Some cause.CoreLimit) ≡ None → count < most_rows
has_room count true is e = grind (arith, nat_tests)
has_room count false is e = cc

apart_free : (free rows : List (List ℕ)) (name other : List ℕ) (place : ℕ) → AreRows free rows → Missing rows name → At rows place other → Missing (free ++ name ∷ []) other
apart_free free rows name other place known missing at = missing_snoc free name other (known.apart other place at) (same_either_way other name ∙ missing_at rows place other name at missing)

apart_row : (free rows : List (List ℕ)) (name other : List ℕ) (place : ℕ) → AreRows free rows → Missing free name → At (rows ++ name ∷ []) place other → Missing free other
apart_row free rows name other place known missing at =
    elim (at_snoc rows name place other at) [ inl there ↦ known.apart other place there | inr same ↦ subst (Missing free) (sym (name_is other name same)) missing ]

rows_kept : (before : List TextLine) (name : List ℕ) (purpose : RowUse) → AreRows (free_rows before) (constraints before) → Missing (constraints before) name → Missing (free_rows before) name → use_fault before purpose ≡ None →
    AreRows (free_rows before ++ free_with (Some purpose) name) (constraints before ++ constraint_with (Some purpose) name)
rows_kept before name uses.Free known no_row no_free room =
    subst (AreRows (free_rows before ++ name ∷ [])) (sym (append-nil (constraints before))) (record {
      free_differ = distinct_snoc (free_rows before) name known.free_differ no_free;
      rows_differ = known.rows_differ;
      apart = λ other place at. apart_free (free_rows before) (constraints before) name other place known no_row at;
      few = known.few;
    })
rows_kept before name (uses.Constraint kind) known no_row no_free room =
    let few : length (constraints before) < most_rows = has_room (length (constraints before)) (nat_lt (length (constraints before)) most_rows) refl room in
    subst (λ free. AreRows free (constraints before ++ name ∷ [])) (sym (append-nil (free_rows before))) (record {
      free_differ = known.free_differ;
      rows_differ = distinct_snoc (constraints before) name known.rows_differ no_row;
      apart = λ other place at. apart_row (free_rows before) (constraints before) name other place known no_free at;
      few = omega (arith, length-append (constraints before) (name ∷ []));
    })

longer : (front last : List (List ℕ)) → nat_lt 0 (length front) ≡ true → nat_lt 0 (length (front ++ last)) ≡ true
longer [] last e = cc
longer (first ∷ front) last e = grind (arith, nat_tests)

row_sound_by : (before : List TextLine) (word name : List ℕ) (u : Option RowUse) → use_of word ≡ u → Sound (data_on before) → kind_fault before name u ≡ None → Sound (with_line (data_on before) word name)
row_sound_by before word name u is sound fine =
    let d : Data = data_on before in
    let good = good_row before name u fine in
    let known : use_of word ≡ Some good.purpose = is ∙ good.is in
    let free = free_snoc d word name (Some good.purpose) known in
    let rows = rows_snoc d word name (Some good.purpose) known in
    let kept = rows_kept before name good.purpose sound.rows good.no_row good.no_free good.room in
    record {
      rows = subst (λ names. AreRows names (rows_in (with_line d word name))) (sym free) (subst (AreRows (free_in d ++ free_with (Some good.purpose) name)) (sym rows) kept);
      columns = sound.columns;
      early = sound.early;
      objective = λ has. ap (λ names. nat_lt 0 (length names)) free ∙ longer (free_in d) (free_with (Some good.purpose) name) (sound.objective has);
      in_order = sound.in_order;
    }

pub row_sound : (before : List TextLine) (fields : List (List ℕ)) → Sound (data_on before) → row_fault before fields ≡ None → Sound (record (data_on before) { rows = data_of sections.Rows before ++ fields ∷ [] })
row_sound before [] sound fine = cc
row_sound before (_ ∷ []) sound fine = cc
row_sound before (word ∷ name ∷ []) sound fine = row_sound_by before word name (use_of word) refl sound fine
row_sound before (_ ∷ _ ∷ _ ∷ _) sound fine = cc
