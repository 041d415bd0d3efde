-- Lines of BOUNDS.
use Rattle.std.proofs.Common.{◌⊎◌, inl, inr, ◌≡◌, ◌∙◌, ◌++◌, ap, map, set, get_or, filter, ℕ, Bool, true, false, List, [], ◌∷◌, Option, Some, None, Result, Ok, Err, not, is_some, refl, sym, subst, append-nil, nat_lt, if◌then◌else◌}
use Rattle.std.proofs.lemmas.List.Elements.{filter-append}
use Rattle.rationals.specs.Rational.{ℚ, zero_ℚ}
use Rattle.frac128.specs.Numbers.{read_number}
use Rattle.frac128.specs.declared.text.NumFault.{NumFault}
use Rattle.smps_words.specs.Line.{TextLine}
use Rattle.smps_words.specs.Names.{same_name, place_of}
use Rattle.smps_words.proofs.NumberedNames.{same_name_refl}
use Rattle.refusals.specs.declared.cause.Cause.{Cause}
use Rattle.refusals.specs.declared.cause.Cause.TheVariants as cause
use Rattle.refusals.specs.Results.{◌>>=◌, needs, unless_refused}
use Rattle.core_defs.specs.declared.bounds.ColumnBounds.{ColumnBounds}
use Rattle.core_defs.specs.declared.kinds.BoundKind.{BoundKind}
use Rattle.core_defs.specs.declared.section.Section.TheVariants as sections
use Rattle.core_defs.specs.Bounds.{bound_kind, Bound, has_value, with_word, without_word, bound_of, bound_on, bounds_on, first_bound_set, bounds_used, bounded, bounds_after, first_bounds, bounds_by, bounds_in}
use Rattle.core_defs.specs.Fault.{◌orelse◌, is_there, word_fault, bounds_fault, used_bound_fault, first_bound_fault, bound_fault}
use Rattle.core_defs.specs.Filed.{Filed}
use Rattle.core_defs.specs.Lines.{first_word}
use Rattle.core_defs.specs.Number.{number_or_cause, cause_of}
use Rattle.core_defs.specs.Section.{rank}
use Rattle.core_defs.specs.Stated.{columns, number_in, number_or_zero, same_set, chosen}
use Rattle.core_defs.specs.Step.{choosing_bound, in_bound_set, is_sudden, are_crossed, with_bound_at, with_bound, without_bound, value_line, plain_line, bound_line}
use Rattle.core_defs.proofs.NameLemmas.{Changes, name_is, place_at, map_set, map_get, all_distinct}
use Rattle.core_defs.proofs.Gathered.{Data, data_on, names_in, filed_of, Sound}
use Rattle.core_defs.proofs.PairLemmas.{orelse_none}

-- ---- one more line

-- the line is of the set that is used
abbrev is_used_bound : List Bound → Bound → Bool
is_used_bound all bound = same_set (chosen (first_bound_set all) bound.set) bound.set

first_bound_snoc : (all : List Bound) (bound : Bound) → first_bound_set (all ++ bound ∷ []) ≡ Some (chosen (first_bound_set all) bound.set)
first_bound_snoc [] bound = refl
first_bound_snoc (first ∷ all) bound = refl

only_if : (test : Bound → Bool) (bound : Bound) (is : Bool) → test bound ≡ is → filter test (bound ∷ []) ≡ (if is then bound ∷ [] else [])
only_if test bound true is = rw is refl
only_if test bound false is = rw is refl

used_bound_snoc : (all : List Bound) (bound : Bound) → bounds_used (all ++ bound ∷ []) ≡ bounds_used all ++ (if is_used_bound all bound then bound ∷ [] else [])
used_bound_snoc [] bound = only_if (λ other. same_set (chosen (Some bound.set) other.set) other.set) bound (same_set bound.set bound.set) refl
used_bound_snoc (first ∷ all) bound =
    let test : Bound → Bool = λ other. same_set (chosen (Some first.set) other.set) other.set in
    filter-append test (first ∷ all) (bound ∷ []) ∙ ap (λ last. filter test (first ∷ all) ++ last) (only_if test bound (is_used_bound (first ∷ all) bound) refl)

after_bound_snoc : (old : ColumnBounds) (column : List ℕ) (all : List Bound) (bound : Bound) →
    bounds_after old column (all ++ bound ∷ []) ≡ (if same_name column bound.column then bounded (bounds_after old column all) bound.kind (number_in bound.word) else bounds_after old column all)
after_bound_snoc old column [] bound = refl
after_bound_snoc old column (first ∷ all) bound = after_bound_snoc (if same_name column first.column then bounded old first.kind (number_in first.word) else old) column all bound

by_bound_snoc : (all : List Bound) (bound : Bound) (used : Bool) (column : List ℕ) → is_used_bound all bound ≡ used →
    bounds_by (all ++ bound ∷ []) column ≡ (if used then (if same_name column bound.column then bounded (bounds_by all column) bound.kind (number_in bound.word) else bounds_by all column) else bounds_by all column)
by_bound_snoc all bound true column is =
    ap (bounds_after first_bounds column) (used_bound_snoc all bound ∙ ap (λ used. bounds_used all ++ (if used then bound ∷ [] else [])) is) ∙ after_bound_snoc first_bounds column (bounds_used all) bound
by_bound_snoc all bound false column is = ap (bounds_after first_bounds column) (used_bound_snoc all bound ∙ ap (λ used. bounds_used all ++ (if used then bound ∷ [] else [])) is ∙ append-nil (bounds_used all))

-- a line of the set changes the bounds of its column
bound_changes : (all : List Bound) (bound : Bound) → is_used_bound all bound ≡ true → Changes bound.column (bounds_by all) (bounds_by (all ++ bound ∷ []))
bound_changes all bound used = record {
  others = λ other apart. by_bound_snoc all bound true other used ∙ ap (λ here. if here then bounded (bounds_by all other) bound.kind (number_in bound.word) else bounds_by all other) apart;
}

bound_here : (all : List Bound) (bound : Bound) → is_used_bound all bound ≡ true → bounds_by (all ++ bound ∷ []) bound.column ≡ bounded (bounds_by all bound.column) bound.kind (number_in bound.word)
bound_here all bound used =
    by_bound_snoc all bound true bound.column used ∙ ap (λ here. if here then bounded (bounds_by all bound.column) bound.kind (number_in bound.word) else bounds_by all bound.column) (same_name_refl bound.column)

-- ---- what is filed

abbrev pub with_bounds : Data → List Bound → Data
with_bounds d more = record d { bounds = d.bounds ++ more }

map_same : {A B : Type 0} (f g : A → B) (xs : List A) → ((x : A) → f x ≡ g x) → map f xs ≡ map g xs
map_same f g [] same = refl
map_same f g (x ∷ xs) same = ap (λ here. here ∷ map f xs) (same x) ∙ ap (λ rest. g x ∷ rest) (map_same f g xs same)

unused_filed : (d : Data) (bound : Bound) → is_used_bound d.bounds bound ≡ false → choosing_bound (filed_of d) bound.set ≡ filed_of (with_bounds d (bound ∷ []))
unused_filed d bound is =
    ap (λ used. record (filed_of d) { bound_set = used }) (sym (first_bound_snoc d.bounds bound))
    ∙ ap (λ (bounds : List ColumnBounds). record (filed_of (with_bounds d (bound ∷ []))) { bounds = bounds }) (map_same (bounds_by d.bounds) (bounds_by (d.bounds ++ bound ∷ [])) (names_in d) (λ column. sym (by_bound_snoc d.bounds bound false column is)))

used_filed : (d : Data) (bound : Bound) (place : ℕ) → is_used_bound d.bounds bound ≡ true → place_of (names_in d) bound.column ≡ Some place →
    record (choosing_bound (filed_of d) bound.set) { bounds = set (map (bounds_by d.bounds) (names_in d)) place (bounded (bounds_by d.bounds bound.column) bound.kind (number_in bound.word)) } ≡ filed_of (with_bounds d (bound ∷ []))
used_filed d bound place is at =
    ap (λ used. record (filed_of d) { bound_set = used; bounds = set (map (bounds_by d.bounds) (names_in d)) place (bounded (bounds_by d.bounds bound.column) bound.kind (number_in bound.word)) }) (sym (first_bound_snoc d.bounds bound))
    ∙ ap (λ (bounds : List ColumnBounds). record (filed_of (with_bounds d (bound ∷ []))) { bounds = bounds })
    (ap (set (map (bounds_by d.bounds) (names_in d)) place) (sym (bound_here d.bounds bound is))
    ∙ map_set (names_in d) place bound.column (bounds_by d.bounds) (bounds_by (d.bounds ++ bound ∷ [])) (all_distinct [] d.named tt) (place_at (names_in d) bound.column place at) (bound_changes d.bounds bound is))

-- ---- a line

by_bounds : (sudden crosses : Bool) (f g : Filed) → f ≡ g →
    (if sudden then Err cause.UpperNegative else (if crosses then Err cause.BoundsCross else Ok f)) ≡ unless_refused (if sudden then Some cause.UpperNegative else (if crosses then Some cause.BoundsCross else None)) g
by_bounds true crosses f g e = refl
by_bounds false true f g e = refl
by_bounds false false f g e = ap Ok e

at_step : (before : List TextLine) (bound : Bound) (place : ℕ) (value : ℚ) → is_used_bound (bounds_on before) bound ≡ true → place_of (columns before) bound.column ≡ Some place → value ≡ number_in bound.word →
    with_bound_at (choosing_bound (filed_of (data_on before)) bound.set) bound.kind place value ≡ unless_refused (bounds_fault before bound) (filed_of (with_bounds (data_on before) (bound ∷ [])))
unfolding with_bound_at
at_step before bound place value used at is =
    let all : List ColumnBounds = map (bounds_by (bounds_on before)) (columns before) in
    let f = choosing_bound (filed_of (data_on before)) bound.set in
    ap (λ (known : ℚ). if is_sudden bound.kind known (get_or all place first_bounds) then Err cause.UpperNegative
    else (if are_crossed (bounded (get_or all place first_bounds) bound.kind known) then Err cause.BoundsCross
    else Ok (record f { bounds = set all place (bounded (get_or all place first_bounds) bound.kind known) }))) is
    ∙ ap (λ (known : ColumnBounds). if is_sudden bound.kind (number_in bound.word) known then Err cause.UpperNegative
    else (if are_crossed (bounded known bound.kind (number_in bound.word)) then Err cause.BoundsCross
    else Ok (record f { bounds = set all place (bounded known bound.kind (number_in bound.word)) }))) (map_get (columns before) place bound.column (bounds_by (bounds_on before)) first_bounds (place_at (columns before) bound.column place at))
    ∙ by_bounds (is_sudden bound.kind (number_in bound.word) (bounds_in before bound.column)) (are_crossed (bounded (bounds_in before bound.column) bound.kind (number_in bound.word))) _ _ (used_filed (data_on before) bound place used at)

abbrev bound_with : BoundKind → Option (List ℕ) → List ℕ → List ℕ → Bound
bound_with kind used column word = record { kind = kind; set = used; column = column; word = word }

-- behind the set's name
abbrev known_fault : List TextLine → Bound → Option ℕ → Option Cause → Option Cause
known_fault before bound place read = if not (is_some place) then Some cause.ColumnUnknown else (read orelse bounds_fault before bound)

value_by : (before : List TextLine) (kind : BoundKind) (used : Option (List ℕ)) (column word : List ℕ) (place : Option ℕ) (read : Result ℚ NumFault) → is_used_bound (bounds_on before) (bound_with kind used column word) ≡ true → place_of (columns before) column ≡ place → read_number word ≡ read →
    (needs cause.ColumnUnknown place >>= λ place. number_or_cause read >>= λ value. with_bound_at (choosing_bound (filed_of (data_on before)) used) kind place value)
    ≡ unless_refused (known_fault before (bound_with kind used column word) place (cause_of read)) (filed_of (with_bounds (data_on before) (bound_with kind used column word ∷ [])))
value_by before kind used column word None read is at reads = refl
value_by before kind used column word (Some place) (Err fault) is at reads = refl
value_by before kind used column word (Some place) (Ok value) is at reads = at_step before (bound_with kind used column word) place value is at (sym (ap number_or_zero reads))

plain_by : (before : List TextLine) (kind : BoundKind) (used : Option (List ℕ)) (column : List ℕ) (place : Option ℕ) → is_used_bound (bounds_on before) (bound_with kind used column []) ≡ true → place_of (columns before) column ≡ place →
    (needs cause.ColumnUnknown place >>= λ place. with_bound_at (choosing_bound (filed_of (data_on before)) used) kind place zero_ℚ)
    ≡ unless_refused (known_fault before (bound_with kind used column []) place None) (filed_of (with_bounds (data_on before) (bound_with kind used column [] ∷ [])))
plain_by before kind used column None is at = refl
plain_by before kind used column (Some place) is at = at_step before (bound_with kind used column []) place zero_ℚ is at refl

-- a line of the set, or of another one
by_set : (used : Bool) (before : List TextLine) (bound : Bound) (r : Result Filed Cause) (c : Option Cause) → is_used_bound (bounds_on before) bound ≡ used → (used ≡ true → r ≡ unless_refused c (filed_of (with_bounds (data_on before) (bound ∷ [])))) →
    (if used then r else Ok (choosing_bound (filed_of (data_on before)) bound.set)) ≡ unless_refused (if not used then None else c) (filed_of (with_bounds (data_on before) (bound ∷ [])))
by_set true before bound r c is e = e refl
by_set false before bound r c is e = ap Ok (unused_filed (data_on before) bound is)

value_set_step : (before : List TextLine) (kind : BoundKind) (used : Option (List ℕ)) (column word : List ℕ) → has_value kind ≡ true →
    in_bound_set (filed_of (data_on before)) used (λ g. with_bound g kind column word) ≡ unless_refused (used_bound_fault before (bound_with kind used column word)) (filed_of (with_bounds (data_on before) (bound_with kind used column word ∷ [])))
unfolding with_bound
value_set_step before kind used column word valued =
    let bound : Bound = bound_with kind used column word in
    by_set (is_used_bound (bounds_on before) bound) before bound _ (if not (is_there (columns before) column) then Some cause.ColumnUnknown else (word_fault bound orelse bounds_fault before bound)) refl
    (λ is. value_by before kind used column word (place_of (columns before) column) (read_number word) is refl refl
    ∙ ap (λ has. unless_refused (if not (is_there (columns before) column) then Some cause.ColumnUnknown else ((if has then cause_of (read_number word) else None) orelse bounds_fault before bound)) (filed_of (with_bounds (data_on before) (bound ∷ [])))) (sym valued))

plain_set_step : (before : List TextLine) (kind : BoundKind) (used : Option (List ℕ)) (column : List ℕ) → has_value kind ≡ false →
    in_bound_set (filed_of (data_on before)) used (λ g. without_bound g kind column) ≡ unless_refused (used_bound_fault before (bound_with kind used column [])) (filed_of (with_bounds (data_on before) (bound_with kind used column [] ∷ [])))
unfolding without_bound
plain_set_step before kind used column plain =
    let bound : Bound = bound_with kind used column [] in
    by_set (is_used_bound (bounds_on before) bound) before bound _ (if not (is_there (columns before) column) then Some cause.ColumnUnknown else (word_fault bound orelse bounds_fault before bound)) refl
    (λ is. plain_by before kind used column (place_of (columns before) column) is refl
    ∙ ap (λ has. unless_refused (if not (is_there (columns before) column) then Some cause.ColumnUnknown else ((if has then cause_of (read_number []) else None) orelse bounds_fault before bound)) (filed_of (with_bounds (data_on before) (bound ∷ [])))) (sym plain))

value_line_step : (before : List TextLine) (kind : BoundKind) (rest : List (List ℕ)) → has_value kind ≡ true → value_line (filed_of (data_on before)) kind rest ≡ unless_refused (first_bound_fault before (with_word kind rest)) (filed_of (with_bounds (data_on before) (with_word kind rest)))
unfolding value_line
value_line_step before kind [] valued = refl
value_line_step before kind (_ ∷ []) valued = refl
value_line_step before kind (column ∷ word ∷ []) valued = value_set_step before kind None column word valued
value_line_step before kind (used ∷ column ∷ word ∷ []) valued = value_set_step before kind (Some used) column word valued
value_line_step before kind (_ ∷ _ ∷ _ ∷ _ ∷ _) valued = refl

plain_line_step : (before : List TextLine) (kind : BoundKind) (rest : List (List ℕ)) → has_value kind ≡ false → plain_line (filed_of (data_on before)) kind rest ≡ unless_refused (first_bound_fault before (without_word kind rest)) (filed_of (with_bounds (data_on before) (without_word kind rest)))
unfolding plain_line
plain_line_step before kind [] plain = refl
plain_line_step before kind (column ∷ []) plain = plain_set_step before kind None column plain
plain_line_step before kind (used ∷ column ∷ []) plain = plain_set_step before kind (Some used) column plain
plain_line_step before kind (used ∷ column ∷ _ ∷ []) plain = plain_set_step before kind (Some used) column plain
plain_line_step before kind (_ ∷ _ ∷ _ ∷ _ ∷ _) plain = refl

either_line : (before : List TextLine) (kind : BoundKind) (rest : List (List ℕ)) (has : Bool) → has_value kind ≡ has →
    (if has then value_line (filed_of (data_on before)) kind rest else plain_line (filed_of (data_on before)) kind rest)
    ≡ unless_refused (first_bound_fault before (if has then with_word kind rest else without_word kind rest)) (filed_of (with_bounds (data_on before) (if has then with_word kind rest else without_word kind rest)))
either_line before kind rest true is = value_line_step before kind rest is
either_line before kind rest false is = plain_line_step before kind rest is

kind_step : (before : List TextLine) (rest : List (List ℕ)) (kind : Option BoundKind) →
    (needs cause.BoundKind kind >>= λ kind. if has_value kind then value_line (filed_of (data_on before)) kind rest else plain_line (filed_of (data_on before)) kind rest)
    ≡ unless_refused (if not (is_some kind) then Some cause.BoundKind else first_bound_fault before (bound_of kind rest)) (filed_of (with_bounds (data_on before) (bound_of kind rest)))
kind_step before rest None = refl
kind_step before rest (Some kind) = either_line before kind rest (has_value kind) refl

pub bound_step : (before : List TextLine) (fields : List (List ℕ)) → bound_line (filed_of (data_on before)) fields ≡ unless_refused (bound_fault before fields) (filed_of (with_bounds (data_on before) (bound_on fields)))
unfolding bound_line
bound_step before [] = refl
bound_step before (word ∷ rest) = kind_step before rest (bound_kind word)

-- ---- what it keeps

one_bound : (fields : List (List ℕ)) → (bound_on fields ≡ []) ⊎ ((bound : Bound) × (bound_on fields ≡ bound ∷ []))
one_bound [] = inl refl
one_bound (word ∷ rest) = by_kind (bound_kind word) rest
  where
    by_word : (kind : BoundKind) (rest : List (List ℕ)) → (with_word kind rest ≡ []) ⊎ ((bound : Bound) × (with_word kind rest ≡ bound ∷ []))
    by_word kind [] = inl refl
    by_word kind (_ ∷ []) = inl refl
    by_word kind (column ∷ word ∷ []) = inr (_, refl)
    by_word kind (used ∷ column ∷ word ∷ []) = inr (_, refl)
    by_word kind (_ ∷ _ ∷ _ ∷ _ ∷ _) = inl refl

    by_none : (kind : BoundKind) (rest : List (List ℕ)) → (without_word kind rest ≡ []) ⊎ ((bound : Bound) × (without_word kind rest ≡ bound ∷ []))
    by_none kind [] = inl refl
    by_none kind (column ∷ []) = inr (_, refl)
    by_none kind (used ∷ column ∷ []) = inr (_, refl)
    by_none kind (used ∷ column ∷ _ ∷ []) = inr (_, refl)
    by_none kind (_ ∷ _ ∷ _ ∷ _ ∷ _) = inl refl

    by_value : (kind : BoundKind) (rest : List (List ℕ)) (has : Bool) → ((if has then with_word kind rest else without_word kind rest) ≡ []) ⊎ ((bound : Bound) × ((if has then with_word kind rest else without_word kind rest) ≡ bound ∷ []))
    by_value kind rest true = by_word kind rest
    by_value kind rest false = by_none kind rest

    by_kind : (kind : Option BoundKind) (rest : List (List ℕ)) → (bound_of kind rest ≡ []) ⊎ ((bound : Bound) × (bound_of kind rest ≡ bound ∷ []))
    by_kind None rest = inl refl
    by_kind (Some kind) rest = by_value kind rest (has_value kind)

uncrossed : (sudden crosses : Bool) → (if sudden then Some cause.UpperNegative else (if crosses then Some cause.BoundsCross else None)) ≡ None → crosses ≡ false
uncrossed true crosses fine = cc
uncrossed false true fine = cc
uncrossed false false fine = refl

known_column : (there : Bool) (c : Option Cause) → (if not there then Some cause.ColumnUnknown else c) ≡ None → c ≡ None
known_column true c fine = fine
known_column false c fine = cc

order_here : (old : List ℕ → ColumnBounds) (bound : Bound) (name : List ℕ) (here : Bool) → same_name name bound.column ≡ here → are_crossed (old name) ≡ false → are_crossed (bounded (old bound.column) bound.kind (number_in bound.word)) ≡ false →
    are_crossed (if here then bounded (old name) bound.kind (number_in bound.word) else old name) ≡ false
order_here old bound name true same kept new = ap (λ known. are_crossed (bounded (old known) bound.kind (number_in bound.word))) (name_is name bound.column same) ∙ new
order_here old bound name false same kept new = kept

order_kept : (before : List TextLine) (bound : Bound) (name : List ℕ) (used : Bool) → is_used_bound (bounds_on before) bound ≡ used → are_crossed (bounds_in before name) ≡ false →
    (if not used then None else (if not (is_there (columns before) bound.column) then Some cause.ColumnUnknown else (word_fault bound orelse bounds_fault before bound))) ≡ None → are_crossed (bounds_by (bounds_on before ++ bound ∷ []) name) ≡ false
order_kept before bound name true used kept fine =
    let valid = known_column (is_there (columns before) bound.column) (word_fault bound orelse bounds_fault before bound) fine in
    let new = uncrossed (is_sudden bound.kind (number_in bound.word) (bounds_in before bound.column)) (are_crossed (bounded (bounds_in before bound.column) bound.kind (number_in bound.word))) (orelse_none (word_fault bound) (bounds_fault before bound) valid).1 in
    ap are_crossed (by_bound_snoc (bounds_on before) bound true name used) ∙ order_here (bounds_by (bounds_on before)) bound name (same_name name bound.column) refl kept new
order_kept before bound name false used kept fine = ap are_crossed (by_bound_snoc (bounds_on before) bound false name used) ∙ kept

bounds_sound : (d : Data) (more : List Bound) → Sound d → d.section ≡ sections.Bounds → ((name : List ℕ) → are_crossed (bounds_by (d.bounds ++ more) name) ≡ false) → Sound (with_bounds d more)
bounds_sound d more sound at kept = record {
  rows = sound.rows;
  columns = sound.columns;
  early = record {
    no_named = sound.early.no_named;
    no_pairs = sound.early.no_pairs;
    no_rhs_set = sound.early.no_rhs_set;
    no_rhs_pairs = sound.early.no_rhs_pairs;
    no_range_set = sound.early.no_range_set;
    no_range_pairs = sound.early.no_range_pairs;
    no_bounds = λ early. let never : nat_lt 6 6 ≡ true = ap (λ section. nat_lt (rank section) 6) (sym at) ∙ early in absurd (cc);
  };
  objective = sound.objective;
  in_order = kept;
}

known_kind : (known : Bool) (c : Option Cause) → (if not known then Some cause.BoundKind else c) ≡ None → c ≡ None
known_kind true c fine = fine
known_kind false c fine = cc

pub bound_sound : (before : List TextLine) (fields : List (List ℕ)) → Sound (data_on before) → (data_on before).section ≡ sections.Bounds → bound_fault before fields ≡ None → Sound (with_bounds (data_on before) (bound_on fields))
bound_sound before fields sound at fine =
    let first : first_bound_fault before (bound_on fields) ≡ None = known_kind (is_some (bound_kind (first_word fields))) (first_bound_fault before (bound_on fields)) fine in
    elim (one_bound fields) [
      | inl none ↦ let no_line : Some cause.FieldCount ≡ None = ap (first_bound_fault before) (sym none) ∙ first in absurd (cc)
      | inr one ↦
          let valid : used_bound_fault before one.0 ≡ None = ap (first_bound_fault before) (sym one.1) ∙ first in
          subst (λ (more : List Bound). Sound (with_bounds (data_on before) more)) (sym one.1)
          (bounds_sound (data_on before) (one.0 ∷ []) sound at (λ name. order_kept before one.0 name (is_used_bound (bounds_on before) one.0) refl (sound.in_order name) valid))
    ]
