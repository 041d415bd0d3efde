-- One more line.
use Rattle.std.proofs.Common.{◌≡◌, ◌∙◌, ◌++◌, ◌&&◌, ◌||◌, ap, flat_map, ℕ, Bool, true, false, List, [], ◌∷◌, Option, Some, None, Result, refl, sym, append_assoc, append-nil, if◌then◌else◌}
use Rattle.std.specs.Option.{unwrap_or}
use Rattle.std.proofs.lemmas.Grind.{flat_map-append}
use Rattle.smps_words.specs.Line.{TextLine}
use Rattle.refusals.specs.declared.cause.Cause.{Cause}
use Rattle.refusals.specs.Results.{◌>>=◌, unless_refused}
use Rattle.core_defs.specs.declared.section.Section.{Section}
use Rattle.core_defs.specs.declared.section.Section.TheVariants as sections
use Rattle.core_defs.specs.Bounds.{bound_on}
use Rattle.core_defs.specs.Fault.{◌orelse◌}
use Rattle.core_defs.specs.Filed.{Filed}
use Rattle.core_defs.specs.Lines.{first_word, section_behind, section_after, last_section, has_after, has_section, fields_in, data_in, data_of}
use Rattle.core_defs.specs.Section.{section_of, same_section, is_end}
use Rattle.core_defs.specs.Stated.{column_name, column_pairs, set_on, first_set, chosen, pairs_of_set, pairs_used}
use Rattle.core_defs.proofs.Gathered.{Data, data_on}

-- a line adds its part
pub flat_snoc : {A X : Type 0} (part : A → List X) (lines : List A) (line : A) → flat_map part (lines ++ line ∷ []) ≡ flat_map part lines ++ part line
flat_snoc part lines line = flat_map-append part lines (line ∷ []) ∙ ap (λ last. flat_map part lines ++ last) (append-nil (part line))

-- one step after another is refused where the first is, or else the second
pub then_judged : (r : Result Filed Cause) (k : Filed → Result Filed Cause) (first second : Option Cause) (f g : Filed) → r ≡ unless_refused first f → (first ≡ None → k f ≡ unless_refused second g) → (r >>= k) ≡ unless_refused (first orelse second) g
then_judged r k None second f g e later = ap (λ known. known >>= k) e ∙ later refl
then_judged r k (Some cause) second f g e later = ap (λ known. known >>= k) e

pub or_assoc : (a b c : Bool) → (a || (b || c)) ≡ ((a || b) || c)
or_assoc true b c = refl
or_assoc false b c = refl

pub or_false : (a : Bool) → (a || false) ≡ a
or_false true = refl
or_false false = refl

pub after_snoc : (before : Section) (lines : List TextLine) (line : TextLine) → section_after before (lines ++ line ∷ []) ≡ section_behind (section_after before lines) line
after_snoc before [] line = refl
after_snoc before (first ∷ lines) line = after_snoc (section_behind before first) lines line

pub has_snoc : (wanted before : Section) (lines : List TextLine) (line : TextLine) →
    has_after wanted before (lines ++ line ∷ []) ≡ (has_after wanted before lines || (line.header && same_section (section_behind (section_after before lines) line) wanted))
has_snoc wanted before [] line = or_false (line.header && same_section (section_behind before line) wanted)
has_snoc wanted before (first ∷ lines) line =
    let here : Bool = first.header && same_section (section_behind before first) wanted in
    ap (λ b. here || b) (has_snoc wanted (section_behind before first) lines line)
    ∙ or_assoc here (has_after wanted (section_behind before first) lines) (line.header && same_section (section_behind (section_after (section_behind before first) lines) line) wanted)

pub data_snoc : (wanted before : Section) (lines : List TextLine) (line : TextLine) → data_in wanted before (lines ++ line ∷ []) ≡ data_in wanted before lines ++ fields_in wanted (section_after before lines) line
data_snoc wanted before [] line = append-nil (fields_in wanted before line)
data_snoc wanted before (first ∷ lines) line =
    ap (λ rest. fields_in wanted before first ++ rest) (data_snoc wanted (section_behind before first) lines line)
    ∙ sym (append_assoc (fields_in wanted before first) (data_in wanted (section_behind before first) lines) (fields_in wanted (section_after (section_behind before first) lines) line))

-- the data of a section where it gains such lines
gains : (wanted : Section) (lines : List TextLine) (line : TextLine) (more : List (List (List ℕ))) → fields_in wanted (last_section lines) line ≡ more → data_of wanted (lines ++ line ∷ []) ≡ data_of wanted lines ++ more
gains wanted lines line more e = data_snoc wanted sections.Start lines line ∙ ap (λ last. data_of wanted lines ++ last) e

same_data : (wanted : Section) (lines : List TextLine) (line : TextLine) → fields_in wanted (last_section lines) line ≡ [] → data_of wanted (lines ++ line ∷ []) ≡ data_of wanted lines
same_data wanted lines line e = gains wanted lines line [] e ∙ append-nil (data_of wanted lines)

-- the parts that count, by the data of the sections
abbrev pub made : Section → Bool → List (List (List ℕ)) → List (List (List ℕ)) → List (List (List ℕ)) → List (List (List ℕ)) → List (List (List ℕ)) → Data
made section has rows columns rhs ranges bounds = record {
  section = section;
  has_columns = has;
  rows = rows;
  named = flat_map column_name columns;
  pairs = flat_map column_pairs columns;
  rhs_set = first_set rhs;
  rhs_pairs = pairs_used rhs;
  range_set = first_set ranges;
  range_pairs = pairs_used ranges;
  bounds = flat_map bound_on bounds;
}

pub made_same : (s s' : Section) (t t' : Bool) (r r' c c' h h' a a' b b' : List (List (List ℕ))) → s ≡ s' → t ≡ t' → r ≡ r' → c ≡ c' → h ≡ h' → a ≡ a' → b ≡ b' → made s t r c h a b ≡ made s' t' r' c' h' a' b'
made_same s s' t t' r r' c c' h h' a a' b b' is it ir ic ih ia ib =
    ap (λ x. made x t r c h a b) is ∙ ap (λ x. made s' x r c h a b) it ∙ ap (λ x. made s' t' x c h a b) ir ∙ ap (λ x. made s' t' r' x h a b) ic ∙ ap (λ x. made s' t' r' c' x a b) ih
    ∙ ap (λ x. made s' t' r' c' h' x b) ia ∙ ap (λ x. made s' t' r' c' h' a' x) ib

abbrev pub data_text : ℕ → List (List ℕ) → TextLine
data_text number fields = record { number = number; header = false; fields = fields }

abbrev pub header_text : ℕ → List (List ℕ) → TextLine
header_text number fields = record { number = number; header = true; fields = fields }

either_same : {A : Type 0} (b : Bool) (x : A) → (if b then x else x) ≡ x
either_same true x = refl
either_same false x = refl

still_there : (lines : List TextLine) (number : ℕ) (fields : List (List ℕ)) → last_section (lines ++ data_text number fields ∷ []) ≡ last_section lines
still_there lines number fields = after_snoc sections.Start lines (data_text number fields) ∙ either_same (is_end (last_section lines)) (last_section lines)

still_has : (lines : List TextLine) (number : ℕ) (fields : List (List ℕ)) → has_section sections.Columns (lines ++ data_text number fields ∷ []) ≡ has_section sections.Columns lines
still_has lines number fields = has_snoc sections.Columns sections.Start lines (data_text number fields) ∙ or_false (has_section sections.Columns lines)

pub row_data : (lines : List TextLine) (number : ℕ) (fields : List (List ℕ)) → last_section lines ≡ sections.Rows → data_on (lines ++ data_text number fields ∷ []) ≡ record (data_on lines) { rows = data_of sections.Rows lines ++ fields ∷ [] }
row_data lines number fields at =
    let line : TextLine = data_text number fields in
    made_same _ _ _ _ _ _ _ _ _ _ _ _ _ _ (still_there lines number fields) (still_has lines number fields) (gains sections.Rows lines line (fields ∷ []) (rw at refl)) (same_data sections.Columns lines line (rw at refl))
    (same_data sections.Rhs lines line (rw at refl)) (same_data sections.Ranges lines line (rw at refl)) (same_data sections.Bounds lines line (rw at refl))

pub column_data : (lines : List TextLine) (number : ℕ) (fields : List (List ℕ)) → last_section lines ≡ sections.Columns →
    data_on (lines ++ data_text number fields ∷ []) ≡ record (data_on lines) { named = (data_on lines).named ++ column_name fields; pairs = (data_on lines).pairs ++ column_pairs fields }
column_data lines number fields at =
    let line : TextLine = data_text number fields in
    let before : List (List (List ℕ)) = data_of sections.Columns lines in
    made_same _ _ _ _ _ _ _ _ _ _ _ _ _ _ (still_there lines number fields) (still_has lines number fields) (same_data sections.Rows lines line (rw at refl)) (gains sections.Columns lines line (fields ∷ []) (rw at refl))
    (same_data sections.Rhs lines line (rw at refl)) (same_data sections.Ranges lines line (rw at refl)) (same_data sections.Bounds lines line (rw at refl))
    ∙ ap (λ named. record (data_on lines) { named = named; pairs = flat_map column_pairs (before ++ fields ∷ []) }) (flat_snoc column_name before fields)
    ∙ ap (λ pairs. record (data_on lines) { named = flat_map column_name before ++ column_name fields; pairs = pairs }) (flat_snoc column_pairs before fields)

first_snoc : (lines : List (List (List ℕ))) (fields : List (List ℕ)) → first_set (lines ++ fields ∷ []) ≡ Some (chosen (first_set lines) (set_on fields))
first_snoc [] fields = refl
first_snoc (first ∷ lines) fields = refl

pub same_set_refl : (fields : List (List ℕ)) → pairs_of_set (Some (set_on fields)) fields ≡ pairs_of_set None fields
same_set_refl fields = refl

used_snoc : (lines : List (List (List ℕ))) (fields : List (List ℕ)) → pairs_used (lines ++ fields ∷ []) ≡ pairs_used lines ++ pairs_of_set (first_set lines) fields
used_snoc [] fields = append-nil (pairs_of_set (Some (set_on fields)) fields)
used_snoc (first ∷ lines) fields = flat_snoc (pairs_of_set (Some (set_on first))) (first ∷ lines) fields

pub rhs_data : (lines : List TextLine) (number : ℕ) (fields : List (List ℕ)) → last_section lines ≡ sections.Rhs →
    data_on (lines ++ data_text number fields ∷ []) ≡ record (data_on lines) { rhs_set = Some (chosen (data_on lines).rhs_set (set_on fields)); rhs_pairs = (data_on lines).rhs_pairs ++ pairs_of_set (data_on lines).rhs_set fields }
rhs_data lines number fields at =
    let line : TextLine = data_text number fields in
    let before : List (List (List ℕ)) = data_of sections.Rhs lines in
    made_same _ _ _ _ _ _ _ _ _ _ _ _ _ _ (still_there lines number fields) (still_has lines number fields) (same_data sections.Rows lines line (rw at refl)) (same_data sections.Columns lines line (rw at refl))
    (gains sections.Rhs lines line (fields ∷ []) (rw at refl)) (same_data sections.Ranges lines line (rw at refl)) (same_data sections.Bounds lines line (rw at refl))
    ∙ ap (λ set. record (data_on lines) { rhs_set = set; rhs_pairs = pairs_used (before ++ fields ∷ []) }) (first_snoc before fields)
    ∙ ap (λ pairs. record (data_on lines) { rhs_set = Some (chosen (first_set before) (set_on fields)); rhs_pairs = pairs }) (used_snoc before fields)

pub range_data : (lines : List TextLine) (number : ℕ) (fields : List (List ℕ)) → last_section lines ≡ sections.Ranges →
    data_on (lines ++ data_text number fields ∷ []) ≡ record (data_on lines) { range_set = Some (chosen (data_on lines).range_set (set_on fields)); range_pairs = (data_on lines).range_pairs ++ pairs_of_set (data_on lines).range_set fields }
range_data lines number fields at =
    let line : TextLine = data_text number fields in
    let before : List (List (List ℕ)) = data_of sections.Ranges lines in
    made_same _ _ _ _ _ _ _ _ _ _ _ _ _ _ (still_there lines number fields) (still_has lines number fields) (same_data sections.Rows lines line (rw at refl)) (same_data sections.Columns lines line (rw at refl))
    (same_data sections.Rhs lines line (rw at refl)) (gains sections.Ranges lines line (fields ∷ []) (rw at refl)) (same_data sections.Bounds lines line (rw at refl))
    ∙ ap (λ set. record (data_on lines) { range_set = set; range_pairs = pairs_used (before ++ fields ∷ []) }) (first_snoc before fields)
    ∙ ap (λ pairs. record (data_on lines) { range_set = Some (chosen (first_set before) (set_on fields)); range_pairs = pairs }) (used_snoc before fields)

pub bound_data : (lines : List TextLine) (number : ℕ) (fields : List (List ℕ)) → last_section lines ≡ sections.Bounds → data_on (lines ++ data_text number fields ∷ []) ≡ record (data_on lines) { bounds = (data_on lines).bounds ++ bound_on fields }
bound_data lines number fields at =
    let line : TextLine = data_text number fields in
    let before : List (List (List ℕ)) = data_of sections.Bounds lines in
    made_same _ _ _ _ _ _ _ _ _ _ _ _ _ _ (still_there lines number fields) (still_has lines number fields) (same_data sections.Rows lines line (rw at refl)) (same_data sections.Columns lines line (rw at refl))
    (same_data sections.Rhs lines line (rw at refl)) (same_data sections.Ranges lines line (rw at refl)) (gains sections.Bounds lines line (fields ∷ []) (rw at refl))
    ∙ ap (λ (bounds : List _). record (data_on lines) { bounds = bounds }) (flat_snoc bound_on before fields)

-- a header changes the section alone
pub header_data : (lines : List TextLine) (number : ℕ) (fields : List (List ℕ)) (next : Section) → section_of (first_word fields) ≡ Some next → is_end (last_section lines) ≡ false →
    data_on (lines ++ header_text number fields ∷ []) ≡ record (data_on lines) { section = next; has_columns = has_section sections.Columns lines || same_section next sections.Columns }
header_data lines number fields next is open_ =
    let line : TextLine = header_text number fields in
    let behind : section_behind (last_section lines) line ≡ next = ap (λ b. if b then last_section lines else unwrap_or (section_of (first_word fields)) (last_section lines)) open_ ∙ ap (λ known. unwrap_or known (last_section lines)) is in
    made_same _ _ _ _ _ _ _ _ _ _ _ _ _ _ (after_snoc sections.Start lines line ∙ behind) (has_snoc sections.Columns sections.Start lines line ∙ ap (λ at. has_section sections.Columns lines || same_section at sections.Columns) behind)
    (same_data sections.Rows lines line refl) (same_data sections.Columns lines line refl) (same_data sections.Rhs lines line refl) (same_data sections.Ranges lines line refl) (same_data sections.Bounds lines line refl)
