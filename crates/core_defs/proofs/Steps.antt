-- A line is filed, or refused as its fault says.
use Rattle.std.proofs.Common.{◌≡◌, ◌∙◌, ◌++◌, ap, ℕ, Bool, true, false, List, [], ◌∷◌, None, refl, sym, subst, append-nil, arith}
use Rattle.smps_words.specs.Line.{TextLine}
use Rattle.refusals.specs.Results.{unless_refused}
use Rattle.core_defs.specs.declared.section.Section.{Section}
use Rattle.core_defs.specs.declared.section.Section.TheVariants as sections
use Rattle.core_defs.specs.Fault.{row_fault, rhs_fault, range_fault, bound_fault, data_fault, fault}
use Rattle.core_defs.specs.Filed.{nothing_filed}
use Rattle.core_defs.specs.Lines.{last_section}
use Rattle.core_defs.specs.Section.{is_end}
use Rattle.core_defs.specs.Step.{data_line, step}
use Rattle.core_defs.proofs.Gathered.{Data, data_on, filed_of, Sound}
use Rattle.core_defs.proofs.LineLemmas.{data_text, row_data, column_data, rhs_data, range_data, bound_data}
use Rattle.core_defs.proofs.RowSteps.{row_step, row_sound}
use Rattle.core_defs.proofs.ColumnSteps.{column_data_of, column_line_step, column_sound}
use Rattle.core_defs.proofs.SetSteps.{rhs_line_step, rhs_sound, range_line_step, range_sound}
use Rattle.core_defs.proofs.BoundSteps.{bound_step, bound_sound}
use Rattle.core_defs.proofs.HeaderSteps.{header_step, header_sound}

column_data_is : (before : List TextLine) (number : ℕ) (fields : List (List ℕ)) → last_section before ≡ sections.Columns → data_on (before ++ data_text number fields ∷ []) ≡ column_data_of before fields
column_data_is before number [] at = column_data before number [] at ∙ none (data_on before)
  where
    none : (d : Data) → record d { named = d.named ++ []; pairs = d.pairs ++ [] } ≡ d
    none d = ap (λ named. record d { named = named; pairs = d.pairs ++ [] }) (append-nil d.named) ∙ ap (λ (pairs : List _). record d { pairs = pairs }) (append-nil d.pairs)
column_data_is before number (column ∷ rest) at = column_data before number (column ∷ rest) at

data_step : (before : List TextLine) (number : ℕ) (fields : List (List ℕ)) (section : Section) → Sound (data_on before) → last_section before ≡ section →
    data_line section (filed_of (data_on before)) fields ≡ unless_refused (data_fault section before (data_text number fields)) (filed_of (data_on (before ++ data_text number fields ∷ [])))
data_step before number fields sections.Start sound at = refl
data_step before number fields sections.Name sound at = refl
data_step before number fields sections.Rows sound at = row_step before fields sound at ∙ ap (λ (d : Data). unless_refused (row_fault before fields) (filed_of d)) (sym (row_data before number fields at))
data_step before number fields sections.Columns sound at =
    let is = column_data_is before number fields at in
    column_line_step before (data_text number fields) fields sound at is ∙ ap (λ (d : Data). unless_refused (data_fault sections.Columns before (data_text number fields)) (filed_of d)) (sym is)
data_step before number fields sections.Rhs sound at = rhs_line_step before fields sound ∙ ap (λ (d : Data). unless_refused (rhs_fault before fields) (filed_of d)) (sym (rhs_data before number fields at))
data_step before number fields sections.Ranges sound at = range_line_step before fields sound ∙ ap (λ (d : Data). unless_refused (range_fault before fields) (filed_of d)) (sym (range_data before number fields at))
data_step before number fields sections.Bounds sound at = bound_step before fields ∙ ap (λ (d : Data). unless_refused (bound_fault before fields) (filed_of d)) (sym (bound_data before number fields at))
data_step before number fields sections.End sound at = refl

data_sound : (before : List TextLine) (number : ℕ) (fields : List (List ℕ)) (section : Section) → Sound (data_on before) → last_section before ≡ section → data_fault section before (data_text number fields) ≡ None → Sound (data_on (before ++ data_text number fields ∷ []))
data_sound before number fields sections.Start sound at fine = cc
data_sound before number fields sections.Name sound at fine = cc
data_sound before number fields sections.Rows sound at fine = subst Sound (sym (row_data before number fields at)) (row_sound before fields sound fine)
data_sound before number fields sections.Columns sound at fine =
    let is = column_data_is before number fields at in
    subst Sound (sym is) (column_sound before (data_text number fields) fields sound at is fine)
data_sound before number fields sections.Rhs sound at fine = subst Sound (sym (rhs_data before number fields at)) (rhs_sound (data_on before) _ _ sound at)
data_sound before number fields sections.Ranges sound at fine = subst Sound (sym (range_data before number fields at)) (range_sound (data_on before) _ _ sound at)
data_sound before number fields sections.Bounds sound at fine = subst Sound (sym (bound_data before number fields at)) (bound_sound before fields sound at fine)
data_sound before number fields sections.End sound at fine = cc

abbrev line_with : ℕ → Bool → List (List ℕ) → TextLine
line_with number header fields = record { number = number; header = header; fields = fields }

step_by : (before : List TextLine) (number : ℕ) (header : Bool) (fields : List (List ℕ)) → Sound (data_on before) → is_end (last_section before) ≡ false →
    step (filed_of (data_on before)) (line_with number header fields) ≡ unless_refused (fault before (line_with number header fields)) (filed_of (data_on (before ++ line_with number header fields ∷ [])))
step_by before number true fields sound open_ = header_step before number fields open_
step_by before number false fields sound open_ = data_step before number fields (last_section before) sound refl

sound_by : (before : List TextLine) (number : ℕ) (header : Bool) (fields : List (List ℕ)) → Sound (data_on before) → is_end (last_section before) ≡ false → fault before (line_with number header fields) ≡ None → Sound (data_on (before ++ line_with number header fields ∷ []))
sound_by before number true fields sound open_ fine = header_sound before number fields sound open_ fine
sound_by before number false fields sound open_ fine = data_sound before number fields (last_section before) sound refl fine

-- one more line
pub step_is : (before : List TextLine) (line : TextLine) → Sound (data_on before) → is_end (last_section before) ≡ false → step (filed_of (data_on before)) line ≡ unless_refused (fault before line) (filed_of (data_on (before ++ line ∷ [])))
step_is before line sound open_ = step_by before line.number line.header line.fields sound open_

pub step_sound : (before : List TextLine) (line : TextLine) → Sound (data_on before) → is_end (last_section before) ≡ false → fault before line ≡ None → Sound (data_on (before ++ line ∷ []))
step_sound before line sound open_ fine = sound_by before line.number line.header line.fields sound open_ fine

-- no lines
pub nothing_is : filed_of (data_on []) ≡ nothing_filed
nothing_is = refl

pub nothing_sound : Sound (data_on [])
nothing_sound = record {
  rows = record { free_differ = tt; rows_differ = tt; apart = λ name place at. absurd at; few = omega arith };
  columns = record { few = omega arith; fresh = λ name row missing. refl };
  early = record { no_named = λ e. refl; no_pairs = λ e. refl; no_rhs_set = λ e. refl; no_rhs_pairs = λ e. refl; no_range_set = λ e. refl; no_range_pairs = λ e. refl; no_bounds = λ e. refl };
  objective = λ has. cc;
  in_order = λ name. refl;
}
