-- Headers.
use Rattle.std.proofs.Common.{◌≡◌, ◌∙◌, ◌++◌, ◌&&◌, ◌||◌, ap, length, ℕ, Bool, true, false, List, [], ◌∷◌, Option, Some, None, Result, Ok, Err, not, refl, sym, subst, nat_lt, arith, if◌then◌else◌}
use Rattle.std.proofs.lemmas.Bool.Decides.{nat_tests}
use Rattle.smps_words.specs.Line.{TextLine}
use Rattle.refusals.specs.declared.cause.Cause.{Cause}
use Rattle.refusals.specs.declared.cause.Cause.TheVariants as cause
use Rattle.refusals.specs.Results.{◌>>=◌, needs, unless_refused}
use Rattle.core_defs.specs.declared.section.Section.{Section}
use Rattle.core_defs.specs.declared.section.Section.TheVariants as sections
use Rattle.core_defs.specs.Fault.{section_fault}
use Rattle.core_defs.specs.Filed.{Filed}
use Rattle.core_defs.specs.Lines.{first_word, last_section, has_section}
use Rattle.core_defs.specs.Section.{section_of, rank, same_section, is_end}
use Rattle.core_defs.specs.Stated.{free_rows}
use Rattle.core_defs.specs.Step.{enter, header_word, header_line}
use Rattle.core_defs.proofs.Gathered.{Data, data_on, free_in, filed_of, Sound}
use Rattle.core_defs.proofs.LineLemmas.{or_false, header_text, header_data}

-- the section and whether COLUMNS was there
abbrev entered : Data → Section → Data
entered d next = record d { section = next; has_columns = d.has_columns || same_section next sections.Columns }

or_true : (b : Bool) → (b || true) ≡ true
or_true true = refl
or_true false = refl

by_objective : (there : Bool) (f g : Filed) → f ≡ g → (if there then Ok f else Err cause.NoObjective) ≡ unless_refused (if not there then Some cause.NoObjective else None) g
by_objective true f g e = ap Ok e
by_objective false f g e = refl

plain_enter : (d : Data) (next : Section) → record (filed_of d) { section = next } ≡ record (filed_of d) { section = next; has_columns = d.has_columns || false }
plain_enter d next = ap (λ has. record (filed_of d) { section = next; has_columns = has }) (sym (or_false d.has_columns))

enter_step : (d : Data) (next : Section) → enter (filed_of d) next ≡ unless_refused (if same_section next sections.Columns && not (nat_lt 0 (length (free_in d))) then Some cause.NoObjective else None) (filed_of (entered d next))
enter_step d sections.Start = ap Ok (plain_enter d sections.Start)
enter_step d sections.Name = ap Ok (plain_enter d sections.Name)
enter_step d sections.Rows = ap Ok (plain_enter d sections.Rows)
enter_step d sections.Columns = by_objective (nat_lt 0 (length (free_in d))) _ _ (ap (λ has. record (filed_of d) { section = sections.Columns; has_columns = has }) (sym (or_true d.has_columns)))
enter_step d sections.Rhs = ap Ok (plain_enter d sections.Rhs)
enter_step d sections.Ranges = ap Ok (plain_enter d sections.Ranges)
enter_step d sections.Bounds = ap Ok (plain_enter d sections.Bounds)
enter_step d sections.End = ap Ok (plain_enter d sections.End)

by_order : (after : Bool) (r : Result Filed Cause) (c : Option Cause) (g : Filed) → r ≡ unless_refused c g → (if after then r else Err cause.SectionOrder) ≡ unless_refused (if not after then Some cause.SectionOrder else c) g
by_order true r c g e = e
by_order false r c g e = refl

word_step : (before : List TextLine) (next : Option Section) (g : Filed) → ((known : Section) → next ≡ Some known → filed_of (entered (data_on before) known) ≡ g) →
    (needs cause.SectionUnknown next >>= λ known. if nat_lt (rank (last_section before)) (rank known) then enter (filed_of (data_on before)) known else Err cause.SectionOrder) ≡ unless_refused (section_fault before next) g
word_step before None g is = refl
word_step before (Some next) g is =
    by_order (nat_lt (rank (last_section before)) (rank next)) (enter (filed_of (data_on before)) next) _ g
    (enter_step (data_on before) next ∙ ap (unless_refused (if same_section next sections.Columns && not (nat_lt 0 (length (free_rows before))) then Some cause.NoObjective else None)) (is next refl))

pub header_step : (before : List TextLine) (number : ℕ) (fields : List (List ℕ)) → is_end (last_section before) ≡ false →
    header_line (filed_of (data_on before)) fields ≡ unless_refused (section_fault before (section_of (first_word fields))) (filed_of (data_on (before ++ header_text number fields ∷ [])))
unfolding header_word
header_step before number [] open_ = refl
header_step before number (word ∷ rest) open_ =
    word_step before (section_of word) (filed_of (data_on (before ++ header_text number (word ∷ rest) ∷ []))) (λ known is. ap filed_of (sym (header_data before number (word ∷ rest) known is open_)))

-- ---- what it keeps

earlier : (old new bound : ℕ) → nat_lt old new ≡ true → nat_lt new bound ≡ true → nat_lt old bound ≡ true
earlier old new bound after early = grind (arith, nat_tests)

in_order : (after : Bool) (c : Option Cause) → (if not after then Some cause.SectionOrder else c) ≡ None → (after ≡ true) × (c ≡ None)
in_order true c fine = (refl, fine)
in_order false c fine = cc

objective_there : (has is there : Bool) → (has ≡ true → there ≡ true) → (if is && not there then Some cause.NoObjective else None) ≡ None → (has || is) ≡ true → there ≡ true
objective_there has is true old fine e = refl
objective_there true is false old fine e = old refl
objective_there false true false old fine e = cc
objective_there false false false old fine e = cc

entered_sound : (before : List TextLine) (next : Section) → Sound (data_on before) → section_fault before (Some next) ≡ None → Sound (entered (data_on before) next)
entered_sound before next sound fine =
    let both = in_order (nat_lt (rank (last_section before)) (rank next)) _ fine in
    let still : (bound : ℕ) → nat_lt (rank next) bound ≡ true → nat_lt (rank (last_section before)) bound ≡ true = λ bound early. earlier (rank (last_section before)) (rank next) bound both.0 early in
    record {
      rows = sound.rows;
      columns = sound.columns;
      early = record {
        no_named = λ early. sound.early.no_named (still 3 early);
        no_pairs = λ early. sound.early.no_pairs (still 3 early);
        no_rhs_set = λ early. sound.early.no_rhs_set (still 4 early);
        no_rhs_pairs = λ early. sound.early.no_rhs_pairs (still 4 early);
        no_range_set = λ early. sound.early.no_range_set (still 5 early);
        no_range_pairs = λ early. sound.early.no_range_pairs (still 5 early);
        no_bounds = λ early. sound.early.no_bounds (still 6 early);
      };
      objective = objective_there (has_section sections.Columns before) (same_section next sections.Columns) (nat_lt 0 (length (free_rows before))) sound.objective both.1;
      in_order = sound.in_order;
    }

sound_by : (before : List TextLine) (next : Option Section) (d : Data) → Sound (data_on before) → ((known : Section) → next ≡ Some known → entered (data_on before) known ≡ d) → section_fault before next ≡ None → Sound d
sound_by before None d sound is fine = cc
sound_by before (Some next) d sound is fine = subst Sound (is next refl) (entered_sound before next sound fine)

pub header_sound : (before : List TextLine) (number : ℕ) (fields : List (List ℕ)) → Sound (data_on before) → is_end (last_section before) ≡ false → section_fault before (section_of (first_word fields)) ≡ None → Sound (data_on (before ++ header_text number fields ∷ []))
header_sound before number fields sound open_ fine =
    sound_by before (section_of (first_word fields)) (data_on (before ++ header_text number fields ∷ [])) sound (λ known is. sym (header_data before number fields known is open_)) fine
