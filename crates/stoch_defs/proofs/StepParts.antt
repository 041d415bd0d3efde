-- What a line went through that isn't refused.
use Rattle.std.proofs.Common.{◌≡◌, ◌∙◌, ap, ℕ, Bool, true, false, List, [], ◌∷◌, ◌++◌, Option, Some, None, Result, Ok, Err, refl, sym, unwrap_or, if◌then◌else◌}
use Rattle.rationals.specs.Rational.{ℚ}
use Rattle.rationals.specs.Passes.{Operation, answer, passes, add_walk, mul_walk, div_walk, too_wide, value_of}
use Rattle.frac128.specs.declared.text.NumFault.{NumFault}
use Rattle.frac128.specs.Numbers.{read_number}
use Rattle.smps_words.specs.declared.entry.Entry.{Entry}
use Rattle.refusals.specs.declared.cause.Cause.{Cause}
use Rattle.refusals.specs.declared.cause.Cause.TheVariants as cause
use Rattle.refusals.specs.Results.{◌>>=◌, needs}
use Rattle.rationals.specs.declared.Op.TheVariants as ops
use Rattle.core_defs.specs.declared.program.Core.{Core}
use Rattle.core_defs.specs.Number.{number_of, number_or_cause}
use Rattle.core_defs.specs.Stated.{number_in, number_or_zero}
use Rattle.reader_defs.proofs.Taken.{bind_ok, needs_ok, else_ok, ok_is}
use Rattle.time_defs.specs.Means.{Stages}
use Rattle.stoch_defs.specs.declared.section.Mode.{Mode}
use Rattle.stoch_defs.specs.declared.section.Mode.TheVariants as modes
use Rattle.stoch_defs.specs.declared.section.StochSection.{StochSection}
use Rattle.stoch_defs.specs.declared.section.StochSection.TheVariants as sections
use Rattle.stoch_defs.specs.Entries.{entry_of, is_late}
use Rattle.stoch_defs.specs.Groups.{behind, entered_if, mode_behind}
use Rattle.stoch_defs.specs.Means.{result_of}
use Rattle.stoch_defs.specs.Section.{Place, section_of, is_end, mode_of, is_mixed, is_start, entered}
use Rattle.stoch_defs.specs.Stated.{Stated}
use Rattle.stoch_defs.specs.Step.{known_entry, resulting, or_passes, closed, put_away, at_header, enter, kind_header, section_header, header_word, header_line, if_probability, probability_of}

-- ---- fields

pub known_is : (core : Core) (p : Stages) (column row : List ℕ) (entry : Entry) → known_entry core p column row ≡ Ok entry → entry_of core column row ≡ Some entry
unfolding known_entry
known_is core p column row entry e =
    let found = bind_ok (needs cause.EntryUnknown (entry_of core column row)) _ entry e in
    let last = else_ok (is_late p found.0) cause.EntryStage (Ok found.0) entry found.2 in
    needs_ok cause.EntryUnknown (entry_of core column row) found.0 found.1 ∙ ap Some (sym (ok_is found.0 entry last.1))

read_is : (given : Result ℚ NumFault) (value : ℚ) → number_or_cause given ≡ Ok value → value ≡ number_or_zero given
read_is (Ok other) value e = ok_is other value e
read_is (Err fault) value e = cc

pub number_is : (word : List ℕ) (value : ℚ) → number_of word ≡ Ok value → value ≡ number_in word
number_is word value e = read_is (read_number word) value e

fits : (b : Bool) (operation : Operation) (it value : ℚ) → or_passes (answer b operation it) ≡ Ok value → value ≡ it
fits true operation it value e = cc
fits false operation it value e = ok_is it value e

pub sum_is : (a b value : ℚ) → or_passes (add_walk a b) ≡ Ok value → value ≡ value_of ops.Add a b
sum_is a b value e = fits (passes ops.Add a b) _ (value_of ops.Add a b) value e

pub product_is : (a b value : ℚ) → or_passes (mul_walk a b) ≡ Ok value → value ≡ value_of ops.Mul a b
product_is a b value e = fits (passes ops.Mul a b) _ (value_of ops.Mul a b) value e

pub quotient_is : (a b value : ℚ) → or_passes (div_walk a b) ≡ Ok value → value ≡ value_of ops.Div a b
quotient_is a b value e = fits (passes ops.Div a b) _ (value_of ops.Div a b) value e

pub result_is : (mode : Mode) (base value result : ℚ) → resulting mode base value ≡ Ok result → result ≡ result_of mode base value
result_is modes.Replace base value result e = ok_is value result e
result_is modes.Add base value result e = sum_is base value result e
result_is modes.Multiply base value result e = product_is base value result e

pub probability_is : (word : List ℕ) (value : ℚ) → probability_of word ≡ Ok value → value ≡ number_in word
probability_is word value e =
    let found = bind_ok (number_of word) if_probability value e in
    let last = else_ok _ cause.ProbabilityRange (Ok found.0) value found.2 in
    ok_is found.0 value last.1 ∙ number_is word found.0 found.1

-- ---- headers

pub record Header (s t : Stated) (fields : List (List ℕ)) : Type 0 where
  pub mode : Mode
  pub next : StochSection
  pub is : t ≡ enter s mode next
  pub place : behind s.place fields ≡ entered s.place mode next

there : {A : Type 0} (o : Option A) (x d : A) → o ≡ Some x → unwrap_or o d ≡ x
there None x d e = cc
there (Some y) x d e = cc

kind_parts : (s t : Stated) (fields : List (List ℕ)) (next : StochSection) → kind_header s fields next ≡ Ok t → (mode : Mode) × (mode_of fields ≡ Some mode) × (t ≡ enter s mode next)
unfolding kind_header
kind_parts s t fields next e =
    let found = bind_ok (needs cause.KindUnknown (mode_of fields)) _ t e in
    let last = else_ok (is_mixed s.place next) cause.ScenariosMixed (Ok (enter s found.0 next)) t found.2 in
    (found.0, needs_ok cause.KindUnknown (mode_of fields) found.0 found.1, ok_is (enter s found.0 next) t last.1)

section_parts : (s t : Stated) (fields : List (List ℕ)) (next : StochSection) → section_header s fields next ≡ Ok t → (mode : Mode) × (mode_behind next fields ≡ mode) × (t ≡ enter s mode next)
section_parts s t fields sections.Stoch e = start (is_start s.place.section) e
  where
    start : (b : Bool) → (if b then Ok (enter s modes.Replace sections.Stoch) else Err cause.SectionOrder) ≡ Ok t → (mode : Mode) × (modes.Replace ≡ mode) × (t ≡ enter s mode sections.Stoch)
    start true h = (modes.Replace, refl, ok_is (enter s modes.Replace sections.Stoch) t h)
    start false h = cc
section_parts s t fields sections.End e = (modes.Replace, refl, ok_is (enter s modes.Replace sections.End) t e)
section_parts s t fields sections.Start e = cc
section_parts s t fields sections.Indep e = let h = kind_parts s t fields sections.Indep e in (h.0, there (mode_of fields) h.0 modes.Replace h.1, h.2)
section_parts s t fields sections.Blocks e = let h = kind_parts s t fields sections.Blocks e in (h.0, there (mode_of fields) h.0 modes.Replace h.1, h.2)
section_parts s t fields sections.Scenarios e = let h = kind_parts s t fields sections.Scenarios e in (h.0, there (mode_of fields) h.0 modes.Replace h.1, h.2)

pub header_parts : (s t : Stated) (fields : List (List ℕ)) → is_end s.place.section ≡ false → header_line s fields ≡ Ok t → Header s t fields
unfolding header_word
header_parts s t [] open_ e = cc
header_parts s t (word ∷ rest) open_ e =
    let found = bind_ok (needs cause.SectionUnknown (section_of word)) _ t e in
    let named = needs_ok cause.SectionUnknown (section_of word) found.0 found.1 in
    let parts = section_parts s t (word ∷ rest) found.0 found.2 in
    record {
      mode = parts.0;
      next = found.0;
      is = parts.2;
      place = ap (λ (b : Bool). if b then s.place else entered_if s.place (word ∷ rest) (section_of word)) open_ ∙ ap (entered_if s.place (word ∷ rest)) named ∙ ap (λ mode. entered s.place mode found.0) parts.1;
    }
