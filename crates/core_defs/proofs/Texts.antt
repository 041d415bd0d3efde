-- What reading a text gives, and that it gives nothing else.
use Rattle.std.proofs.Common.{◌≡◌, ◌<◌, ◌^◌, ◌∙◌, ◌++◌, ap, length, ℕ, Bool, true, false, List, [], ◌∷◌, Option, Some, None, Result, Ok, Err, refl, sym, subst, append_assoc, append-nil, nat_lt, arith, if◌then◌else◌}
use Rattle.std.proofs.lemmas.Bool.Decides.{nat_tests}
use Rattle.std.specs.List.{AllByRecursion}
use Rattle.smps_words.specs.Line.{TextLine, reading_of}
use Rattle.smps_words.proofs.FieldLemmas.{HasFields, text_fields}
use Rattle.refusals.specs.declared.cause.Cause.{Cause}
use Rattle.refusals.specs.declared.cause.Cause.TheVariants as cause
use Rattle.refusals.specs.declared.cause.Refusal.{Refusal}
use Rattle.refusals.specs.Results.{unless_refused}
use Rattle.reader_defs.specs.Laws.{Keeps, Reads}
use Rattle.reader_defs.specs.Reader.{cause_in, fault as fault_by, NoFaultBehind, IsWhole, IsRead, IsFault, IsReading, or_same, stated_by, read_from}
use Rattle.reader_defs.proofs.Following.{seen_by, Follows, reads_same}
use Rattle.reader_defs.proofs.Reading.{reads}
use Rattle.core_defs.specs.declared.program.Core.{Core}
use Rattle.core_defs.specs.declared.section.Section.TheVariants as sections
use Rattle.core_defs.specs.Fault.{fault, core_file, IsCoreFile}
use Rattle.core_defs.specs.Filed.{Filed, nothing_filed}
use Rattle.core_defs.specs.Laws.{IsFiledCore, IsFiledOrRefused, CoreFileLaws}
use Rattle.core_defs.specs.Lines.{last_section, has_section}
use Rattle.core_defs.specs.Means.{TextMeans}
use Rattle.core_defs.specs.Section.{is_end}
use Rattle.core_defs.specs.Step.{step, filed_file, filed_text}
use Rattle.core_defs.proofs.CoreLemmas.{column_names_are, core_is}
use Rattle.core_defs.proofs.Ended.{data_behind}
use Rattle.core_defs.proofs.FieldLemmas.{row_fields, column_fields}
use Rattle.core_defs.proofs.Gathered.{Data, data_on, free_in, filed_of, Sound}
use Rattle.core_defs.proofs.MeansLemmas.{means}
use Rattle.core_defs.proofs.MeantCore.{free_within, meaning_of}
use Rattle.core_defs.proofs.OneMeaning.{one_meaning}
use Rattle.core_defs.proofs.Steps.{step_is, step_sound, nothing_sound}

-- ---- lines as they are

taken_is : (o : Option Cause) (known t : List TextLine) → unless_refused o known ≡ Ok t → (o ≡ None) × (t ≡ known)
taken_is None known t e = let same : t ≡ known = cc in (refl, same)
taken_is (Some cause) known t e = absurd (cc)

-- the cause is that of the fault
pub cause_is : {A : Type 0} (o : Option Cause) (x : A) → cause_in (unless_refused o x) ≡ o
cause_is None x = refl
cause_is (Some cause) x = refl

keeps : Keeps core_file
keeps = record { first = refl; next = λ before line t fit open_ e. (taken_is (fault before line) (before ++ line ∷ []) t e).1 }

core_reads : (lines : List TextLine) (end_line : ℕ) → Reads core_file lines end_line
core_reads lines end_line = reads (List TextLine) (List TextLine) core_file lines end_line keeps

abbrev read_with : List TextLine → Result (List TextLine) Refusal
read_with read = Ok read

abbrev refused_with : Refusal → Result (List TextLine) Refusal
refused_with refusal = Err refusal

pub one_fault : (lines : List TextLine) (end_line : ℕ) (one other : Refusal) → IsFault core_file lines end_line one → IsFault core_file lines end_line other → one ≡ other
one_fault lines end_line one other first second =
    let same : refused_with one ≡ refused_with other = (core_reads lines end_line).one (Err one) first ∙ sym ((core_reads lines end_line).one (Err other) second) in
    cc

-- a core file is read
is_read : (lines : List TextLine) (end_line : ℕ) (file : IsCoreFile lines) → IsRead core_file lines end_line file.read
is_read lines end_line file = record {
  number = file.number;
  state = file.read;
  whole = file.whole;
  means = ap (λ (has : Bool). if has then read_with file.read else refused_with (record { line = end_line; cause = cause.SectionMissing })) file.columns;
}

pub no_fault : (lines : List TextLine) (end_line : ℕ) (refusal : Refusal) → IsCoreFile lines → IsFault core_file lines end_line refusal → ⊥
no_fault lines end_line refusal file faulty =
    let same : read_with file.read ≡ refused_with refusal = (core_reads lines end_line).one (Ok file.read) (is_read lines end_line file) ∙ sym ((core_reads lines end_line).one (Err refusal) faulty) in
    absurd (cc)

-- ---- lines as they are filed

abbrev pub filed_on : List TextLine → Filed
filed_on lines = filed_of (data_on lines)

abbrev IsSound : List TextLine → Type 0
IsSound lines = Sound (data_on lines)

fine_is : (before : List TextLine) (line : TextLine) → fault_by core_file before line ≡ None → fault before line ≡ None
fine_is before line fine = sym (cause_is (fault before line) (before ++ line ∷ [])) ∙ fine

-- lines without fault
pub sound_behind : (before lines : List TextLine) → NoFaultBehind core_file before lines → Sound (data_on before) → Sound (data_on (before ++ lines))
sound_behind before [] all sound = subst IsSound (sym (append-nil before)) sound
sound_behind before (line ∷ lines) all sound =
    subst IsSound (append_assoc before (line ∷ []) lines) (sound_behind (before ++ line ∷ []) lines all.2 (step_sound before line sound all.0 (fine_is before line all.1)))

seen_line : (o : Option Cause) (lines : List TextLine) → unless_refused o (filed_on lines) ≡ seen_by filed_on (unless_refused o lines)
seen_line None lines = refl
seen_line (Some cause) lines = refl

abbrev end_with : {A : Type 0} → ℕ → Bool → A → Result A Refusal
end_with end_line has x = if has then Ok x else Err (record { line = end_line; cause = cause.SectionMissing })

seen_end : (end_line : ℕ) (has : Bool) (lines : List TextLine) → end_with end_line has (filed_on lines) ≡ seen_by filed_on (end_with end_line has lines)
seen_end end_line true lines = refl
seen_end end_line false lines = refl

follows : Follows core_file filed_file filed_on filed_on IsSound
follows = record {
  next = λ before line sound open_. step_is before line sound open_ ∙ seen_line (fault before line) (before ++ line ∷ []);
  known = λ before line t sound open_ e.
      let is = taken_is (fault before line) (before ++ line ∷ []) t e in
      subst IsSound (sym is.1) (step_sound before line sound open_ is.0);
  same_end = λ lines. refl;
  same_finish = λ end_line number lines. seen_end end_line (has_section sections.Columns lines) lines;
}

-- what is filed of a text is filed of the lines that are read
filed_is : (end_line : ℕ) (lines : List TextLine) → read_from filed_file end_line nothing_filed lines ≡ seen_by filed_on (read_from core_file end_line [] lines)
filed_is end_line lines = reads_same core_file filed_file filed_on filed_on IsSound follows end_line lines [] nothing_sound refl

filed_behind : (before lines : List TextLine) → NoFaultBehind core_file before lines → Sound (data_on before) → stated_by step (filed_on before) lines ≡ filed_on (before ++ lines)
filed_behind before [] all sound = ap filed_on (sym (append-nil before))
filed_behind before (line ∷ lines) all sound =
    let fine : fault before line ≡ None = fine_is before line all.1 in
    ap (λ (given : Result Filed Cause). stated_by step (or_same (filed_on before) given) lines) (step_is before line sound all.0 ∙ ap (λ (o : Option Cause). unless_refused o (filed_on (before ++ line ∷ []))) fine)
    ∙ filed_behind (before ++ line ∷ []) lines all.2 (step_sound before line sound all.0 fine) ∙ ap filed_on (append_assoc before (line ∷ []) lines)

same_fault : (before : List TextLine) (line : TextLine) → NoFaultBehind core_file [] before → is_end (last_section before) ≡ false → fault_by filed_file before line ≡ fault_by core_file before line
same_fault before line fit open_ =
    ap (λ (f : Filed). cause_in (step f line)) (filed_behind [] before fit nothing_sound) ∙ ap cause_in (step_is before line (sound_behind [] before fit nothing_sound) open_)
    ∙ cause_is (fault before line) (filed_on (before ++ line ∷ [])) ∙ sym (cause_is (fault before line) (before ++ line ∷ []))

-- ---- the lines up to ENDATA

pub whole_sound : (lines : List TextLine) (number : ℕ) (read : List TextLine) → IsWhole core_file lines number read → Sound (data_on read)
whole_sound lines number read w = subst IsSound (sym w.is) (sound_behind [] (w.read ++ w.line ∷ []) w.fit nothing_sound)

-- the lines behind them state nothing
pub whole_data : (lines : List TextLine) (number : ℕ) (read : List TextLine) → IsWhole core_file lines number read → data_on lines ≡ data_on read
whole_data lines number read w =
    let split : lines ≡ read ++ w.rest = w.split ∙ sym (append_assoc w.read (w.line ∷ []) w.rest) ∙ ap (λ front. front ++ w.rest) (sym w.is) in
    ap data_on split ∙ data_behind read w.rest (ap (λ known. is_end (last_section known)) w.is ∙ w.end)

has_columns : (end_line : ℕ) (has : Bool) (state read : List TextLine) → end_with end_line has state ≡ Ok read → (has ≡ true) × (read ≡ state)
has_columns end_line true state read e = let same : read ≡ state = cc in (refl, same)
has_columns end_line false state read e = absurd (cc)

-- ---- the laws

some_free : (d : Data) → Sound d → d.has_columns ≡ true → 0 < length (free_in d)
some_free d sound has = let some : nat_lt 0 (length (free_in d)) ≡ true = sound.objective has in grind (arith, nat_tests)

-- what is filed of the lines that are read is filed of all
filed_core : (lines : List TextLine) (end_line : ℕ) (read : List TextLine) → AllByRecursion HasFields lines → IsRead core_file lines end_line read → IsFiledCore lines (filed_on read)
filed_core lines end_line read fields h =
    let found = has_columns end_line (has_section sections.Columns h.state) h.state read h.means in
    let same : data_on lines ≡ data_on h.state = whole_data lines h.number h.state h.whole in
    let sound : Sound (data_on lines) = subst Sound (sym same) (whole_sound lines h.number h.state h.whole) in
    let is : filed_on lines ≡ filed_on read = ap filed_of same ∙ ap filed_on (sym found.1) in
    subst (IsFiledCore lines) is (record {
      file = record { number = h.number; read = h.state; whole = h.whole; columns = found.0 };
      means = λ core of_core. means lines core sound of_core;
      keeps = core_is (data_on lines) sound (row_fields lines fields) (column_fields lines fields);
      some_free = some_free (data_on lines) sound (ap (λ (d : Data). d.has_columns) same ∙ found.0);
      few_rows = sound.rows.few;
      few_columns = sound.columns.few;
      named = column_names_are (data_on lines);
    })

reading_by : (lines : List TextLine) (end_line : ℕ) (given : Result (List TextLine) Refusal) → AllByRecursion HasFields lines → IsReading core_file lines end_line given → IsFiledOrRefused lines end_line (seen_by filed_on given)
reading_by lines end_line (Ok read) fields h = filed_core lines end_line read fields h
reading_by lines end_line (Err refusal) fields h = ((λ file. no_fault lines end_line refusal file h), h)

-- a text is filed or refused as its lines say, taken together
pub reading : (text : List ℕ) → IsFiledOrRefused (reading_of 0 text).lines (reading_of 0 text).end_line (filed_text text)
reading text =
    let lines : List TextLine = (reading_of 0 text).lines in
    let end_line : ℕ = (reading_of 0 text).end_line in
    subst (IsFiledOrRefused lines end_line) (sym (filed_is end_line lines)) (reading_by lines end_line (read_from core_file end_line [] lines) (text_fields text) (core_reads lines end_line).reading)

-- a core file that memory can hold means a core
meaning : (text : List ℕ) → length text < 2 ^ 63 → IsCoreFile (reading_of 0 text).lines → (core : Core) × TextMeans text core
meaning text short file =
    let lines : List TextLine = (reading_of 0 text).lines in
    let same : data_on lines ≡ data_on file.read = whole_data lines file.number file.read file.whole in
    let sound : Sound (data_on lines) = subst Sound (sym same) (whole_sound lines file.number file.read file.whole) in
    meaning_of lines (text_fields text) sound (ap (λ (d : Data). d.has_columns) same ∙ file.columns) (omega (arith, free_within text, short))

pub core_file_laws : CoreFileLaws
core_file_laws = record {
  reading = reading;
  same_fault = same_fault;
  one_fault = one_fault;
  no_fault = no_fault;
  meaning = meaning;
  one_meaning = one_meaning;
}

-- the same of what is given
pub reading_as : (text : List ℕ) (given : Result Filed Refusal) → filed_text text ≡ given → IsFiledOrRefused (reading_of 0 text).lines (reading_of 0 text).end_line given
reading_as text given is = subst (IsFiledOrRefused (reading_of 0 text).lines (reading_of 0 text).end_line) is (reading text)
