-- With cores of the same parts a time file is read alike. Each path goes along those of the parts.
use Rattle.std.proofs.Common.{◌≡◌, ℕ, Bool, true, false, not, List, [], ◌∷◌, ◌++◌, Option, Some, None, Ok, Err, refl, length}
use Rattle.std.proofs.Common.{if◌then◌else◌}
use Rattle.std.specs.Prelude.{is_some, nat_lt}
use Rattle.smps_words.specs.Line.{TextLine, reading_of}
use Rattle.smps_words.specs.Names.{same_name, place_of}
use Rattle.refusals.specs.declared.cause.Cause.TheVariants as cause
use Rattle.refusals.specs.Results.{◌>>=◌, needs}
use Rattle.refusals.specs.Results.{on_line}
use Rattle.core_defs.specs.declared.program.Core.{Core}
use Rattle.core_defs.specs.Core.{row_names, column_names}
use Rattle.core_defs.specs.Laws.{AreSame}
use Rattle.reader_defs.specs.Reader.{read_from}
use Rattle.time_defs.specs.declared.section.TimeSection.{TimeSection}
use Rattle.time_defs.specs.declared.section.TimeSection.TheVariants as sections
use Rattle.time_defs.specs.Section.{is_end}
use Rattle.time_defs.specs.Stated.{Stated, row_or_objective, start_row}
use Rattle.time_defs.specs.Step.{nothing_stated, allowed, with_start, start_of, start_line, row_of, row_line, column_of, column_line}
use Rattle.time_defs.specs.Step.{period_line, data_line, header_line, step, row_stages, column_stages, first_late, unless}
use Rattle.time_defs.specs.Step.{stages_of, has_sections, at_line, finish, time_file, read_lines}

module _ (c d : Core) (same : AreSame c d) where
  row_or_objective_same : (name : List ℕ) (row : Option ℕ) → row_or_objective c name row ≡ row_or_objective d name row
  row_or_objective_same name (Some row) = refl
  row_or_objective_same name None = λ i. if same_name name (same.objective i) then Some 0 else None

  start_row_same : (name : List ℕ) → start_row c name ≡ start_row d name
  start_row_same name = λ i. row_or_objective_same name (place_of (row_names (same.rows i)) name) i

  -- ---- lines

  start_of_same : (s : Stated) (first second name : List ℕ) → start_of c s first second name ≡ start_of d s first second name
  unfolding start_of
  start_of_same s first second name = λ i.
      needs cause.StartUnknown (place_of (column_names (same.columns i)) first) >>= λ column.
      needs cause.StartUnknown (allowed s.names (start_row_same second i)) >>= λ row.
      if is_some (place_of s.names name) then Err cause.PeriodTwice else with_start s column row name

  start_line_same : (s : Stated) (fields : List (List ℕ)) → start_line c s fields ≡ start_line d s fields
  unfolding start_line
  start_line_same s (column ∷ row ∷ name ∷ []) = start_of_same s column row name
  start_line_same s [] = refl
  start_line_same s (_ ∷ []) = refl
  start_line_same s (_ ∷ _ ∷ []) = refl
  start_line_same s (_ ∷ _ ∷ _ ∷ _ ∷ _) = refl

  row_of_same : (s : Stated) (name period : List ℕ) → row_of c s name period ≡ row_of d s name period
  unfolding row_of
  row_of_same s name period = λ i.
      needs cause.StartUnknown (place_of (row_names (same.rows i)) name) >>= λ row.
      if is_some (place_of s.rows name) then Err cause.PlaceTwice
      else (if is_some (place_of s.names period)
      then Ok (record s { rows = s.rows ++ name ∷ []; row_periods = s.row_periods ++ period ∷ [] }) else Err cause.PeriodUnknown)

  row_line_same : (s : Stated) (fields : List (List ℕ)) → row_line c s fields ≡ row_line d s fields
  unfolding row_line
  row_line_same s (name ∷ period ∷ []) = row_of_same s name period
  row_line_same s [] = refl
  row_line_same s (_ ∷ []) = refl
  row_line_same s (_ ∷ _ ∷ _ ∷ _) = refl

  column_of_same : (s : Stated) (name period : List ℕ) → column_of c s name period ≡ column_of d s name period
  unfolding column_of
  column_of_same s name period = λ i.
      needs cause.StartUnknown (place_of (column_names (same.columns i)) name) >>= λ column.
      if is_some (place_of s.columns name) then Err cause.PlaceTwice
      else (if is_some (place_of s.names period)
      then Ok (record s { columns = s.columns ++ name ∷ []; column_periods = s.column_periods ++ period ∷ [] })
      else Err cause.PeriodUnknown)

  column_line_same : (s : Stated) (fields : List (List ℕ)) → column_line c s fields ≡ column_line d s fields
  unfolding column_line
  column_line_same s (name ∷ period ∷ []) = column_of_same s name period
  column_line_same s [] = refl
  column_line_same s (_ ∷ []) = refl
  column_line_same s (_ ∷ _ ∷ _ ∷ _) = refl

  period_line_same : (explicit : Bool) (s : Stated) (fields : List (List ℕ)) → period_line c explicit s fields ≡ period_line d explicit s fields
  period_line_same true s fields = refl
  period_line_same false s fields = start_line_same s fields

  data_line_same : (section : TimeSection) (s : Stated) (fields : List (List ℕ)) → data_line c section s fields ≡ data_line d section s fields
  data_line_same sections.Periods s fields = period_line_same s.place.explicit s fields
  data_line_same sections.Rows s fields = row_line_same s fields
  data_line_same sections.Columns s fields = column_line_same s fields
  data_line_same sections.Start s fields = refl
  data_line_same sections.Time s fields = refl
  data_line_same sections.End s fields = refl

  step_same : (s : Stated) (line : TextLine) → step c s line ≡ step d s line
  step_same s line = λ i. if line.header then header_line s line.fields else data_line_same s.place.section s line.fields i

  -- ---- the file

  stages_same : (s : Stated) → stages_of c s ≡ stages_of d s
  stages_same s = λ i.
      if not (nat_lt 0 (length s.names)) then Err cause.PeriodCount
      else (row_stages s [] (same.rows i) >>= λ rows. column_stages s [] (same.columns i) >>= λ columns. unless
      (first_late rows columns 0 (same.columns i)) (record { names = s.names; columns = columns; rows = rows }))

  finish_same : (end_line number : ℕ) (s : Stated) → finish c end_line number s ≡ finish d end_line number s
  finish_same end_line number s = λ i. if has_sections s.place then at_line number (stages_same s i)
      else Err (record { line = end_line; cause = cause.SectionMissing })

  read_same : (end_line : ℕ) (s : Stated) (lines : List TextLine) → read_from (time_file c) end_line s lines ≡ read_from (time_file d) end_line s lines
  read_same end_line s [] = refl
  read_same end_line s (line ∷ lines) = λ i. on_line line.number (step_same s line i)
      (λ (t : Stated). if is_end t.place.section then finish_same end_line line.number t i else read_same end_line t lines i)

  pub time_same : (text : List ℕ) → read_lines c text ≡ read_lines d text
  time_same text = read_same (reading_of 0 text).end_line nothing_stated (reading_of 0 text).lines
