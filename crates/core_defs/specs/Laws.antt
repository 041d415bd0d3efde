-- What reading a core file line by line gives, in the words of all of its lines.
use Rattle.std.specs.Prelude.{◌≡◌, ℕ, ◌<◌, ◌≤◌, ◌^◌, false, List, [], Result, Ok, Err, length}
use Rattle.smps_words.specs.Line.{TextLine, reading_of}
use Rattle.refusals.specs.declared.cause.Refusal.{Refusal}
use Rattle.reader_defs.specs.Reader.{fault, NoFaultBehind, IsFault}
use Rattle.core_defs.specs.declared.program.Core.{Core}
use Rattle.core_defs.specs.Core.{column_names, IsCore}
use Rattle.core_defs.specs.Fault.{core_file, IsCoreFile}
use Rattle.core_defs.specs.Filed.{Filed, closed}
use Rattle.core_defs.specs.Finished.{row_defs, column_defs, IsCoreOf}
use Rattle.core_defs.specs.Means.{Means, TextMeans}
use Rattle.core_defs.specs.Lines.{last_section}
use Rattle.core_defs.specs.Section.{is_end}
use Rattle.core_defs.specs.Step.{most_rows, most_columns, filed_file, filed_text}

-- what is filed of a core file: its core is the one that the lines mean
pub record IsFiledCore (lines : List TextLine) (f : Filed) : Type 0 where
  pub file : IsCoreFile lines
  pub means : (core : Core) → IsCoreOf f core → Means lines core
  pub keeps : IsCore (row_defs f 0 f.rows) (column_defs f 0 (closed f).parts)
  pub some_free : 0 < length f.free
  pub few_rows : length f.rows ≤ most_rows
  pub few_columns : length f.names ≤ most_columns
  pub named : column_names (column_defs f 0 (closed f).parts) ≡ f.names

abbrev pub IsFiledOrRefused : List TextLine → ℕ → Result Filed Refusal → Type 0
IsFiledOrRefused lines end_line (Ok f) = IsFiledCore lines f
IsFiledOrRefused lines end_line (Err refusal) = (IsCoreFile lines → ⊥) × IsFault core_file lines end_line refusal

-- the parts of two cores are the same
pub record AreSame (one other : Core) : Type 0 where
  pub objective : one.objective ≡ other.objective
  pub skipped : one.skipped.items ≡ other.skipped.items
  pub rhs_set : one.rhs_set ≡ other.rhs_set
  pub rows : one.rows.items ≡ other.rows.items
  pub columns : one.columns.items ≡ other.columns.items

pub record CoreFileLaws : Type 0 where
  -- a text is filed exactly where it is a core file; else its first fault is named
  pub reading : (text : List ℕ) → IsFiledOrRefused (reading_of 0 text).lines (reading_of 0 text).end_line (filed_text text)
  -- where no line before it is refused, a line's fault by all of them is its fault by what is filed of them
  pub same_fault : (before : List TextLine) (line : TextLine) → NoFaultBehind core_file [] before → is_end (last_section before) ≡ false
      → fault filed_file before line ≡ fault core_file before line
  -- a text has one fault at most, and a core file none
  pub one_fault : (lines : List TextLine) (end_line : ℕ) (one other : Refusal)
      → IsFault core_file lines end_line one → IsFault core_file lines end_line other
      → one ≡ other
  pub no_fault : (lines : List TextLine) (end_line : ℕ) (refusal : Refusal) → IsCoreFile lines
      → IsFault core_file lines end_line refusal → ⊥
  -- a core file that memory can hold means a core
  pub meaning : (text : List ℕ) → length text < 2 ^ 63 → IsCoreFile (reading_of 0 text).lines → (core : Core) × TextMeans text core
  -- and lines mean one core at most
  pub one_meaning : (lines : List TextLine) (one other : Core) → Means lines one → Means lines other → AreSame one other
