-- The rows of a table of words.
use Rattle.std.specs.Prelude.{ℕ, List}
use Rattle.smps_words.specs.Line.{fields_of}
use Rattle.smps_words.specs.Words.{WordRow, rows_of}
use Rattle.smps_words.specs.declared.words.Words.{Words}

abbrev pub rows : {n : ℕ} → Words n → List WordRow
rows table = rows_of (fields_of table.words.now) table.codes
