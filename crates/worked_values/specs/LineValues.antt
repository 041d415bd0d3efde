-- Lines and fields of a text.
use Rattle.std.specs.Prelude.{◌≡◌, true, false, [], ◌∷◌, codes}
use Rattle.smps_words.specs.Line.{split_lines, fields_of, is_skipped, line_of, reading_of}

pub record LinesAreAsDocumented : Type 0 where
  -- a line ends at a line feed or at the end of the text
  pub two : split_lines (codes "ROWS\n N COST") ≡ codes "ROWS" ∷ codes " N COST" ∷ []
  pub ended : split_lines (codes "ROWS\n N COST\n") ≡ codes "ROWS" ∷ codes " N COST" ∷ []
  pub empty_between : split_lines (codes "A\n\nB") ≡ codes "A" ∷ [] ∷ codes "B" ∷ []
  pub no_text : split_lines [] ≡ []
  -- blanks are the space, the tab and the carriage return; fields are the longest pieces without blanks
  pub fields : fields_of (codes " A  COST\t-3\r") ≡ codes "A" ∷ codes "COST" ∷ codes "-3" ∷ []
  pub any_field : fields_of (codes "N a-b'c/1$*\"") ≡ codes "N" ∷ codes "a-b'c/1$*\"" ∷ []
  pub blanks_alone : fields_of (codes " \t\r ") ≡ []
  -- a line that begins with * is a comment; comments and lines without fields are skipped
  pub comment : is_skipped (codes "* A COST 1") ≡ true
  pub star_alone : is_skipped (codes "*") ≡ true
  pub star_behind_blank : is_skipped (codes " * COST 1") ≡ false
  pub blank_line : is_skipped (codes " \t\r") ≡ true
  pub empty_line : is_skipped [] ≡ true
  pub header_kept : is_skipped (codes "ROWS") ≡ false
  pub data_kept : is_skipped (codes " N COST") ≡ false
  -- a line whose first byte isn't a blank is a header
  pub header : (line_of 1 (codes "ROWS")).header ≡ true
  pub behind_space : (line_of 1 (codes " N COST")).header ≡ false
  pub behind_tab : (line_of 1 (codes "\tN COST")).header ≡ false
  pub behind_return : (line_of 1 (codes "\rN COST")).header ≡ false
  -- skipped lines count as lines
  pub numbered : (reading_of 0 (codes "* MIX\nROWS\n\n N COST\n")).lines
      ≡ record { number = 2; header = true; fields = codes "ROWS" ∷ [] }
      ∷ record { number = 4; header = false; fields = codes "N" ∷ codes "COST" ∷ [] } ∷ []
  pub behind_last : (reading_of 0 (codes "* MIX\nROWS\n\n N COST\n")).end_line ≡ 5
