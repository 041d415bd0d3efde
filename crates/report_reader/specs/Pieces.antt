-- Pieces of a text: what follows a word, what stands before a byte, and the lines.
use Rattle.std.specs.Prelude.{ℕ, Bool, true, false, nat_eq, List, [], ◌∷◌, Option, Some, None, Result, Ok}
use Rattle.rationals.specs.Choices.{pick}
use Rattle.refusals.specs.declared.cause.Cause.{Cause}
use Rattle.report_reader.specs.Answers.{bad}

-- what follows a word that stands in front
abbrev pub after : List ℕ → List ℕ → Result (List ℕ) Cause
after [] text = Ok text
after (byte ∷ word) [] = bad
after (byte ∷ word) (first ∷ text) = pick (nat_eq first byte) (after word text) bad

-- what stands before the first such byte, and what follows it
abbrev pub grown : ℕ → Option (List ℕ × List ℕ) → Option (List ℕ × List ℕ)
grown byte None = None
grown byte (Some p) = Some (byte ∷ p.0, p.1)

abbrev pub cut : ℕ → List ℕ → Option (List ℕ × List ℕ)
cut byte [] = None
cut byte (first ∷ text) = pick (nat_eq first byte) (Some ([], text)) (grown first (cut byte text))

-- the first field of a line, up to a space (32), and what follows that
abbrev pub cut_field : Option (List ℕ × List ℕ) → Result (List ℕ × List ℕ) Cause
cut_field None = bad
cut_field (Some p) = Ok p

abbrev pub field : List ℕ → Result (List ℕ × List ℕ) Cause
field text = cut_field (cut 32 text)

-- The lines of a text, each without the line feed (10) at its end, and what follows the last line feed.
pub record Lines : Type 0 where
  pub ended : List (List ℕ)
  pub rest : List ℕ

abbrev pub longer : ℕ → List (List ℕ) → List ℕ → Lines
longer byte [] rest = record { ended = []; rest = byte ∷ rest }
longer byte (line ∷ lines) rest = record { ended = (byte ∷ line) ∷ lines; rest = rest }

abbrev pub lines_with : Bool → ℕ → Lines → Lines
lines_with true byte lines = record { ended = [] ∷ lines.ended; rest = lines.rest }
lines_with false byte lines = longer byte lines.ended lines.rest

abbrev pub lines_of : List ℕ → Lines
lines_of [] = record { ended = []; rest = [] }
lines_of (byte ∷ text) = lines_with (nat_eq byte 10) byte (lines_of text)
