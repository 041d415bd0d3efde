-- Lines of small files with their faults.
use Rattle.std.proofs.Common.{◌≡◌, ℕ, Bool, true, false, List, [], ◌∷◌, Some, None, refl}
use Rattle.std.specs.Prelude.{codes}
use Rattle.smps_words.specs.Line.{TextLine}
use Rattle.refusals.specs.declared.cause.Cause.TheVariants as cause
use Rattle.core_defs.specs.Fault.{fault}

abbrev line : Bool → List (List ℕ) → TextLine
line header fields = record { number = 0; header = header; fields = fields }

-- a word that begins no section
unknown_section : fault ([]) (line true (codes "SOUP" ∷ [])) ≡ Some cause.SectionUnknown
unknown_section = refl

-- COLUMNS without an N row before it
no_objective : fault (line true (codes "ROWS" ∷ []) ∷ []) (line true (codes "COLUMNS" ∷ [])) ≡ Some cause.NoObjective
no_objective = refl

-- a skipped row twice in a column, though its values are 0
skipped_twice : fault (line true (codes "ROWS" ∷ []) ∷ line false (codes "N" ∷ codes "C" ∷ []) ∷ line false (codes "L" ∷ codes "R" ∷ []) ∷ line false (codes "G" ∷ codes "S" ∷ []) ∷ line false (codes "N" ∷ codes "D" ∷ []) ∷ line true (codes "COLUMNS" ∷ []) ∷ line false (codes "X" ∷ codes "D" ∷ codes "0" ∷ []) ∷ []) (line false (codes "X" ∷ codes "D" ∷ codes "1" ∷ [])) ≡ Some cause.EntryTwice
skipped_twice = refl

-- a MARKER line that would also split a column
marker : fault (line true (codes "ROWS" ∷ []) ∷ line false (codes "N" ∷ codes "C" ∷ []) ∷ line false (codes "L" ∷ codes "R" ∷ []) ∷ line false (codes "G" ∷ codes "S" ∷ []) ∷ line false (codes "N" ∷ codes "D" ∷ []) ∷ line true (codes "COLUMNS" ∷ []) ∷ line false (codes "X" ∷ codes "C" ∷ codes "1" ∷ []) ∷ line false (codes "Y" ∷ codes "C" ∷ codes "1" ∷ []) ∷ []) (line false (codes "X" ∷ codes "'MARKER'" ∷ codes "'INTORG'" ∷ [])) ≡ Some cause.IntegerMarker
marker = refl

-- a line of another set is checked no further
other_set : fault (line true (codes "ROWS" ∷ []) ∷ line false (codes "N" ∷ codes "C" ∷ []) ∷ line false (codes "L" ∷ codes "R" ∷ []) ∷ line false (codes "G" ∷ codes "S" ∷ []) ∷ line false (codes "N" ∷ codes "D" ∷ []) ∷ line true (codes "COLUMNS" ∷ []) ∷ line false (codes "X" ∷ codes "C" ∷ codes "1" ∷ codes "R" ∷ codes "2" ∷ []) ∷ line false (codes "Y" ∷ codes "R" ∷ codes "1" ∷ []) ∷ line true (codes "RHS" ∷ []) ∷ line false (codes "B" ∷ codes "R" ∷ codes "4" ∷ []) ∷ []) (line false (codes "Z" ∷ codes "Q" ∷ codes "x" ∷ [])) ≡ None
other_set = refl

-- a range on the objective that is no number
free_range : fault (line true (codes "ROWS" ∷ []) ∷ line false (codes "N" ∷ codes "C" ∷ []) ∷ line false (codes "L" ∷ codes "R" ∷ []) ∷ line false (codes "G" ∷ codes "S" ∷ []) ∷ line false (codes "N" ∷ codes "D" ∷ []) ∷ line true (codes "COLUMNS" ∷ []) ∷ line false (codes "X" ∷ codes "C" ∷ codes "1" ∷ codes "R" ∷ codes "2" ∷ []) ∷ line false (codes "Y" ∷ codes "R" ∷ codes "1" ∷ []) ∷ line true (codes "RANGES" ∷ []) ∷ []) (line false (codes "B" ∷ codes "C" ∷ codes "x" ∷ [])) ≡ Some cause.RangeOnFree
free_range = refl

-- an unknown kind of bound with too few fields
bound_kind : fault (line true (codes "ROWS" ∷ []) ∷ line false (codes "N" ∷ codes "C" ∷ []) ∷ line false (codes "L" ∷ codes "R" ∷ []) ∷ line false (codes "G" ∷ codes "S" ∷ []) ∷ line false (codes "N" ∷ codes "D" ∷ []) ∷ line true (codes "COLUMNS" ∷ []) ∷ line false (codes "X" ∷ codes "C" ∷ codes "1" ∷ codes "R" ∷ codes "2" ∷ []) ∷ line false (codes "Y" ∷ codes "R" ∷ codes "1" ∷ []) ∷ line true (codes "BOUNDS" ∷ []) ∷ []) (line false (codes "BV" ∷ [])) ≡ Some cause.BoundKind
bound_kind = refl

-- a bound of another set
other_bounds : fault (line true (codes "ROWS" ∷ []) ∷ line false (codes "N" ∷ codes "C" ∷ []) ∷ line false (codes "L" ∷ codes "R" ∷ []) ∷ line false (codes "G" ∷ codes "S" ∷ []) ∷ line false (codes "N" ∷ codes "D" ∷ []) ∷ line true (codes "COLUMNS" ∷ []) ∷ line false (codes "X" ∷ codes "C" ∷ codes "1" ∷ codes "R" ∷ codes "2" ∷ []) ∷ line false (codes "Y" ∷ codes "R" ∷ codes "1" ∷ []) ∷ line true (codes "BOUNDS" ∷ []) ∷ line false (codes "FR" ∷ codes "X" ∷ []) ∷ []) (line false (codes "UP" ∷ codes "B" ∷ codes "Q" ∷ codes "x" ∷ [])) ≡ None
other_bounds = refl
