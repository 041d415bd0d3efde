-- The names of the two columns and of the row, and whether a program has one of them already.
use Rattle.std.specs.Prelude.{ℕ, Bool, false, ◌||◌, List, [], ◌∷◌}
use Rattle.smps_words.specs.Names.{same_name}
use Rattle.scen_defs.specs.Program.{Program}
use Rattle.scen_defs.specs.Names.{column_names, row_names}

-- the letters of TAIL_H
abbrev pub h_name : List ℕ
h_name = 84 ∷ 65 ∷ 73 ∷ 76 ∷ 95 ∷ 72 ∷ []

-- of TAIL_U
abbrev pub u_name : List ℕ
u_name = 84 ∷ 65 ∷ 73 ∷ 76 ∷ 95 ∷ 85 ∷ []

-- and of TAIL_R
abbrev pub r_name : List ℕ
r_name = 84 ∷ 65 ∷ 73 ∷ 76 ∷ 95 ∷ 82 ∷ []

-- whether one of them is that name
abbrev pub has_name : List ℕ → List (List ℕ) → Bool
has_name name [] = false
has_name name (other ∷ names) = same_name other name || has_name name names

-- a column is named TAIL_H or TAIL_U, or a row TAIL_R
abbrev pub has_tail_names : Program → Bool
has_tail_names p =
    has_name h_name (column_names p.columns) || (has_name u_name (column_names p.columns) || has_name r_name (row_names p.rows))
