-- How large a program is as one program of all its nodes.
use Rattle.std.specs.Prelude.{ℕ, Bool, ◌||◌, length, nat_lt}
use Rattle.std.specs.List.{sum_by}
use Rattle.scen_defs.specs.Program.{View}
use Rattle.edit_defs.specs.Limits.{row_entries}
use Rattle.flat_write.specs.declared.limits.FlatLimits.{FlatLimits}

-- each row stands at each live node of its stage, and so does each column; each entry of a row is one
abbrev pub flat_rows : View → ℕ → ℕ
flat_rows v n = length (v.rows n)

abbrev pub flat_columns : View → ℕ → ℕ
flat_columns v n = length (v.columns (v.stage n))

abbrev pub flat_entries : View → ℕ → ℕ
flat_entries v n = sum_by row_entries (v.rows n)

-- more rows, columns or entries than there may be
abbrev pub is_beyond : FlatLimits → View → Bool
is_beyond limits v = nat_lt limits.rows (sum_by (flat_rows v) v.live) || (nat_lt limits.columns (sum_by (flat_columns v) v.live)
    || nat_lt limits.entries (sum_by (flat_entries v) v.live))
