-- Columns past the last one.
use Rattle.std.proofs.Common.{◌≡◌, ℕ, zero, suc, ◌≤◌, List, [], ◌∷◌, None, length, refl, arith}
use Rattle.scen_defs.specs.declared.program.Column.{Column}
use Rattle.scen_defs.specs.Program.{column_at}

-- such a column has no bounds
pub column_beyond : (columns : List Column) (i : ℕ) → length columns ≤ i → column_at columns i ≡ record { name = []; stage = 0; lower = None; upper = None }
column_beyond [] i h = refl
column_beyond (d ∷ columns) zero h = absurd (omega arith)
column_beyond (d ∷ columns) (suc i) h = column_beyond columns i (omega arith)
