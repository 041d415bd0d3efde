-- How far an edit of a right-hand side moves a row's interval.
use Rattle.std.specs.Prelude.{◌≡◌, ℕ, zero, suc, eqb, List, [], ◌∷◌, Option, Some, None}
use Rattle.rationals.specs.Rational.{ℚ, zero_ℚ, ◌-ℚ◌}
use Rattle.rationals.specs.Choices.{pick}
use Rattle.smps_words.specs.declared.entry.Entry.TheVariants.{Rhs}
use Rattle.scen_defs.specs.Lists.{Each}
use Rattle.scen_defs.specs.Ends.{number}
use Rattle.scen_defs.specs.declared.report.Kind.{Kind}
use Rattle.scen_defs.specs.declared.report.Kind.TheVariants.{Feasible, Recession, Cost}
use Rattle.scen_defs.specs.declared.program.NodeRow.{NodeRow}
use Rattle.scen_defs.specs.Program.{Program, node_at}
use Rattle.scen_defs.specs.Valid.{Lives, row_at}
use Rattle.cut_defs.specs.declared.versions.Shift.{Shift}
use Rattle.edit_defs.specs.declared.edit.Edit.{Edit}
use Rattle.smps_build.specs.Ends.{Interval}
use Rattle.edit_defs.specs.Intervals.{HasWidth, right_side}
use Rattle.edit_defs.specs.After.{home_of, after_edits}
use Rattle.edit_defs.specs.Touches.{touches_rows}
use Rattle.edit_defs.specs.Data.{version}

abbrev pub no_row : NodeRow
no_row = record { row = 0; entries = []; low = None; high = None }

-- row i of a node's rows
abbrev pub find_row : ℕ → List NodeRow → NodeRow
find_row i [] = no_row
find_row i (r ∷ rs) = pick (eqb r.row i) r (find_row i rs)

-- the end by which a move is measured: the low one where it is finite, else the high one
abbrev pub side : Option ℚ → Option ℚ → ℚ
side (Some low) high = low
side None high = number high

-- before and after the right-hand side of row i is set to v in the scenario's node
abbrev pub old_side : Program → List ℕ → ℕ → ℚ
old_side p name i = let r : NodeRow = find_row i (node_at p.nodes (home_of p name (Rhs i))).rows in side r.low r.high

abbrev pub new_side : Program → ℕ → ℚ → ℚ
new_side p i v = let ends : Interval = right_side (row_at p.rows i) v in side ends.0 ends.1

abbrev pub move : Program → List ℕ → ℕ → ℚ → ℚ
move p name i v = new_side p i v -ℚ old_side p name i

-- where all finite ends are 0 nothing moves
abbrev pub move_in : Kind → ℚ → ℚ
move_in Feasible by = by
move_in Recession by = zero_ℚ
move_in Cost by = by

-- every row with two finite ends has the width of its range
abbrev pub HasWidths : Program → Type 0
HasWidths p = (n : ℕ) → Lives p n → Each (λ (r : NodeRow). HasWidth (row_at p.rows r.row) r) (node_at p.nodes n).rows

-- e is the edit behind the first k
abbrev pub IsEditAt : ℕ → List Edit → Edit → Type 0
IsEditAt k [] e = ⊥
IsEditAt zero (f ∷ es) e = f ≡ e
IsEditAt (suc k) (f ∷ es) e = IsEditAt k es e

-- the shift that this edit is, a SET of the right-hand side of row i to v
abbrev pub shift_at : Kind → ℕ → Program → List Edit → List ℕ → ℕ → ℚ → Shift
shift_at kind k p es name i v = record {
  node = home_of (after_edits k p es) name (Rhs i);
  row = i;
  by = move_in kind (move (after_edits k p es) name i v);
  version = suc (version touches_rows k p es (home_of (after_edits k p es) name (Rhs i)));
}
