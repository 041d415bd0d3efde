-- The row TAIL_R at a node of the last stage: TAIL_U and TAIL_H, less what the node's path costs, are at least 0.
use Rattle.std.specs.Prelude.{ℕ, zero, suc, ltb, List, [], ◌∷◌, ◌++◌, map, length, Option, Some, None}
use Rattle.rationals.specs.Rational.{zero_ℚ, one_ℚ, neg_ℚ}
use Rattle.rationals.specs.Choices.{pick}
use Rattle.rationals.specs.Sparse.{Entry}
use Rattle.scen_defs.specs.Program.{Node, Program, node_at, or_root}
use Rattle.scen_defs.specs.declared.program.NodeRow.{NodeRow}

-- ---- the entries of two forms, by column
-- an entry and what `rest` makes of the entries that are left, among the others by column
abbrev pub put_among : Entry → (List Entry → List Entry) → List Entry → List Entry
put_among e rest [] = e ∷ rest []
put_among e rest (d ∷ g) = pick (ltb e.column d.column) (e ∷ rest (d ∷ g)) (d ∷ put_among e rest g)

abbrev pub merged : List Entry → List Entry → List Entry
merged [] g = g
merged (e ∷ f) g = put_among e (merged f) g

-- ---- the costs along a path
-- a form, and the costs of so many nodes from n upwards
abbrev pub costs_up : List (Option Node) → List Entry → ℕ → ℕ → List Entry
costs_up nodes f zero n = f
costs_up nodes f (suc count) n = costs_up nodes (merged (node_at nodes n).cost f) count (or_root (node_at nodes n).parent)

-- from n up to the root
abbrev pub path_costs : List (Option Node) → ℕ → List Entry
path_costs nodes n = costs_up nodes [] (suc (node_at nodes n).stage) n

-- ---- the row
abbrev pub with_other_signs : List Entry → List Entry
with_other_signs f = map (λ (e : Entry). record { column = e.column; value = neg_ℚ e.value }) f

abbrev pub one_at : ℕ → Entry
one_at j = record { column = j; value = one_ℚ }

-- the columns that are added stand behind all others
abbrev pub h_column : Program → ℕ
h_column p = length p.columns

abbrev pub u_column : Program → ℕ
u_column p = suc (length p.columns)

abbrev pub tail_row : Program → ℕ → NodeRow
tail_row p n = record {
  row = length p.rows;
  entries = with_other_signs (path_costs p.nodes n) ++ one_at (h_column p) ∷ one_at (u_column p) ∷ [];
  low = Some zero_ℚ;
  high = None;
}
