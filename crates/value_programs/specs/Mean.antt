-- The program of the means: one scenario, in which each cost, entry and finite end is the sum, over the live nodes of its stage in their
-- order, of total times value.
use Rattle.std.specs.Prelude.{ℕ, zero, suc, eqb, Bool, true, false, List, [], ◌∷◌, length, get_or, Option, Some, None, Result, Ok}
use Rattle.rationals.specs.Rational.{ℚ, zero_ℚ}
use Rattle.rationals.specs.Choices.{pick}
use Rattle.rationals.specs.Sparse.{Entry}
use Rattle.rationals.specs.Forms.{add_scaled_walk}
use Rattle.rationals.specs.Passes.{Operation, add_product_walk, then_walk, then_value}
use Rattle.scen_defs.specs.Ends.{number}
use Rattle.scen_defs.specs.Lists.{places}
use Rattle.scen_defs.specs.Program.{Node, Program, node_at}
use Rattle.scen_defs.specs.Valid.{has_low, has_high}
use Rattle.scen_defs.specs.declared.program.Row.{Row}
use Rattle.scen_defs.specs.declared.program.NodeRow.{NodeRow}
use Rattle.scen_tree.specs.Trees.{Tree}
use Rattle.edit_defs.specs.Shifts.{no_row}
use Rattle.value_programs.specs.Line.{in_line, stage_before}
use Rattle.value_programs.specs.declared.parts.NodeForm.{NodeForm}
use Rattle.value_programs.specs.declared.parts.NodeForm.TheVariants.{Cost, Entries}
use Rattle.value_programs.specs.declared.parts.RowEnd.{RowEnd}
use Rattle.value_programs.specs.declared.parts.RowEnd.TheVariants.{Low, High}

-- whether a live node of stage s stands there
abbrev pub is_of_stage : ℕ → Option Node → Bool
is_of_stage s None = false
is_of_stage s (Some node) = eqb node.stage s

-- the live nodes of a stage, rising
abbrev pub nodes_of_stage : List (Option Node) → ℕ → List ℕ
nodes_of_stage nodes s = places (is_of_stage s) 0 nodes

-- ---- what the nodes of a stage have: the costs, the entries of the k-th row, and its ends
abbrev pub node_form : NodeForm → Node → List Entry
node_form Cost n = n.cost
node_form (Entries k) n = (get_or n.rows k no_row).entries

abbrev pub row_end : RowEnd → ℕ → Node → Option ℚ
row_end Low k n = (get_or n.rows k no_row).low
row_end High k n = (get_or n.rows k no_row).high

-- ---- sums over nodes, each weighted by its total
-- the total of each node
abbrev pub weight_in : Tree → ℕ → ℚ
weight_in tree n = get_or tree.chances.totals n zero_ℚ

-- a step for each node, in their order
abbrev pub node_by_node : {X : Type 0} → (X → ℕ → Result X Operation) → X → List ℕ → Result X Operation
node_by_node step x [] = Ok x
node_by_node step x (n ∷ ns) = then_walk (step x n) (λ y. node_by_node step y ns)

-- forms, column by column
abbrev pub mean_form : (ℕ → ℚ) → (ℕ → List Entry) → List ℕ → Result (List Entry) Operation
mean_form weight form ns = node_by_node (λ sum n. add_scaled_walk sum (weight n) (form n)) [] ns

-- numbers
abbrev pub mean_number : (ℕ → ℚ) → (ℕ → ℚ) → List ℕ → Result ℚ Operation
mean_number weight value ns = node_by_node (λ sum n. add_product_walk sum (weight n) (value n)) zero_ℚ ns

-- an end, where the row has one
abbrev pub mean_end : Bool → Result ℚ Operation → Result (Option ℚ) Operation
mean_end false sum = Ok None
mean_end true sum = then_value Some sum

-- ---- the nodes; w is the total of each node
-- row i, which is the k-th of each node in ns: its low end, its high end and its entries
abbrev pub mean_row : List (Option Node) → (ℕ → ℚ) → List ℕ → ℕ → ℕ → Row → Result NodeRow Operation
mean_row nodes w ns i k row =
    then_walk (mean_end (has_low row.kind row.range) (mean_number w (λ n. number (row_end Low k (node_at nodes n))) ns)) (λ low.
    then_walk (mean_end (has_high row.kind row.range) (mean_number w (λ n. number (row_end High k (node_at nodes n))) ns)) (λ high.
    then_value (λ entries. record { row = i; entries = entries; low = low; high = high })
    (mean_form w (λ n. node_form (Entries k) (node_at nodes n)) ns)))

-- the rows of stage s among these, the first of which is row i, and the k-th of its stage if it is of it
abbrev pub mean_rows : List (Option Node) → (ℕ → ℚ) → List ℕ → ℕ → ℕ → ℕ → List Row → Result (List NodeRow) Operation
mean_rows nodes w ns s i k [] = Ok []
mean_rows nodes w ns s i k (row ∷ rows) = pick (eqb row.stage s)
    (then_walk (mean_row nodes w ns i k row) (λ r. then_value (λ rs. r ∷ rs) (mean_rows nodes w ns s (suc i) (suc k) rows)))
    (mean_rows nodes w ns s (suc i) k rows)

-- the node of stage s: its costs, then its rows
abbrev pub mean_node : Program → (ℕ → ℚ) → ℕ → Result Node Operation
mean_node p w s =
    then_walk (mean_form w (λ n. node_form Cost (node_at p.nodes n)) (nodes_of_stage p.nodes s)) (λ cost.
    then_walk (mean_rows p.nodes w (nodes_of_stage p.nodes s) s 0 0 p.rows) (λ rows.
    Ok (record { stage = s; parent = stage_before s; cost = cost; rows = rows })))

-- so many nodes, from stage s on
abbrev pub mean_nodes : Program → (ℕ → ℚ) → ℕ → ℕ → Result (List (Option Node)) Operation
mean_nodes p w s zero = Ok []
mean_nodes p w s (suc count) = then_walk (mean_node p w s) (λ n. then_value (λ ns. Some n ∷ ns) (mean_nodes p w (suc s) count))

-- the letters of MEAN
abbrev pub mean_name : List ℕ
mean_name = 77 ∷ 69 ∷ 65 ∷ 78 ∷ []

-- the program of the means, by the tree of the program; or the first operation that passes
abbrev pub mean_walk : Program → Tree → Result Program Operation
mean_walk p tree = then_value (in_line p mean_name) (mean_nodes p (weight_in tree) 0 (length p.periods))
