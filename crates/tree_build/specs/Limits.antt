-- How much a program may have over all its nodes.
use Rattle.std.specs.Prelude.{◌≡◌, ℕ, ◌<◌, ◌≤◌, ◌+◌, Bool, ◌||◌, ◌⊎◌, List, length, sum_by, nat_lt}
use Rattle.build_defs.specs.Built.{most_node_parts}
use Rattle.tree_build.specs.declared.parts.RowValues.{RowValues}
use Rattle.tree_build.specs.declared.limits.Counts.{Counts}
use Rattle.tree_build.specs.Values.{Values}

-- the entries of a row
abbrev pub entry_count : RowValues → ℕ
entry_count r = length r.entries

-- the entries, the rows and the costs of a node
abbrev pub entries_in : Values → ℕ
entries_in d = sum_by entry_count d.rows

abbrev pub rows_in : Values → ℕ
rows_in d = length d.rows

abbrev pub costs_in : Values → ℕ
costs_in d = length d.cost

pub record IsSum (sum count : ℕ) : Type 0 where
  pub same : count ≡ sum
  pub small : count ≤ most_node_parts

pub record AreSmall (counts : Counts) : Type 0 where
  pub entries : counts.entries ≤ most_node_parts
  pub rows : counts.rows ≤ most_node_parts
  pub costs : counts.costs ≤ most_node_parts

abbrev pub counts_with : Counts → Values → Counts
counts_with counts d = record { entries = counts.entries + entries_in d; rows = counts.rows + rows_in d; costs = counts.costs + costs_in d }

-- one of the counts is too much with those of one more node
abbrev pub IsOverWith : Counts → Values → Type 0
IsOverWith counts d = (most_node_parts < counts.entries + entries_in d)
    ⊎ ((most_node_parts < counts.rows + rows_in d) ⊎ (most_node_parts < counts.costs + costs_in d))

-- there are more entries, rows or costs over all nodes than there may be
abbrev pub are_over : List Values → Bool
are_over all = nat_lt most_node_parts (sum_by entries_in all) || (nat_lt most_node_parts (sum_by rows_in all)
    || nat_lt most_node_parts (sum_by costs_in all))
