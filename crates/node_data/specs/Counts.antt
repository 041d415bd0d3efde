-- How many edits touched the data of each node.
use Rattle.std.specs.Prelude.{ℕ, ◌+◌, ◌-◌, ◌^◌, min, length, List, ◌++◌, replicate, slice_index_or, slice_set}
use Rattle.node_data.specs.declared.versions.Version.{Version}

-- of what no edit has touched
abbrev pub untouched : Version
untouched = record { rows = 0; costs = 0 }

-- one edit more; the numbers have 32 bits, and the last one stays
abbrev pub raised : ℕ → ℕ
raised count = min (count + 1) (2 ^ 32 - 1)

-- the version of node n; past the last one that of what no edit has touched
abbrev pub version_of : List Version → ℕ → Version
version_of versions n = slice_index_or versions n untouched

-- at least so many nodes: no edit has touched the new ones
abbrev pub grown : ℕ → List Version → List Version
grown nodes versions = versions ++ replicate (nodes - length versions) untouched

-- an edit touches the rows, or the costs, of node n; past the last one nothing changes
abbrev pub with_rows : ℕ → List Version → List Version
with_rows n versions = let old : Version = version_of versions n in
    slice_set versions n (record { rows = raised old.rows; costs = old.costs })

abbrev pub with_costs : ℕ → List Version → List Version
with_costs n versions = let old : Version = version_of versions n in
    slice_set versions n (record { rows = old.rows; costs = raised old.costs })
