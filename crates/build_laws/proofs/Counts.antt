-- How much the nodes that are meant have.
use Rattle.std.proofs.Common.{◌≡◌, ◌∙◌, ap, ap₂, Bool, ◌||◌, List, map, length, nat_lt, sum_by}
use Rattle.std.proofs.lemmas.List.{length-map}
use Rattle.core_defs.specs.declared.program.Core.{Core}
use Rattle.time_defs.specs.Means.{Stages}
use Rattle.build_defs.specs.Nodes.{Stand, entries_at, rows_at}
use Rattle.build_defs.specs.Built.{most_node_parts, count_entries, count_rows, count_costs}
use Rattle.tree_build.specs.Values.{row_values}
use Rattle.tree_build.specs.Limits.{entry_count, entries_in, rows_in, costs_in, are_over}
use Rattle.build_laws.proofs.Tables.{sum_map, sum_same}
use Rattle.build_laws.proofs.BlockValues.{meant_values}

entries_are : (core : Core) (p : Stages) (firsts : List Stand) → sum_by entries_in (map (meant_values core p) firsts) ≡ count_entries core p firsts
entries_are core p firsts =
    sum_map entries_in (meant_values core p) firsts
    ∙ sum_same (λ first. entries_in (meant_values core p first)) (λ first. sum_by (λ i. length (entries_at core first.scenario.sets i)) (rows_at first.stage p.rows)) firsts
    (λ first. sum_map entry_count (row_values core first.scenario.sets) (rows_at first.stage p.rows))

rows_are : (core : Core) (p : Stages) (firsts : List Stand) → sum_by rows_in (map (meant_values core p) firsts) ≡ count_rows p firsts
rows_are core p firsts =
    sum_map rows_in (meant_values core p) firsts
    ∙ sum_same (λ first. rows_in (meant_values core p first)) (λ first. length (rows_at first.stage p.rows)) firsts
    (λ first. length-map (rows_at first.stage p.rows) (row_values core first.scenario.sets))

costs_are : (core : Core) (p : Stages) (firsts : List Stand) → sum_by costs_in (map (meant_values core p) firsts) ≡ count_costs core p firsts
costs_are core p firsts = sum_map costs_in (meant_values core p) firsts

pub over_is : (core : Core) (p : Stages) (firsts : List Stand) → are_over (map (meant_values core p) firsts)
    ≡ (nat_lt most_node_parts (count_entries core p firsts) || (nat_lt most_node_parts (count_rows p firsts) || nat_lt most_node_parts (count_costs core p firsts)))
over_is core p firsts =
    ap₂ (λ (a b : Bool). a || b) (ap (nat_lt most_node_parts) (entries_are core p firsts))
    (ap₂ (λ (a b : Bool). a || b) (ap (nat_lt most_node_parts) (rows_are core p firsts)) (ap (nat_lt most_node_parts) (costs_are core p firsts)))
