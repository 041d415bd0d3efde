-- Of cores of the same parts the same is built.
use Rattle.std.proofs.Common.{◌≡◌, ℕ, true, List, [], ◌∷◌, ◌++◌, Option, Some, Ok, refl, length, get_or, map, ◌||◌}
use Rattle.std.specs.Prelude.{nat_eq, nat_lt, sum_by}
use Rattle.rationals.specs.Passes.{then_walk}
use Rattle.smps_words.specs.declared.entry.Entry.{Entry}
use Rattle.smps_words.specs.declared.entry.Entry.TheVariants.{Cost, Matrix, Rhs}
use Rattle.core_defs.specs.declared.parts.ColumnDef.{ColumnDef}
use Rattle.core_defs.specs.declared.program.Core.{Core}
use Rattle.core_defs.specs.Laws.{AreSame}
use Rattle.time_defs.specs.Means.{Stages}
use Rattle.stoch_defs.specs.Entries.{no_row}
use Rattle.stoch_defs.specs.Random.{Sets, Random}
use Rattle.scen_defs.specs.Program.{Node, Scenario as Path}
use Rattle.scen_defs.specs.declared.program.NodeRow.{NodeRow}
use Rattle.smps_build.specs.Ends.{Interval, interval_walk}
use Rattle.scen_tree.specs.Chances.{chances_walk}
use Rattle.build_defs.specs.Scenarios.{Scenario, scenarios_of}
use Rattle.build_defs.specs.Nodes.{Stand, nodes_of, parent_of, last_value, value_in, form_at, costs_at, entries_at, rows_at}
use Rattle.build_defs.specs.Built.{paths_from, position_of, node_row, row_interval, node_rows, node_at, nodes_from, columns_from, rows_from}
use Rattle.build_defs.specs.Built.{program_of, built_from, built, most_scenarios, most_nodes, most_node_parts, count_entries, count_rows}
use Rattle.build_defs.specs.Built.{count_costs, exceeds_at, exceeds}
use Rattle.meaning_laws.proofs.Entries.{value_same}

module _ (c d : Core) (same : AreSame c d) where
  value_in_same : (sets : Sets) (entry : Entry) → value_in c sets entry ≡ value_in d sets entry
  value_in_same sets entry = λ i. last_value entry (value_same c d same entry i) sets

  entries_same : (sets : Sets) (n : ℕ) → entries_at c sets n ≡ entries_at d sets n
  entries_same sets n = λ i. form_at (λ (column : ColumnDef). true) (λ j. value_in_same sets (Matrix n j) i) 0 (same.columns i)

  costs_same : (sets : Sets) (stage : ℕ) (stages : List ℕ) → costs_at c sets stage stages ≡ costs_at d sets stage stages
  costs_same sets stage stages = λ i. form_at (λ at. nat_eq at stage) (λ j. value_in_same sets (Cost j) i) 0 stages

  -- ---- nodes

  node_row_same : (sets : Sets) (n : ℕ) (ends : Interval) → node_row c sets n ends ≡ node_row d sets n ends
  node_row_same sets n ends = λ i. record { row = n; entries = entries_same sets n i; low = ends.0; high = ends.1 }

  interval_same : (sets : Sets) (n : ℕ) → row_interval c sets n ≡ row_interval d sets n
  interval_same sets n = λ i.
      interval_walk (get_or (same.rows i) n no_row).kind (value_in_same sets (Rhs n) i) (get_or (same.rows i) n no_row).range

  node_rows_same : (sets : Sets) (built : List NodeRow) (rows : List ℕ) → node_rows c sets built rows ≡ node_rows d sets built rows
  node_rows_same sets built [] = refl
  node_rows_same sets built (n ∷ rows) = λ i. then_walk (interval_same sets n i)
      (λ ends. node_rows_same sets (built ++ node_row_same sets n ends i ∷ []) rows i)

  module _ (p : Stages) where
    node_same : (firsts : List Stand) (first : Stand) (rows : List NodeRow) → node_at c p firsts first rows ≡ node_at d p firsts first rows
    node_same firsts first rows = λ i. record {
      stage = first.stage;
      parent = parent_of firsts first;
      cost = costs_same first.scenario.sets first.stage p.columns i;
      rows = rows;
    }

    nodes_same : (all : List Stand) (built : List (Option Node)) (firsts : List Stand) → nodes_from c p all built firsts ≡ nodes_from d p all built firsts
    nodes_same all built [] = refl
    nodes_same all built (first ∷ firsts) = λ i. then_walk (node_rows_same first.scenario.sets [] (rows_at first.stage p.rows) i)
        (λ rows. nodes_same all (built ++ Some (node_same all first rows i) ∷ []) firsts i)

    -- ---- the program

    program_same : (nodes : List (Option Node)) (paths : List Path) → program_of c p nodes paths ≡ program_of d p nodes paths
    program_same nodes paths = λ i. record {
      objective = same.objective i;
      rhs = same.rhs_set i;
      periods = p.names;
      columns = columns_from p 0 (same.columns i);
      rows = rows_from p 0 (same.rows i);
      nodes = nodes;
      scenarios = paths;
    }

    built_from_same : (scenarios : List Scenario) (firsts : List Stand) → built_from c p scenarios firsts ≡ built_from d p scenarios firsts
    built_from_same scenarios firsts = λ i.
        then_walk (paths_from (length p.names) firsts [] scenarios) (λ paths.
        then_walk (chances_walk (map (position_of firsts) firsts) paths) (λ chances.
        then_walk (nodes_same firsts [] firsts i) (λ nodes. Ok (program_same nodes paths i))))

    pub built_same : (random : Random) → built c p random ≡ built d p random
    built_same random = built_from_same (scenarios_of p random) (nodes_of (length p.names) (scenarios_of p random))

    -- ---- limits

    entry_count_same : (firsts : List Stand) → count_entries c p firsts ≡ count_entries d p firsts
    entry_count_same firsts = λ i. sum_by (λ (first : Stand). sum_by (λ n. length (entries_same first.scenario.sets n i))
        (rows_at first.stage p.rows)) firsts

    cost_count_same : (firsts : List Stand) → count_costs c p firsts ≡ count_costs d p firsts
    cost_count_same firsts = λ i. sum_by (λ (first : Stand). length (costs_same first.scenario.sets first.stage p.columns i)) firsts

    exceeds_at_same : (firsts : List Stand) → exceeds_at c p firsts ≡ exceeds_at d p firsts
    exceeds_at_same firsts = λ i. nat_lt most_nodes (length firsts)
        || (nat_lt most_node_parts (entry_count_same firsts i) || (nat_lt most_node_parts (count_rows p firsts)
        || nat_lt most_node_parts (cost_count_same firsts i)))

    pub exceeds_same : (random : Random) → exceeds c p random ≡ exceeds d p random
    exceeds_same random = λ i. nat_lt most_scenarios (length (scenarios_of p random))
        || exceeds_at_same (nodes_of (length p.names) (scenarios_of p random)) i
