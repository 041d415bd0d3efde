-- A program of the code, as its lists, and what the lists of a program are.
use Rattle.scen_defs.specs.declared.program.Program.{Program as ProgramOf}
pub use Rattle.scen_defs.specs.Trees.{Node, Scenario, Program, node_content, place_content, nodes_content}
pub use Rattle.scen_defs.specs.Trees.{scenario_content, scenarios_content, View, is_live, no_node, node_at}
pub use Rattle.scen_defs.specs.Trees.{column_at, or_root, view_of, IsLive, IsColumn, HasPlace, IsEntry, IsRow}
pub use Rattle.scen_defs.specs.Trees.{IsNode, IsPath, IsColumnOf, total, IsTree}

-- a program of the code, as its lists
abbrev pub content : ProgramOf → Program
content p = record {
  objective = p.objective;
  rhs = p.rhs;
  periods = p.periods.items;
  columns = p.columns.items;
  rows = p.rows.items;
  nodes = nodes_content p.nodes.items;
  scenarios = scenarios_content p.scenarios.items;
}
