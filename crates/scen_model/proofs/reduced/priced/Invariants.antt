use Rattle.std.proofs.Common.{◌≡◌, length}
use Rattle.scen_defs.specs.Program.{content, view_of}
use Rattle.scen_model.specs.Walks.{costs_of}
use Rattle.scen_model.specs.Gathered.{ArePriced}
use Rattle.scen_model.proofs.reduced.priced.Given as goal

abbrev pub invariant-loop-column : goal.invariant-loop-column
invariant-loop-column l = record {
  long : length l.numbers.items ≡ l.column-index;
  priced : ArePriced l.total (costs_of l.costs (view_of (content l.program)) l.node) l.own l.numbers.items;
}
