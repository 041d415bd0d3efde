use Rattle.std.proofs.Common.{◌≡◌, length}
use Rattle.scen_defs.specs.Program.{content, view_of}
use Rattle.scen_model.specs.Walks.{costs_of}
use Rattle.scen_model.specs.Gathered.{lists_in, AllPriced}
use Rattle.scen_model.proofs.reduced.all_priced.Given as goal

abbrev pub invariant-loop-node : goal.invariant-loop-node
invariant-loop-node l =
    let p = content l.program in
    record {
      long : length l.numbers.items ≡ l.node;
      priced : AllPriced p (costs_of l.costs (view_of p)) l.totals (lists_in l.own) l.node (lists_in l.numbers.items);
    }
