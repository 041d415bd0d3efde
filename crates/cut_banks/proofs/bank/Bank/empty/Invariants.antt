use Rattle.std.proofs.Common.{◌≡◌, ◌-◌, ◌++◌, length}
use Rattle.cut_banks.specs.Pools.{all_empty}
use Rattle.cut_banks.proofs.bank.Bank.empty.Given as goal

abbrev pub invariant-loop-node : goal.invariant-loop-node
invariant-loop-node l = record {
  rest : l.bank ++ all_empty l.node (l.nodes - l.node) ≡ all_empty 0 l.nodes;
  next : l.node ≡ length l.bank;
}
