use Rattle.std.proofs.Common.{◌≡◌, ◌++◌, drop, map}
use Rattle.cut_banks.specs.Pools.{cuts_of, cuts_read, numbers_read}
use Rattle.cut_banks.proofs.bank.Bank.read.Given as goal

abbrev pub invariant-loop-child : goal.invariant-loop-child
invariant-loop-child l = record {
  cuts : map cuts_of l.read.children.items ++ cuts_read l.self-inside.pools.items (drop l.child-index l.nodes) ≡ cuts_read l.self-inside.pools.items l.nodes;
  numbers : l.read.readings.items ++ numbers_read l.self-inside.pools.items (drop l.child-index l.nodes) ≡ numbers_read l.self-inside.pools.items l.nodes;
}
