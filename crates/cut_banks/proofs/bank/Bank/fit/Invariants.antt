use Rattle.std.proofs.Common.{◌≡◌, ◌≤◌, drop, length}
use Rattle.scen_defs.specs.Program.{nodes_content}
use Rattle.cut_banks.proofs.Fitting.{fit_from}
use Rattle.cut_banks.proofs.bank.Bank.fit.Given as goal

abbrev pub invariant-loop-index : goal.invariant-loop-index
invariant-loop-index l = record {
  fitted : fit_from l.index (nodes_content (drop l.index l.nodes)) l.self ≡ fit_from 0 (nodes_content l.nodes) l.initial.self;
  far : l.index ≤ length l.self;
}
