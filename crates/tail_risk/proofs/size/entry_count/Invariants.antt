use Rattle.std.proofs.Common.{◌≡◌, ◌+◌, ◌-◌, length}
use Rattle.scen_defs.specs.Program.{content}
use Rattle.edit_defs.specs.Limits.{counts}
use Rattle.tail_risk.specs.TailProgram.{tail_entries, tail_nodes}
use Rattle.tail_risk.specs.declared.rates.Rates.{Rates}
use Rattle.tail_risk.proofs.size.entry_count.Given as goal

abbrev pub invariant-loop-number : goal.invariant-loop-number
invariant-loop-number l = (rates : Rates) → l.count + (counts (tail_nodes (content l.program) rates l.number (length l.program.nodes.items - l.number))).entries ≡ tail_entries (content l.program) rates
