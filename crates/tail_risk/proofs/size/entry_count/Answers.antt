use Rattle.std.proofs.Common.{◌+◌, ◌-◌, ◌∙◌, ℕ, ap, length, arith}
use Rattle.scen_defs.specs.Program.{content}
use Rattle.scen_defs.proofs.Contents.{nodes_length}
use Rattle.edit_defs.specs.Limits.{counts}
use Rattle.tail_risk.specs.TailProgram.{tail_nodes}
use Rattle.tail_risk.specs.declared.rates.Rates.{Rates}
use Rattle.tail_risk.proofs.Steps.{entries_first, entries_more}
use Rattle.tail_risk.proofs.size.entry_count.Goals as goal

pub loop-number-init : goal.loop-number-init
loop-number-init c = λ (rates : Rates). entries_first (content c.args.program.now) rates (length c.args.program.now.nodes.items) (nodes_length c.args.program.now.nodes.items)

pub loop-number-preserved : goal.loop-number-preserved
loop-number-preserved c = λ (rates : Rates).
    let count : ℕ = length c.args.program.now.nodes.items in
    ap (λ (n : ℕ). n + (counts (tail_nodes (content c.args.program.now) rates (c.loop-number.number + 1) (count - (c.loop-number.number + 1)))).entries) c.in_ok-count.ensures
    ∙ entries_more (content c.args.program.now) rates count c.loop-number.number c.in_ok-place_count.field-0 _ (omega (arith, c.loop-number-test.true, c.len-number-end.ensures))
    (c.in_ok-place_count.ensures rates) c.loop-number.count (c.loop-number.invariant rates)
