use Rattle.std.proofs.Common.{eqb, sym, ap, ◌∙◌}
use Rattle.scen_defs.specs.declared.program.Row.{Row}
use Rattle.scen_defs.proofs.NodeReads.{passes_read, passes_past}
use Rattle.scen_nodes.proofs.fitting.is_row_of.Goals as goal

pub returns-then-place-rows : goal.returns-then-place-rows
returns-then-place-rows c =
    ap (λ (r : Row). eqb r.stage c.args.stage) (sym c.index-rows-place.is)
    ∙ sym (passes_read (λ (r : Row). eqb r.stage c.args.stage) c.args.rows.now c.args.row c.index-rows-place.result c.if-place-rows.true c.index-rows-place.is)

pub returns-else-place-rows : goal.returns-else-place-rows
returns-else-place-rows c = sym (passes_past (λ (r : Row). eqb r.stage c.args.stage) c.args.rows.now c.args.row c.if-place-rows.false)
