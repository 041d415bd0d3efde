use Rattle.std.proofs.Common.{eqb, sym, ap, ◌∙◌}
use Rattle.scen_defs.specs.declared.program.Column.{Column}
use Rattle.scen_defs.proofs.NodeReads.{passes_read, passes_past}
use Rattle.scen_nodes.proofs.fitting.is_column_of.Goals as goal

pub returns-then-place-columns : goal.returns-then-place-columns
returns-then-place-columns c =
    ap (λ (r : Column). eqb r.stage c.args.stage) (sym c.index-columns-place.is)
    ∙ sym (passes_read (λ (r : Column). eqb r.stage c.args.stage) c.args.columns.now c.args.column c.index-columns-place.result c.if-place-columns.true c.index-columns-place.is)

pub returns-else-place-columns : goal.returns-else-place-columns
returns-else-place-columns c = sym (passes_past (λ (r : Column). eqb r.stage c.args.stage) c.args.columns.now c.args.column c.if-place-columns.false)
