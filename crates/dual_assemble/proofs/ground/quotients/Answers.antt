use Rattle.std.proofs.Common.{ap, ◌∙◌}
use Rattle.rationals.specs.Passes.{div_walk}
use Rattle.scen_defs.specs.Values.{at}
use Rattle.dual_assemble.proofs.Quotients.{next_writable, next_kept}
use Rattle.dual_assemble.proofs.ground.quotients.Goals as goal

pub loop-row-preserved : goal.loop-row-preserved
loop-row-preserved c = record {
  below = next_writable c.args.rows.now c.loop-row.row-index c.row-item.result c.loop-row-test.true c.row-item.is c.in_ok-value.value c.loop-row.form c.push_nonzero.new.form c.requires c.loop-row.invariant.below c.in_ok-push_nonzero.ensures;
  kept = next_kept c.args.rows.now c.loop-row.row-index c.row-item.result c.loop-row-test.true c.row-item.is c.args.total (at c.args.dual.now c.args.node) c.in_ok-value.value c.loop-row.form c.push_nonzero.new.form _ c.in_ok-push_nonzero.ensures (c.in_ok-value.ensures ∙ ap (λ q. div_walk q c.args.total) c.get.ensures) c.loop-row.invariant.kept;
}
