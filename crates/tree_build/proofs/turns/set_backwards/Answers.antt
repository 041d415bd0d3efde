use Rattle.std.proofs.Common.{◌∙◌, ◌-◌, ap, arith}
use Rattle.time_defs.specs.Periods.{stages}
use Rattle.tree_build.specs.Values.{Values, values_content, with_set}
use Rattle.tree_build.proofs.TurnLemmas.{back_step}
use Rattle.tree_build.proofs.turns.set_backwards.Goals as goal

pub back-preserved : goal.back-preserved
back-preserved c =
    let core = c.args.core.now in
    let p = stages c.args.periods.now in
    let i = c.back.left - 1 in
    let pair = c.index-sets-left.result in
    record {
      within = omega (arith, c.back.invariant.within);
      done = c.in_ok-set.ensures ∙ ap (λ (d : Values). with_set core p c.args.stage d pair.0 pair.1) c.back.invariant.done
          ∙ back_step core p c.args.stage (values_content c.args.values.now) c.args.sets.now i c.back.left pair (omega (arith, c.back-test.true)) (omega (arith, c.back-test.true, c.back.invariant.within))
          c.index-sets-left.is c.requires;
    }
