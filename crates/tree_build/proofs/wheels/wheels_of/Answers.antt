use Rattle.std.proofs.Common.{◌∙◌, ◌++◌, ap, sym, map, List}
use Rattle.stoch_defs.specs.Random.{block_content}
use Rattle.tree_build.specs.declared.wheels.Wheel.{Wheel}
use Rattle.tree_build.specs.Wheels.{wheels_at}
use Rattle.tree_build.proofs.RangeLemmas.{flat_push}
use Rattle.tree_build.proofs.wheels.wheels_of.Goals as goal

pub loop-stage-preserved : goal.loop-stage-preserved
loop-stage-preserved c =
    c.in_ok-add_wheels.ensures ∙ ap (λ (front : List Wheel). front ++ wheels_at c.loop-stage.stage 0 (map block_content c.args.blocks.now)) c.loop-stage.invariant
    ∙ sym (flat_push (λ stage. wheels_at stage 0 (map block_content c.args.blocks.now)) c.loop-stage.stage)
