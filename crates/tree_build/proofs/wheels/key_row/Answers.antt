use Rattle.std.proofs.Common.{◌∙◌, ◌++◌, ◌∷◌, [], ap₂, sym, List, ℕ}
use Rattle.tree_build.specs.Wheels.{key_to}
use Rattle.tree_build.proofs.RangeLemmas.{range_push}
use Rattle.tree_build.proofs.wheels.key_row.Goals as goal

pub loop-stage-preserved : goal.loop-stage-preserved
loop-stage-preserved c =
    c.in_ok-push.ensures.items ∙ ap₂ (λ (front : List ℕ) (x : ℕ). front ++ x ∷ []) c.loop-stage.invariant c.key_to.ensures
    ∙ sym (range_push (λ stage. key_to stage c.args.wheels.now c.args.digits.now 0) c.loop-stage.stage)
