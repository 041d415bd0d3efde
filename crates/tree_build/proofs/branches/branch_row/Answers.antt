use Rattle.std.proofs.Common.{◌∙◌, ◌++◌, ◌∷◌, [], ap₂, sym, List, ℕ}
use Rattle.stoch_defs.specs.Random.{branch_content}
use Rattle.tree_build.specs.Numbering.{rows_content}
use Rattle.tree_build.specs.Branches.{branch_key}
use Rattle.tree_build.proofs.RangeLemmas.{range_push}
use Rattle.tree_build.proofs.branches.branch_row.Goals as goal

pub loop-stage-preserved : goal.loop-stage-preserved
loop-stage-preserved c =
    c.in_ok-push.ensures.items ∙ ap₂ (λ (front : List ℕ) (x : ℕ). front ++ x ∷ []) c.loop-stage.invariant c.branch_key.ensures
    ∙ sym (range_push (branch_key (rows_content c.args.rows.now) (branch_content c.args.branch.now) c.args.own) c.loop-stage.stage)
