-- What is required of the periods and the cases is what the law asks.
use Rattle.std.proofs.Common.{◌∙◌, ap, sym, subst, map, List}
use Rattle.stoch_defs.specs.declared.stoch.Block.{Block}
use Rattle.stoch_defs.specs.declared.stoch.Branch.{Branch}
use Rattle.stoch_defs.specs.Random.{block_content, branch_content, stoch_content}
use Rattle.stoch_defs.specs.Random.Random.{Blocks, Branches}
use Rattle.time_defs.specs.Periods.{stages}
use Rattle.tree_build.specs.Law.{AreCases}
use Rattle.tree_build.proofs.Programs.{built_are_programs}
use Rattle.tree_build.proofs.program.build.Goals as goal

pub build_blocks-requires-clause-keeps : goal.build_blocks-requires-clause-keeps
build_blocks-requires-clause-keeps c over program e =
    built_are_programs c.args.core.now (stages c.args.periods.now) (Blocks (map block_content c.deref.result.now)) program c.requires.staged c.requires.periods c.requires.names
    (subst (AreCases (stages c.args.periods.now)) (ap stoch_content c.in-Blocks.is ∙ ap (λ (bs : List Block). Blocks (map block_content bs)) (sym c.deref.ensures.value)) c.requires.cases) over e

pub build_branches-requires-clause-keeps : goal.build_branches-requires-clause-keeps
build_branches-requires-clause-keeps c over program e =
    built_are_programs c.args.core.now (stages c.args.periods.now) (Branches (map branch_content c.deref-in-Scenarios.result.now)) program c.requires.staged c.requires.periods c.requires.names
    (subst (AreCases (stages c.args.periods.now)) (ap stoch_content c.in-Scenarios.is ∙ ap (λ (bs : List Branch). Branches (map branch_content bs)) (sym c.deref-in-Scenarios.ensures.value)) c.requires.cases) over e
