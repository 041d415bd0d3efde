use Rattle.std.proofs.Common.{drop, map}
use Rattle.stoch_defs.specs.Random.{block_content}
use Rattle.tree_build.specs.Least.{BlocksTakeNone}
use Rattle.tree_build.proofs.least.blocks_take_none.Given as goal

abbrev pub invariant-loop-block : goal.invariant-loop-block
invariant-loop-block l = BlocksTakeNone (map block_content (drop l.block-index l.blocks)) → BlocksTakeNone (map block_content l.blocks)
