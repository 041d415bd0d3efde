use Rattle.std.proofs.Common.{sym, arith, rules}
use Rattle.node_data.specs.Frames.{stage_lists}
use Rattle.node_data.proofs.FrameLemmas.{stage_at, stage_past, stages_length}
use Rattle.node_data.proofs.frame.add_column.Goals as goal

pub returns-in_ok-push : goal.returns-in_ok-push
returns-in_ok-push c =
    stage_at c.args.number c.args.column.now c.args.column.now.stage 0 c.args.all.now.items c.index_mut.result.now _ (omega arith) (omega arith) (search rules) c.in_ok-push.ensures.items

pub returns-else-stage-len : goal.returns-else-stage-len
returns-else-stage-len c = sym (stage_past c.args.number c.args.column.now 0 (stage_lists c.args.all.now.items) (λ m low high e. omega (arith, stages_length c.args.all.now.items)))
