-- A case goes to its block.
use Rattle.std.proofs.Common.{arith}
use Rattle.smps_stoch.proofs.FinishLemmas.{goes_to}
use Rattle.smps_stoch.proofs.finish.add_case.Goals as goal

pub returns-in_ok-push-clause-added : goal.returns-in_ok-push-clause-added
returns-in_ok-push-clause-added c =
    goes_to c.args.all.now.items c.push.new.self c.index_mut-own.result.now c.args.block c.args.case (omega arith) c.index_mut-own.ensures.value c.in_ok-push.ensures.items
