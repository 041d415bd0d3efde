use Rattle.std.proofs.Common.{IfOk, rules}
use Rattle.smps_session.proofs.ListLemmas.{HasOrder}
use Rattle.smps_session.proofs.WholeLemmas.{tested_of_claim}
use Rattle.smps_session.proofs.whole.tested_for.Goals as goal

pub returns : goal.returns
returns c =
    let order : IfOk c.report.result HasOrder = search rules in
    let told = c.report.ensures in
    tested_of_claim c.args.program.now c.args.solves c.args.own.now c.args.claim c.report.result told.number told.counts told.names told.truth
    told.exact told.equal order
