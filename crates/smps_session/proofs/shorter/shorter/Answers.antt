use Rattle.std.proofs.Common.{rules}
use Rattle.report_defs.specs.Seen.{seen}
use Rattle.smps_session.proofs.ListLemmas.{HasOrder, lists_told}
use Rattle.smps_session.proofs.ShorterLemmas.{shows_infeasible}
use Rattle.smps_session.proofs.shorter.shorter.Goals as goal

pub returns-then-is_shorter-clause-lists : goal.returns-then-is_shorter-clause-lists
returns-then-is_shorter-clause-lists c =
    let order : HasOrder c.in_ok-tested.tested = search rules in
    lists_told c.args.program.now c.args.found.now.number _ _ _ _ c.in_ok-tested.tested c.in_ok-tested.ensures.exact order

pub returns-then-is_shorter-clause-truth : goal.returns-then-is_shorter-clause-truth
returns-then-is_shorter-clause-truth c =
    shows_infeasible (seen c.args.program.now) _ c.in_ok-tested.tested (c.is_shorter.ensures c.if-is_shorter.true).so c.in_ok-tested.ensures.truth

pub returns-then-is_shorter-clause-shorter : goal.returns-then-is_shorter-clause-shorter
returns-then-is_shorter-clause-shorter c = c.is_shorter.ensures c.if-is_shorter.true
