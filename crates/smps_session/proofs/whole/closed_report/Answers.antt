use Rattle.std.proofs.Common.{sym, ◌∙◌, rules}
use Rattle.smps_session.proofs.ListLemmas.{HasOrder, lists_told}
use Rattle.smps_session.proofs.WholeLemmas.{tells_whole}
use Rattle.smps_session.proofs.whole.closed_report.Goals as goal

pub returns-then-isnt_open-clause-lists : goal.returns-then-isnt_open-clause-lists
returns-then-isnt_open-clause-lists c =
    let order : HasOrder c.in_ok-tested.tested = search rules in
    lists_told c.args.program.now c.args.number _ _ _ _ c.in_ok-tested.tested c.in_ok-tested.ensures.exact order

pub returns-then-isnt_open-clause-whole : goal.returns-then-isnt_open-clause-whole
returns-then-isnt_open-clause-whole c =
    tells_whole c.args.program.now c.args.number _ _ _ _ c.in_ok-tested.tested (sym c.isnt_open.ensures ∙ c.if-isnt_open.true)
    c.in_ok-tested.ensures.exact
