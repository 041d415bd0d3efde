use Rattle.std.proofs.Common.{◌≡◌, ◌∙◌, ap, sym, subst, suc, drop, ◌+◌, length, arith, drop_of_length-le}
use Rattle.scen_defs.specs.Program.{scenario_content, scenarios_content}
use Rattle.scen_defs.proofs.NodeReads.{drop_read}
use Rattle.scen_tree.specs.Sums.{with_path, sums_through}
use Rattle.scen_tree.proofs.SumLemmas.{finished, finished_none, finished_more, sums_begin}
use Rattle.scen_tree.proofs.totals.sums_through.Goals as goal

pub loop-scenario-init : goal.loop-scenario-init
loop-scenario-init c = ap (finished (scenarios_content c.args.scenarios.now) 0) c.in_ok-sums.ensures ∙ sums_begin 0 c.args.count (scenarios_content c.args.scenarios.now)

pub loop-scenario-preserved : goal.loop-scenario-preserved
loop-scenario-preserved c =
    let i = c.loop-scenario.scenario-index in
    let s = c.scenario-item.result in
    let rest = scenarios_content (drop (i + 1) c.args.scenarios.now) in
    ap (finished rest 0) (c.add_path.ensures ∙ ap (λ path. with_path path s.probability 0 c.loop-scenario.sums.items) c.deref.ensures.value)
    ∙ sym (finished_more 0 (scenario_content s) rest c.loop-scenario.sums.items)
    ∙ sym (ap (λ all. finished (scenarios_content all) 0 c.loop-scenario.sums.items) (drop_read c.args.scenarios.now i s c.loop-scenario-test.true c.scenario-item.is))
    ∙ c.loop-scenario.invariant

pub returns : goal.returns
returns c =
    sym (finished_none 0 c.loop-scenario.sums.items)
    ∙ subst (λ rest. finished (scenarios_content rest) 0 c.loop-scenario.sums.items ≡ sums_through 0 c.args.count (scenarios_content c.args.scenarios.now))
    (drop_of_length-le c.args.scenarios.now c.loop-scenario-test.false) c.loop-scenario.invariant
