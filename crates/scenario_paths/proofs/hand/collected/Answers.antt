-- Up to the parent: what is missing is on its path.
use Rattle.std.proofs.Common.{◌∙◌, sym, Option, ℕ, ap, arith, map}
use Rattle.stoch_defs.specs.Stated.{value_set, path_among, paths_of}
use Rattle.scenario_paths.specs.Paths.{set_first, node_stated}
use Rattle.scenario_paths.proofs.HandLemmas.{up_step, at_map, within_map, past_map, none_left}
use Rattle.scenario_paths.proofs.hand.collected.Goals as goal

pub returns-then-at-scenarios : goal.returns-then-at-scenarios
returns-then-at-scenarios c = λ e. none_left (path_among (paths_of (map node_stated c.args.scenarios.now)) c.loop-next.next) _ _ e
    (ap (path_among (paths_of (map node_stated c.args.scenarios.now))) c.in-Some.is ∙ past_map c.args.scenarios.now c.in-Some.at c.if-at-scenarios.true) (c.loop-next.invariant e)

pub loop-next-preserved : goal.loop-next-preserved
loop-next-preserved c = λ e.
    ap (λ (above : Option ℕ). set_first (value_set c.add_missing.new.values.entries e) (value_set (path_among (paths_of (map node_stated c.args.scenarios.now)) above) e)) c.earlier-next.ensures
    ∙ up_step (map node_stated c.args.scenarios.now) c.in-Some.at (node_stated c.index-scenarios-at.result) c.loop-next.values.entries c.add_missing.new.values.entries e
    (within_map c.args.scenarios.now c.in-Some.at (omega arith)) (at_map c.args.scenarios.now c.in-Some.at c.index-scenarios-at.result (omega arith) c.index-scenarios-at.is) (c.in_ok-add_missing.ensures e ∙ ap (λ sets. set_first (value_set c.loop-next.values.entries e) (value_set sets e)) c.deref.ensures.value)
    ∙ ap (λ (here : Option ℕ). set_first (value_set c.loop-next.values.entries e) (value_set (path_among (paths_of (map node_stated c.args.scenarios.now)) here) e)) (sym c.in-Some.is)
    ∙ c.loop-next.invariant e
