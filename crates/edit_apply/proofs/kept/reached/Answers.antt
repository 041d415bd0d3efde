use Rattle.std.proofs.Common.{◌≡◌, ap, sym, ◌∙◌, false, length, replicate}
use Rattle.std.specs.Vec.{with_items}
use Rattle.std.proofs.lemmas.List.{with_items_is}
use Rattle.scen_defs.specs.Program.{nodes_content, scenarios_content}
use Rattle.edit_apply.specs.Kept.{with_path, with_paths}
use Rattle.edit_apply.proofs.Marks.{next_reached, path_long, reached_end}
use Rattle.edit_apply.proofs.kept.reached.Goals as goal

pub returns : goal.returns
returns c = reached_end c.args.scenarios.now c.loop-scenario.scenario-index c.loop-scenario.marks.items (with_paths (scenarios_content c.args.scenarios.now) 0 (replicate (length (nodes_content c.args.nodes.now)) false)) c.loop-scenario-test.false c.loop-scenario.invariant

pub loop-scenario-preserved : goal.loop-scenario-preserved
loop-scenario-preserved c =
    let new : c.mark_path.new.marks ≡ with_path c.deref.result.now 0 c.loop-scenario.marks.items = c.mark_path.ensures ∙ ap (with_path c.deref.result.now 0) c.deref_mut.ensures.value in
    let long : length c.mark_path.new.marks ≡ c.loop-scenario.marks.len = ap length new ∙ path_long c.deref.result.now 0 c.loop-scenario.marks.items ∙ sym c.loop-scenario.marks.ok.0 in
    next_reached c.args.scenarios.now c.loop-scenario.scenario-index c.scenario-item.result c.deref.result.now c.loop-scenario.marks.items (with_items c.loop-scenario.marks c.mark_path.new.marks).items
    (with_paths (scenarios_content c.args.scenarios.now) 0 (replicate (length (nodes_content c.args.nodes.now)) false)) c.loop-scenario-test.true c.scenario-item.is c.deref.ensures.value
    (with_items_is c.loop-scenario.marks c.mark_path.new.marks long ∙ new) c.loop-scenario.invariant
