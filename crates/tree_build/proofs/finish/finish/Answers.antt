-- The program's lists are those of the walk, whose programs keep what programs keep.
use Rattle.std.proofs.Common.{[], ◌≡◌, ◌∙◌, Ok, refl, sym, subst, List}
use Rattle.std.specs.Result.{IsOk}
use Rattle.scen_defs.specs.declared.program.Scenario.{Scenario}
use Rattle.core_defs.specs.declared.parts.RowDef.{RowDef}
use Rattle.scen_defs.specs.Program.{scenarios_content, nodes_content}
use Rattle.scen_tree.specs.Chances.{chances_walk}
use Rattle.time_defs.specs.Periods.{stages}
use Rattle.tree_build.specs.Values.{all_content}
use Rattle.tree_build.specs.Finish.{value_nodes}
use Rattle.tree_build.proofs.FinishLemmas.{finish_parts}
use Rattle.tree_build.proofs.finish.finish.Goals as goal

pub of_parts-requires : goal.of_parts-requires
of_parts-requires c =
    finish_parts c.args.core.now (stages c.args.periods.now) c.args.debuts.now c.args.positions.now (scenarios_content c.args.scenarios.items) (all_content c.args.values.items) (nodes_content c.in_ok-nodes.nodes.items) _ _ _ _ _
    c.requires.keeps
    (subst (λ (ss : List Scenario). IsOk (chances_walk c.args.positions.now (scenarios_content ss))) c.deref.ensures.value
    (subst IsOk (sym c.in_ok-try_chances.ensures) refl))
    (subst (λ (defs : List RowDef). value_nodes defs c.args.debuts.now c.args.positions.now [] (all_content c.args.values.items) ≡ Ok (nodes_content c.in_ok-nodes.nodes.items)) c.deref-2.ensures.value c.in_ok-nodes.ensures)
    c.in_ok-copied.ensures c.in_ok-copied-2.ensures (c.in_ok-names_of.ensures ∙ c.deref-3.ensures.value) c.in_ok-columns_of.ensures c.in_ok-rows_of.ensures
