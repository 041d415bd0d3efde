use Rattle.std.proofs.Common.{◌∙◌, ap, map}
use Rattle.scen_defs.specs.Program.{content, nodes_content, scenarios_content}
use Rattle.scen_nodes.specs.Derived.{derived_column, derived_place}
use Rattle.scen_nodes.proofs.DerivedLaws.{derived_parts}
use Rattle.scen_nodes.proofs.derived.derive.Goals as goal

pub of_parts-requires : goal.of_parts-requires
of_parts-requires c =
    derived_parts c.args.kind (content c.args.program.now) _ _ _ _ _ _ _ c.args.program.now.keeps
    c.in_ok-objective.ensures c.in_ok-rhs.ensures
    (c.in_ok-periods.ensures ∙ c.deref.ensures.value)
    (c.in_ok-columns.ensures ∙ ap (map (derived_column c.args.kind)) c.deref-2.ensures.value)
    (c.in_ok-rows.ensures ∙ c.deref-3.ensures.value)
    (c.in_ok-nodes.ensures ∙ ap (λ l. map (derived_place c.args.kind) (nodes_content l)) c.deref-4.ensures.value)
    (c.in_ok-scenarios.ensures ∙ ap scenarios_content c.deref-5.ensures.value)
