use Rattle.std.proofs.Common.{◌≡◌, ◌∙◌, ◌++◌, ◌∷◌, [], ap, sym, subst, length, arith}
use Rattle.scen_defs.specs.Program.{Scenario, content, nodes_content, scenarios_content}
use Rattle.scen_defs.specs.Valid.{IsProgram}
use Rattle.scen_defs.proofs.Contents.{nodes_length}
use Rattle.value_programs.specs.Line.{certain}
use Rattle.value_programs.proofs.LineKeeps.{line_is}
use Rattle.value_programs.proofs.line.in_line.Goals as goal

pub overflow_cast-len : goal.overflow_cast-len
overflow_cast-len c =
    let few = c.requires.small.nodes in
    let same = nodes_length c.args.nodes.items in
    omega (arith, few, same, c.len.ensures)

pub of_parts-requires : goal.of_parts-requires
of_parts-requires c =
    let same = nodes_length c.args.nodes.items in
    let long : c.len.result ≡ length (nodes_content c.args.nodes.items) = omega (arith, c.len.ensures, same) in
    subst IsProgram (sym (line_is (content c.args.program.now) c.args.name _ _ _ _ _ (nodes_content c.args.nodes.items) _
    c.in_ok-objective.ensures c.in_ok-rhs.ensures
    (c.in_ok-periods.ensures ∙ c.deref.ensures.value)
    (c.in_ok-columns.ensures ∙ c.deref-2.ensures.value)
    (c.in_ok-rows.ensures ∙ c.deref-3.ensures.value)
    (ap scenarios_content (c.in_ok-push.ensures.items ∙ ap (λ l. l ++ c.in_ok-only.only ∷ []) c.new-scenarios.ensures.items)
    ∙ ap (λ (s : Scenario). s ∷ []) (c.in_ok-only.ensures ∙ ap (certain c.args.name) long)))) c.requires

pub returns : goal.returns
returns c =
    let same = nodes_length c.args.nodes.items in
    let long : c.len.result ≡ length (nodes_content c.args.nodes.items) = omega (arith, c.len.ensures, same) in
    c.of_parts.ensures ∙ line_is (content c.args.program.now) c.args.name _ _ _ _ _ (nodes_content c.args.nodes.items) _
    c.in_ok-objective.ensures c.in_ok-rhs.ensures
    (c.in_ok-periods.ensures ∙ c.deref.ensures.value)
    (c.in_ok-columns.ensures ∙ c.deref-2.ensures.value)
    (c.in_ok-rows.ensures ∙ c.deref-3.ensures.value)
    (ap scenarios_content (c.in_ok-push.ensures.items ∙ ap (λ l. l ++ c.in_ok-only.only ∷ []) c.new-scenarios.ensures.items)
    ∙ ap (λ (s : Scenario). s ∷ []) (c.in_ok-only.ensures ∙ ap (certain c.args.name) long))
