use Rattle.std.proofs.Common.{◌≡◌, ◌∙◌, ◌<◌, ℕ, List, Option, IfOk, ap, sym, subst, length, get_or}
use Rattle.scen_defs.specs.Program.{Node, Scenario, Program, content, nodes_content}
use Rattle.scen_defs.specs.Valid.{IsProgram}
use Rattle.scen_defs.proofs.Contents.{scenarios_length}
use Rattle.edit_defs.specs.After.{no_scenario}
use Rattle.value_programs.specs.Line.{in_line}
use Rattle.value_programs.specs.OneScenario.{scenario_program, path_nodes}
use Rattle.value_programs.proofs.OneScenarioKeeps.{scenario_program_keeps, scenario_read, fits_there, named_there, short_there}
use Rattle.value_programs.proofs.one_scenario.scenario_program.Goals as goal

pub nodes_along-requires : goal.nodes_along-requires
nodes_along-requires c =
    let p : Program = content c.args.program.now in
    let within : c.args.place < length p.scenarios = subst (λ (n : ℕ). c.args.place < n) (sym (scenarios_length c.args.program.now.scenarios.items)) c.requires in
    let here = scenario_read c.args.program.now.scenarios.items c.args.place c.index-scenario.result.now c.requires c.index-scenario.ensures in
    subst (λ (path : List ℕ). length path < 4294967296) (sym (c.deref-2.ensures.value ∙ ap (λ (s : Scenario). s.path) here)) (short_there p c.args.program.now.keeps c.args.place within)

pub in_line-requires : goal.in_line-requires
in_line-requires c =
    let p : Program = content c.args.program.now in
    let s : Scenario = get_or p.scenarios c.args.place no_scenario in
    let within : c.args.place < length p.scenarios = subst (λ (n : ℕ). c.args.place < n) (sym (scenarios_length c.args.program.now.scenarios.items)) c.requires in
    let here = scenario_read c.args.program.now.scenarios.items c.args.place c.index-scenario.result.now c.requires c.index-scenario.ensures in
    let name = c.in_ok-name.ensures ∙ ap (λ (s : Scenario). s.name) here in
    let nodes = c.in_ok-nodes.ensures ∙ ap (λ l. path_nodes (nodes_content l) 0 c.deref-2.result.now) c.deref.ensures.value
    ∙ ap (λ path. path_nodes p.nodes 0 path) (c.deref-2.ensures.value ∙ ap (λ (s : Scenario). s.path) here) in
    subst (λ (n : List ℕ). IsProgram (in_line p n (nodes_content c.in_ok-nodes.nodes.items))) (sym name)
    (subst (λ (l : List (Option Node)). IsProgram (in_line p s.name l)) (sym nodes)
    (scenario_program_keeps p s c.args.program.now.keeps (fits_there p c.args.program.now.keeps c.args.place within) (named_there p c.args.program.now.keeps c.args.place within)))

pub returns : goal.returns
returns c =
    let p : Program = content c.args.program.now in
    let s : Scenario = get_or p.scenarios c.args.place no_scenario in
    let here = scenario_read c.args.program.now.scenarios.items c.args.place c.index-scenario.result.now c.requires c.index-scenario.ensures in
    let name = c.in_ok-name.ensures ∙ ap (λ (s : Scenario). s.name) here in
    let nodes = c.in_ok-nodes.ensures ∙ ap (λ l. path_nodes (nodes_content l) 0 c.deref-2.result.now) c.deref.ensures.value
    ∙ ap (λ path. path_nodes p.nodes 0 path) (c.deref-2.ensures.value ∙ ap (λ (s : Scenario). s.path) here) in
    let same : in_line p c.in_ok-name.name (nodes_content c.in_ok-nodes.nodes.items) ≡ scenario_program p s =
    ap (λ (n : List ℕ). in_line p n (nodes_content c.in_ok-nodes.nodes.items)) name ∙ ap (in_line p s.name) nodes in
    subst (λ (q : Program). IfOk c.in_line.result (λ only. content only ≡ q)) same c.in_line.ensures
