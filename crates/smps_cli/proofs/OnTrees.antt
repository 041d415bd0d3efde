-- A program that files mean is on a tree.
use Rattle.std.proofs.Common.{◌≡◌, ◌∙◌, List, [], ◌∷◌, ◌++◌, map, Option, Some, Ok, length, sym, ap, subst, append_assoc}
use Rattle.std.proofs.lemmas.List.{append-nil, map-append}
use Rattle.rationals.specs.Passes.{then_walk}
use Rattle.core_defs.specs.declared.program.Core.{Core}
use Rattle.time_defs.specs.Means.{Stages}
use Rattle.scen_defs.specs.Program.{Node, Program}
use Rattle.scen_tree.specs.declared.position.Position.{Position}
use Rattle.scen_tree.specs.Chances.{chances_walk}
use Rattle.scen_tree.specs.Trees.{position_of as place_of, tree_by}
use Rattle.build_defs.specs.Scenarios.{Scenario, scenarios_of}
use Rattle.build_defs.specs.Nodes.{Stand, nodes_of, rows_at}
use Rattle.build_defs.specs.Built.{position_of, node_rows, node_at, nodes_from, program_of, paths_from, built_from}
use Rattle.build_defs.proofs.ChanceLemmas.{then_is, fine_is}
use Rattle.input_files.specs.Fetched.{Texts}
use Rattle.program_files.specs.Meant.{MeansProgram}
use Rattle.smps_session.specs.Comes.{IsOnTree}

-- each node that is built stands in the tree where its place says
nodes_placed : (core : Core) (p : Stages) (all : List Stand) (made : List (Option Node)) (firsts : List Stand) (nodes : List (Option Node))
    → nodes_from core p all made firsts ≡ Ok nodes → map place_of nodes ≡ map place_of made ++ map (position_of all) firsts
nodes_placed core p all made [] nodes e = ap (map place_of) (fine_is made nodes e) ∙ sym (append-nil (map place_of made))
nodes_placed core p all made (first ∷ firsts) nodes e =
    let a = then_is (node_rows core first.scenario.sets [] (rows_at first.stage p.rows)) _ nodes e in
    nodes_placed core p all (made ++ Some (node_at core p all first a.0) ∷ []) firsts nodes a.2
    ∙ ap (λ (places : List Position). places ++ map (position_of all) firsts) (map-append place_of made (Some (node_at core p all first a.0) ∷ []))
    ∙ append_assoc (map place_of made) (position_of all first ∷ []) (map (position_of all) firsts)

built_on_tree : (core : Core) (p : Stages) (scenarios : List Scenario) (firsts : List Stand) (program : Program)
    → built_from core p scenarios firsts ≡ Ok program → IsOnTree program
built_on_tree core p scenarios firsts program e =
    let paths = then_is (paths_from (length p.names) firsts [] scenarios) _ program e in
    let chances = then_is (chances_walk (map (position_of firsts) firsts) paths.0) _ program paths.2 in
    let nodes = then_is (nodes_from core p firsts [] firsts) _ program chances.2 in
    let same : program ≡ program_of core p nodes.0 paths.0 = fine_is (program_of core p nodes.0 paths.0) program nodes.2 in
    let places : map place_of nodes.0 ≡ map (position_of firsts) firsts = nodes_placed core p firsts [] firsts nodes.0 nodes.1 in
    subst IsOnTree (sym same) (
      tree_by (map place_of nodes.0) chances.0,
      ap (λ (positions : List Position). then_walk (chances_walk positions paths.0) (λ c. Ok (tree_by (map place_of nodes.0) c))) places
          ∙ ap (λ walk. then_walk walk (λ c. Ok (tree_by (map place_of nodes.0) c))) chances.1,
    )

pub on_tree : (texts : Texts) (program : Program) → MeansProgram texts program → IsOnTree program
on_tree texts program m =
    built_on_tree m.core m.periods (scenarios_of m.periods m.random) (nodes_of (length m.periods.names) (scenarios_of m.periods m.random))
    program m.built_is
