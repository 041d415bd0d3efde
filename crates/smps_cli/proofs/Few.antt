-- A program that files mean has few nodes.
use Rattle.std.proofs.Common.{◌≡◌, ℕ, ◌+◌, ◌≤◌, false, List, [], ◌∷◌, ◌++◌, length, map, Option, Some, Result, Ok, Err, refl, ap, arith}
use Rattle.std.proofs.lemmas.Bool.{or_parts}
use Rattle.std.proofs.lemmas.Bool.Decides.{nat_tests}
use Rattle.std.proofs.lemmas.List.{length-append}
use Rattle.std.specs.Prelude.{nat_lt}
use Rattle.rationals.specs.Passes.{Operation, then_walk}
use Rattle.core_defs.specs.declared.program.Core.{Core}
use Rattle.time_defs.specs.Means.{Stages}
use Rattle.stoch_defs.specs.Random.{Random}
use Rattle.scen_defs.specs.Program.{Node, Program}
use Rattle.scen_tree.specs.Chances.{chances_walk}
use Rattle.build_defs.specs.Scenarios.{scenarios_of}
use Rattle.build_defs.specs.Nodes.{Stand, nodes_of, rows_at}
use Rattle.build_defs.specs.Built.{position_of, node_rows, node_at, nodes_from, program_of, paths_from, built, most_scenarios, most_nodes, exceeds_at}
use Rattle.input_files.specs.Fetched.{Texts}
use Rattle.program_files.specs.Meant.{MeansProgram}
use Rattle.nested_method.specs.Stands.{HasFewNodes}

-- a walk that comes to its end has come to that of its first part
first_ok : {X Y : Type 0} (w : Result X Operation) (k : X → Result Y Operation) (y : Y) → then_walk w k ≡ Ok y → (x : X) × ((w ≡ Ok x) × (k x ≡ Ok y))
first_ok (Ok x) k y e = (x, (refl, e))
first_ok (Err o) k y e = absurd (cc)

-- as many nodes are built as there are places where they come first
nodes_long : (core : Core) (p : Stages) (all : List Stand) (made : List (Option Node)) (firsts : List Stand) (nodes : List (Option Node))
    → nodes_from core p all made firsts ≡ Ok nodes → length nodes ≡ length made + length firsts
nodes_long core p all made [] nodes e = let same : made ≡ nodes = cc in omega (arith, ap length same)
nodes_long core p all made (first ∷ firsts) nodes e =
    let a = first_ok (node_rows core first.scenario.sets [] (rows_at first.stage p.rows))
    (λ rows. nodes_from core p all (made ++ Some (node_at core p all first rows) ∷ []) firsts) nodes e in
    omega (
      arith,
      nodes_long core p all (made ++ Some (node_at core p all first a.0) ∷ []) firsts nodes a.1.1,
      length-append made (Some (node_at core p all first a.0) ∷ []),
    )

built_long : (core : Core) (p : Stages) (random : Random) (program : Program) → built core p random ≡ Ok program
    → length program.nodes ≡ length (nodes_of (length p.names) (scenarios_of p random))
built_long core p random program e =
    let firsts : List Stand = nodes_of (length p.names) (scenarios_of p random) in
    let a = first_ok (paths_from (length p.names) firsts [] (scenarios_of p random))
    (λ paths. then_walk (chances_walk (map (position_of firsts) firsts) paths) (λ chances.
    then_walk (nodes_from core p firsts [] firsts) (λ nodes. Ok (program_of core p nodes paths)))) program e in
    let b = first_ok (chances_walk (map (position_of firsts) firsts) a.0)
    (λ chances. then_walk (nodes_from core p firsts [] firsts) (λ nodes. Ok (program_of core p nodes a.0))) program a.1.1 in
    let c = first_ok (nodes_from core p firsts [] firsts) (λ nodes. Ok (program_of core p nodes a.0)) program b.1.1 in
    let same : program_of core p c.0 a.0 ≡ program = cc in
    omega (arith, ap (λ (x : Program). length x.nodes) same, nodes_long core p firsts [] firsts c.0 c.1.0)

not_above : (n : ℕ) → nat_lt most_nodes n ≡ false → n ≤ most_nodes
not_above n e = grind (arith, nat_tests, e)

pub few_nodes : (texts : Texts) (program : Program) → MeansProgram texts program → HasFewNodes program
few_nodes texts program m =
    let firsts : List Stand = nodes_of (length m.periods.names) (scenarios_of m.periods m.random) in
    let over : exceeds_at m.core m.periods firsts ≡ false =
    (or_parts (nat_lt most_scenarios (length (scenarios_of m.periods m.random))) (exceeds_at m.core m.periods firsts) m.within).1 in
    let few : nat_lt most_nodes (length firsts) ≡ false = (or_parts (nat_lt most_nodes (length firsts)) _ over).0 in
    omega (arith, not_above (length firsts) few, built_long m.core m.periods m.random program m.built_is)
