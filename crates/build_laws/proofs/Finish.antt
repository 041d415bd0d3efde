-- The rest of the walk, where the nodes, their places and their values are those that are meant.
use Rattle.std.proofs.Common.{◌≡◌, ◌∙◌, ap, ap₂, sym, subst, ℕ, suc, ◌+◌, ◌<◌, Bool, ◌||◌, List, [], ◌∷◌, map, length, get_or, nat_lt, Result, Ok, arith}
use Rattle.std.proofs.lemmas.List.{length-map, get_or-map}
use Rattle.rationals.specs.Passes.{Operation, then_walk}
use Rattle.core_defs.specs.declared.program.Core.{Core}
use Rattle.time_defs.specs.Means.{Stages}
use Rattle.scen_defs.specs.Program.{Scenario as Path}
use Rattle.scen_tree.specs.declared.position.Position.{Position}
use Rattle.scen_tree.specs.declared.position.Position.TheVariants.{Root}
use Rattle.scen_tree.specs.Chances.{chances_walk}
use Rattle.build_defs.specs.Scenarios.{Scenario}
use Rattle.build_defs.specs.Nodes.{Stand, nodes_of}
use Rattle.build_defs.specs.Built.{paths_from, position_of, nodes_from, program_of, built_from, most_nodes, most_scenarios, exceeds_at}
use Rattle.tree_build.specs.declared.numbering.Debut.{Debut}
use Rattle.tree_build.specs.Values.{Values}
use Rattle.tree_build.specs.Limits.{are_over}
use Rattle.tree_build.specs.Finish.{no_debut, position_at, value_nodes, finish_walk}
use Rattle.tree_build.specs.Walks.{debuts_of, paths_of}
use Rattle.build_laws.proofs.Numbered.{stand_of, AreNumbered}
use Rattle.build_laws.proofs.Tables.{then_same, then_by}
use Rattle.build_laws.proofs.BlockValues.{meant_values}
use Rattle.build_laws.proofs.NodeRows.{no_stand, IsPlaced, ArePlaced, nodes_meant}
use Rattle.build_laws.proofs.Counts.{over_is}

placed_from : (all : List Stand) (debuts : List Debut) (positions : List Position) (i : ℕ) (firsts : List Stand) →
    ((n : ℕ) → n < length firsts → IsPlaced all debuts positions (i + n) (get_or firsts n no_stand)) → ArePlaced all debuts positions i firsts
placed_from all debuts positions i [] each = tt
placed_from all debuts positions i (first ∷ firsts) each = (
  subst (λ (k : ℕ). IsPlaced all debuts positions k first) (let e : i + 0 ≡ i = omega arith in e) (each 0 (omega arith)),
  placed_from all debuts positions (suc i) firsts
      (λ n below. subst (λ (k : ℕ). IsPlaced all debuts positions k (get_or firsts n no_stand)) (let e : i + suc n ≡ suc i + n = omega arith in e) (each (suc n) (omega (arith, below)))),
)

all_placed : (scenarios : List Scenario) (debuts : List Debut) (firsts : List Stand) → firsts ≡ map (stand_of scenarios) debuts → ArePlaced firsts debuts (map (position_of firsts) firsts) 0 firsts
all_placed scenarios debuts firsts is = placed_from firsts debuts (map (position_of firsts) firsts) 0 firsts (λ n below. subst (λ (k : ℕ). IsPlaced firsts debuts (map (position_of firsts) firsts) k (get_or firsts n no_stand)) (let e : n ≡ 0 + n = omega arith in e) (one n below))
  where
    long : length firsts ≡ length debuts
    long = ap length is ∙ length-map debuts (stand_of scenarios)

    one : (n : ℕ) → n < length firsts → IsPlaced firsts debuts (map (position_of firsts) firsts) n (get_or firsts n no_stand)
    one n below = record {
      stage = sym (ap (λ (xs : List Stand). (get_or xs n no_stand).stage) is ∙ ap (λ (s : Stand). s.stage) (get_or-map (stand_of scenarios) debuts n no_debut no_stand (omega (arith, below, long))));
      position = get_or-map (position_of firsts) firsts n no_stand Root below;
    }

finish_is : (core : Core) (p : Stages) (scenarios : List Scenario) (debuts : List Debut) (firsts : List Stand) (paths : List Path) → firsts ≡ map (stand_of scenarios) debuts →
    finish_walk core p debuts (map (position_of firsts) firsts) paths (map (meant_values core p) firsts)
    ≡ then_walk (chances_walk (map (position_of firsts) firsts) paths) (λ chances. then_walk (nodes_from core p firsts [] firsts) (λ nodes. Ok (program_of core p nodes paths)))
finish_is core p scenarios debuts firsts paths is =
    then_same (chances_walk (map (position_of firsts) firsts) paths)
    (λ chances. then_walk (value_nodes core.rows.items debuts (map (position_of firsts) firsts) [] (map (meant_values core p) firsts)) (λ nodes. Ok (program_of core p nodes paths)))
    (λ chances. then_walk (nodes_from core p firsts [] firsts) (λ nodes. Ok (program_of core p nodes paths)))
    (λ chances. ap (λ w. then_walk w (λ nodes. Ok (program_of core p nodes paths))) (nodes_meant core p firsts debuts (map (position_of firsts) firsts) [] firsts (all_placed scenarios debuts firsts is)))

-- all of the walk behind the products
pub walk_is : (core : Core) (p : Stages) (scenarios : List Scenario) (rows : List (List ℕ)) (walk : Result (List Path) Operation) (all : List Values) → AreNumbered p scenarios rows →
    walk ≡ paths_from (length p.names) (nodes_of (length p.names) scenarios) [] scenarios →
    all ≡ map (meant_values core p) (map (stand_of scenarios) (debuts_of rows)) →
    then_walk walk (λ paths. finish_walk core p (debuts_of rows) (map (position_at (paths_of rows)) (debuts_of rows)) paths all)
    ≡ built_from core p scenarios (nodes_of (length p.names) scenarios)
walk_is core p scenarios rows walk all numbered one values =
    let firsts = nodes_of (length p.names) scenarios in
    then_by walk (paths_from (length p.names) firsts [] scenarios)
    (λ paths. finish_walk core p (debuts_of rows) (map (position_at (paths_of rows)) (debuts_of rows)) paths all)
    (λ paths. then_walk (chances_walk (map (position_of firsts) firsts) paths) (λ chances. then_walk (nodes_from core p firsts [] firsts) (λ nodes. Ok (program_of core p nodes paths))))
    one
    (λ paths. ap₂ (λ (positions : List Position) (vs : List Values). finish_walk core p (debuts_of rows) positions paths vs) numbered.positions (values ∙ ap (map (meant_values core p)) (sym numbered.firsts))
    ∙ finish_is core p scenarios (debuts_of rows) firsts paths numbered.firsts)

-- all that is compared
pub limits_are : (core : Core) (p : Stages) (scenarios : List Scenario) (rows : List (List ℕ)) (count : ℕ) (all : List Values) → AreNumbered p scenarios rows → count ≡ length scenarios →
    all ≡ map (meant_values core p) (map (stand_of scenarios) (debuts_of rows)) →
    (nat_lt most_scenarios count || (nat_lt most_nodes (length (debuts_of rows)) || are_over all))
    ≡ (nat_lt most_scenarios (length scenarios) || exceeds_at core p (nodes_of (length p.names) scenarios))
limits_are core p scenarios rows count all numbered same values =
    let firsts = nodes_of (length p.names) scenarios in
    ap₂ (λ (a b : Bool). a || b) (ap (nat_lt most_scenarios) same)
    (ap₂ (λ (a b : Bool). a || b)
    (ap (nat_lt most_nodes) (sym (ap length numbered.firsts ∙ length-map (debuts_of rows) (stand_of scenarios))))
    (ap are_over (values ∙ ap (map (meant_values core p)) (sym numbered.firsts)) ∙ over_is core p firsts))
