-- An edit that is allowed leaves a program on a tree, of no more nodes than have numbers.
use Rattle.std.proofs.Common.{◌≡◌, ◌≤◌, ◌+◌, ◌++◌, ◌∙◌, ℕ, zero, suc, List, [], ◌∷◌, map, Option, Some, None, Result, Ok, Err, length}
use Rattle.std.proofs.Common.{length-append, refl, ap, arith}
use Rattle.rationals.specs.Passes.{Operation, then_walk}
use Rattle.scen_defs.specs.Program.{Node, Program}
use Rattle.scen_defs.specs.Valid.{FitsScenario, IsProgram}
use Rattle.scen_tree.specs.Trees.{Tree, position_by, position_of, tree_by, tree_walk}
use Rattle.scen_tree.specs.Chances.{chances_walk}
use Rattle.edit_defs.specs.declared.edit.Edit.{Edit}
use Rattle.edit_defs.specs.declared.edit.Edit.TheVariants.{Set, Prob, Drop, Add}
use Rattle.edit_defs.specs.After.{after, scenario_named, others, home_of, with_value, change_node, copies}
use Rattle.edit_defs.specs.Applies.{Applies}
use Rattle.edit_defs.specs.Touches.{path_of}
use Rattle.edit_defs.specs.Operations.{first_passing, probability_operations, or_else, ended_by}
use Rattle.edit_defs.proofs.Causes.{edits_without_cause_apply}
use Rattle.edit_defs.proofs.Lists.{changed-length, reached-length}
use Rattle.edit_defs.proofs.Paths.{follows-length, copies-long}
use Rattle.edit_defs.proofs.Stays.{named-fits, with-parent}
use Rattle.edit_script.specs.Allowed.{IsAllowed}
use Rattle.edit_script.proofs.StepLemmas.{no-passing}
use Rattle.nested_method.specs.Stands.{HasFewNodes}
use Rattle.smps_session.specs.Comes.{IsOnTree}

-- an edit adds at most one node a period
few_added : (p : Program) (e : Edit) → IsProgram p → Applies p e → length (after p e).nodes ≤ length p.nodes + 16
few_added p (Set name entry v) i a =
    let same : length (after p (Set name entry v)).nodes ≡ length p.nodes = changed-length (home_of p name entry) (with_value p entry v) p.nodes in
    omega (arith, same)
few_added p (Prob name q) i a = omega arith
few_added p (Drop name) i a =
    let same : length (after p (Drop name)).nodes ≡ length p.nodes = reached-length (others name p.scenarios) 0 p.nodes in
    omega (arith, same)
few_added p (Add name parent q t) i a =
    let new : List (Option Node) = copies p.nodes t None (length p.nodes) (path_of p parent) in
    let found : FitsScenario p (scenario_named parent p.scenarios) = named-fits p i parent a.known in
    let both : length (p.nodes ++ new) ≡ length p.nodes + length new = length-append p.nodes new in
    let few : length new ≤ length (path_of p parent) = copies-long p.nodes t None (length p.nodes) (path_of p parent) in
    let whole : 0 + length (path_of p parent) ≡ length p.periods = follows-length p 0 None (path_of p parent) found.path in
    let most : length p.periods ≤ 16 = i.few_periods in
    omega (arith, both, few, whole, most)

pub allowed_few : (p : Program) (e : Edit) → IsProgram p → IsAllowed p e → HasFewNodes (after p e)
allowed_few p e i h =
    let added : length (after p e).nodes ≤ length p.nodes + 16 = few_added p e i (edits_without_cause_apply p e h.places h.asks h.no_cause) in
    let places : length p.nodes ≤ 1000000 = h.places in
    omega (arith, added, places)

-- ---- the tree
-- a walk in which no operation passes comes to its end
ended-ok : {X : Type 0} (first : Option Operation) (w : Result X Operation) → or_else first (ended_by w) ≡ None → (x : X) × (w ≡ Ok x)
ended-ok None (Ok x) e = (x, refl)
ended-ok None (Err o) e = absurd (cc)
ended-ok (Some o) w e = absurd (cc)

-- a node that is changed stays where it stands in the tree
positions-stay : (n : ℕ) (f : Node → Node) (nodes : List (Option Node)) → ((x : Node) → (f x).parent ≡ x.parent)
    → map position_of (change_node n f nodes) ≡ map position_of nodes
positions-stay n f [] same = refl
positions-stay zero f (None ∷ nodes) same = refl
positions-stay zero f (Some x ∷ nodes) same = ap (λ (parent : Option ℕ). position_by parent ∷ map position_of nodes) (same x)
positions-stay (suc n) f (place ∷ nodes) same = ap (λ positions. position_of place ∷ positions) (positions-stay n f nodes same)

pub allowed_tree : (p : Program) (e : Edit) → IsAllowed p e → IsOnTree p → IsOnTree (after p e)
allowed_tree p (Set name entry v) h t = (
  t.0,
  ap (λ positions. then_walk (chances_walk positions p.scenarios) (λ chances. Ok (tree_by positions chances)))
      (positions-stay (home_of p name entry) (with_value p entry v) p.nodes (with-parent p entry v)) ∙ t.1,
)
allowed_tree p (Prob name q) h t =
    ended-ok (first_passing (probability_operations p (Prob name q))) (tree_walk (after p (Prob name q))) (no-passing p (Prob name q) h.no_cause)
allowed_tree p (Drop name) h t =
    ended-ok (first_passing (probability_operations p (Drop name))) (tree_walk (after p (Drop name))) (no-passing p (Drop name) h.no_cause)
allowed_tree p (Add name parent q chance) h t =
    ended-ok (first_passing (probability_operations p (Add name parent q chance))) (tree_walk (after p (Add name parent q chance)))
    (no-passing p (Add name parent q chance) h.no_cause)
