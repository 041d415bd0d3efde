-- The program of one scenario keeps what programs keep.
use Rattle.std.proofs.Common.{◌≡◌, ℕ, zero, suc, ◌+◌, ◌<◌, ◌^◌, true, List, [], ◌∷◌, length, get_or, Option, Some, None}
use Rattle.std.proofs.Common.{refl, sym, ap, subst, ◌∙◌, arith}
use Rattle.smps_words.specs.Field.{IsField}
use Rattle.scen_defs.specs.declared.program.Scenario.{Scenario as ScenarioOf}
use Rattle.scen_defs.specs.Lists.{Each, passes_at}
use Rattle.scen_defs.specs.Program.{Node, Scenario, Program, is_live, node_at, scenario_content, scenarios_content}
use Rattle.scen_defs.specs.Valid.{IsProgram, Lives, Follows, FitsNode, FitsScenario}
use Rattle.edit_defs.specs.After.{no_scenario}
use Rattle.edit_defs.proofs.Lists.{each-unmapped}
use Rattle.value_programs.specs.Line.{stage_before}
use Rattle.value_programs.specs.OneScenario.{scenario_program, path_nodes}
use Rattle.value_programs.proofs.LineKeeps.{IsLine, IsOfStage, line_keeps}

-- the node of a path at a stage
abbrev on_path : List ℕ → ℕ → ℕ
on_path path k = get_or path k 0

along_live : (nodes : List (Option Node)) (s : ℕ) (path : List ℕ) (k : ℕ) → k < length path → passes_at is_live k (path_nodes nodes s path) ≡ true
along_live nodes s [] k h = absurd (omega (arith, h))
along_live nodes s (n ∷ path) zero h = refl
along_live nodes s (n ∷ path) (suc k) h = along_live nodes (suc s) path k (omega (arith, h))

along_within : (nodes : List (Option Node)) (s : ℕ) (path : List ℕ) (k : ℕ) → passes_at is_live k (path_nodes nodes s path) ≡ true → k < length path
along_within nodes s [] k h = absurd (cc)
along_within nodes s (n ∷ path) zero h = omega arith
along_within nodes s (n ∷ path) (suc k) h = let l : k < length path = along_within nodes (suc s) path k h in omega (arith, l)

along_node : (nodes : List (Option Node)) (s : ℕ) (path : List ℕ) (k : ℕ) → k < length path
    → node_at (path_nodes nodes s path) k ≡ record (node_at nodes (on_path path k)) { parent = stage_before (s + k) }
along_node nodes s [] k h = absurd (omega (arith, h))
along_node nodes s (n ∷ path) zero h = ap (λ m. let w : Node = record (node_at nodes n) { parent = stage_before m } in w) (omega arith)
along_node nodes s (n ∷ path) (suc k) h =
    along_node nodes (suc s) path k (omega (arith, h)) ∙ ap (λ m. let w : Node = record (node_at nodes (on_path path k)) { parent = stage_before m } in w) (omega arith)

along_length : (nodes : List (Option Node)) (s : ℕ) (path : List ℕ) → length (path_nodes nodes s path) ≡ length path
along_length nodes s [] = refl
along_length nodes s (n ∷ path) = ap suc (along_length nodes (suc s) path)

-- what a path's nodes are
record IsOnPath (p : Program) (n k : ℕ) : Type 0 where
  live : Lives p n
  stage : (node_at p.nodes n).stage ≡ k

follows_at : (p : Program) (s : ℕ) (above : Option ℕ) (path : List ℕ) → Follows p s above path → (k : ℕ) → k < length path → IsOnPath p (on_path path k) (s + k)
follows_at p s above [] f k h = absurd (omega (arith, h))
follows_at p s above (n ∷ path) f zero h = record { live = f.0; stage = f.1 ∙ omega arith }
follows_at p s above (n ∷ path) f (suc k) h =
    subst (IsOnPath p (on_path path k)) (omega arith) (follows_at p (suc s) (Some n) path f.3 k (omega (arith, h)))

follows_length : (p : Program) (s : ℕ) (above : Option ℕ) (path : List ℕ) → Follows p s above path → s + length path ≡ length p.periods
follows_length p s above [] f = let e : s ≡ length p.periods = f in omega (arith, e)
follows_length p s above (n ∷ path) f = let e : suc s + length path ≡ length p.periods = follows_length p (suc s) (Some n) path f.3 in omega (arith, e)

module _ (p : Program) (c : Scenario) (i : IsProgram p) (f : FitsScenario p c) (named : IsField c.name) where
  abbrev nodes : List (Option Node)
  nodes = path_nodes p.nodes 0 c.path

  within : (k : ℕ) → k < length nodes → k < length c.path
  within k h = let same = along_length p.nodes 0 c.path in omega (arith, h, same)

  on : (k : ℕ) → k < length c.path → IsOnPath p (on_path c.path k) k
  on k h = subst (IsOnPath p (on_path c.path k)) (omega arith) (follows_at p 0 None c.path f.path k h)

  node : (k : ℕ) → k < length c.path → node_at nodes k ≡ record (node_at p.nodes (on_path c.path k)) { parent = stage_before k }
  node k h = along_node p.nodes 0 c.path k h ∙ ap (λ m. let w : Node = record (node_at p.nodes (on_path c.path k)) { parent = stage_before m } in w) (omega arith)

  of_stage : (k : ℕ) → k < length c.path → IsOfStage p k (record (node_at p.nodes (on_path c.path k)) { parent = stage_before k })
  of_stage k h =
      let n : FitsNode p (on_path c.path k) (node_at p.nodes (on_path c.path k)) = i.nodes (on_path c.path k) (on k h).live in
      record { stage = (on k h).stage; parent = refl; cost = n.cost; numbers = n.numbers; rows = n.rows }

  line : IsLine p nodes
  line = record {
    long = along_length p.nodes 0 c.path ∙ (let e : 0 + length c.path ≡ length p.periods = follows_length p 0 None c.path f.path in omega (arith, e));
    live = λ k h. along_live p.nodes 0 c.path k (within k h);
    stages = λ k h. subst (IsOfStage p k) (sym (node k (within k h))) (of_stage k (within k h));
  }

  pub scenario_program_keeps : IsProgram (scenario_program p c)
  scenario_program_keeps = line_keeps p c.name nodes i named line

-- a scenario of the program, by its place
each_index : {A : Type 0} (P : A → Type 0) (xs : List A) (i : ℕ) (d : A) → i < length xs → Each P xs → P (get_or xs i d)
each_index P [] i d h e = absurd (omega (arith, h))
each_index P (x ∷ xs) zero d h e = e.0
each_index P (x ∷ xs) (suc i) d h e = each_index P xs i d (omega (arith, h)) e.1

pub scenario_read : (ss : List ScenarioOf) (i : ℕ) (x : ScenarioOf) → i < length ss → x ≡ get_or ss i x → scenario_content x ≡ get_or (scenarios_content ss) i no_scenario
scenario_read [] i x h e = absurd (omega (arith, h))
scenario_read (s ∷ ss) zero x h e = ap scenario_content e
scenario_read (s ∷ ss) (suc i) x h e = scenario_read ss i x (omega (arith, h)) e

module _ (p : Program) (i : IsProgram p) (k : ℕ) (h : k < length p.scenarios) where
  pub fits_there : FitsScenario p (get_or p.scenarios k no_scenario)
  fits_there = each_index (FitsScenario p) p.scenarios k no_scenario h i.scenarios

  pub named_there : IsField (get_or p.scenarios k no_scenario).name
  named_there = each_index (λ (s : Scenario). IsField s.name) p.scenarios k no_scenario h (each-unmapped IsField (λ (s : Scenario). s.name) p.scenarios i.names.scenarios.fields)

  pub short_there : length (get_or p.scenarios k no_scenario).path < 2 ^ 32
  short_there =
      let long : 0 + length (get_or p.scenarios k no_scenario).path ≡ length p.periods = follows_length p 0 None (get_or p.scenarios k no_scenario).path fits_there.path in
      let few = i.few_periods in omega (arith, long, few)
