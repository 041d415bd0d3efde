-- The values of all nodes are of their stages.
use Rattle.std.proofs.Common.{◌≡◌, ◌∙◌, ap, sym, refl, subst, ℕ, zero, suc, ◌+◌, ◌<◌, ◌≤◌, Bool, true, false, List, [], ◌∷◌, ◌++◌, map, length, get_or, nat_lt, append_assoc, append-nil, arith, Option, Some, None, if◌then◌else◌}
use Rattle.std.proofs.Math.Seq.{get_or-append_seam}
use Rattle.std.proofs.lemmas.List.{length_push, length-append, length-map, get_or-map, get_or_append_left}
use Rattle.std.proofs.lemmas.Bool.Decides.{nat_tests}
use Rattle.core_defs.specs.declared.program.Core.{Core}
use Rattle.time_defs.specs.Means.{Stages}
use Rattle.stoch_defs.specs.Random.{Case, Block, Branch}
use Rattle.scen_defs.specs.Lists.{Each}
use Rattle.build_defs.specs.Scenarios.{no_branch, stages_from}
use Rattle.build_defs.specs.Laws.{IsBelow, AreAncestral}
use Rattle.build_defs.proofs.EachLemmas.{each_append}
use Rattle.tree_build.specs.declared.wheels.Wheel.{Wheel}
use Rattle.tree_build.specs.declared.numbering.Debut.{Debut}
use Rattle.tree_build.specs.Values.{Values, values_of, with_sets}
use Rattle.tree_build.specs.Wheels.{sizes_of}
use Rattle.tree_build.specs.Choices.{no_block, no_case, case_at, sets_of}
use Rattle.tree_build.specs.Nodes.{no_values, digits_at, block_node, node_in, source_of, with_own, branch_node, branch_nodes}
use Rattle.tree_build.specs.Finish.{no_debut}
use Rattle.tree_build.specs.Walks.{base_of}
use Rattle.tree_build.specs.Law.{IsStaged, AreTimely, IsCase, IsBranch}
use Rattle.tree_build.proofs.Lists.{each_get, each_at}
use Rattle.tree_build.proofs.Numbers.{Stands, stands_at, Outlines}
use Rattle.tree_build.proofs.ScenarioLaws.{HasCases}
use Rattle.tree_build.proofs.ValueLaws.{AreOf, base_are, sets_are}

-- what the core states of a stage
base_at : (core : Core) (p : Stages) (stage : ℕ) → IsStaged core p → stage < length p.names → AreOf p stage (get_or (base_of core p) stage no_values)
base_at core p stage staged low = subst (λ (k : ℕ). AreOf p k (get_or (base_of core p) stage no_values)) (let e : 0 + stage ≡ stage = omega arith in e) (go 0 (length p.names) stage low)
  where
    go : (first count i : ℕ) → i < count → AreOf p (first + i) (get_or (map (values_of core p []) (stages_from first count)) i no_values)
    go first zero i low = absurd (omega (arith, low))
    go first (suc count) zero low = subst (λ (k : ℕ). AreOf p k (values_of core p [] first)) (let e : first ≡ first + 0 = omega arith in e) (base_are core p first staged)
    go first (suc count) (suc i) low =
        subst (λ (k : ℕ). AreOf p k (get_or (map (values_of core p []) (stages_from (first + 1) count)) i no_values)) (let e : first + 1 + i ≡ first + suc i = omega arith in e) (go (first + 1) count i (omega (arith, low)))

-- ---- blocks

case_timely : (p : Stages) (blocks : List Block) (block case : ℕ) → Each (HasCases p) blocks → AreTimely p (case_at blocks block case).sets
case_timely p blocks block case cases =
    each_get (λ (c : Case). AreTimely p c.sets) (get_or blocks block no_block).cases case no_case (timely (get_or blocks block no_block).cases (each_get (HasCases p) blocks block no_block cases tt)) tt
  where
    timely : (all : List Case) → Each (IsCase p) all → Each (λ (c : Case). AreTimely p c.sets) all
    timely [] h = tt
    timely (c ∷ all) h = (h.0.timely, timely all h.1)

sets_timely : (p : Stages) (blocks : List Block) (wheels : List Wheel) (ds : List ℕ) → Each (HasCases p) blocks → AreTimely p (sets_of blocks wheels ds)
sets_timely p blocks [] ds cases = tt
sets_timely p blocks (w ∷ wheels) [] cases = tt
sets_timely p blocks (w ∷ wheels) (d ∷ ds) cases =
    each_append _ ((case_at blocks w.block 0).sets ++ (case_at blocks w.block d).sets) (sets_of blocks wheels ds)
    (each_append _ (case_at blocks w.block 0).sets (case_at blocks w.block d).sets (case_timely p blocks w.block 0 cases) (case_timely p blocks w.block d cases))
    (sets_timely p blocks wheels ds cases)

-- each node has values of its stage
pub record AreSound (p : Stages) (debuts : List Debut) (all : List Values) : Type 0 where
  pub same : length all ≡ length debuts
  pub sound : (n : ℕ) → n < length debuts → AreOf p (get_or debuts n no_debut).stage (get_or all n no_values)

-- a node's stage is one of the periods
pub stages_low : (count : ℕ) (debuts : List Debut) (paths : List (List ℕ)) → Outlines debuts paths → Each (λ (path : List ℕ). length path ≡ count) paths → (n : ℕ) → n < length debuts → (get_or debuts n no_debut).stage < count
stages_low count debuts paths outlines long n below =
    let on = outlines.starts n below in
    let size = each_at (λ (path : List ℕ). length path ≡ count) paths on.place [] long on.within in
    omega (arith, on.appears.stage, on.appears.within, size)

pub blocks_sound : (core : Core) (p : Stages) (blocks : List Block) (wheels : List Wheel) (debuts : List Debut) → IsStaged core p → Each (HasCases p) blocks →
    ((n : ℕ) → n < length debuts → (get_or debuts n no_debut).stage < length p.names) →
    AreSound p debuts (map (block_node core p (base_of core p) blocks wheels) debuts)
blocks_sound core p blocks wheels debuts staged cases low = record {
  same = length-map debuts (block_node core p (base_of core p) blocks wheels);
  sound = λ n below.
      let debut = get_or debuts n no_debut in
      subst (AreOf p debut.stage) (sym (get_or-map (block_node core p (base_of core p) blocks wheels) debuts n no_debut no_values below))
      (sets_are core p debut.stage (get_or (base_of core p) debut.stage no_values) (sets_of blocks wheels (digits_at (sizes_of wheels) debut.scenario)) staged
      (sets_timely p blocks wheels (digits_at (sizes_of wheels) debut.scenario) cases) (base_at core p debut.stage staged (low n below)));
}

-- ---- scenarios that are stated

-- the values so far are of the stages of the first nodes
abbrev AreSoFar : Stages → List Debut → List Values → Type 0
AreSoFar p debuts all = (n : ℕ) → n < length all → AreOf p (get_or debuts n no_debut).stage (get_or all n no_values)

-- the parent's node at a stage, which is one of those so far
source_are : (core : Core) (p : Stages) (debuts : List Debut) (paths : List (List ℕ)) (all : List Values) (parent : Option ℕ) (scenario stage : ℕ) → IsStaged core p → Each (Stands debuts 0) paths →
    Each (λ (path : List ℕ). length path ≡ length p.names) paths → IsBelow scenario parent → scenario < length paths → stage < length p.names → AreSoFar p debuts all →
    ((i j : ℕ) → i < scenario → j < length (get_or paths i []) → get_or (get_or paths i []) j 0 < length all) → AreOf p stage (source_of (base_of core p) paths all parent stage)
source_are core p debuts paths all None scenario stage staged stands long known inside low sound sooner = base_at core p stage staged low
source_are core p debuts paths all (Some parent) scenario stage staged stands long known inside low sound sooner =
    let there : parent < length paths = omega (arith, known, inside) in
    let size = each_at (λ (path : List ℕ). length path ≡ length p.names) paths parent [] long there in
    let on_path : stage < length (get_or paths parent []) = omega (arith, size, low) in
    let number = stands_at debuts 0 (get_or paths parent []) stage (each_at (Stands debuts 0) paths parent [] stands there) on_path in
    subst (λ (k : ℕ). AreOf p k (get_or all (node_in paths parent stage) no_values)) (number.stage_is ∙ (let e : 0 + stage ≡ stage = omega arith in e))
    (sound (node_in paths parent stage) (sooner parent stage known on_path))

own_are : (core : Core) (p : Stages) (stage : ℕ) (branch : Branch) (source : Values) → IsStaged core p → AreTimely p branch.sets → AreOf p stage source → AreOf p stage (with_own core p stage branch source)
own_are core p stage branch source staged timely are = go (nat_lt stage branch.stage)
  where
    go : (b : Bool) → AreOf p stage (if b then source else with_sets core p stage source branch.sets)
    go true = are
    go false = sets_are core p stage source branch.sets staged timely are

record Known (core : Core) (p : Stages) (branches : List Branch) (paths : List (List ℕ)) (debuts : List Debut) : Type 0 where
  staged : IsStaged core p
  all : Each (IsBranch p) branches
  ancestral : AreAncestral branches
  long : Each (λ (path : List ℕ). length path ≡ length p.names) paths
  outlines : Outlines debuts paths

node_are : (core : Core) (p : Stages) (branches : List Branch) (paths : List (List ℕ)) (debuts : List Debut) (all : List Values) → Known core p branches paths debuts → AreSoFar p debuts all → length all < length debuts →
    AreOf p (get_or debuts (length all) no_debut).stage (branch_node core p (base_of core p) branches paths all (get_or debuts (length all) no_debut))
node_are core p branches paths debuts all known sound below =
    let debut = get_or debuts (length all) no_debut in
    let on = known.outlines.starts (length all) below in
    let low = stages_low (length p.names) debuts paths known.outlines known.long (length all) below in
    let branch = get_or branches debut.scenario no_branch in
    let same : debut.scenario ≡ on.place = omega (arith, on.scenario) in
    own_are core p debut.stage branch (source_of (base_of core p) paths all branch.parent debut.stage) known.staged
    (each_get (λ (b : Branch). AreTimely p b.sets) branches debut.scenario no_branch (timely branches known.all) tt)
    (source_are core p debuts paths all branch.parent debut.scenario debut.stage known.staged known.outlines.stands known.long (known.ancestral debut.scenario) (omega (arith, same, on.within)) low sound
    (λ i j before inside. on.sooner i j (omega (arith, before, same)) inside))
  where
    timely : (bs : List Branch) → Each (IsBranch p) bs → Each (λ (b : Branch). AreTimely p b.sets) bs
    timely [] h = tt
    timely (b ∷ bs) h = (h.0.timely, timely bs h.1)

nodes_are : (core : Core) (p : Stages) (branches : List Branch) (paths : List (List ℕ)) (debuts front rest : List Debut) (all : List Values) → Known core p branches paths debuts →
    debuts ≡ front ++ rest → length all ≡ length front → AreSoFar p debuts all → AreSound p debuts (branch_nodes core p (base_of core p) branches paths all rest)
nodes_are core p branches paths debuts front [] all known is same sound =
    let whole : length all ≡ length debuts = same ∙ sym (ap length (is ∙ append-nil front)) in
    record { same = whole; sound = λ n below. sound n (omega (arith, whole, below)) }
nodes_are core p branches paths debuts front (debut ∷ rest) all known is same sound =
    let here : get_or debuts (length all) no_debut ≡ debut = ap (λ (n : ℕ). get_or debuts n no_debut) same ∙ ap (λ (xs : List Debut). get_or xs (length front) no_debut) is ∙ get_or-append_seam front debut rest no_debut in
    let inside : length all < length debuts = fits (ap length is) in
    let made = subst (λ (d : Debut). AreOf p d.stage (branch_node core p (base_of core p) branches paths all d)) here (node_are core p branches paths debuts all known sound inside) in
    let next : List Values = all ++ branch_node core p (base_of core p) branches paths all debut ∷ [] in
    nodes_are core p branches paths debuts (front ++ debut ∷ []) rest next known (is ∙ sym (append_assoc front (debut ∷ []) rest))
    (longer (length_push all (branch_node core p (base_of core p) branches paths all debut)) (length_push front debut))
    (λ n below. choose n (nat_lt n (length all)) refl below (here, made))
  where
    fits : length debuts ≡ length (front ++ debut ∷ rest) → length all < length debuts
    fits e = omega (arith, e, same, length-append front (debut ∷ rest))

    longer : length (all ++ branch_node core p (base_of core p) branches paths all debut ∷ []) ≡ length all + 1 → length (front ++ debut ∷ []) ≡ length front + 1 →
        length (all ++ branch_node core p (base_of core p) branches paths all debut ∷ []) ≡ length (front ++ debut ∷ [])
    longer a b = omega (arith, a, b, same)

    choose : (n : ℕ) (b : Bool) → nat_lt n (length all) ≡ b → n < length (all ++ branch_node core p (base_of core p) branches paths all debut ∷ []) →
        (get_or debuts (length all) no_debut ≡ debut) × AreOf p debut.stage (branch_node core p (base_of core p) branches paths all debut) →
        AreOf p (get_or debuts n no_debut).stage (get_or (all ++ branch_node core p (base_of core p) branches paths all debut ∷ []) n no_values)
    choose n true t below h =
        let low : n < length all = grind (arith, nat_tests, t) in
        subst (AreOf p (get_or debuts n no_debut).stage) (sym (get_or_append_left all (branch_node core p (base_of core p) branches paths all debut ∷ []) no_values n low)) (sound n low)
    choose n false t below h =
        let high : length all ≤ n = grind (arith, nat_tests, t) in
        let last : n ≡ length all = omega (arith, high, below, length_push all (branch_node core p (base_of core p) branches paths all debut)) in
        let stage : debut.stage ≡ (get_or debuts n no_debut).stage = ap (λ (d : Debut). d.stage) (sym (ap (λ (k : ℕ). get_or debuts k no_debut) last ∙ h.0)) in
        let value : branch_node core p (base_of core p) branches paths all debut ≡ get_or (all ++ branch_node core p (base_of core p) branches paths all debut ∷ []) n no_values =
        sym (ap (λ (k : ℕ). get_or (all ++ branch_node core p (base_of core p) branches paths all debut ∷ []) k no_values) last ∙ get_or-append_seam all (branch_node core p (base_of core p) branches paths all debut) [] no_values) in
        subst (λ (d : Values). AreOf p (get_or debuts n no_debut).stage d) value (subst (λ (k : ℕ). AreOf p k (branch_node core p (base_of core p) branches paths all debut)) stage h.1)

pub branches_sound : (core : Core) (p : Stages) (branches : List Branch) (paths : List (List ℕ)) (debuts : List Debut) → IsStaged core p → Each (IsBranch p) branches → AreAncestral branches →
    Each (λ (path : List ℕ). length path ≡ length p.names) paths → Outlines debuts paths → AreSound p debuts (branch_nodes core p (base_of core p) branches paths [] debuts)
branches_sound core p branches paths debuts staged all ancestral long outlines =
    nodes_are core p branches paths debuts [] debuts [] (record { staged = staged; all = all; ancestral = ancestral; long = long; outlines = outlines }) refl refl (λ n below. absurd (omega (arith, below)))
