-- The program from its steps.
use Rattle.std.proofs.Common.{◌≡◌, ◌∙◌, ap, ap₂, sym, refl, subst, lit<, ℕ, zero, suc, ◌+◌, ◌<◌, ◌≤◌, ◌^◌, Bool, true, false, ◌||◌, List, [], ◌∷◌, ◌++◌, length, get_or, map, nat_lt, Result, Ok, Err, arith, if◌then◌else◌}
use Rattle.std.specs.Result.{MatchResult, IsErrAnd}
use Rattle.std.proofs.lemmas.List.{length-map}
use Rattle.std.proofs.lemmas.Bool.Decides.{nat_tests}
use Rattle.rationals.specs.Passes.{Operation, then_walk}
use Rattle.core_defs.specs.declared.program.Core.{Core}
use Rattle.time_defs.specs.Means.{Stages}
use Rattle.stoch_defs.specs.Random.{Block, Branch}
use Rattle.scen_defs.specs.declared.program.Program.{Program as ProgramOf}
use Rattle.scen_defs.specs.Program.{Program, Scenario, content}
use Rattle.smps_build.specs.declared.fault.BuildFault.{BuildFault}
use Rattle.smps_build.specs.declared.fault.BuildFault.TheVariants.{Limit, Passed, Memory}
use Rattle.smps_build.specs.Faults.{BuildFaultOf}
use Rattle.build_defs.specs.Scenarios.{stages_from}
use Rattle.build_defs.specs.Built.{most_nodes, most_scenarios}
use Rattle.scen_tree.specs.declared.position.Position.{Position}
use Rattle.tree_build.specs.declared.wheels.Wheel.{Wheel}
use Rattle.tree_build.specs.declared.numbering.Debut.{Debut}
use Rattle.tree_build.specs.Values.{Values}
use Rattle.tree_build.specs.Wheels.{wheels_of, product, sizes_of, digits_of, key_row}
use Rattle.tree_build.specs.Branches.{branch_key, branch_rows}
use Rattle.tree_build.specs.Numbering.{has_key, key_of, keys_of, with_debut, debuts_from, row_debuts, all_debuts}
use Rattle.tree_build.specs.Limits.{are_over}
use Rattle.tree_build.specs.Nodes.{block_node, branch_nodes}
use Rattle.tree_build.specs.Finish.{AreStaged, no_debut, position_at, block_paths, branch_paths, finish_walk}
use Rattle.tree_build.specs.Walks.{IsBuilt, IsBuildFault, base_of, debuts_of, paths_of, block_rows, blocks_over_by, blocks_walk_by, blocks_over, blocks_walk, branch_all, branches_over_by, branches_walk_by, branches_over, branches_walk}

-- ---- stages of nodes

abbrev Low : List Debut → Type 0
Low [] = Unit {0}
Low (debut ∷ debuts) = (debut.stage < 2 ^ 32) × Low debuts

low_read : (debuts : List Debut) (n : ℕ) → Low debuts → (get_or debuts n no_debut).stage < 2 ^ 32
low_read [] n low = lit< tt
low_read (debut ∷ debuts) zero low = low.0
low_read (debut ∷ debuts) (suc n) low = low_read debuts n low.1

low_append : (one other : List Debut) → Low one → Low other → Low (one ++ other)
low_append [] other low more = more
low_append (debut ∷ one) other low more = (low.0, low_append one other low.1 more)

low_either : (seen : List Debut) (debut : Debut) (b : Bool) → Low seen → debut.stage < 2 ^ 32 → Low (if b then seen else seen ++ debut ∷ [])
low_either seen debut true low small = low
low_either seen debut false low small = low_append seen (debut ∷ []) low (small, tt)

low_from : (seen debuts : List Debut) → Low seen → Low debuts → Low (debuts_from seen debuts)
low_from seen [] low more = low
low_from seen (debut ∷ debuts) low more = low_from (with_debut seen debut) debuts (low_either seen debut (has_key (keys_of seen) (key_of debut)) low more.0) more.1

low_row : (scenario stage : ℕ) (row : List ℕ) → stage + length row ≤ 16 → Low (row_debuts scenario stage row)
low_row scenario stage [] short = tt
low_row scenario stage (key ∷ row) short = (small stage (omega (arith, short)), low_row scenario (suc stage) row (omega (arith, short)))
  where
    small : (n : ℕ) → n < 16 → n < 2 ^ 32
    small n h = omega (arith, h)

-- at most 16 stages in each row
abbrev Short : List (List ℕ) → Type 0
Short [] = Unit {0}
Short (row ∷ rows) = (length row ≤ 16) × Short rows

low_all : (scenario : ℕ) (rows : List (List ℕ)) → Short rows → Low (all_debuts scenario rows)
low_all scenario [] short = tt
low_all scenario (row ∷ rows) short = low_append (row_debuts scenario 0 row) (all_debuts (suc scenario) rows) (low_row scenario 0 row (omega (arith, short.0))) (low_all (suc scenario) rows short.1)

staged : (rows : List (List ℕ)) → Short rows → AreStaged (debuts_of rows)
staged rows short n = low_read (debuts_of rows) n (low_from [] (all_debuts 0 rows) tt (low_all 0 rows short))

count_stages : (first count : ℕ) → length (stages_from first count) ≡ count
count_stages first zero = refl
count_stages first (suc count) = ap suc (count_stages (first + 1) count)

short_map : (f : ℕ → List ℕ) (xs : List ℕ) → ((x : ℕ) → length (f x) ≤ 16) → Short (map f xs)
short_map f [] each = tt
short_map f (x ∷ xs) each = (each x, short_map f xs each)

short_push : (rows : List (List ℕ)) (row : List ℕ) → Short rows → length row ≤ 16 → Short (rows ++ row ∷ [])
short_push [] row short h = (h, tt)
short_push (first ∷ rows) row short h = (short.0, short_push rows row short.1 h)

by_stage : (f : ℕ → ℕ) (count : ℕ) → count ≤ 16 → length (map f (stages_from 0 count)) ≤ 16
by_stage f count few = let long = length-map (stages_from 0 count) f ∙ count_stages 0 count in omega (arith, long, few)

short_branches : (count : ℕ) (rows : List (List ℕ)) (branches : List Branch) → count ≤ 16 → Short rows → Short (branch_rows count rows branches)
short_branches count rows [] few short = short
short_branches count rows (branch ∷ branches) few short =
    short_branches count (rows ++ map (branch_key rows branch (suc (length rows))) (stages_from 0 count) ∷ []) branches few
    (short_push rows (map (branch_key rows branch (suc (length rows))) (stages_from 0 count)) short (by_stage (branch_key rows branch (suc (length rows))) count few))

pub staged_blocks : (count : ℕ) (wheels : List Wheel) (rows : List (List ℕ)) (debuts : List Debut) → count ≤ 16 → rows ≡ block_rows count wheels → debuts ≡ debuts_of rows → AreStaged debuts
staged_blocks count wheels rows debuts few made all =
    subst AreStaged (sym (all ∙ ap debuts_of made))
    (staged (block_rows count wheels) (short_map (λ number. key_row wheels count (digits_of (sizes_of wheels) number)) (stages_from 0 (product (sizes_of wheels)))
    (λ number. by_stage _ count few)))

pub staged_branches : (count : ℕ) (branches : List Branch) (rows : List (List ℕ)) (debuts : List Debut) → count ≤ 16 → rows ≡ branch_rows count [] branches → debuts ≡ debuts_of rows → AreStaged debuts
staged_branches count branches rows debuts few made all =
    subst AreStaged (sym (all ∙ ap debuts_of made)) (staged (branch_rows count [] branches) (short_branches count [] branches few tt))

pub few_positions : {X Y : Type 0} (f : X → Y) (xs : List X) (ys : List Y) → ys ≡ map f xs → length xs ≤ most_nodes → length ys < 2 ^ 32
few_positions f xs ys made few = small (length ys) (let long = ap length made ∙ length-map xs f in omega (arith, long, few))
  where
    small : (n : ℕ) → n ≤ most_nodes → n < 2 ^ 32
    small n h = omega (arith, h)

-- ---- why there is no program

over_none : (x y z : Bool) → x ≡ false → y ≡ false → z ≡ false → (x || (y || z)) ≡ false
over_none x y z one two three = ap₂ (λ a b. a || b) one (ap₂ (λ a b. a || b) two three)

is_few : (n : ℕ) → n ≤ most_nodes → nat_lt most_nodes n ≡ false
is_few n h = grind (arith, nat_tests)

not_above : (n : ℕ) → n ≤ most_scenarios → nat_lt most_scenarios n ≡ false
not_above n h = grind (arith, nat_tests)

-- the last step
pub finished : (over : Bool) (walk last : Result Program Operation) (result : Result ProgramOf BuildFault) → over ≡ false → walk ≡ last → MatchResult result (λ program. last ≡ Ok (content program)) (BuildFaultOf last) → IsBuilt over walk result
finished over walk last (Ok program) few same made = (few, same ∙ made)
finished over walk last (Err Limit) few same made = absurd made
finished over walk last (Err (Passed p)) few same made = (few, same ∙ made)
finished over walk last (Err Memory) few same made = tt

-- a step before it that hands on why it failed
pub stopped : {X : Type 0} (over : Bool) (walk : Result Program Operation) (step : Result X Operation) (result : Result ProgramOf BuildFault) (fault : BuildFault) → over ≡ false → IsErrAnd result (λ e. e ≡ fault) → BuildFaultOf step fault →
    ((p : Operation) → step ≡ Err p → walk ≡ Err p) → IsBuilt over walk result
stopped over walk step (Ok program) fault few is fails ends = absurd is
stopped over walk step (Err e) Limit few is fails ends = absurd fails
stopped over walk step (Err e) (Passed p) few is fails ends = subst (IsBuildFault over walk) (sym is) (few, ends p fails)
stopped over walk step (Err e) Memory few is fails ends = subst (IsBuildFault over walk) (sym is) tt

-- ---- blocks

abbrev blocks_sum : List Wheel → List Debut → List Values → Bool
blocks_sum wheels debuts all = nat_lt most_scenarios (product (sizes_of wheels)) || (nat_lt most_nodes (length debuts) || are_over all)

-- the steps of blocks
pub record BlockSteps (core : Core) (p : Stages) (blocks : List Block) (wheels : List Wheel) (rows : List (List ℕ)) (debuts : List Debut) (paths : List (List ℕ)) (all : List Values) : Type 0 where
  pub wheels_made : wheels ≡ wheels_of (length p.names) blocks
  pub rows_made : rows ≡ block_rows (length p.names) wheels
  pub debuts_made : debuts ≡ debuts_of rows
  pub paths_made : paths ≡ paths_of rows
  pub all_made : all ≡ map (block_node core p (base_of core p) blocks wheels) debuts

blocks_over_is : (core : Core) (p : Stages) (blocks : List Block) (wheels : List Wheel) (rows : List (List ℕ)) (debuts : List Debut) (paths : List (List ℕ)) (all : List Values) → BlockSteps core p blocks wheels rows debuts paths all →
    blocks_sum wheels debuts all ≡ blocks_over core p blocks
blocks_over_is core p blocks wheels rows debuts paths all steps =
    ap₂ (λ (ds : List Debut) (a : List Values). blocks_sum wheels ds a) steps.debuts_made (steps.all_made ∙ ap (map (block_node core p (base_of core p) blocks wheels)) steps.debuts_made)
    ∙ ap₂ (blocks_over_by core p blocks) steps.wheels_made (steps.rows_made ∙ ap (block_rows (length p.names)) steps.wheels_made)

pub blocks_few : (core : Core) (p : Stages) (blocks : List Block) (wheels : List Wheel) (rows : List (List ℕ)) (debuts : List Debut) (paths : List (List ℕ)) (all : List Values) → BlockSteps core p blocks wheels rows debuts paths all →
    product (sizes_of wheels) ≤ most_scenarios → length debuts ≤ most_nodes → are_over all ≡ false → blocks_over core p blocks ≡ false
blocks_few core p blocks wheels rows debuts paths all steps one two three =
    sym (blocks_over_is core p blocks wheels rows debuts paths all steps)
    ∙ over_none (nat_lt most_scenarios (product (sizes_of wheels))) (nat_lt most_nodes (length debuts)) (are_over all) (not_above (product (sizes_of wheels)) one) (is_few (length debuts) two) three

blocks_at : (core : Core) (p : Stages) (blocks : List Block) (wheels : List Wheel) (debuts : List Debut) (paths : List (List ℕ)) (all : List Values) → Result Program Operation
blocks_at core p blocks wheels debuts paths all = then_walk (block_paths blocks wheels [] paths) (λ scenarios. finish_walk core p debuts (map (position_at paths) debuts) scenarios all)

blocks_walk_is : (core : Core) (p : Stages) (blocks : List Block) (wheels : List Wheel) (rows : List (List ℕ)) (debuts : List Debut) (paths : List (List ℕ)) (all : List Values) → BlockSteps core p blocks wheels rows debuts paths all →
    blocks_walk core p blocks ≡ blocks_at core p blocks wheels debuts paths all
unfolding blocks_at
blocks_walk_is core p blocks wheels rows debuts paths all steps =
    sym (ap₂ (blocks_walk_by core p blocks) steps.wheels_made (steps.rows_made ∙ ap (block_rows (length p.names)) steps.wheels_made))
    ∙ sym (ap₂ (λ (ds : List Debut) (a : List Values). blocks_at core p blocks wheels ds (paths_of rows) a) steps.debuts_made (steps.all_made ∙ ap (map (block_node core p (base_of core p) blocks wheels)) steps.debuts_made))
    ∙ sym (ap (λ (ps : List (List ℕ)). blocks_at core p blocks wheels debuts ps all) steps.paths_made)

pub blocks_end : (core : Core) (p : Stages) (blocks : List Block) (wheels : List Wheel) (rows : List (List ℕ)) (debuts : List Debut) (paths : List (List ℕ)) (all : List Values) (positions : List Position) (scenarios : List Scenario) →
    BlockSteps core p blocks wheels rows debuts paths all → positions ≡ map (position_at paths) debuts → block_paths blocks wheels [] paths ≡ Ok scenarios → blocks_walk core p blocks ≡ finish_walk core p debuts positions scenarios all
unfolding blocks_at
blocks_end core p blocks wheels rows debuts paths all positions scenarios steps placed made =
    blocks_walk_is core p blocks wheels rows debuts paths all steps
    ∙ ap (λ w. then_walk w (λ scenarios. finish_walk core p debuts (map (position_at paths) debuts) scenarios all)) made
    ∙ sym (ap (λ ps. finish_walk core p debuts ps scenarios all) placed)

pub blocks_stop : (core : Core) (p : Stages) (blocks : List Block) (wheels : List Wheel) (rows : List (List ℕ)) (debuts : List Debut) (paths : List (List ℕ)) (all : List Values) (passed : Operation) →
    BlockSteps core p blocks wheels rows debuts paths all → block_paths blocks wheels [] paths ≡ Err passed → blocks_walk core p blocks ≡ Err passed
unfolding blocks_at
blocks_stop core p blocks wheels rows debuts paths all passed steps made =
    blocks_walk_is core p blocks wheels rows debuts paths all steps
    ∙ ap (λ w. then_walk w (λ scenarios. finish_walk core p debuts (map (position_at paths) debuts) scenarios all)) made

-- ---- scenarios that are stated

abbrev branches_sum : List Branch → List Debut → List Values → Bool
branches_sum branches debuts all = nat_lt most_scenarios (length branches) || (nat_lt most_nodes (length debuts) || are_over all)

-- the steps of scenarios that are stated
pub record BranchSteps (core : Core) (p : Stages) (branches : List Branch) (rows : List (List ℕ)) (debuts : List Debut) (paths : List (List ℕ)) (all : List Values) : Type 0 where
  pub rows_made : rows ≡ branch_rows (length p.names) [] branches
  pub debuts_made : debuts ≡ debuts_of rows
  pub paths_made : paths ≡ paths_of rows
  pub all_made : all ≡ branch_nodes core p (base_of core p) branches paths [] debuts

branches_at : (core : Core) (p : Stages) (branches : List Branch) (debuts : List Debut) (paths : List (List ℕ)) (all : List Values) → Result Program Operation
branches_at core p branches debuts paths all = then_walk (branch_paths branches [] paths) (λ scenarios. finish_walk core p debuts (map (position_at paths) debuts) scenarios all)

branch_all_is : (core : Core) (p : Stages) (branches : List Branch) (rows : List (List ℕ)) (debuts : List Debut) (paths : List (List ℕ)) (all : List Values) → BranchSteps core p branches rows debuts paths all → all ≡ branch_all core p branches rows
branch_all_is core p branches rows debuts paths all steps =
    steps.all_made ∙ ap₂ (λ (ps : List (List ℕ)) (ds : List Debut). branch_nodes core p (base_of core p) branches ps [] ds) steps.paths_made steps.debuts_made

pub branches_few : (core : Core) (p : Stages) (branches : List Branch) (rows : List (List ℕ)) (debuts : List Debut) (paths : List (List ℕ)) (all : List Values) → BranchSteps core p branches rows debuts paths all →
    length branches ≤ most_scenarios → length debuts ≤ most_nodes → are_over all ≡ false → branches_over core p branches ≡ false
branches_few core p branches rows debuts paths all steps one two three =
    sym (ap₂ (λ (ds : List Debut) (a : List Values). branches_sum branches ds a) steps.debuts_made (branch_all_is core p branches rows debuts paths all steps)
    ∙ ap (branches_over_by core p branches) steps.rows_made)
    ∙ over_none (nat_lt most_scenarios (length branches)) (nat_lt most_nodes (length debuts)) (are_over all) (not_above (length branches) one) (is_few (length debuts) two) three

branches_walk_is : (core : Core) (p : Stages) (branches : List Branch) (rows : List (List ℕ)) (debuts : List Debut) (paths : List (List ℕ)) (all : List Values) → BranchSteps core p branches rows debuts paths all →
    branches_walk core p branches ≡ branches_at core p branches debuts paths all
unfolding branches_at
branches_walk_is core p branches rows debuts paths all steps =
    sym (ap (branches_walk_by core p branches) steps.rows_made)
    ∙ sym (ap₂ (λ (ds : List Debut) (a : List Values). branches_at core p branches ds (paths_of rows) a) steps.debuts_made (branch_all_is core p branches rows debuts paths all steps))
    ∙ sym (ap (λ (ps : List (List ℕ)). branches_at core p branches debuts ps all) steps.paths_made)

pub branches_end : (core : Core) (p : Stages) (branches : List Branch) (rows : List (List ℕ)) (debuts : List Debut) (paths : List (List ℕ)) (all : List Values) (positions : List Position) (scenarios : List Scenario) →
    BranchSteps core p branches rows debuts paths all → positions ≡ map (position_at paths) debuts → branch_paths branches [] paths ≡ Ok scenarios → branches_walk core p branches ≡ finish_walk core p debuts positions scenarios all
unfolding branches_at
branches_end core p branches rows debuts paths all positions scenarios steps placed made =
    branches_walk_is core p branches rows debuts paths all steps
    ∙ ap (λ w. then_walk w (λ scenarios. finish_walk core p debuts (map (position_at paths) debuts) scenarios all)) made
    ∙ sym (ap (λ ps. finish_walk core p debuts ps scenarios all) placed)

pub branches_stop : (core : Core) (p : Stages) (branches : List Branch) (rows : List (List ℕ)) (debuts : List Debut) (paths : List (List ℕ)) (all : List Values) (passed : Operation) →
    BranchSteps core p branches rows debuts paths all → branch_paths branches [] paths ≡ Err passed → branches_walk core p branches ≡ Err passed
unfolding branches_at
branches_stop core p branches rows debuts paths all passed steps made =
    branches_walk_is core p branches rows debuts paths all steps
    ∙ ap (λ w. then_walk w (λ scenarios. finish_walk core p debuts (map (position_at paths) debuts) scenarios all)) made
