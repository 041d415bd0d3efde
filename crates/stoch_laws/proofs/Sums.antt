-- What is found at ENDATA is what the groups mean.
use Rattle.std.proofs.Common.{◌≡◌, ◌∙◌, ap, ℕ, ◌+◌, Bool, true, false, List, [], ◌∷◌, ◌++◌, Ok, Err, map, nat_eq, not, refl, sym, append_assoc, append-nil, if◌then◌else◌}
use Rattle.std.specs.Prelude.{cond}
use Rattle.rationals.specs.Rational.{ℚ, zero_ℚ, ◌+ℚ◌, ◌/ℚ◌, add_assoc_ℚ, add_zero_ℚ, zero_add_ℚ}
use Rattle.rationals.specs.Passes.{add_walk, div_walk}
use Rattle.rationals.specs.Sums.{sum_ℚ}
use Rattle.refusals.specs.declared.cause.Cause.TheVariants as cause
use Rattle.refusals.specs.Results.{◌>>=◌}
use Rattle.core_defs.specs.declared.program.Core.{Core}
use Rattle.reader_defs.proofs.Taken.{bind_ok, else_ok, ok_is}
use Rattle.time_defs.specs.Means.{Stages}
use Rattle.stoch_defs.specs.declared.heads.CaseHead.{CaseHead}
use Rattle.stoch_defs.specs.declared.heads.BranchHead.{BranchHead}
use Rattle.stoch_defs.specs.Finish as finish
use Rattle.stoch_defs.specs.Finish.{sum_from, is_near, divided_from, shared, case_with, stated_cases, own, own_from, chance_of, with_parts, stated_branch, branches_with, is_empty, random_of}
use Rattle.stoch_defs.specs.Groups.{Group}
use Rattle.stoch_defs.specs.Means.{stated_probability, number_of_group, is_number, groups_of, sets_of_case, case_of, blocks_from, period_of, Scenario, name_of, scenario_of, scenarios_from, scenarios_of, stated_chance, divided, meant_by}
use Rattle.stoch_defs.specs.Random.{Sets, Case, Block, Random}
use Rattle.stoch_defs.specs.Random.Random.{Blocks, Branches}
use Rattle.stoch_defs.specs.Stated.{Stated, Node}
use Rattle.stoch_defs.specs.Step.{or_passes, branch_head_of, node_of}
use Rattle.stoch_defs.proofs.StepParts.{sum_is, quotient_is}
use Rattle.stoch_laws.proofs.Cases.{firsts, some_block, head_chance, Cases, head_is, tail_is}

sums : {A : Type 0} (f : A → ℚ) (total : ℚ) (items : List A) (x : ℚ) → sum_from total (map f items) ≡ Ok x → x ≡ total +ℚ sum_ℚ f items
sums f total [] x e = ok_is total x e ∙ sym (add_zero_ℚ total)
sums f total (a ∷ items) x e =
    let found = bind_ok (or_passes (add_walk total (f a))) (λ more. sum_from more (map f items)) x e in
    sums f found.0 items x found.2 ∙ ap (λ t. t +ℚ sum_ℚ f items) (sum_is total (f a) found.0 found.1) ∙ add_assoc_ℚ total (f a) (sum_ℚ f items)

abbrev part : {A : Type 0} → (A → ℚ) → ℚ → A → ℚ
part f total a = f a /ℚ total

quotients : {A : Type 0} (f : A → ℚ) (total : ℚ) (done : List ℚ) (items : List A) (parts : List ℚ) → divided_from total done (map f items) ≡ Ok parts → parts ≡ done ++ map (part f total) items
quotients f total done [] parts e = ok_is done parts e ∙ sym (append-nil done)
quotients f total done (a ∷ items) parts e =
    let found = bind_ok (or_passes (div_walk (f a) total)) (λ q. divided_from total (done ++ q ∷ []) (map f items)) parts e in
    quotients f total (done ++ found.0 ∷ []) items parts found.2 ∙ append_assoc done (found.0 ∷ []) (map (part f total) items)
    ∙ ap (λ q. done ++ q ∷ map (part f total) items) (quotient_is (f a) total found.0 found.1)

shared_is : {A : Type 0} (f : A → ℚ) (items : List A) (values parts : List ℚ) → values ≡ map f items → shared values ≡ Ok parts → parts ≡ map (part f (sum_ℚ f items)) items
shared_is f items values parts same e =
    let found = bind_ok (sum_from zero_ℚ (map f items)) (λ total. if not (is_near total) then Err (cause.ProbabilitySum total) else divided_from total [] (map f items)) parts (ap shared (sym same) ∙ e) in
    let last = else_ok (not (is_near found.0)) (cause.ProbabilitySum found.0) (divided_from found.0 [] (map f items)) parts found.2 in
    quotients f found.0 [] items parts last.1 ∙ ap (λ total. map (part f total) items) (sums f zero_ℚ items found.0 found.1 ∙ zero_add_ℚ (sum_ℚ f items))

-- ---- blocks

abbrev stated_case : Core → Group → Case
stated_case core g = case_with (stated_probability g) (sets_of_case core g)

chances_are : (core : Core) (gs : List Group) → map chance_of (map (stated_case core) gs) ≡ map stated_probability gs
chances_are core [] = refl
chances_are core (g ∷ gs) = ap (λ (l : List ℚ). stated_probability g ∷ l) (chances_are core gs)

parts_are : (core : Core) (total : ℚ) (gs : List Group) → with_parts (map (part stated_probability total) gs) (map (stated_case core) gs) ≡ map (case_of core total) gs
parts_are core total [] = refl
parts_are core total (g ∷ gs) = ap (λ (l : List Case). case_of core total g ∷ l) (parts_are core total gs)

abbrev block_with : ℕ → List Case → Block
block_with stage cases = record { stage = stage; cases = cases }

block_is : (core : Core) (stage : ℕ) (cases : List Case) (gs : List Group) (block : Block) → cases ≡ map (stated_case core) gs → finish.block_of stage cases ≡ Ok block → block ≡ block_with stage (map (case_of core (sum_ℚ stated_probability gs)) gs)
block_is core stage cases gs block same e =
    let found = bind_ok (shared (map chance_of cases)) (λ parts. Ok (block_with stage (with_parts parts cases))) block e in
    let parts = shared_is stated_probability gs (map chance_of cases) found.0 (ap (map chance_of) same ∙ chances_are core gs) found.1 in
    ok_is (block_with stage (with_parts found.0 cases)) block found.2
    ∙ ap (λ ps. block_with stage (with_parts ps cases)) parts
    ∙ ap (λ cs. block_with stage (with_parts (map (part stated_probability (sum_ℚ stated_probability gs)) gs) cs)) same
    ∙ ap (block_with stage) (parts_are core (sum_ℚ stated_probability gs) gs)

pick : (core : Core) (g : Group) (b : Bool) (chance : ℚ) (rest : List Case) (others : List Group) → chance ≡ stated_probability g → rest ≡ map (stated_case core) others →
    (if b then case_with chance (sets_of_case core g) ∷ rest else rest) ≡ map (stated_case core) (cond b (g ∷ others) others)
pick core g true chance rest others is same = ap (λ c. case_with c (sets_of_case core g) ∷ rest) is ∙ ap (λ (l : List Case). stated_case core g ∷ l) same
pick core g false chance rest others is same = same

first_chance : (x y : ℚ) (xs ys : List ℚ) → x ∷ xs ≡ y ∷ ys → x ≡ y
first_chance x y xs ys e = cc

other_chances : (x y : ℚ) (xs ys : List ℚ) → x ∷ xs ≡ y ∷ ys → xs ≡ ys
other_chances x y xs ys e = cc

own_is : (core : Core) (fs cs : List Group) (heads : List CaseHead) (n : ℕ) → map (number_of_group core fs) cs ≡ map some_block heads → map stated_probability cs ≡ map head_chance heads →
    own n heads (stated_cases heads (map (sets_of_case core) cs)) ≡ map (stated_case core) (groups_of core fs cs n)
own_is core fs [] [] n e chances = refl
own_is core fs [] (h ∷ heads) n e chances = cc
own_is core fs (g ∷ cs) [] n e chances = cc
own_is core fs (g ∷ cs) (h ∷ heads) n e chances =
    let here = head_is (number_of_group core fs g) (some_block h) (map (number_of_group core fs) cs) (map some_block heads) e in
    let there = tail_is (number_of_group core fs g) (some_block h) (map (number_of_group core fs) cs) (map some_block heads) e in
    let chance = first_chance (stated_probability g) h.probability (map stated_probability cs) (map head_chance heads) chances in
    let others = other_chances (stated_probability g) h.probability (map stated_probability cs) (map head_chance heads) chances in
    pick core g (nat_eq h.block n) h.probability (own n heads (stated_cases heads (map (sets_of_case core) cs))) (groups_of core fs cs n) (sym chance) (own_is core fs cs heads n there others)
    ∙ ap (λ (b : Bool). map (stated_case core) (cond b (g ∷ groups_of core fs cs n) (groups_of core fs cs n))) (sym (ap (is_number n) here))

blocks_are : (core : Core) (p : Stages) (fs cs : List Group) (heads : List CaseHead) (n : ℕ) (done : List Block) (rest : List Group) (blocks : List Block) →
    map (number_of_group core fs) cs ≡ map some_block heads → map stated_probability cs ≡ map head_chance heads →
    finish.blocks_from done (map (period_of core p) rest) (own_from n heads (stated_cases heads (map (sets_of_case core) cs)) (map (period_of core p) rest)) ≡ Ok blocks →
    blocks ≡ done ++ blocks_from core p fs cs n rest
blocks_are core p fs cs heads n done [] blocks numbers chances e = ok_is done blocks e ∙ sym (append-nil done)
blocks_are core p fs cs heads n done (f ∷ rest) blocks numbers chances e =
    let cases = stated_cases heads (map (sets_of_case core) cs) in
    let stages = map (period_of core p) rest in
    let found = bind_ok (finish.block_of (period_of core p f) (own n heads cases)) (λ block. finish.blocks_from (done ++ block ∷ []) stages (own_from (n + 1) heads cases stages)) blocks e in
    blocks_are core p fs cs heads (n + 1) (done ++ found.0 ∷ []) rest blocks numbers chances found.2
    ∙ append_assoc done (found.0 ∷ []) (blocks_from core p fs cs (n + 1) rest)
    ∙ ap (λ block. done ++ block ∷ blocks_from core p fs cs (n + 1) rest) (block_is core (period_of core p f) (own n heads cases) (groups_of core fs cs n) found.0 (own_is core fs cs heads n numbers chances) found.1)

-- ---- scenarios

abbrev pub scenario_head : Scenario → BranchHead
scenario_head k = branch_head_of k.branch.probability k.branch.stage

abbrev pub scenario_node : Scenario → Node
scenario_node k = node_of k.branch.parent k.branch.sets

scenario_chances : (ks : List Scenario) → map stated_branch (map scenario_head ks) ≡ map stated_chance ks
scenario_chances [] = refl
scenario_chances (k ∷ ks) = ap (λ (l : List ℚ). stated_chance k ∷ l) (scenario_chances ks)

branches_are : (total : ℚ) (ks : List Scenario) → branches_with (map name_of ks) (map scenario_head ks) (map scenario_node ks) (map (part stated_chance total) ks) ≡ map (divided total) ks
branches_are total [] = refl
branches_are total (k ∷ ks) = ap (λ (l : List _). divided total k ∷ l) (branches_are total ks)

still_some : {A : Type 0} (xs : List A) (x : A) → is_empty (xs ++ x ∷ []) ≡ false
still_some [] x = refl
still_some (first ∷ xs) x = refl

some_mapped : {A B : Type 0} (f : A → B) (xs : List A) → is_empty xs ≡ false → is_empty (map f xs) ≡ false
some_mapped f [] e = cc
some_mapped f (x ∷ xs) e = refl

some_scenarios : (core : Core) (p : Stages) (known : List Scenario) (groups : List Group) → is_empty known ≡ false → is_empty (scenarios_from core p known groups) ≡ false
some_scenarios core p known [] e = e
some_scenarios core p known (g ∷ groups) e = some_scenarios core p (known ++ scenario_of core p known g ∷ []) groups (still_some known (scenario_of core p known g))

-- ---- together

-- the tables say what the groups say, and nothing is in work
pub record Ready (core : Core) (p : Stages) (cs scs : List Group) (s : Stated) : Type 0 where
  pub cases : Cases core p cs s.blocks s.singles s.single_blocks s.block_names s.block_numbers s.cases
  pub sets : s.case_sets ≡ map (sets_of_case core) cs
  pub names : s.branch_names ≡ map name_of (scenarios_of core p scs)
  pub heads : s.branches ≡ map scenario_head (scenarios_of core p scs)
  pub nodes : s.nodes ≡ map scenario_node (scenarios_of core p scs)
  pub quiet : s.sets ≡ []

blocks_found : (core : Core) (p : Stages) (cs : List Group) (s : Stated) (x : Random) → Cases core p cs s.blocks s.singles s.single_blocks s.block_names s.block_numbers s.cases → s.case_sets ≡ map (sets_of_case core) cs →
    finish.blocks_of s ≡ Ok x → x ≡ meant_by core p cs []
blocks_found core p cs s x c sets e =
    let found = bind_ok (finish.blocks_from [] s.blocks (own_from 0 s.cases (stated_cases s.cases s.case_sets) s.blocks)) (λ blocks. Ok (Blocks blocks)) x e in
    let same = ap (λ (all : List Sets). finish.blocks_from [] s.blocks (own_from 0 s.cases (stated_cases s.cases all) s.blocks)) sets
    ∙ ap (λ (stages : List ℕ). finish.blocks_from [] stages (own_from 0 s.cases (stated_cases s.cases (map (sets_of_case core) cs)) stages)) c.stages in
    ok_is (Blocks found.0) x found.2 ∙ ap Blocks (blocks_are core p (firsts core cs) cs s.cases 0 [] (firsts core cs) found.0 c.blocks_are c.chances (sym same ∙ found.1))

branches_found : (names : List (List ℕ)) (heads : List BranchHead) (nodes : List Node) (ks : List Scenario) (x : Random) → names ≡ map name_of ks → heads ≡ map scenario_head ks → nodes ≡ map scenario_node ks →
    (shared (map stated_branch heads) >>= λ parts. Ok (Branches (branches_with names heads nodes parts))) ≡ Ok x → x ≡ Branches (map (divided (sum_ℚ stated_chance ks)) ks)
branches_found names heads nodes ks x is_names is_heads is_nodes e =
    let found = bind_ok (shared (map stated_branch heads)) (λ parts. Ok (Branches (branches_with names heads nodes parts))) x e in
    let parts = shared_is stated_chance ks (map stated_branch heads) found.0 (ap (map stated_branch) is_heads ∙ scenario_chances ks) found.1 in
    let total = sum_ℚ stated_chance ks in
    ok_is (Branches (branches_with names heads nodes found.0)) x found.2
    ∙ ap (λ l. Branches (branches_with l heads nodes found.0)) is_names ∙ ap (λ l. Branches (branches_with (map name_of ks) l nodes found.0)) is_heads
    ∙ ap (λ l. Branches (branches_with (map name_of ks) (map scenario_head ks) l found.0)) is_nodes
    ∙ ap (λ l. Branches (branches_with (map name_of ks) (map scenario_head ks) (map scenario_node ks) l)) parts ∙ ap Branches (branches_are total ks)

pub random_is : (core : Core) (p : Stages) (cs scs : List Group) (s : Stated) (x : Random) → Ready core p cs scs s → random_of s ≡ Ok x → x ≡ meant_by core p cs scs
random_is core p cs [] s x r e =
    let none : is_empty s.branches ≡ true = ap is_empty r.heads in
    blocks_found core p cs s x r.cases r.sets (sym (ap (λ (b : Bool). if b then finish.blocks_of s else finish.branches_of s) none) ∙ e)
random_is core p cs (g ∷ scs) s x r e =
    let ks = scenarios_of core p (g ∷ scs) in
    let some : is_empty s.branches ≡ false = ap is_empty r.heads ∙ some_mapped scenario_head ks (some_scenarios core p (scenario_of core p [] g ∷ []) scs refl) in
    branches_found s.branch_names s.branches s.nodes ks x r.names r.heads r.nodes (sym (ap (λ (b : Bool). if b then finish.blocks_of s else finish.branches_of s) some) ∙ e)
