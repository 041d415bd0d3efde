-- The probabilities of the scenarios that are built add up to 1.
use Rattle.std.proofs.Common.{◌≡◌, ◌∙◌, ap, ap₂, sym, refl, ℕ, zero, suc, ◌+◌, ◌*◌, ◌/◌, ◌%◌, ◌<◌, Bool, true, List, [], ◌∷◌, ◌++◌, length, get_or, nat_lt, arith, Ok, if◌then◌else◌}
use Rattle.std.proofs.lemmas.List.{length_push}
use Rattle.std.proofs.lemmas.Nat.{div-mul-add, div-add-mod'}
use Rattle.std.proofs.lemmas.Bool.Decides.{nat_tests}
use Rattle.rationals.specs.Rational.{ℚ, one_ℚ, ◌+ℚ◌, ◌*ℚ◌, mul_one_ℚ, mul_comm_ℚ, mul_zero_ℚ, zero_add_ℚ, add_zero_ℚ, add_assoc_ℚ, add_mul_ℚ}
use Rattle.rationals.specs.Sums.{sum_ℚ, sum-append}
use Rattle.stoch_defs.specs.Random.{Case, Block, Branch}
use Rattle.scen_defs.specs.Lists.{Each}
use Rattle.scen_defs.specs.Program.{Scenario}
use Rattle.build_defs.specs.Digits.{digits}
use Rattle.build_defs.specs.Scenarios.{no_branch, stages_from}
use Rattle.build_defs.specs.Built.{product_from}
use Rattle.build_defs.specs.Laws.{IsCertain}
use Rattle.build_defs.proofs.ChanceLemmas.{product as product_of, one_product, then_is, fine_is}
use Rattle.tree_build.specs.declared.wheels.Wheel.{Wheel}
use Rattle.tree_build.specs.Wheels.{wheels_of, product, sizes_of, digits_of}
use Rattle.tree_build.specs.Choices.{no_block, no_case, case_at, chances_of}
use Rattle.tree_build.specs.Nodes.{digits_at}
use Rattle.tree_build.specs.Finish.{block_paths, branch_paths}
use Rattle.tree_build.proofs.Lists.{each_at}
use Rattle.tree_build.proofs.ScenarioLaws.{IsWheel, all_wheels}

abbrev chance : Scenario → ℚ
chance s = s.probability

-- ---- sums over numbers

abbrev total : (ℕ → ℚ) → ℕ → ℕ → ℚ
total f first count = sum_ℚ f (stages_from first count)

stages_append : (first a b : ℕ) → stages_from first (a + b) ≡ stages_from first a ++ stages_from (first + a) b
stages_append first zero b = ap₂ stages_from (let e : first ≡ first + 0 = omega arith in e) (let e : 0 + b ≡ b = omega arith in e)
stages_append first (suc a) b =
    ap (stages_from first) (let e : suc a + b ≡ suc (a + b) = omega arith in e)
    ∙ ap (λ (rest : List ℕ). first ∷ rest) (stages_append (first + 1) a b ∙ ap (λ n. stages_from (first + 1) a ++ stages_from n b) (let e : first + 1 + a ≡ first + suc a = omega arith in e))

total_append : (f : ℕ → ℚ) (first a b : ℕ) → total f first (a + b) ≡ total f first a +ℚ total f (first + a) b
total_append f first a b = ap (sum_ℚ f) (stages_append first a b) ∙ sum-append f (stages_from first a) (stages_from (first + a) b)

total_same : (f g : ℕ → ℚ) (first count : ℕ) → ((i : ℕ) → i < count → f (first + i) ≡ g (first + i)) → total f first count ≡ total g first count
total_same f g first zero same = refl
total_same f g first (suc count) same =
    ap₂ ◌+ℚ◌ (ap f (let e : first ≡ first + 0 = omega arith in e) ∙ same 0 (omega arith) ∙ ap g (let e : first + 0 ≡ first = omega arith in e))
    (total_same f g (first + 1) count (λ i below. ap f (let e : first + 1 + i ≡ first + suc i = omega arith in e) ∙ same (suc i) (omega (arith, below)) ∙ ap g (let e : first + suc i ≡ first + 1 + i = omega arith in e)))

-- a stretch of numbers from n on, each a multiple of what belongs to it from k on
stretch : (f g : ℕ → ℚ) (c : ℚ) (n k count : ℕ) → ((i : ℕ) → i < count → f (n + i) ≡ c *ℚ g (k + i)) → total f n count ≡ c *ℚ total g k count
stretch f g c n k zero same = sym (mul_zero_ℚ c)
stretch f g c n k (suc count) same =
    ap₂ ◌+ℚ◌
    (ap f (let e : n ≡ n + 0 = omega arith in e) ∙ same 0 (omega arith) ∙ ap (λ m. c *ℚ g m) (let e : k + 0 ≡ k = omega arith in e))
    (stretch f g c (n + 1) (k + 1) count (λ i below. ap f (let e : n + 1 + i ≡ n + suc i = omega arith in e) ∙ same (suc i) (omega (arith, below)) ∙ ap (λ m. c *ℚ g m) (let e : k + suc i ≡ k + 1 + i = omega arith in e)))
    ∙ sym (spread c (g k) (total g (k + 1) count))
  where
    spread : (a b d : ℚ) → a *ℚ (b +ℚ d) ≡ a *ℚ b +ℚ a *ℚ d
    spread a b d = mul_comm_ℚ a (b +ℚ d) ∙ add_mul_ℚ b d a ∙ ap₂ ◌+ℚ◌ (mul_comm_ℚ b a) (mul_comm_ℚ d a)

-- stretches of q numbers each: where each number's part is a factor of its stretch times one of its place, and the places' add up to 1
stretches : (f c g : ℕ → ℚ) (q d s : ℕ) → ((e r : ℕ) → e < d + s → r < q → f (e * q + r) ≡ c e *ℚ g r) → total g 0 q ≡ one_ℚ → total f (d * q) (s * q) ≡ total c d s
stretches f c g q d zero same one = ap (total f (d * q)) (let e : zero * q ≡ 0 = omega arith in e)
stretches f c g q d (suc s) same one =
    let more : suc s * q ≡ q + s * q = omega arith in
    let next : d * q + q ≡ (d + 1) * q = omega arith in
    ap (total f (d * q)) more ∙ total_append f (d * q) q (s * q)
    ∙ ap₂ ◌+ℚ◌
    (stretch f g (c d) (d * q) 0 q (λ r below. same d r (omega arith) below ∙ ap (λ m. c d *ℚ g m) (let e : r ≡ 0 + r = omega arith in e)) ∙ ap (λ x. c d *ℚ x) one ∙ mul_one_ℚ (c d))
    (ap (λ n. total f n (s * q)) next ∙ stretches f c g q (d + 1) s (λ e r low below. same e r (omega (arith, low)) below) one)

-- ---- blocks

-- the probability of the scenario with this number
abbrev part : List Block → List Wheel → ℕ → ℚ
part blocks wheels number = product_of (chances_of blocks wheels (digits_of (sizes_of wheels) number))

cases_total : (cases : List Case) (n : ℕ) (rest : List Case) → ((i : ℕ) → get_or cases (n + i) no_case ≡ get_or rest i no_case) →
    total (λ d. (get_or cases d no_case).probability) n (length rest) ≡ sum_ℚ (λ (case : Case). case.probability) rest
cases_total cases n [] same = refl
cases_total cases n (case ∷ rest) same =
    ap₂ ◌+ℚ◌ (ap (λ (c : Case). c.probability) (ap (λ m. get_or cases m no_case) (let e : n ≡ n + 0 = omega arith in e) ∙ same 0))
    (cases_total cases (n + 1) rest (λ i. ap (λ m. get_or cases m no_case) (let e : n + 1 + i ≡ n + suc i = omega arith in e) ∙ same (suc i)))

-- a wheel's block has probabilities that add up to 1
abbrev IsSure : List Block → Wheel → Type 0
IsSure blocks wheel = total (λ d. (case_at blocks wheel.block d).probability) 0 wheel.size ≡ one_ℚ

wheel_sure : (blocks : List Block) (wheel : Wheel) → IsWheel blocks wheel → IsCertain (get_or blocks wheel.block no_block) → IsSure blocks wheel
wheel_sure blocks wheel fit certain =
    let cases = (get_or blocks wheel.block no_block).cases in
    ap (total (λ d. (case_at blocks wheel.block d).probability) 0) fit.size
    ∙ cases_total cases 0 cases (λ i. ap (λ m. get_or cases m no_case) (let e : 0 + i ≡ i = omega arith in e)) ∙ certain

rest_of : (d q r : ℕ) → r < q → (d * q + r) % q ≡ r
rest_of d q r below =
    let quotient = div-mul-add d q r below in
    let some : 0 < q = omega (arith, below) in
    remainder d q r quotient some
  where
    remainder : (d q r : ℕ) → (d * q + r) / q ≡ d → 0 < q → (d * q + r) % q ≡ r
    remainder d q r e some = let back : (d * q + r) / q * q + (d * q + r) % q ≡ d * q + r = div-add-mod' (d * q + r) q in let same : (d * q + r) / q * q ≡ d * q = ap (λ x. x * q) e in omega (arith, back, same)

parts_sum : (blocks : List Block) (wheels : List Wheel) → Each (IsSure blocks) wheels → total (part blocks wheels) 0 (product (sizes_of wheels)) ≡ one_ℚ
parts_sum blocks [] sure = add_zero_ℚ one_ℚ
parts_sum blocks (w ∷ wheels) sure =
    let q = product (sizes_of wheels) in
    let zero_is : 0 * q ≡ 0 = omega arith in
    ap (λ n. total (part blocks (w ∷ wheels)) n (w.size * q)) (sym zero_is)
    ∙ stretches (part blocks (w ∷ wheels)) (λ d. (case_at blocks w.block d).probability) (part blocks wheels) q 0 w.size
    (λ e r low below. ap₂ (λ (d : ℕ) (n : ℕ). (case_at blocks w.block d).probability *ℚ part blocks wheels n) (div-mul-add e q r below) (rest_of e q r below))
    (parts_sum blocks wheels sure.1)
    ∙ sure.0

-- the scenarios' probabilities one by one
scenarios_sum : (blocks : List Block) (wheels : List Wheel) (built : List Scenario) (paths : List (List ℕ)) (scenarios : List Scenario) → block_paths blocks wheels built paths ≡ Ok scenarios →
    sum_ℚ chance scenarios ≡ sum_ℚ chance built +ℚ total (λ n. product_of (chances_of blocks wheels (digits_at (sizes_of wheels) n))) (length built) (length paths)
scenarios_sum blocks wheels built [] scenarios e = ap (sum_ℚ chance) (fine_is built scenarios e) ∙ sym (add_zero_ℚ (sum_ℚ chance built))
scenarios_sum blocks wheels built (path ∷ paths) scenarios e =
    let factors = chances_of blocks wheels (digits_at (sizes_of wheels) (length built)) in
    let here = then_is (product_from one_ℚ factors) _ scenarios e in
    let s : Scenario = record { name = 83 ∷ digits (length built + 1); probability = here.0; path = path } in
    let f : ℕ → ℚ = λ n. product_of (chances_of blocks wheels (digits_at (sizes_of wheels) n)) in
    scenarios_sum blocks wheels (built ++ s ∷ []) paths scenarios here.2
    ∙ ap₂ ◌+ℚ◌ (sum-append chance built (s ∷ []) ∙ ap (λ x. sum_ℚ chance built +ℚ x) (add_zero_ℚ here.0 ∙ one_product factors here.0 here.1))
    (ap (λ n. total (λ n. product_of (chances_of blocks wheels (digits_at (sizes_of wheels) n))) n (length paths)) (length_push built s))
    ∙ add_assoc_ℚ (sum_ℚ chance built) (product_of factors) (total (λ n. product_of (chances_of blocks wheels (digits_at (sizes_of wheels) n))) (length built + 1) (length paths))

pub blocks_certain : (count : ℕ) (blocks : List Block) (paths : List (List ℕ)) (scenarios : List Scenario) → Each IsCertain blocks → length paths ≡ product (sizes_of (wheels_of count blocks)) →
    block_paths blocks (wheels_of count blocks) [] paths ≡ Ok scenarios → sum_ℚ chance scenarios ≡ one_ℚ
blocks_certain count blocks paths scenarios certain same e =
    let wheels = wheels_of count blocks in
    scenarios_sum blocks wheels [] paths scenarios e ∙ zero_add_ℚ _
    ∙ ap (total (λ n. product_of (chances_of blocks wheels (digits_at (sizes_of wheels) n))) 0) same
    ∙ total_same (λ n. product_of (chances_of blocks wheels (digits_at (sizes_of wheels) n))) (part blocks wheels) 0 (product (sizes_of wheels)) (λ i below. plain (0 + i) (omega (arith, below)))
    ∙ parts_sum blocks wheels (all_sure wheels (all_wheels count blocks))
  where
    plain : (n : ℕ) → n < product (sizes_of (wheels_of count blocks)) →
        product_of (chances_of blocks (wheels_of count blocks) (digits_at (sizes_of (wheels_of count blocks)) n)) ≡ part blocks (wheels_of count blocks) n
    plain n below = ap (λ (b : Bool). product_of (chances_of blocks (wheels_of count blocks) (if b then digits_of (sizes_of (wheels_of count blocks)) n else []))) (let t : nat_lt n (product (sizes_of (wheels_of count blocks))) ≡ true = grind (arith, nat_tests, below) in t)

    all_sure : (ws : List Wheel) → Each (IsWheel blocks) ws → Each (IsSure blocks) ws
    all_sure [] fit = tt
    all_sure (w ∷ ws) fit = (wheel_sure blocks w fit.0 (each_at IsCertain blocks w.block no_block certain fit.0.there), all_sure ws fit.1)

-- ---- scenarios that are stated

branch_chances : (branches rest : List Branch) (built : List Scenario) (paths : List (List ℕ)) (scenarios : List Scenario) → length paths ≡ length rest → ((i : ℕ) → get_or branches (length built + i) no_branch ≡ get_or rest i no_branch) →
    branch_paths branches built paths ≡ Ok scenarios → sum_ℚ chance scenarios ≡ sum_ℚ chance built +ℚ sum_ℚ (λ (b : Branch). b.probability) rest
branch_chances branches [] built [] scenarios same read e = ap (sum_ℚ chance) (fine_is built scenarios e) ∙ sym (add_zero_ℚ (sum_ℚ chance built))
branch_chances branches [] built (path ∷ paths) scenarios same read e = absurd (omega (arith, same))
branch_chances branches (b ∷ rest) built [] scenarios same read e = absurd (omega (arith, same))
branch_chances branches (b ∷ rest) built (path ∷ paths) scenarios same read e =
    let own = (get_or branches (length built) no_branch).probability in
    let here = then_is (product_from one_ℚ (own ∷ [])) _ scenarios e in
    let s : Scenario = record { name = (get_or branches (length built) no_branch).name; probability = here.0; path = path } in
    let mine : own ≡ b.probability = ap (λ (x : Branch). x.probability) (ap (λ n. get_or branches n no_branch) (let z : length built ≡ length built + 0 = omega arith in z) ∙ read 0) in
    let chance_is : here.0 ≡ b.probability = one_product (own ∷ []) here.0 here.1 ∙ mul_one_ℚ own ∙ mine in
    branch_chances branches rest (built ++ s ∷ []) paths scenarios (omega (arith, same)) (next b rest built s read) here.2
    ∙ ap (λ x. x +ℚ sum_ℚ (λ (b : Branch). b.probability) rest) (sum-append chance built (s ∷ []) ∙ ap (λ x. sum_ℚ chance built +ℚ x) (add_zero_ℚ here.0 ∙ chance_is))
    ∙ add_assoc_ℚ (sum_ℚ chance built) b.probability (sum_ℚ (λ (b : Branch). b.probability) rest)
  where
    next : (b : Branch) (rest : List Branch) (built : List Scenario) (s : Scenario) → ((i : ℕ) → get_or branches (length built + i) no_branch ≡ get_or (b ∷ rest) i no_branch) →
        (i : ℕ) → get_or branches (length (built ++ s ∷ []) + i) no_branch ≡ get_or rest i no_branch
    next b rest built s read i = ap (λ n. get_or branches n no_branch) (let e : length (built ++ s ∷ []) + i ≡ length built + suc i = omega (arith, length_push built s) in e) ∙ read (suc i)

pub branches_certain : (branches : List Branch) (paths : List (List ℕ)) (scenarios : List Scenario) → sum_ℚ (λ (b : Branch). b.probability) branches ≡ one_ℚ → length paths ≡ length branches →
    branch_paths branches [] paths ≡ Ok scenarios → sum_ℚ chance scenarios ≡ one_ℚ
branches_certain branches paths scenarios certain same e =
    branch_chances branches branches [] paths scenarios same (λ i. ap (λ n. get_or branches n no_branch) (let z : 0 + i ≡ i = omega arith in z)) e ∙ zero_add_ℚ _ ∙ certain
