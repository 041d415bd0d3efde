-- All choices of cases: the k-th has the cases whose numbers are the digits of k.
use Rattle.std.proofs.Common.{◌≡◌, ◌∙◌, ap, ap₂, sym, refl, ℕ, zero, suc, ◌+◌, ◌-◌, ◌*◌, ◌/◌, ◌%◌, ◌<◌, List, [], ◌∷◌, ◌++◌, map, flat_map, length, get_or, arith}
use Rattle.std.proofs.Math.Nat.{div-lt_iff_lt-mul, div-add-mod, mul_comm}
use Rattle.std.proofs.lemmas.List.{get_or_append_left, get_or-append_right, length-append, length-map, get_or-map}
use Rattle.rationals.specs.Rational.{zero_ℚ}
use Rattle.stoch_defs.specs.Random.{Sets, Case, Block}
use Rattle.build_defs.specs.Scenarios.{Choice, first_sets, choices_from, choices_of, all_choices}
use Rattle.tree_build.specs.Wheels.{product, digits_of}
use Rattle.tree_build.specs.Choices.{no_case}

-- what stands for a choice past the last one
abbrev pub no_choice : Choice
no_choice = record { number = 0; stage = 0; probability = zero_ℚ; sets = [] }

-- the choice of this case of a block
abbrev pub choice_at : Block → ℕ → Choice
choice_at block d = record {
  number = d;
  stage = block.stage;
  probability = (get_or block.cases d no_case).probability;
  sets = (get_or block.cases 0 no_case).sets ++ (get_or block.cases d no_case).sets;
}

-- the choices of these cases
abbrev pub chosen : List Block → List ℕ → List Choice
chosen [] digits = []
chosen (block ∷ blocks) [] = []
chosen (block ∷ blocks) (digit ∷ digits) = choice_at block digit ∷ chosen blocks digits

abbrev pub counts : List Block → List ℕ
counts blocks = map (λ (block : Block). length block.cases) blocks

-- ---- the choices of one block

abbrev choice_by : ℕ → ℕ → Sets → Case → Choice
choice_by number stage first case = record { number = number; stage = stage; probability = case.probability; sets = first ++ case.sets }

choices_length : (number stage : ℕ) (first : Sets) (cases : List Case) → length (choices_from number stage first cases) ≡ length cases
choices_length number stage first [] = refl
choices_length number stage first (case ∷ cases) = ap suc (choices_length (number + 1) stage first cases)

choices_read : (number stage : ℕ) (first : Sets) (cases : List Case) (i : ℕ) → i < length cases → get_or (choices_from number stage first cases) i no_choice ≡ choice_by (number + i) stage first (get_or cases i no_case)
choices_read number stage first [] i below = absurd (omega (arith, below))
choices_read number stage first (case ∷ cases) zero below = ap (λ (n : ℕ). choice_by n stage first case) (let e : number ≡ number + 0 = omega arith in e)
choices_read number stage first (case ∷ cases) (suc i) below =
    choices_read (number + 1) stage first cases i (omega (arith, below)) ∙ ap (λ (n : ℕ). choice_by n stage first (get_or cases i no_case)) (let e : number + 1 + i ≡ number + suc i = omega arith in e)

first_is : (cases : List Case) → first_sets cases ≡ (get_or cases 0 no_case).sets
first_is [] = refl
first_is (case ∷ cases) = refl

choice_is : (block : Block) (d : ℕ) → d < length block.cases → get_or (choices_of block) d no_choice ≡ choice_at block d
choice_is block d below =
    choices_read 0 block.stage (first_sets block.cases) block.cases d below
    ∙ ap₂ (λ (n : ℕ) (first : Sets). choice_by n block.stage first (get_or block.cases d no_case)) (let e : 0 + d ≡ d = omega arith in e) (first_is block.cases)

-- ---- all

abbrev with_each : List Choice → List (List Choice) → List (List Choice)
with_each choices rest = flat_map (λ choice. map (λ others. choice ∷ others) rest) choices

each_length : (choices : List Choice) (rest : List (List Choice)) → length (with_each choices rest) ≡ length choices * length rest
each_length [] rest = let e : 0 ≡ 0 * length rest = omega arith in e
each_length (c ∷ choices) rest =
    length-append (map (λ others. c ∷ others) rest) (with_each choices rest)
    ∙ ap₂ ◌+◌ (length-map rest (λ others. c ∷ others)) (each_length choices rest)
    ∙ (let e : length rest + length choices * length rest ≡ suc (length choices) * length rest = omega arith in e)

each_read : (choices : List Choice) (rest : List (List Choice)) (q r : ℕ) → q < length choices → r < length rest → get_or (with_each choices rest) (q * length rest + r) [] ≡ get_or choices q no_choice ∷ get_or rest r []
each_read [] rest q r low inside = absurd (omega (arith, low))
each_read (c ∷ choices) rest zero r low inside =
    let size : length (map (λ others. c ∷ others) rest) ≡ length rest = length-map rest (λ others. c ∷ others) in
    ap (λ (n : ℕ). get_or (with_each (c ∷ choices) rest) n []) (let e : zero * length rest + r ≡ r = omega arith in e)
    ∙ get_or_append_left (map (λ others. c ∷ others) rest) (with_each choices rest) [] r (omega (arith, size, inside))
    ∙ get_or-map (λ others. c ∷ others) rest r [] [] inside
each_read (c ∷ choices) rest (suc q) r low inside =
    let size : length (map (λ others. c ∷ others) rest) ≡ length rest = length-map rest (λ others. c ∷ others) in
    let more : suc q * length rest ≡ q * length rest + length rest = omega arith in
    get_or-append_right (map (λ others. c ∷ others) rest) (with_each choices rest) (length rest) (suc q * length rest + r) [] size (omega (arith, more))
    ∙ ap (λ (n : ℕ). get_or (with_each choices rest) n []) (let e : suc q * length rest + r - length rest ≡ q * length rest + r = omega (arith, more) in e)
    ∙ each_read choices rest q r (omega (arith, low)) inside

pub all_length : (blocks : List Block) → length (all_choices blocks) ≡ product (counts blocks)
all_length [] = refl
all_length (block ∷ blocks) =
    each_length (choices_of block) (all_choices blocks) ∙ ap₂ ◌*◌ (choices_length 0 block.stage (first_sets block.cases) block.cases) (all_length blocks)

some_rest : (s p k : ℕ) → k < s * p → 0 < p
some_rest s zero k h = absurd (let none : s * zero ≡ 0 = omega arith in omega (arith, h, none))
some_rest s (suc p) k h = omega arith

pub all_read : (blocks : List Block) (k : ℕ) → k < product (counts blocks) → get_or (all_choices blocks) k [] ≡ chosen blocks (digits_of (counts blocks) k)
all_read [] k below = let first : k ≡ 0 = omega (arith, below) in ap (λ (n : ℕ). get_or ([] ∷ []) n []) first
all_read (block ∷ blocks) k below =
    let size = length block.cases in
    let p = product (counts blocks) in
    let some : 0 < p = some_rest size p k below in
    let low : k / p < size = (div-lt_iff_lt-mul some).1 below in
    let inside : k % p < p = omega (arith, some) in
    let long : length (all_choices blocks) ≡ p = all_length blocks in
    let split : k / p * p + k % p ≡ k = ap (λ (n : ℕ). n + k % p) (mul_comm (k / p) p) ∙ div-add-mod k p in
    let many : length (choices_of block) ≡ size = choices_length 0 block.stage (first_sets block.cases) block.cases in
    let at : k ≡ k / p * length (all_choices blocks) + k % p = sym split ∙ ap (λ (n : ℕ). k / p * n + k % p) (sym long) in
    ap (λ (n : ℕ). get_or (all_choices (block ∷ blocks)) n []) at
    ∙ each_read (choices_of block) (all_choices blocks) (k / p) (k % p) (omega (arith, low, many)) (omega (arith, inside, long))
    ∙ ap₂ ◌∷◌ (choice_is block (k / p) low) (all_read blocks (k % p) inside)
