-- Names: of scenarios by their numbers, and of lists that number their names.
use Rattle.std.proofs.Common.{◌≡◌, ◌∙◌, ap, refl, sym, subst, ℕ, zero, suc, ◌+◌, ◌-◌, ◌*◌, ◌/◌, ◌%◌, ◌<◌, ◌≤◌, Bool, true, false, ◌||◌, List, [], ◌∷◌, ◌++◌, map, length, get_or, append_assoc, append-nil, nat_eq, nat_lt, eqb, arith, Ok, if◌then◌else◌}
use Rattle.std.proofs.lemmas.List.{length_push}
use Rattle.std.proofs.lemmas.Bool.{ne_eqb}
use Rattle.std.proofs.lemmas.Bool.Decides.{nat_tests}
use Rattle.smps_words.specs.Line.{is_blank}
use Rattle.smps_words.specs.Field.{IsField}
use Rattle.smps_words.specs.Names.{IsNumbered}
use Rattle.smps_build.proofs.CoreFits.{numbered_differ}
use Rattle.rationals.specs.Rational.{one_ℚ}
use Rattle.frac128.specs.Numbers.{number_from}
use Rattle.stoch_defs.specs.Random.{Block, Branch}
use Rattle.scen_defs.specs.Lists.{Each}
use Rattle.scen_defs.specs.Program.{Scenario}
use Rattle.scen_defs.specs.Valid.{AreNames}
use Rattle.build_defs.specs.Digits.{digits_in, digits}
use Rattle.build_defs.specs.Scenarios.{no_branch, stages_from}
use Rattle.build_defs.specs.Built.{product_from}
use Rattle.build_defs.proofs.ChanceLemmas.{then_is, fine_is}
use Rattle.build_defs.proofs.EachLemmas.{each_append}
use Rattle.tree_build.specs.declared.wheels.Wheel.{Wheel}
use Rattle.tree_build.specs.Wheels.{sizes_of}
use Rattle.tree_build.specs.Choices.{chances_of}
use Rattle.tree_build.specs.Nodes.{digits_at}
use Rattle.tree_build.specs.Finish.{block_paths, branch_paths}

pub numbered_names : (names : List (List ℕ)) → IsNumbered names → Each IsField names → AreNames names
numbered_names names numbered fields = record { fields = fields; differ = numbered_differ names numbered }

-- ---- the digits of a number

abbrev IsDigit : ℕ → Type 0
IsDigit b = 48 ≤ b

digits_are : (room n : ℕ) → Each IsDigit (digits_in room n)
digits_are zero n = tt
digits_are (suc room) n = go (nat_lt n 10) (digits_are room (n / 10))
  where
    go : (b : Bool) → Each IsDigit (digits_in room (n / 10)) → Each IsDigit (if b then (48 + n) ∷ [] else digits_in room (n / 10) ++ (48 + n % 10) ∷ [])
    go true rest = (omega arith, tt)
    go false rest = each_append IsDigit (digits_in room (n / 10)) ((48 + n % 10) ∷ []) rest (omega arith, tt)

-- the number that digits make
number_push : (n : ℕ) (bs : List ℕ) (b : ℕ) → number_from n (bs ++ b ∷ []) ≡ number_from n bs * 10 + (b - 48)
number_push n [] b = refl
number_push n (c ∷ bs) b = number_push (n * 10 + (c - 48)) bs b

abbrev ReadsBack : ℕ → ℕ → Type 0
ReadsBack room n = number_from 0 (digits_in room n) ≡ n

reads_one : (room n : ℕ) → (10 ≤ n → ReadsBack room (n / 10)) → ReadsBack (suc room) n
reads_one room n rest = go (nat_lt n 10) refl
  where
    go : (b : Bool) → nat_lt n 10 ≡ b → number_from 0 (if b then (48 + n) ∷ [] else digits_in room (n / 10) ++ (48 + n % 10) ∷ []) ≡ n
    go true is = omega arith
    go false is =
        let high : 10 ≤ n = grind (arith, nat_tests, is) in
        let back = rest high in
        let push = number_push 0 (digits_in room (n / 10)) (48 + n % 10) in
        omega (arith, push, back)

reads_back : (room n : ℕ) → n < 100000 → ReadsBack (suc (suc (suc (suc (suc room))))) n
reads_back room n low =
    reads_one (suc (suc (suc (suc room)))) n (λ a. reads_one (suc (suc (suc room))) (n / 10) (λ b. reads_one (suc (suc room)) (n / 10 / 10) (λ c. reads_one (suc room) (n / 10 / 10 / 10) (λ d. reads_one room (n / 10 / 10 / 10 / 10) (λ e. absurd (omega (arith, low, e)))))))

digits_apart : (n m : ℕ) → n < 100000 → m < 100000 → digits n ≡ digits m → n ≡ m
digits_apart n m a b same = sym (reads_back 15 n a) ∙ ap (number_from 0) same ∙ reads_back 15 m b

-- ---- the names of scenarios of blocks

abbrev scenario_name : ℕ → List ℕ
scenario_name n = 83 ∷ digits (n + 1)

clean : (b : ℕ) → 48 ≤ b → (is_blank b || eqb b 10) ≡ false
clean b high =
    let space : nat_eq b 32 ≡ false = grind (arith, nat_tests, high) in
    let tab : nat_eq b 9 ≡ false = grind (arith, nat_tests, high) in
    let back : nat_eq b 13 ≡ false = grind (arith, nat_tests, high) in
    ap (λ t. (t || nat_eq b 9 || nat_eq b 13) || eqb b 10) space ∙ ap (λ t. (t || nat_eq b 13) || eqb b 10) tab ∙ ap (λ t. t || eqb b 10) back ∙ ne_eqb b 10 (λ is. omega (arith, is, high))

all_clean : (bs : List ℕ) → Each IsDigit bs → Each (λ b. (is_blank b || eqb b 10) ≡ false) bs
all_clean [] all = tt
all_clean (b ∷ bs) all = (clean b all.0, all_clean bs all.1)

name_field : (n : ℕ) → IsField (scenario_name n)
name_field n = record { some = omega arith; unbroken = (clean 83 (omega arith), all_clean (digits (n + 1)) (digits_are 20 (n + 1))) }

names_apart : (n m : ℕ) → n < 50000 → m < 50000 → scenario_name n ≡ scenario_name m → n ≡ m
names_apart n m a b same = let tails : digits (n + 1) ≡ digits (m + 1) = cc in let e = digits_apart (n + 1) (m + 1) (omega (arith, a)) (omega (arith, b)) tails in omega (arith, e)

numbers_apart : (first count : ℕ) → first + count < 50000 → AreNames (map scenario_name (stages_from first count))
numbers_apart first zero low = record { fields = tt; differ = tt }
numbers_apart first (suc count) low =
    let rest = numbers_apart (first + 1) count (omega (arith, low)) in
    record { fields = (name_field first, rest.fields); differ = (others (first + 1) count first (omega arith) (omega (arith, low)), rest.differ) }
  where
    others : (n count first : ℕ) → first < n → n + count < 50000 → Each (λ (other : List ℕ). other ≡ scenario_name first → ⊥) (map scenario_name (stages_from n count))
    others n zero first above low = tt
    others n (suc count) first above low = (
      (λ same. let e = names_apart n first (omega (arith, low)) (omega (arith, above, low)) same in omega (arith, e, above)),
      others (n + 1) count first (omega (arith, above)) (omega (arith, low)),
    )

abbrev pub name_of : Scenario → List ℕ
name_of s = s.name

pushed : (xs : List Scenario) (s : Scenario) → map name_of (xs ++ s ∷ []) ≡ map name_of xs ++ s.name ∷ []
pushed [] s = refl
pushed (x ∷ xs) s = ap (λ (rest : List (List ℕ)). x.name ∷ rest) (pushed xs s)

names_by : (names : List (List ℕ)) (blocks : List Block) (wheels : List Wheel) (built : List Scenario) (paths : List (List ℕ)) (scenarios : List Scenario) → map name_of built ≡ names →
    block_paths blocks wheels built paths ≡ Ok scenarios → map name_of scenarios ≡ names ++ map scenario_name (stages_from (length built) (length paths))
names_by names blocks wheels built [] scenarios same e = ap (map name_of) (fine_is built scenarios e) ∙ same ∙ sym (append-nil names)
names_by names blocks wheels built (path ∷ paths) scenarios same e =
    let here = then_is (product_from one_ℚ (chances_of blocks wheels (digits_at (sizes_of wheels) (length built)))) _ scenarios e in
    let s : Scenario = record { name = 83 ∷ digits (length built + 1); probability = here.0; path = path } in
    names_by (names ++ scenario_name (length built) ∷ []) blocks wheels (built ++ s ∷ []) paths scenarios (pushed built s ∙ ap (λ (xs : List (List ℕ)). xs ++ scenario_name (length built) ∷ []) same) here.2
    ∙ append_assoc names (scenario_name (length built) ∷ []) (map scenario_name (stages_from (length (built ++ s ∷ [])) (length paths)))
    ∙ ap (λ n. names ++ scenario_name (length built) ∷ map scenario_name (stages_from n (length paths))) (length_push built s)

pub block_names : (blocks : List Block) (wheels : List Wheel) (paths : List (List ℕ)) (scenarios : List Scenario) → length paths < 50000 → block_paths blocks wheels [] paths ≡ Ok scenarios → AreNames (map name_of scenarios)
block_names blocks wheels paths scenarios low e = subst AreNames (sym (names_by [] blocks wheels [] paths scenarios refl e)) (numbers_apart 0 (length paths) (omega (arith, low)))

-- ---- the names of scenarios that are stated

abbrev pub branch_name : Branch → List ℕ
branch_name b = b.name

branches_by : (names : List (List ℕ)) (branches rest : List Branch) (built : List Scenario) (paths : List (List ℕ)) (scenarios : List Scenario) → map name_of built ≡ names → length paths ≡ length rest →
    ((i : ℕ) → get_or branches (length built + i) no_branch ≡ get_or rest i no_branch) → branch_paths branches built paths ≡ Ok scenarios → map name_of scenarios ≡ names ++ map branch_name rest
branches_by names branches [] built [] scenarios same count read e = ap (map name_of) (fine_is built scenarios e) ∙ same ∙ sym (append-nil names)
branches_by names branches [] built (path ∷ paths) scenarios same count read e = absurd (omega (arith, count))
branches_by names branches (b ∷ rest) built [] scenarios same count read e = absurd (omega (arith, count))
branches_by names branches (b ∷ rest) built (path ∷ paths) scenarios same count read e =
    let here = then_is (product_from one_ℚ ((get_or branches (length built) no_branch).probability ∷ [])) _ scenarios e in
    let s : Scenario = record { name = (get_or branches (length built) no_branch).name; probability = here.0; path = path } in
    let mine : s.name ≡ b.name = ap branch_name (ap (λ n. get_or branches n no_branch) (let z : length built ≡ length built + 0 = omega arith in z) ∙ read 0) in
    branches_by (names ++ b.name ∷ []) branches rest (built ++ s ∷ []) paths scenarios (pushed built s ∙ ap (λ (n : List ℕ). map name_of built ++ n ∷ []) mine ∙ ap (λ (xs : List (List ℕ)). xs ++ b.name ∷ []) same) (omega (arith, count)) (next b rest built s read) here.2
    ∙ append_assoc names (b.name ∷ []) (map branch_name rest)
  where
    next : (b : Branch) (rest : List Branch) (built : List Scenario) (s : Scenario) → ((i : ℕ) → get_or branches (length built + i) no_branch ≡ get_or (b ∷ rest) i no_branch) →
        (i : ℕ) → get_or branches (length (built ++ s ∷ []) + i) no_branch ≡ get_or rest i no_branch
    next b rest built s read i = ap (λ n. get_or branches n no_branch) (let e : length (built ++ s ∷ []) + i ≡ length built + suc i = omega (arith, length_push built s) in e) ∙ read (suc i)

pub stated_names : (branches : List Branch) (paths : List (List ℕ)) (scenarios : List Scenario) → length paths ≡ length branches → AreNames (map branch_name branches) → branch_paths branches [] paths ≡ Ok scenarios → AreNames (map name_of scenarios)
stated_names branches paths scenarios same names e =
    subst AreNames (sym (branches_by [] branches branches [] paths scenarios refl same (λ i. ap (λ n. get_or branches n no_branch) (let z : 0 + i ≡ i = omega arith in z)) e)) names
