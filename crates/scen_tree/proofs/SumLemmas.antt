-- Sums of all nodes at once.
use Rattle.std.proofs.Common.{◌≡◌, ◌∙◌, ap, ap₂, sym, refl, ℕ, zero, suc, ◌+◌, ◌<◌, ◌≤◌, Bool, true, false, ◌||◌, eqb, List, [], ◌∷◌, ◌++◌, Result, Ok, Err, length, get_or, set, replicate, ℤ, pos, subst, arith, eqb-true}
use Rattle.std.proofs.lemmas.Bool.{eq-eqb, eqb-false, ne_eqb}
use Rattle.rationals.specs.declared.Op.TheVariants.{Mul, Div}
use Rattle.rationals.specs.Rational.{ℚ, zero_ℚ, one_ℚ, inv_ℚ, inverse_of, ◌÷◌, ◌*ℚ◌, ◌/ℚ◌, mul_zero_ℚ}
use Rattle.rationals.specs.Passes.{Operation, add_walk, div_walk, then_walk, answer, too_wide}
use Rattle.rationals.proofs.OrderMeaning.{mul_walk_zero}
use Rattle.rationals.proofs.Lowest.{num_zero}
use Rattle.rationals.specs.Choices.{pick}
use Rattle.std.specs.Result.{MatchResult, IsErrAnd}
use Rattle.frac128.specs.declared.fault.ArithmeticFault.{ArithmeticFault}
use Rattle.frac128.specs.declared.fault.ArithmeticFault.TheVariants.{Passed}
use Rattle.scen_defs.specs.Lists.{is_in}
use Rattle.scen_defs.specs.Program.{Scenario}
use Rattle.scen_defs.specs.Walks.{total_from}
use Rattle.frac128.specs.Faults.{FaultOf}
use Rattle.scen_tree.specs.Chances.{Sum, gathered_from}
use Rattle.scen_tree.specs.Sums.{more, with_path, sums_through}

-- the sums with the probabilities of further scenarios
abbrev pub finished : List Scenario → ℕ → List Sum → List Sum
finished rest n [] = []
finished rest n (sum ∷ sums) = then_walk sum (λ total. total_from n total rest) ∷ finished rest (suc n) sums

then_same : {X : Type 0} (w : Result X Operation) → then_walk w (λ x. Ok x) ≡ w
then_same (Ok x) = refl
then_same (Err p) = refl

pub finished_none : (n : ℕ) (sums : List Sum) → finished [] n sums ≡ sums
finished_none n [] = refl
finished_none n (sum ∷ sums) = ap₂ (λ (s : Sum) (ss : List Sum). s ∷ ss) (then_same sum) (finished_none (suc n) sums)

one_more : (n : ℕ) (s : Scenario) (rest : List Scenario) (sum : Sum) →
    then_walk sum (λ total. total_from n total (s ∷ rest)) ≡ then_walk (pick (is_in n s.path) (more s.probability sum) sum) (λ total. total_from n total rest)
one_more n s rest (Err p) = go (is_in n s.path)
  where
    go : (b : Bool) → Err p ≡ then_walk (pick b (more s.probability (Err p)) (Err p)) (λ total. total_from n total rest)
    go true = refl
    go false = refl
one_more n s rest (Ok total) = go (is_in n s.path)
  where
    go : (b : Bool) → pick b (then_walk (add_walk total s.probability) (λ t. total_from n t rest)) (total_from n total rest) ≡ then_walk (pick b (more s.probability (Ok total)) (Ok total)) (λ t. total_from n t rest)
    go true = refl
    go false = refl

pub finished_more : (n : ℕ) (s : Scenario) (rest : List Scenario) (sums : List Sum) → finished (s ∷ rest) n sums ≡ finished rest n (with_path s.path s.probability n sums)
finished_more n s rest [] = refl
finished_more n s rest (sum ∷ sums) = ap₂ (λ (s : Sum) (ss : List Sum). s ∷ ss) (one_more n s rest sum) (finished_more (suc n) s rest sums)

-- ---- a path, node by node

or_assoc : (a b c : Bool) → (a || (b || c)) ≡ ((a || b) || c)
or_assoc true b c = refl
or_assoc false b c = refl

or_false : (b : Bool) → (b || false) ≡ b
or_false true = refl
or_false false = refl

is_in_more : (k m : ℕ) (path : List ℕ) → is_in k (path ++ m ∷ []) ≡ (is_in k path || eqb m k)
is_in_more k m [] = or_false (eqb m k)
is_in_more k m (x ∷ path) = ap (λ b. eqb x k || b) (is_in_more k m path) ∙ or_assoc (eqb x k) (is_in k path) (eqb m k)

other_node : (m k : ℕ) (path : List ℕ) → (m ≡ k → ⊥) → is_in k (path ++ m ∷ []) ≡ is_in k path
other_node m k path ne = is_in_more k m path ∙ ap (λ b. is_in k path || b) (ne_eqb m k ne) ∙ or_false (is_in k path)

known_node : (m : ℕ) (path : List ℕ) → is_in m path ≡ true → is_in m (path ++ m ∷ []) ≡ is_in m path
known_node m path known = is_in_more m m path ∙ ap (λ b. b || eqb m m) known ∙ sym known

new_node : (m : ℕ) (path : List ℕ) → is_in m path ≡ false → is_in m (path ++ m ∷ []) ≡ true
new_node m path new = is_in_more m m path ∙ ap (λ b. b || eqb m m) new ∙ eq-eqb m m refl

both : {one other : Sum} {rest others : List Sum} → one ≡ other → rest ≡ others → one ∷ rest ≡ other ∷ others
both a b = ap₂ (λ (s : Sum) (ss : List Sum). s ∷ ss) a b

picked : (p : ℚ) (sum : Sum) {a b : Bool} → a ≡ b → pick a (more p sum) sum ≡ pick b (more p sum) sum
picked p sum e = ap (λ x. pick x (more p sum) sum) e

-- a node that stands before, or past the sums, changes nothing
pub path_past : (path : List ℕ) (m : ℕ) (p : ℚ) (n : ℕ) (sums : List Sum) → ((k : ℕ) → n ≤ k → k < n + length sums → m ≡ k → ⊥) → with_path (path ++ m ∷ []) p n sums ≡ with_path path p n sums
path_past path m p n [] apart = refl
path_past path m p n (sum ∷ sums) apart =
    both (picked p sum (other_node m n path (λ e. apart n (omega arith) (omega arith) e))) (path_past path m p (suc n) sums (λ k low high e. apart k (omega arith) (omega arith) e))

pub path_known : (path : List ℕ) (m : ℕ) (p : ℚ) (n : ℕ) (sums : List Sum) → is_in m path ≡ true → with_path (path ++ m ∷ []) p n sums ≡ with_path path p n sums
path_known path m p n [] known = refl
path_known path m p n (sum ∷ sums) known = both (picked p sum (go (eqb m n) refl)) (path_known path m p (suc n) sums known)
  where
    go : (b : Bool) → eqb m n ≡ b → is_in n (path ++ m ∷ []) ≡ is_in n path
    go true e = let same : m ≡ n = eqb-true m n e in subst (λ (k : ℕ). is_in k (path ++ m ∷ []) ≡ is_in k path) same (known_node m path known)
    go false e = other_node m n path (eqb-false m n e)

pub path_new : (path : List ℕ) (m i : ℕ) (p : ℚ) (n : ℕ) (sums : List Sum) (d : Sum) → m ≡ n + i → i < length sums → is_in m path ≡ false →
    with_path (path ++ m ∷ []) p n sums ≡ set (with_path path p n sums) i (more p (get_or (with_path path p n sums) i d))
path_new path m i p n [] d at below new = absurd (omega arith)
path_new path m zero p n (sum ∷ sums) d at below new =
    let same : m ≡ n = omega arith in
    let there : is_in n (path ++ m ∷ []) ≡ true = subst (λ (k : ℕ). is_in k (path ++ m ∷ []) ≡ true) same (new_node m path new) in
    let none : is_in n path ≡ false = subst (λ (k : ℕ). is_in k path ≡ false) same new in
    both (ap (λ x. pick x (more p sum) sum) there ∙ ap (λ x. more p (pick x (more p sum) sum)) (sym none)) (path_past path m p (suc n) sums (λ k low high e. omega arith))
path_new path m (suc i) p n (sum ∷ sums) d at below new =
    both (picked p sum (other_node m n path (λ e. omega arith))) (path_new path m i p (suc n) sums d (omega arith) (omega arith) new)

pub with_no_path : (p : ℚ) (n : ℕ) (sums : List Sum) → with_path [] p n sums ≡ sums
with_no_path p n [] = refl
with_no_path p n (sum ∷ sums) = both refl (with_no_path p (suc n) sums)

pub with_path_length : (path : List ℕ) (p : ℚ) (n : ℕ) (sums : List Sum) → length (with_path path p n sums) ≡ length sums
with_path_length path p n [] = refl
with_path_length path p n (sum ∷ sums) = ap suc (with_path_length path p (suc n) sums)

-- ---- the sums of all nodes

pub sums_begin : (n count : ℕ) (scenarios : List Scenario) → finished scenarios n (replicate count (Ok zero_ℚ)) ≡ sums_through n count scenarios
sums_begin n zero scenarios = refl
sums_begin n (suc count) scenarios = both refl (sums_begin (suc n) count scenarios)

pub sums_length : (n count : ℕ) (scenarios : List Scenario) → length (sums_through n count scenarios) ≡ count
sums_length n zero scenarios = refl
sums_length n (suc count) scenarios = ap suc (sums_length (suc n) count scenarios)

sums_at_from : (n count i : ℕ) (scenarios : List Scenario) (d : Sum) → i < count → get_or (sums_through n count scenarios) i d ≡ total_from (n + i) zero_ℚ scenarios
sums_at_from n zero i scenarios d below = absurd (omega arith)
sums_at_from n (suc count) zero scenarios d below = ap (λ k. total_from k zero_ℚ scenarios) (let e : n ≡ n + 0 = omega arith in e)
sums_at_from n (suc count) (suc i) scenarios d below = sums_at_from (suc n) count i scenarios d (omega arith) ∙ ap (λ k. total_from k zero_ℚ scenarios) (let e : suc n + i ≡ n + suc i = omega arith in e)

pub sums_at : (count i : ℕ) (scenarios : List Scenario) (d : Sum) → i < count → get_or (sums_through 0 count scenarios) i d ≡ total_from i zero_ℚ scenarios
sums_at count i scenarios d below = sums_at_from 0 count i scenarios d below ∙ ap (λ k. total_from k zero_ℚ scenarios) (let e : 0 + i ≡ i = omega arith in e)

-- ---- quotients by 0

narrow : (b : Bool) (o : Operation) (value other : ℚ) → answer b o value ≡ Ok other → b ≡ false
narrow true o value other e = absurd (cc)
narrow false o value other e = refl

zero_is_narrow : too_wide zero_ℚ ≡ false
zero_is_narrow = sym (ap too_wide (mul_zero_ℚ zero_ℚ)) ∙ narrow (too_wide (zero_ℚ *ℚ zero_ℚ)) (record { op = Mul; a = zero_ℚ; b = zero_ℚ }) (zero_ℚ *ℚ zero_ℚ) zero_ℚ (mul_walk_zero zero_ℚ)

zero_fits : (o : Operation) → answer {X = ℚ} (too_wide zero_ℚ) o zero_ℚ ≡ Ok zero_ℚ
zero_fits o = ap (λ b. answer {X = ℚ} b o zero_ℚ) zero_is_narrow

inverse_by_num : (num : ℤ) (den : ℕ) → num ≡ pos 0 → inverse_of num den ≡ zero_ℚ
unfolding inverse_of zero_ℚ ◌÷◌
inverse_by_num num den e = ap (λ (n : ℤ). inverse_of n den) e

inverse_zero : inv_ℚ zero_ℚ ≡ zero_ℚ
unfolding inv_ℚ
inverse_zero = inverse_by_num zero_ℚ.num zero_ℚ.den (num_zero zero_ℚ refl)

by_zero : (a b : ℚ) → a /ℚ b ≡ zero_ℚ → div_walk a b ≡ Ok zero_ℚ
by_zero a b e = (let o : Operation = record { op = Div; a = a; b = b } in let f : ℚ → Sum = λ v. answer (too_wide v) o v in ap f e) ∙ zero_fits (record { op = Div; a = a; b = b })

pub quotient_by_zero : (a : ℚ) → div_walk a zero_ℚ ≡ Ok zero_ℚ
quotient_by_zero a = by_zero a zero_ℚ (ap (λ i. a *ℚ i) inverse_zero ∙ mul_zero_ℚ a)

-- ---- walks

pub gathered_more : (built : List ℚ) (sum : Sum) (value : ℚ) (sums : List Sum) → sum ≡ Ok value → gathered_from built (sum ∷ sums) ≡ gathered_from (built ++ value ∷ []) sums
gathered_more built sum value sums e = ap (λ s. then_walk s (λ v. gathered_from (built ++ v ∷ []) sums)) e

pub gathered_ends : (built : List ℚ) (sum : Sum) (p : Operation) (sums : List Sum) → sum ≡ Err p → gathered_from built (sum ∷ sums) ≡ Err p
gathered_ends built sum p sums e = ap (λ s. then_walk s (λ v. gathered_from (built ++ v ∷ []) sums)) e

-- a call that hands on the operation in which its walk ends
pub passed : {X Y : Type 0} (result : Result X ArithmeticFault) (walk : Result Y Operation) (p : Operation) (Q : X → Type 0) → IsErrAnd result (λ e. e ≡ Passed p) → walk ≡ Err p → MatchResult result Q (FaultOf walk)
passed (Ok x) walk p Q is e = absurd is
passed (Err fault) walk p Q is e = subst (FaultOf walk) (sym is) e
