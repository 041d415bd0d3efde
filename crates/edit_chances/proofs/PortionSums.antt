-- Sums of portions fit, and so do their quotients.
use Rattle.std.proofs.Common.{◌≡◌, ℕ, zero, suc, ◌+◌, ◌*◌, ◌<◌, ◌≤◌, ◌^◌, ℤ, pos, ◌+ℤ◌, ◌*ℤ◌, Bool, true, false, List, [], ◌∷◌, ◌++◌, length, get_or, drop, Result, Ok, Err, refl, sym, ap, ap₂, subst, ◌∙◌, arith, mul-pos, drop_of_length-le}
use lib.IntN.{zero-*ℤ}
use Rattle.std.proofs.lemmas.Int.{ints}
use Rattle.rationals.specs.declared.Op.TheVariants.{Add, Div}
use Rattle.rationals.specs.Choices.{pick}
use Rattle.rationals.specs.Integers.{ringZ, reif}
use Rattle.rationals.specs.Rational.{ℚ, zero_ℚ, ◌+ℚ◌, ◌*ℚ◌, ◌/ℚ◌, ◌÷◌, inv_ℚ, frac_self, frac_same, frac_cross, frac-add, frac-mul, mul_assoc_ℚ, mul_one_ℚ, mul_inv_ℚ}
use Rattle.rationals.specs.Passes.{Operation, IsNarrow, too_wide, add_walk, div_walk, then_walk}
use Rattle.rationals.proofs.OrderMeaning.{walk_fits}
use Rattle.cut_sums.proofs.UnreducedLaws.{lowest_fits}
use Rattle.scen_defs.specs.Lists.{Each, is_in}
use Rattle.scen_defs.specs.declared.program.Scenario.{Scenario as ScenarioOf}
use Rattle.scen_defs.specs.Program.{Scenario, scenarios_content}
use Rattle.scen_defs.specs.Walks.{total_from}
use Rattle.scen_defs.proofs.NodeReads.{drop_read}
use Rattle.scen_defs.proofs.ValueLaws.{each-push}
use Rattle.scen_tree.specs.declared.position.Position.{Position}
use Rattle.scen_tree.specs.declared.position.Position.TheVariants.{Dropped, Root, Below}
use Rattle.scen_tree.specs.Chances.{Sum, Chances, gathered_from, live_sum, live_sums_from, share_walk, shares_from, shares_walk, totals_walk}
use Rattle.scen_tree.proofs.SumLemmas.{quotient_by_zero}
use Rattle.edit_chances.specs.Portions.{HavePortions, FitsAllTrees}

-- a value for which P holds
abbrev Gives : {X : Type 0} → (X → Type 0) → Result X Operation → Type 0
Gives P (Ok x) = P x
Gives P (Err o) = ⊥

abbrev Any : {X : Type 0} → X → Type 0
Any x = Unit {0}

-- at most so many portions of 1 / d
abbrev IsAtMost : ℕ → ℕ → ℚ → Type 0
IsAtMost d most q = (k : ℕ) × (q ≡ pos k ÷ d) × (k ≤ most)

weaker : (d low high : ℕ) (r : Sum) → low ≤ high → Gives (IsAtMost d low) r → Gives (IsAtMost d high) r
weaker d low high (Ok q) le h = let under : h.0 ≤ low = h.2 in (h.0, h.1, omega (arith, le, under))
weaker d low high (Err o) le h = h

fits : (k d : ℕ) → 0 < d → d < 2 ^ 127 → k < 2 ^ 127 → IsNarrow (pos k ÷ d)
fits k d above small few = lowest_fits (pos k) d (record { above_zero = above; num_fits = few; den_fits = small })

sum_of : (d : ℕ) → 0 < d → (n m : ℤ) → n ÷ d +ℚ m ÷ d ≡ (n +ℤ m) ÷ d
sum_of d above n m = frac-add n m d d above above
    ∙ frac_same (n *ℤ pos d +ℤ m *ℤ pos d) (n +ℤ m) (d * d) d (mul-pos above above) above (ringZ (n ∷ m ∷ pos d ∷ []) (search reif depth 40) tt)

-- ---- totals
added : (d j k : ℕ) (q p : ℚ) → 0 < d → d < 2 ^ 127 → j + k < 2 ^ 127 → q ≡ pos j ÷ d → p ≡ pos k ÷ d → add_walk q p ≡ Ok (pos (j + k) ÷ d)
added d j k q p above small few e f =
    let is : q +ℚ p ≡ pos (j + k) ÷ d = ap₂ ◌+ℚ◌ e f ∙ sum_of d above (pos j) (pos k) in
    walk_fits Add q p (ap too_wide is ∙ fits (j + k) d above small few) ∙ ap Ok is

total_fits : (d n j most : ℕ) (q : ℚ) (ss : List Scenario) → 0 < d → d < 2 ^ 127 → j + most < 2 ^ 127 → q ≡ pos j ÷ d → HavePortions d most ss
    → Gives (IsAtMost d (j + most)) (total_from n q ss)
total_fits d n j most q [] above small few e h = (j, e, omega arith)
total_fits d n j most q (s ∷ ss) above small few e h = go (is_in n s.path) (λ i x b f. total_fits d n i h.1 x ss above small b f h.4)
  where
    own : ℕ
    own = h.0

    rest : ℕ
    rest = h.1

    go : (t : Bool) → ((i : ℕ) (x : ℚ) → i + rest < 2 ^ 127 → x ≡ pos i ÷ d → Gives (IsAtMost d (i + rest)) (total_from n x ss))
        → Gives (IsAtMost d (j + most)) (pick t (then_walk (add_walk q s.probability) (λ x. total_from n x ss)) (total_from n q ss))
    go true later =
        let w : own + rest ≤ most = h.3 in
        subst (λ (r : Sum). Gives (IsAtMost d (j + most)) (then_walk r (λ x. total_from n x ss))) (sym (added d j own q s.probability above small (omega (arith, w, few)) e h.2))
        (weaker d ((j + own) + rest) (j + most) (total_from n (pos (j + own) ÷ d) ss) (omega (arith, w)) (later (j + own) (pos (j + own) ÷ d) (omega (arith, w, few)) refl))
    go false later =
        let w : own + rest ≤ most = h.3 in
        weaker d (j + rest) (j + most) (total_from n q ss) (omega (arith, w)) (later j q (omega (arith, w, few)) e)

none : (d : ℕ) → 0 < d → zero_ℚ ≡ pos 0 ÷ d
unfolding zero_ℚ
none d above = frac_same (pos 0) (pos 0) 1 d (omega arith) above (zero-*ℤ (pos d) ∙ sym (zero-*ℤ (pos 1)))

live_fits : (d most : ℕ) (position : Position) (sum : Sum) → 0 < d → Gives (IsAtMost d most) sum → Gives (IsAtMost d most) (live_sum position sum)
live_fits d most Dropped sum above h = (0, none d above, omega arith)
live_fits d most Root sum above h = h
live_fits d most (Below m) sum above h = h

sums_fit : (d most n : ℕ) (positions : List Position) (ss : List Scenario) → 0 < d → d < 2 ^ 127 → most < 2 ^ 127 → HavePortions d most ss → Each (Gives (IsAtMost d most)) (live_sums_from n positions ss)
sums_fit d most n [] ss above small few h = tt
sums_fit d most n (position ∷ positions) ss above small few h = (
  live_fits d most position (total_from n zero_ℚ ss) above
      (weaker d (0 + most) most (total_from n zero_ℚ ss) (omega arith) (total_fits d n 0 most zero_ℚ ss above small (omega (arith, few)) (none d above) h)),
  sums_fit d most (suc n) positions ss above small few h,
)

gathers : (P : ℚ → Type 0) (built : List ℚ) (sums : List Sum) → Each P built → Each (Gives P) sums → Gives (Each P) (gathered_from built sums)
gathers P built [] b h = b
gathers P built (Ok v ∷ sums) b h = gathers P (built ++ v ∷ []) sums (each-push P built v b h.0) h.1
gathers P built (Err o ∷ sums) b h = absurd h.0

-- ---- shares
read : (P : ℚ → Type 0) (xs : List ℚ) (i : ℕ) → P zero_ℚ → Each P xs → P (get_or xs i zero_ℚ)
read P [] i z h = z
read P (x ∷ xs) zero z h = h.0
read P (x ∷ xs) (suc i) z h = read P xs i z h.1

not_none : (d m : ℕ) (b : ℚ) → 0 < d → b ≡ pos (suc m) ÷ d → b ≡ zero_ℚ → ⊥
unfolding zero_ℚ
not_none d m b above e z =
    let same : pos (suc m) *ℤ pos 1 ≡ pos 0 *ℤ pos d = frac_cross (pos (suc m)) (pos 0) d 1 above (omega arith) (sym e ∙ z) in
    let zeros : pos (suc m) *ℤ pos 1 ≡ pos 0 = same ∙ zero-*ℤ (pos d) in
    omega (arith, ints, zeros)

quotient_is : (d k m : ℕ) (a b : ℚ) → 0 < d → a ≡ pos k ÷ d → b ≡ pos (suc m) ÷ d → a /ℚ b ≡ pos k ÷ suc m
quotient_is d k m a b above e f =
    let x : ℚ = pos k ÷ suc m in
    let times : x *ℚ b ≡ a = ap (λ (y : ℚ). x *ℚ y) f ∙ frac-mul (pos k) (pos (suc m)) (suc m) d (omega arith) above
    ∙ frac_same (pos k *ℤ pos (suc m)) (pos k) (suc m * d) d (mul-pos (let p : 0 < suc m = omega arith in p) above) above (ringZ (pos k ∷ pos (suc m) ∷ pos d ∷ []) (search reif depth 40) tt) ∙ sym e in
    ap (λ (y : ℚ). y *ℚ inv_ℚ b) (sym times) ∙ mul_assoc_ℚ x b (inv_ℚ b) ∙ ap (λ (y : ℚ). x *ℚ y) (mul_inv_ℚ b (not_none d m b above f)) ∙ mul_one_ℚ x

quotient_fits : (d most : ℕ) (a b : ℚ) → 0 < d → most < 2 ^ 127 → IsAtMost d most a → IsAtMost d most b → Gives Any (div_walk a b)
quotient_fits d most a b above few x (zero, e, under) =
    subst (λ (y : ℚ). Gives Any (div_walk a y)) (none d above ∙ sym e) (subst (Gives Any) (sym (quotient_by_zero a)) tt)
quotient_fits d most a b above few x (suc m, e, under) =
    let k : ℕ = x.0 in
    let also : k ≤ most = x.2 in
    let is : a /ℚ b ≡ pos k ÷ suc m = quotient_is d k m a b above x.1 e in
    subst (Gives Any) (sym (walk_fits Div a b (ap too_wide is ∙ fits k (suc m) (omega arith) (omega (arith, under, few)) (omega (arith, also, few))))) tt

share_fits : (d most : ℕ) (totals : List ℚ) (total : ℚ) (position : Position) → 0 < d → most < 2 ^ 127 → Each (IsAtMost d most) totals → IsAtMost d most total → Gives Any (share_walk totals total position)
share_fits d most totals total Dropped above few h t = tt
share_fits d most totals total Root above few h t = tt
share_fits d most totals total (Below m) above few h t =
    quotient_fits d most total (get_or totals m zero_ℚ) above few t (read (IsAtMost d most) totals m (0, none d above, omega arith) h)

shares_fit : (d most n : ℕ) (totals : List ℚ) (positions : List Position) → 0 < d → most < 2 ^ 127 → Each (IsAtMost d most) totals → Each (Gives Any) (shares_from totals n positions)
shares_fit d most n totals [] above few h = tt
shares_fit d most n totals (position ∷ positions) above few h = (
  share_fits d most totals (get_or totals n zero_ℚ) position above few h (read (IsAtMost d most) totals n (0, none d above, omega arith) h),
  shares_fit d most (suc n) totals positions above few h,
)

-- ---- and so all of them fit
ends_well : (w : Result (List ℚ) Operation) (totals : List ℚ) (ss : List Scenario) → Gives (Each Any) w
    → then_walk (then_walk w (λ shares. let c : Result Chances Operation = Ok (record { totals = totals; shares = shares }) in c)) (λ _. Ok ss) ≡ Ok ss
ends_well (Ok shares) totals ss h = refl
ends_well (Err o) totals ss h = absurd h

pub portions_fit : (d most : ℕ) (ss : List Scenario) → 0 < d → d < 2 ^ 127 → most < 2 ^ 127 → HavePortions d most ss → FitsAllTrees ss
portions_fit d most ss above small few h positions =
    go (totals_walk positions ss) (gathers (IsAtMost d most) [] (live_sums_from 0 positions ss) tt (sums_fit d most 0 positions ss above small few h))
  where
    go : (w : Result (List ℚ) Operation) → Gives (Each (IsAtMost d most)) w
        → then_walk (then_walk w (λ totals. then_walk (shares_walk totals positions) (λ shares. let c : Result Chances Operation = Ok (record { totals = totals; shares = shares }) in c))) (λ _. Ok ss) ≡ Ok ss
    go (Ok totals) f = ends_well (shares_walk totals positions) totals ss (gathers Any [] (shares_from totals 0 positions) tt (shares_fit d most 0 totals positions above few f))
    go (Err o) f = absurd f

-- ---- the code's loop
pub next_portions : (d all own more : ℕ) (ss : List ScenarioOf) (i : ℕ) (s : ScenarioOf) → i < length ss → s ≡ get_or ss i s → s.probability ≡ pos own ÷ d → more ≡ all + own
    → ((t : ℕ) → HavePortions d t (scenarios_content (drop i ss)) → HavePortions d (all + t) (scenarios_content ss))
    → (t : ℕ) → HavePortions d t (scenarios_content (drop (i + 1) ss)) → HavePortions d (more + t) (scenarios_content ss)
next_portions d all own more ss i s within e is sum goes t h =
    subst (λ (k : ℕ). HavePortions d k (scenarios_content ss)) (let same : all + (own + t) ≡ more + t = omega (arith, sum) in same)
    (goes (own + t) (subst (λ (rest : List ScenarioOf). HavePortions d (own + t) (scenarios_content rest)) (sym (drop_read ss i s within e))
    (own, t, is, omega arith, h)))

pub all_read : (d all : ℕ) (ss : List ScenarioOf) (i : ℕ) → length ss ≤ i → ((t : ℕ) → HavePortions d t (scenarios_content (drop i ss)) → HavePortions d (all + t) (scenarios_content ss))
    → HavePortions d all (scenarios_content ss)
all_read d all ss i past goes =
    subst (λ (k : ℕ). HavePortions d k (scenarios_content ss)) (let same : all + 0 ≡ all = omega arith in same)
    (goes 0 (subst (λ (rest : List ScenarioOf). HavePortions d 0 (scenarios_content rest)) (sym (drop_of_length-le ss past)) tt))

-- a fraction in portions of 1 / d, where its denominator divides d
pub in_portions : (q : ℚ) (n m k d : ℕ) → 0 < d → q.num ≡ pos n → m * q.den ≡ d → k ≡ n * m → q ≡ pos k ÷ d
in_portions q n m k d above e f g =
    sym (frac_self q) ∙ frac_same q.num (pos k) q.den d q.den_pos above
    (ap₂ (λ (x : ℤ) (y : ℕ). x *ℤ pos y) e (sym f) ∙ ringZ (pos n ∷ pos m ∷ pos q.den ∷ []) (search reif depth 40) tt ∙ ap (λ (j : ℕ). pos j *ℤ pos q.den) (sym g))
