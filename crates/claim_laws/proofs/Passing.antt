-- The walks of a test end in no operation but one that passes 128 bits.
use Rattle.std.proofs.Common.{◌≡◌, ℕ, Bool, true, false, List, [], ◌∷◌, Option, Some, None, Result, Ok, Err, not, refl}
use Rattle.rationals.specs.declared.Op.{Op}
use Rattle.rationals.specs.declared.Op.TheVariants.{Add, Sub, Mul}
use Rattle.rationals.specs.Rational.{ℚ, zero_ℚ, at_most}
use Rattle.rationals.specs.Sparse.{Entry, coefficient}
use Rattle.rationals.specs.Passes.{Operation, passes, walk, step_walk, mul_walk, add_walk, add_product_walk, less_product_walk, then_walk}
use Rattle.rationals.proofs.OrderMeaning.{walk_passes}
use Rattle.rationals.proofs.StepLaws.{step_passes}
use Rattle.rationals.specs.Choices.{pick}
use Rattle.scen_defs.specs.declared.program.NodeRow.{NodeRow}
use Rattle.scen_defs.specs.Lists.{is_in}
use Rattle.scen_defs.specs.Ends.{used_end}
use Rattle.scen_defs.specs.Program.{View, Scenario}
use Rattle.scen_defs.specs.Flat.{along, is_above, zero_end}
use Rattle.scen_model.specs.declared.stop.Stop.{Stop}
use Rattle.scen_model.specs.declared.stop.Stop.TheVariants.{Decided, Passed}
use Rattle.rationals.specs.Forms.{product_from}
use Rattle.scen_defs.specs.Walks.{total_from, less_from}
use Rattle.scen_model.specs.Walks.{fold_walk, total_walk, totals_walk, cost_step, costs_walk, cost_walk, stopping}
use Rattle.scen_model.specs.Walks.{end_step, worth_step, rows_from, less_step, less_all, reduced_walk, column_step}
use Rattle.scen_model.specs.Walks.{columns_step, all_rows, all_columns, dual_by, is_between, test, rows_test, all_rows_test}
use Rattle.scen_model.specs.Walks.{bounds_test, all_bounds_test, meets_walk, direction_walk}

-- ---- what holds of the end of a walk
abbrev pub EndsIn : {X P : Type 0} → (P → Type 0) → Result X P → Type 0
EndsIn holds (Ok x) = Unit {0}
EndsIn holds (Err p) = holds p

module _ {P : Type 0} (holds : P → Type 0) where
  pub then_ends : {X Y : Type 0} (first : Result X P) (next : X → Result Y P) → EndsIn holds first → ((x : X) → EndsIn holds (next x))
      → EndsIn holds (then_walk first next)
  then_ends (Ok x) next h k = k x
  then_ends (Err p) next h k = h

  fold_ends : {S A : Type 0} (f : S → A → Result S P) → ((s : S) (a : A) → EndsIn holds (f s a)) → (s : S) (xs : List A)
      → EndsIn holds (fold_walk f s xs)
  fold_ends f h s [] = tt
  fold_ends f h s (x ∷ xs) = then_ends (f s x) (λ t. fold_walk f t xs) (h s x) (λ t. fold_ends f h t xs)

  pub pick_ends : {X : Type 0} (b : Bool) (x y : Result X P) → EndsIn holds x → EndsIn holds y → EndsIn holds (pick b x y)
  pick_ends true x y h k = h
  pick_ends false x y h k = k

-- ---- an operation that passes
abbrev pub IsWide : Operation → Type 0
IsWide o = passes o.op o.a o.b ≡ true

abbrev pub StopsWide : Stop → Type 0
StopsWide Decided = Unit {0}
StopsWide (Passed o) = IsWide o

ends_so : {X : Type 0} (w : Result X Operation) → ((o : Operation) → w ≡ Err o → IsWide o) → EndsIn IsWide w
ends_so (Ok x) h = tt
ends_so (Err o) h = h o refl

walk_so : (op : Op) (a b : ℚ) → (o : Operation) → walk op a b ≡ Err o → IsWide o
walk_so op a b o e = let h = walk_passes op a b o e in rw h.1 h.0

pub walk_ends : (op : Op) (a b : ℚ) → EndsIn IsWide (walk op a b)
walk_ends op a b = ends_so (walk op a b) (walk_so op a b)

pub step_ends : (op : Op) (s a b : ℚ) → EndsIn IsWide (step_walk op s a b)
step_ends op s a b = ends_so (step_walk op s a b) (λ o e. (step_passes op s a b o e).1)

stopping_ends : {X : Type 0} (w : Result X Operation) → EndsIn IsWide w → EndsIn StopsWide (stopping w)
stopping_ends (Ok x) h = tt
stopping_ends (Err o) h = h

-- ---- costs
pub product_ends : (x : ℕ → ℚ) (s : ℚ) (es : List Entry) → EndsIn IsWide (product_from x s es)
product_ends x s [] = tt
product_ends x s (d ∷ es) = then_ends IsWide (add_product_walk s d.value (x d.column)) (λ t. product_from x t es)
    (step_ends Add s d.value (x d.column)) (λ t. product_ends x t es)

pub total_ends : (n : ℕ) (s : ℚ) (cs : List Scenario) → EndsIn IsWide (total_from n s cs)
total_ends n s [] = tt
total_ends n s (c ∷ cs) =
    pick_ends IsWide (is_in n c.path) (then_walk (add_walk s c.probability) (λ t. total_from n t cs)) (total_from n s cs)
    (then_ends IsWide (add_walk s c.probability) (λ t. total_from n t cs) (walk_ends Add s c.probability) (λ t. total_ends n t cs))
    (total_ends n s cs)

totals_end : (v : View) (ns : List ℕ) → EndsIn IsWide (totals_walk v ns)
totals_end v [] = tt
totals_end v (n ∷ ns) =
    then_ends IsWide (total_walk v n) (λ t. totals_walk v ns) (total_ends n zero_ℚ v.scenarios) (λ t. totals_end v ns)

cost_step_ends : (scenarios : List Scenario) (costs : List Entry) (x : ℕ → ℚ) (n : ℕ) (s : ℚ)
    → EndsIn IsWide (cost_step scenarios costs x n s)
cost_step_ends scenarios costs x n s =
    then_ends IsWide (product_from x zero_ℚ costs) (λ c. then_walk (total_from n zero_ℚ scenarios) (λ t. add_product_walk s t c))
    (product_ends x zero_ℚ costs)
    (λ c. then_ends IsWide (total_from n zero_ℚ scenarios) (λ t. add_product_walk s t c) (total_ends n zero_ℚ scenarios)
    (λ t. step_ends Add s t c))

pub cost_ends : (v : View) (x : ℕ → ℕ → ℚ) → EndsIn IsWide (cost_walk v x)
cost_ends v x = then_ends IsWide (totals_walk v v.live) (λ _. costs_walk v x) (totals_end v v.live)
    (λ _. fold_ends IsWide (λ s n. cost_step v.scenarios (v.cost n) (x n) n s)
    (λ s n. cost_step_ends v.scenarios (v.cost n) (x n) n s) zero_ℚ v.live)

-- ---- what multipliers are worth
end_ends : (s y : ℚ) (e : Option ℚ) → EndsIn StopsWide (end_step s y e)
end_ends s y None = tt
end_ends s y (Some e) = stopping_ends (add_product_walk s y e) (step_ends Add s y e)

rows_end : (y : ℕ → ℚ) (s : ℚ) (rs : List NodeRow) → EndsIn StopsWide (rows_from y s rs)
rows_end y s [] = tt
rows_end y s (r ∷ rs) = then_ends StopsWide (worth_step r.low r.high (y r.row) s) (λ t. rows_from y t rs)
    (end_ends s (y r.row) (used_end r.low r.high (y r.row))) (λ t. rows_end y t rs)

pub less_ends : (j : ℕ) (y : ℕ → ℚ) (s : ℚ) (rs : List NodeRow) → EndsIn IsWide (less_from j y s rs)
less_ends j y s [] = tt
less_ends j y s (r ∷ rs) = then_ends IsWide (less_product_walk s (coefficient r.entries j) (y r.row)) (λ t. less_from j y t rs)
    (step_ends Sub s (coefficient r.entries j) (y r.row)) (λ t. less_ends j y t rs)

module _ (v : View) (y : ℕ → ℕ → ℚ) where
  less_all_ends : (m j : ℕ) (s : ℚ) → EndsIn IsWide (less_all v y m j s)
  less_all_ends m j s = fold_ends IsWide (less_step v y m j)
      (λ s n. pick_ends IsWide (is_above v m n) (less_from j (y n) s (v.rows n)) (Ok s) (less_ends j (y n) s (v.rows n)) tt) s v.live

  reduced_ends : (costs : ℕ → List Entry) (m j : ℕ) → EndsIn IsWide (reduced_walk costs v y m j)
  reduced_ends costs m j =
      then_ends IsWide (total_walk v m) (λ t. then_walk (mul_walk t (coefficient (costs m) j)) (λ c. less_all v y m j c))
      (total_ends m zero_ℚ v.scenarios)
      (λ t. then_ends IsWide (mul_walk t (coefficient (costs m) j)) (λ c. less_all v y m j c)
      (walk_ends Mul t (coefficient (costs m) j)) (λ c. less_all_ends m j c))

  column_ends : (costs : ℕ → List Entry) (m : ℕ) (s : ℚ) (j : ℕ) → EndsIn StopsWide (column_step costs v y m s j)
  column_ends costs m s j =
      then_ends StopsWide (stopping (reduced_walk costs v y m j)) (λ d. worth_step (v.lower j) (v.upper j) d s)
      (stopping_ends (reduced_walk costs v y m j) (reduced_ends costs m j))
      (λ d. end_ends s d (used_end (v.lower j) (v.upper j) d))

  pub dual_ends : (costs : ℕ → List Entry) → EndsIn StopsWide (dual_by costs v y)
  dual_ends costs =
      then_ends StopsWide (stopping (totals_walk v v.live)) (λ _. then_walk (all_rows v y) (λ s. all_columns costs v y s))
      (stopping_ends (totals_walk v v.live) (totals_end v v.live))
      (λ _. then_ends StopsWide (all_rows v y) (λ s. all_columns costs v y s)
      (fold_ends StopsWide (λ s n. rows_from (y n) s (v.rows n)) (λ s n. rows_end (y n) s (v.rows n)) zero_ℚ v.live)
      (λ s. fold_ends StopsWide (columns_step costs v y)
      (λ s m. fold_ends StopsWide (column_step costs v y m) (column_ends costs m) s (v.columns (v.stage m))) s v.live))

-- ---- what is feasible
test_ends : (b : Bool) → EndsIn StopsWide (test b)
test_ends true = tt
test_ends false = tt

rows_test_ends : (ends : Option ℚ → Option ℚ) (x : ℕ → ℚ) (rs : List NodeRow) → EndsIn StopsWide (rows_test ends x rs)
rows_test_ends ends x [] = tt
rows_test_ends ends x (r ∷ rs) =
    then_ends StopsWide (stopping (product_from x zero_ℚ r.entries))
    (λ s. then_walk (test (is_between (ends r.low) (ends r.high) s)) (λ _. rows_test ends x rs))
    (stopping_ends (product_from x zero_ℚ r.entries) (product_ends x zero_ℚ r.entries))
    (λ s. then_ends StopsWide (test (is_between (ends r.low) (ends r.high) s)) (λ _. rows_test ends x rs)
    (test_ends (is_between (ends r.low) (ends r.high) s)) (λ _. rows_test_ends ends x rs))

pub meets_ends : (ends : Option ℚ → Option ℚ) (v : View) (x : ℕ → ℕ → ℚ) → EndsIn StopsWide (meets_walk ends v x)
meets_ends ends v x =
    then_ends StopsWide (all_bounds_test ends v x) (λ _. all_rows_test ends v x)
    (fold_ends StopsWide (λ _ n. bounds_test ends v x n)
    (λ _ n. fold_ends StopsWide (λ _ j. test (is_between (ends (v.lower j)) (ends (v.upper j)) (x n j)))
    (λ _ j. test_ends (is_between (ends (v.lower j)) (ends (v.upper j)) (x n j))) tt (v.columns (v.stage n))) tt v.live)
    (λ _. fold_ends StopsWide (λ _ n. rows_test ends (along v x n) (v.rows n))
    (λ _ n. rows_test_ends ends (along v x n) (v.rows n)) tt v.live)

pub direction_ends : (v : View) (d : ℕ → ℕ → ℚ) → EndsIn StopsWide (direction_walk v d)
direction_ends v d =
    then_ends StopsWide (meets_walk zero_end v d) (λ _. then_walk (stopping (cost_walk v d)) (λ c. test (not (at_most zero_ℚ c))))
    (meets_ends zero_end v d)
    (λ _. then_ends StopsWide (stopping (cost_walk v d)) (λ c. test (not (at_most zero_ℚ c)))
    (stopping_ends (cost_walk v d) (cost_ends v d)) (λ c. test_ends (not (at_most zero_ℚ c))))
