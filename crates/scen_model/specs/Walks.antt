-- The sums of a program, operation by operation in their order. A walk ends at the first operation that passes.
use Rattle.std.specs.Prelude.{ℕ, Bool, true, false, not, ◌&&◌, List, [], ◌∷◌, Option, Some, None, Result, Ok, Err}
use Rattle.rationals.specs.Rational.{ℚ, zero_ℚ, at_most}
use Rattle.rationals.specs.Sparse.{Entry, coefficient}
use Rattle.rationals.specs.Passes.{Operation, mul_walk, add_product_walk, then_walk}
use Rattle.rationals.specs.Forms.{product_from}
use Rattle.rationals.specs.Choices.{pick}
use Rattle.scen_defs.specs.declared.program.NodeRow.{NodeRow}
use Rattle.scen_defs.specs.Ends.{used_end}
use Rattle.scen_defs.specs.Program.{View, Scenario}
use Rattle.scen_defs.specs.Flat.{along, is_above, zero_end}
use Rattle.scen_defs.specs.Walks.{total_from, less_from}
use Rattle.scen_model.specs.declared.charges.Costs.{Costs}
use Rattle.scen_model.specs.declared.charges.Costs.TheVariants.{Own, Zero}
use Rattle.scen_model.specs.declared.feasibility.Ends.{Ends}
use Rattle.scen_model.specs.declared.feasibility.Ends.TheVariants.{Own as OwnEnds, Zero as ZeroEnds}
use Rattle.scen_model.specs.declared.stop.Stop.{Stop}
use Rattle.scen_model.specs.declared.stop.Stop.TheVariants.{Decided, Passed}

-- step after step on what is there; the first that ends in an operation ends all
abbrev pub fold_walk : {S A P : Type 0} → (S → A → Result S P) → S → List A → Result S P
fold_walk f s [] = Ok s
fold_walk f s (x ∷ xs) = then_walk (f s x) (λ t. fold_walk f t xs)

-- ---- the total of a node

abbrev pub total_walk : View → ℕ → Result ℚ Operation
total_walk v n = total_from n zero_ℚ v.scenarios

-- the totals of the nodes, which are taken before all else
abbrev pub totals_walk : View → List ℕ → Result (Unit {0}) Operation
totals_walk v [] = Ok tt
totals_walk v (n ∷ ns) = then_walk (total_walk v n) (λ t. totals_walk v ns)

-- ---- the cost

-- s and, for a node with these costs and values, the total times the cost of the values
abbrev pub cost_step : List Scenario → List Entry → (ℕ → ℚ) → ℕ → ℚ → Result ℚ Operation
cost_step scenarios costs x n s =
    then_walk (product_from x zero_ℚ costs) (λ c. then_walk (total_from n zero_ℚ scenarios) (λ t. add_product_walk s t c))

abbrev pub costs_walk : View → (ℕ → ℕ → ℚ) → Result ℚ Operation
costs_walk v x = fold_walk (λ s n. cost_step v.scenarios (v.cost n) (x n) n s) zero_ℚ v.live

-- the totals, and then the cost of each node in turn
abbrev pub cost_walk : View → (ℕ → ℕ → ℚ) → Result ℚ Operation
cost_walk v x = then_walk (totals_walk v v.live) (λ _. costs_walk v x)

-- ---- the value of multipliers

-- a walk whose operations may stop an answer
abbrev pub stopping : {X : Type 0} → Result X Operation → Result X Stop
stopping (Ok x) = Ok x
stopping (Err p) = Err (Passed p)

-- s and a multiplier times an end; an end that isn't finite decides
abbrev pub end_step : ℚ → ℚ → Option ℚ → Result ℚ Stop
end_step s y None = Err Decided
end_step s y (Some e) = stopping (add_product_walk s y e)

-- s and a multiplier times the end that it uses
abbrev pub worth_step : Option ℚ → Option ℚ → ℚ → ℚ → Result ℚ Stop
worth_step low high y s = end_step s y (used_end low high y)

-- s and, row by row, the multiplier times the end that it uses
abbrev pub rows_from : (ℕ → ℚ) → ℚ → List NodeRow → Result ℚ Stop
rows_from y s [] = Ok s
rows_from y s (r ∷ rs) = then_walk (worth_step r.low r.high (y r.row) s) (λ t. rows_from y t rs)

-- s less the products of a node's rows, where the node is m or below it
abbrev pub less_step : View → (ℕ → ℕ → ℚ) → ℕ → ℕ → ℚ → ℕ → Result ℚ Operation
less_step v y m j s n = pick (is_above v m n) (less_from j (y n) s (v.rows n)) (Ok s)

abbrev pub less_all : View → (ℕ → ℕ → ℚ) → ℕ → ℕ → ℚ → Result ℚ Operation
less_all v y m j s = fold_walk (less_step v y m j) s v.live

-- the costs of the nodes, or none
abbrev pub costs_of : Costs → View → ℕ → List Entry
costs_of Own v n = v.cost n
costs_of Zero v n = []

-- the reduced cost of column j at node m: its total times its cost, less the products by node and row
abbrev pub reduced_walk : (ℕ → List Entry) → View → (ℕ → ℕ → ℚ) → ℕ → ℕ → Result ℚ Operation
reduced_walk costs v y m j = then_walk (total_walk v m) (λ t. then_walk (mul_walk t (coefficient (costs m) j)) (λ c. less_all v y m j c))

-- s and the reduced cost times the bound that it uses
abbrev pub bound_step : Result ℚ Operation → Option ℚ → Option ℚ → ℚ → Result ℚ Stop
bound_step reduced lower upper s = then_walk (stopping reduced) (λ d. worth_step lower upper d s)

abbrev pub column_step : (ℕ → List Entry) → View → (ℕ → ℕ → ℚ) → ℕ → ℚ → ℕ → Result ℚ Stop
column_step costs v y m s j = bound_step (reduced_walk costs v y m j) (v.lower j) (v.upper j) s

-- the same, column by column of the node's stage
abbrev pub columns_step : (ℕ → List Entry) → View → (ℕ → ℕ → ℚ) → ℚ → ℕ → Result ℚ Stop
columns_step costs v y s m = fold_walk (column_step costs v y m) s (v.columns (v.stage m))

abbrev pub all_rows : View → (ℕ → ℕ → ℚ) → Result ℚ Stop
all_rows v y = fold_walk (λ s n. rows_from (y n) s (v.rows n)) zero_ℚ v.live

abbrev pub all_columns : (ℕ → List Entry) → View → (ℕ → ℕ → ℚ) → ℚ → Result ℚ Stop
all_columns costs v y s = fold_walk (columns_step costs v y) s v.live

-- the totals; then by node and row, and then by node and column, what is worth something
abbrev pub dual_by : (ℕ → List Entry) → View → (ℕ → ℕ → ℚ) → Result ℚ Stop
dual_by costs v y = then_walk (stopping (totals_walk v v.live)) (λ _. then_walk (all_rows v y) (λ s. all_columns costs v y s))

abbrev pub dual_walk : View → (ℕ → ℕ → ℚ) → Result ℚ Stop
dual_walk v y = dual_by v.cost v y

-- ---- what is feasible

abbrev pub own_end : Option ℚ → Option ℚ
own_end e = e

-- the ends that count
abbrev pub end_of : Ends → Option ℚ → Option ℚ
end_of OwnEnds e = e
end_of ZeroEnds e = zero_end e

abbrev pub is_above_low : Option ℚ → ℚ → Bool
is_above_low None q = true
is_above_low (Some low) q = at_most low q

abbrev pub is_below_high : Option ℚ → ℚ → Bool
is_below_high None q = true
is_below_high (Some high) q = at_most q high

abbrev pub is_between : Option ℚ → Option ℚ → ℚ → Bool
is_between low high q = is_above_low low q && is_below_high high q

-- a test that fails decides
abbrev pub test : Bool → Result (Unit {0}) Stop
test true = Ok tt
test false = Err Decided

-- the rows of a node where the columns along its path have the values x
abbrev pub rows_test : (Option ℚ → Option ℚ) → (ℕ → ℚ) → List NodeRow → Result (Unit {0}) Stop
rows_test ends x [] = Ok tt
rows_test ends x (r ∷ rs) =
    then_walk (stopping (product_from x zero_ℚ r.entries))
    (λ s. then_walk (test (is_between (ends r.low) (ends r.high) s)) (λ _. rows_test ends x rs))

abbrev pub all_rows_test : (Option ℚ → Option ℚ) → View → (ℕ → ℕ → ℚ) → Result (Unit {0}) Stop
all_rows_test ends v x = fold_walk (λ _ n. rows_test ends (along v x n) (v.rows n)) tt v.live

-- the bounds of the columns of a node's stage
abbrev pub bounds_test : (Option ℚ → Option ℚ) → View → (ℕ → ℕ → ℚ) → ℕ → Result (Unit {0}) Stop
bounds_test ends v x n = fold_walk (λ _ j. test (is_between (ends (v.lower j)) (ends (v.upper j)) (x n j))) tt (v.columns (v.stage n))

abbrev pub all_bounds_test : (Option ℚ → Option ℚ) → View → (ℕ → ℕ → ℚ) → Result (Unit {0}) Stop
all_bounds_test ends v x = fold_walk (λ _ n. bounds_test ends v x n) tt v.live

-- all bounds, and then all rows
abbrev pub meets_walk : (Option ℚ → Option ℚ) → View → (ℕ → ℕ → ℚ) → Result (Unit {0}) Stop
meets_walk ends v x = then_walk (all_bounds_test ends v x) (λ _. all_rows_test ends v x)

abbrev pub feasible_walk : View → (ℕ → ℕ → ℚ) → Result (Unit {0}) Stop
feasible_walk v x = meets_walk own_end v x

-- with zero ends, and then the cost
abbrev pub direction_walk : View → (ℕ → ℕ → ℚ) → Result (Unit {0}) Stop
direction_walk v d = then_walk (meets_walk zero_end v d)
    (λ _. then_walk (stopping (cost_walk v d)) (λ c. test (not (at_most zero_ℚ c))))
