-- The deterministic equivalent: what is feasible, what it costs, and what multipliers of all rows are worth.
use Rattle.std.proofs.Common.{◌≡◌, ℕ, zero, suc, ◌-◌, Bool, true, ◌&&◌, eqb, leb, List, [], Option, Some, None, map}
use Rattle.rationals.specs.Rational.{ℚ, zero_ℚ, one_ℚ, neg_ℚ, ◌/ℚ◌, ◌+ℚ◌, ◌*ℚ◌, ◌-ℚ◌, ◌<ℚ◌}
use Rattle.rationals.specs.Sums.{sum_ℚ}
use Rattle.rationals.specs.Sparse.{product, coefficient}
use Rattle.scen_defs.specs.Lists.{Each, keep}
use Rattle.rationals.specs.Intervals.{Between}
use Rattle.scen_defs.specs.Ends.{IsGoodAt, worth}
use Rattle.scen_defs.specs.Program.{Scenario, View, total}
use Rattle.scen_defs.specs.declared.program.NodeRow.{NodeRow}

-- ---- the tree
-- k stages up from node n
abbrev pub up : View → ℕ → ℕ → ℕ
up v zero n = n
up v (suc k) n = v.parent (up v k n)

-- the node of n's path that decides column j
abbrev pub home : View → ℕ → ℕ → ℕ
home v n j = up v (v.stage n - v.stage_of j) n

-- whether m is n, or stands above it
abbrev pub is_above : View → ℕ → ℕ → Bool
is_above v m n = leb (v.stage m) (v.stage n) && eqb (up v (v.stage n - v.stage m) n) m

-- m and all live nodes below it
abbrev pub subtree : View → ℕ → List ℕ
subtree v m = keep (λ n. is_above v m n) v.live

-- whether m is a child of n, and the children of n
abbrev pub is_child : View → ℕ → ℕ → Bool
is_child v n m = eqb (v.stage m) (suc (v.stage n)) && eqb (v.parent m) n

abbrev pub children : View → ℕ → List ℕ
children v n = keep (λ m. is_child v n m) v.live

-- the probability of a node where its parent is reached
abbrev pub share : View → ℕ → ℚ
share v m = total v m /ℚ total v (v.parent m)

-- every live node is it or below it, and every scenario goes through it
pub record IsRoot (v : View) (n : ℕ) : Type 0 where
  pub above : Each (λ m. is_above v n m ≡ true) v.live
  pub certain : total v n ≡ one_ℚ

-- ---- points
-- the values of the columns along n's path
abbrev pub along : View → (ℕ → ℕ → ℚ) → ℕ → ℕ → ℚ
along v x n j = x (home v n j) j

pub record FeasibleAt (v : View) (x : ℕ → ℕ → ℚ) (n : ℕ) : Type 0 where
  -- each row's sum along the path lies in its interval, and each value in its bounds
  pub rows : Each (λ (r : NodeRow). Between r.low r.high (product r.entries (along v x n))) (v.rows n)
  pub bounds : Each (λ j. Between (v.lower j) (v.upper j) (x n j)) (v.columns (v.stage n))

abbrev pub Feasible : View → (ℕ → ℕ → ℚ) → Type 0
Feasible v x = Each (FeasibleAt v x) v.live

-- the cost of the node's values
abbrev pub node_cost : View → (ℕ → ℕ → ℚ) → ℕ → ℚ
node_cost v x n = product (v.cost n) (x n)

-- over scenarios and stages, the probability times the cost of the node
unfoldable pub cost : View → (ℕ → ℕ → ℚ) → ℚ
cost v x = sum_ℚ (λ (s : Scenario). s.probability *ℚ sum_ℚ (node_cost v x) s.path) v.scenarios

-- ---- multipliers of the rows
-- the total times the cost, less entry times multiplier over the rows of the node and of all nodes below
unfoldable pub reduced : View → (ℕ → ℕ → ℚ) → ℕ → ℕ → ℚ
reduced v y m j = total v m *ℚ coefficient (v.cost m) j -ℚ sum_ℚ
    (λ n. sum_ℚ (λ (r : NodeRow). coefficient r.entries j *ℚ y n r.row) (v.rows n)) (subtree v m)

-- every used end is finite
pub record GoodAt (v : View) (y : ℕ → ℕ → ℚ) (n : ℕ) : Type 0 where
  pub rows : Each (λ (r : NodeRow). IsGoodAt r.low r.high (y n r.row)) (v.rows n)
  pub bounds : Each (λ j. IsGoodAt (v.lower j) (v.upper j) (reduced v y n j)) (v.columns (v.stage n))

abbrev pub IsGood : View → (ℕ → ℕ → ℚ) → Type 0
IsGood v y = Each (GoodAt v y) v.live

-- each multiplier times the end that it uses, and each reduced cost times the bound that it uses
unfoldable pub value : View → (ℕ → ℕ → ℚ) → ℚ
value v y = sum_ℚ (λ n. sum_ℚ (λ (r : NodeRow). worth r.low r.high (y n r.row)) (v.rows n)) v.live
    +ℚ sum_ℚ (λ n. sum_ℚ (λ j. worth (v.lower j) (v.upper j) (reduced v y n j)) (v.columns (v.stage n))) v.live

-- ---- with all costs 0, and with all finite ends 0
abbrev pub without_costs : View → View
without_costs v = record v { cost = λ n. [] }

abbrev pub zero_end : Option ℚ → Option ℚ
zero_end None = None
zero_end (Some e) = Some zero_ℚ

abbrev pub zero_row : NodeRow → NodeRow
zero_row r = record r { low = zero_end r.low; high = zero_end r.high }

abbrev pub with_zero_ends : View → View
with_zero_ends v = record v { rows = λ n. map zero_row (v.rows n); lower = λ j. zero_end (v.lower j); upper = λ j. zero_end (v.upper j) }

pub record ShowsInfeasible (v : View) (y : ℕ → ℕ → ℚ) : Type 0 where
  pub good : IsGood (without_costs v) y
  pub above : zero_ℚ <ℚ value (without_costs v) y

pub record IsDirection (v : View) (d : ℕ → ℕ → ℚ) : Type 0 where
  pub feasible : Feasible (with_zero_ends v) d
  pub falls : cost v d <ℚ zero_ℚ

-- as with zero ends, but absent bounds are -1 and 1
abbrev pub recession : View → View
recession v = record v {
  rows = λ n. map zero_row (v.rows n);
  lower = λ j. Some (elim (v.lower j) [ None ↦ neg_ℚ one_ℚ | Some e ↦ zero_ℚ ]);
  upper = λ j. Some (elim (v.upper j) [ None ↦ one_ℚ | Some e ↦ zero_ℚ ]);
}
