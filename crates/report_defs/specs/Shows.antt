-- What the lists of a report show of a program.
use Rattle.std.specs.Prelude.{◌≡◌, ℕ, List, Option, Some, None}
use Rattle.rationals.specs.Rational.{ℚ, zero_ℚ, ◌≤ℚ◌, ◌<ℚ◌}
use Rattle.scen_defs.specs.Values.{At, at}
use Rattle.scen_defs.specs.Program.{View}
use Rattle.scen_defs.specs.Flat.{Feasible, cost, IsGood, value, IsDirection, without_costs, ShowsInfeasible}

-- two parts that stand together or not at all
abbrev pub Together : {A B : Type 0} → (A → B → Type 0) → Option A → Option B → Type 0
Together holds None None = Unit {0}
Together holds None (Some b) = ⊥
Together holds (Some a) None = ⊥
Together holds (Some a) (Some b) = holds a b

-- the multipliers are good and worth at least the lower end, so no feasible point costs less
pub record ShowsLower (v : View) (lower : ℚ) (dual : List At) : Type 0 where
  pub good : IsGood v (at dual)
  pub worth : lower ≤ℚ value v (at dual)
  pub bound : (x : ℕ → ℕ → ℚ) → Feasible v x → lower ≤ℚ cost v x

-- the policy is feasible and costs at most the upper end
pub record ShowsUpper (v : View) (upper : ℚ) (policy : List At) : Type 0 where
  pub feasible : Feasible v (at policy)
  pub costs : cost v (at policy) ≤ℚ upper

-- it is a direction of that cost, so a feasible point costs less than any limit
pub record ShowsSlope (v : View) (slope : ℚ) (direction : List At) : Type 0 where
  pub falls : IsDirection v (at direction)
  pub costs : cost v (at direction) ≡ slope
  pub endless : (limit : ℚ) → (x : ℕ → ℕ → ℚ) × Feasible v x × (cost v x ≤ℚ limit)

-- multipliers that are good where all costs are 0, and are then worth this number above 0, so no point is feasible
pub record ShowsNothing (v : View) (number : ℚ) (ray : List At) : Type 0 where
  pub certificate : ShowsInfeasible v (at ray)
  pub worth : value (without_costs v) (at ray) ≡ number
  pub above : zero_ℚ <ℚ number
  pub nothing : (x : ℕ → ℕ → ℚ) → Feasible v x → ⊥
