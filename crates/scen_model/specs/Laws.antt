-- What the walks mean.
use Rattle.std.specs.Prelude.{◌≡◌, ℕ, Ok, Err}
use Rattle.rationals.specs.Rational.{ℚ}
use Rattle.scen_defs.specs.Program.{View, IsTree}
use Rattle.scen_defs.specs.Flat.{Feasible, IsDirection, IsGood, cost, value}
use Rattle.scen_model.specs.declared.stop.Stop.TheVariants.{Decided}
use Rattle.scen_model.specs.Walks.{cost_walk, dual_walk, feasible_walk, direction_walk}

-- where the walk comes to its end, its value is the cost
abbrev pub CostLaw : Type 0
CostLaw = (v : View) (x : ℕ → ℕ → ℚ) (q : ℚ) → IsTree v → cost_walk v x ≡ Ok q → q ≡ cost v x

-- where the walk comes to its end, the multipliers are good and its value is theirs; where an end decides, they are not good
pub record DualLaws : Type 0 where
  pub good : (v : View) (y : ℕ → ℕ → ℚ) (q : ℚ) → dual_walk v y ≡ Ok q → IsGood v y
  pub value : (v : View) (y : ℕ → ℕ → ℚ) (q : ℚ) → dual_walk v y ≡ Ok q → q ≡ value v y
  pub not_good : (v : View) (y : ℕ → ℕ → ℚ) → dual_walk v y ≡ Err Decided → IsGood v y → ⊥

pub record FeasibleLaws : Type 0 where
  pub yes : (v : View) (x : ℕ → ℕ → ℚ) → feasible_walk v x ≡ Ok tt → Feasible v x
  pub no : (v : View) (x : ℕ → ℕ → ℚ) → feasible_walk v x ≡ Err Decided → Feasible v x → ⊥

pub record DirectionLaws : Type 0 where
  pub yes : (v : View) (d : ℕ → ℕ → ℚ) → IsTree v → direction_walk v d ≡ Ok tt → IsDirection v d
  pub no : (v : View) (d : ℕ → ℕ → ℚ) → IsTree v → direction_walk v d ≡ Err Decided → IsDirection v d → ⊥
