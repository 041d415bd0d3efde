-- What the program's costs are: a weighted mean and conditional value at risk.
use Rattle.std.proofs.Common.{◌≡◌, ℕ, ◌<◌, length}
use Rattle.rationals.specs.Rational.{ℚ, zero_ℚ, one_ℚ, ◌+ℚ◌, ◌*ℚ◌, ◌-ℚ◌, ◌/ℚ◌, ◌≤ℚ◌, ◌<ℚ◌, at_most}
use Rattle.rationals.specs.Sums.{sum_ℚ}
use Rattle.rationals.specs.Choices.{pick}
use Rattle.scen_defs.specs.Program.{Scenario, Program, View, view_of}
use Rattle.scen_defs.specs.Flat.{Feasible, node_cost, cost}
use Rattle.scen_defs.specs.Valid.{IsProgram}
use Rattle.tail_risk.specs.TailRow.{h_column}
use Rattle.tail_risk.specs.TailProgram.{tail_of}

-- what a scenario costs at x
abbrev pub scenario_cost : View → (ℕ → ℕ → ℚ) → Scenario → ℚ
scenario_cost v x s = sum_ℚ (node_cost v x) s.path

-- how far a number is above 0
abbrev pub excess : ℚ → ℚ
excess z = pick (at_most z zero_ℚ) zero_ℚ z

-- the sum, over the scenarios, of probability times this
abbrev pub mean_of : (Scenario → ℚ) → View → ℚ
mean_of f v = sum_ℚ (λ (s : Scenario). s.probability *ℚ f s) v.scenarios

-- h and, divided by `1 - level`, the mean of how far the costs are above h; its least over all h is the conditional value at risk
abbrev pub tail_mean : View → ℚ → (ℕ → ℕ → ℚ) → ℚ → ℚ
tail_mean v level x h = h +ℚ (one_ℚ /ℚ (one_ℚ -ℚ level)) *ℚ mean_of (λ s. excess (scenario_cost v x s -ℚ h)) v

abbrev pub risk : View → ℚ → ℚ → (ℕ → ℕ → ℚ) → ℚ → ℚ
risk v level weight x h = (one_ℚ -ℚ weight) *ℚ mean_of (scenario_cost v x) v +ℚ weight *ℚ tail_mean v level x h

-- y has the values of x in the columns of the program, and h for TAIL_H
pub record ExtendsPoint (p : Program) (x : ℕ → ℕ → ℚ) (h : ℚ) (y : ℕ → ℕ → ℚ) : Type 0 where
  pub old : (n j : ℕ) → j < length p.columns → y n j ≡ x n j
  pub added : y 0 (h_column p) ≡ h

-- each feasible point and each h have a feasible point of the new program, with their values and at their risk
abbrev pub RiskIsAttained : Type 0
RiskIsAttained = (p : Program) (level weight : ℚ) → IsProgram p → (x : ℕ → ℕ → ℚ) (h : ℚ) → Feasible (view_of p) x
    → (y : ℕ → ℕ → ℚ) × ExtendsPoint p x h y × Feasible (view_of (tail_of p level weight)) y
    × (cost (view_of (tail_of p level weight)) y ≡ risk (view_of p) level weight x h)

-- each feasible point of the new program is feasible for the old one, and costs at least its risk
abbrev pub RiskIsLeast : Type 0
RiskIsLeast = (p : Program) (level weight : ℚ) → IsProgram p → level <ℚ one_ℚ → zero_ℚ ≤ℚ weight → (y : ℕ → ℕ → ℚ)
    → Feasible (view_of (tail_of p level weight)) y
    → Feasible (view_of p) y × (risk (view_of p) level weight y (y 0 (h_column p)) ≤ℚ cost (view_of (tail_of p level weight)) y)
