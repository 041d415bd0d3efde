-- The six numbers: what the reports come to, and their differences.
use Rattle.std.specs.Prelude.{Bool, ◌&&◌, is_some, List, [], ◌∷◌, Option, Some, None, Result, Ok, Err}
use Rattle.rationals.specs.Rational.{ℚ, zero_ℚ}
use Rattle.rationals.specs.Passes.{Operation, add_product_walk, sub_walk, then_walk}
use Rattle.scen_defs.specs.declared.report.Finding.{Finding}
use Rattle.scen_defs.specs.declared.report.Finding.TheVariants.{Optimal, Infeasible, Unbounded, OpenSolves, OpenPivots, OpenPassed}
use Rattle.scen_defs.specs.declared.report.Report.{Report}
use Rattle.value_measures.specs.declared.numbers.ValueNumbers.{ValueNumbers}
use Rattle.value_measures.specs.declared.printed.PrintedReport.{PrintedReport}
use Rattle.value_measures.specs.declared.printed.ScenarioReport.{ScenarioReport}

-- ---- numbers that need not be there

-- what a number comes to: its value, or the first operation that passes; nothing where one that it is computed from isn't there
abbrev pub known_value : Option (Result ℚ Operation) → Option ℚ
known_value None = None
known_value (Some (Ok x)) = Some x
known_value (Some (Err o)) = None

abbrev pub passed_in : Option (Result ℚ Operation) → Option Operation
passed_in None = None
passed_in (Some (Ok x)) = None
passed_in (Some (Err o)) = Some o

abbrev pub first_of : {X : Type 0} → Option X → Option X → Option X
first_of None other = other
first_of (Some x) other = Some x

-- the one less the other, where both are there
abbrev pub surplus : Option ℚ → Option ℚ → Option (Result ℚ Operation)
surplus None b = None
surplus (Some a) None = None
surplus (Some a) (Some b) = Some (sub_walk a b)

-- ---- what the reports come to

-- what a report tells, where it is OPTIMAL
abbrev pub if_optimal : {X : Type 0} → Finding → Option X → Option X
if_optimal Optimal x = x
if_optimal Infeasible x = None
if_optimal Unbounded x = None
if_optimal (OpenSolves n) x = None
if_optimal (OpenPivots k) x = None
if_optimal (OpenPassed place o) x = None

-- the least cost that it tells then
abbrev pub least_cost : Report → Option ℚ
least_cost report = if_optimal report.finding report.lower

abbrev pub then_cost : Option ℚ → (ℚ → Option (Result ℚ Operation)) → Option (Result ℚ Operation)
then_cost None then = None
then_cost (Some cost) then = then cost

-- a sum, and behind it probability times least cost of scenarios, in their order, where all have one
abbrev pub expected_from : Result ℚ Operation → List ScenarioReport → Option (Result ℚ Operation)
expected_from sum [] = Some sum
expected_from sum (r ∷ rs) = then_cost (least_cost r.printed.report) (λ cost.
    expected_from (then_walk sum (λ s. add_product_walk s r.probability cost)) rs)

-- the mean of the scenarios' least costs
abbrev pub expected_cost : List ScenarioReport → Option (Result ℚ Operation)
expected_cost rs = expected_from (Ok zero_ℚ) rs

abbrev pub cost_of_means : Result PrintedReport Operation → Option ℚ
cost_of_means (Ok r) = least_cost r.report
cost_of_means (Err o) = None

abbrev pub passed_of_means : Result PrintedReport Operation → Option Operation
passed_of_means (Ok r) = None
passed_of_means (Err o) = Some o

abbrev pub cost_of_fixed : Option PrintedReport → Option ℚ
cost_of_fixed (Some r) = least_cost r.report
cost_of_fixed None = None

-- ---- all of them

-- by the least cost, the mean of the scenarios' ones, that of the means, what passed there, and that with a fixed first period
abbrev pub numbers_by : Option ℚ → Option (Result ℚ Operation) → Option ℚ → Option Operation → Option ℚ → ValueNumbers
numbers_by whole expected means passed fixed = record {
  whole = whole;
  scenarios = known_value expected;
  means = means;
  fixed = fixed;
  information = known_value (surplus whole (known_value expected));
  model = known_value (surplus fixed whole);
  passed = first_of passed (first_of (passed_in expected)
      (first_of (passed_in (surplus whole (known_value expected))) (passed_in (surplus fixed whole))));
}

abbrev pub numbers_told : PrintedReport → List ScenarioReport → Result PrintedReport Operation → Option PrintedReport → ValueNumbers
numbers_told whole scenarios means fixed =
    numbers_by (least_cost whole.report) (expected_cost scenarios) (cost_of_means means) (passed_of_means means) (cost_of_fixed fixed)

-- all six are there
abbrev pub all_known : ValueNumbers → Bool
all_known n = is_some n.whole && is_some n.scenarios && is_some n.means && is_some n.fixed && is_some n.information && is_some n.model
