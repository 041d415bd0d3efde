-- The ranges of the numbers of risk measures.
use Rattle.std.specs.Prelude.{⊤}
use Rattle.rationals.specs.Rational.{zero_ℚ, one_ℚ, ◌≤ℚ◌, ◌<ℚ◌}
use Rattle.command_words.specs.declared.command.RiskMeasure.{RiskMeasure}
use Rattle.command_words.specs.declared.command.Task.{Task}
use Rattle.command_words.specs.declared.command.Task.TheVariants.{Solve, Check, Table, Show, Flat, Value, SolveRisk, CheckRisk, SolveBasis}
use Rattle.command_words.specs.Commands.{Asked}
use Rattle.command_words.specs.Commands.Asked.{OnFiles, MakeThis}

-- the level is from 0 and below 1, the weight from 0 to 1
pub record IsRiskMeasure (m : RiskMeasure) : Type 0 where
  pub level : zero_ℚ ≤ℚ m.level
  pub below : m.level <ℚ one_ℚ
  pub weight : zero_ℚ ≤ℚ m.weight
  pub most : m.weight ≤ℚ one_ℚ

-- those of a task are, where it has some
abbrev pub HasRange : Task → Type 0
HasRange (Solve budget) = ⊤
HasRange Check = ⊤
HasRange (Table sheet) = ⊤
HasRange Show = ⊤
HasRange (Flat extent) = ⊤
HasRange (Value budget) = ⊤
HasRange (SolveRisk m budget) = IsRiskMeasure m
HasRange (CheckRisk m) = IsRiskMeasure m
HasRange (SolveBasis budget) = ⊤

-- and those of what is asked for
abbrev pub AsksInRange : Asked → Type 0
AsksInRange (OnFiles names task) = HasRange task
AsksInRange (MakeThis plan) = ⊤
