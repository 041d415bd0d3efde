-- Rows and bounds that are met.
use Rattle.std.specs.Prelude.{ℕ, List}
use Rattle.rationals.specs.Rational.{ℚ}
use Rattle.rationals.specs.Sparse.{product}
use Rattle.rationals.specs.Intervals.{Between}
use Rattle.scen_defs.specs.declared.program.NodeRow.{NodeRow}
use Rattle.scen_defs.specs.Lists.{Each}
use Rattle.scen_defs.specs.Program.{View}

-- each row's sum lies in its interval
abbrev pub RowsMet : (ℕ → ℚ) → List NodeRow → Type 0
RowsMet x rows = Each (λ (r : NodeRow). Between r.low r.high (product r.entries x)) rows

-- each value of a node lies in its bounds
abbrev pub BoundsMet : View → (ℕ → ℕ → ℚ) → ℕ → Type 0
BoundsMet v x n = Each (λ j. Between (v.lower j) (v.upper j) (x n j)) (v.columns (v.stage n))
