-- Sums over the scenarios and the rows of a program, operation by operation in their order.
use Rattle.std.specs.Prelude.{ℕ, List, [], ◌∷◌, Result, Ok}
use Rattle.rationals.specs.Rational.{ℚ}
use Rattle.rationals.specs.Sparse.{coefficient}
use Rattle.rationals.specs.Passes.{Operation, add_walk, less_product_walk, then_walk}
use Rattle.rationals.specs.Choices.{pick}
use Rattle.scen_defs.specs.declared.program.NodeRow.{NodeRow}
use Rattle.scen_defs.specs.Lists.{is_in}
use Rattle.scen_defs.specs.Program.{Scenario}

-- s and the probabilities of the scenarios through node n
abbrev pub total_from : ℕ → ℚ → List Scenario → Result ℚ Operation
total_from n s [] = Ok s
total_from n s (c ∷ cs) = pick (is_in n c.path) (then_walk (add_walk s c.probability) (λ t. total_from n t cs)) (total_from n s cs)

-- s less, row by row, the entry of column j times the multiplier
abbrev pub less_from : ℕ → (ℕ → ℚ) → ℚ → List NodeRow → Result ℚ Operation
less_from j y s [] = Ok s
less_from j y s (r ∷ rs) = then_walk (less_product_walk s (coefficient r.entries j) (y r.row)) (λ t. less_from j y t rs)
