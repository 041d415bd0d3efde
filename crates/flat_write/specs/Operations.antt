-- The operations of a flat program, in their order: the totals of the nodes, the totals times the costs, and how far rows reach.
use Rattle.std.specs.Prelude.{ℕ, Bool, true, false, List, [], ◌∷◌, Option, Some, None, Result, Ok, Err}
use Rattle.rationals.specs.Rational.{ℚ, zero_ℚ}
use Rattle.rationals.specs.Order.{same}
use Rattle.rationals.specs.Passes.{Operation, mul_walk, sub_walk, then_walk}
use Rattle.rationals.specs.Sparse.{coefficient}
use Rattle.scen_defs.specs.Program.{View}
use Rattle.scen_defs.specs.Walks.{total_from}
use Rattle.scen_defs.specs.declared.program.NodeRow.{NodeRow}

-- one after another; the first that passes ends all
abbrev pub each_walk : {A X : Type 0} → (A → Result X Operation) → List A → Result (Unit {0}) Operation
each_walk f [] = Ok tt
each_walk f (x ∷ xs) = then_walk (f x) (λ _. each_walk f xs)

-- the value of an operation; where one passes no text is written, and what stands here doesn't matter
abbrev pub or_zero : Result ℚ Operation → ℚ
or_zero (Ok value) = value
or_zero (Err passed) = zero_ℚ

-- the probabilities of the scenarios through a node, added in their order
abbrev pub node_total : View → ℕ → Result ℚ Operation
node_total v n = total_from n zero_ℚ v.scenarios

-- the cost of a column at a node: a total times what the column costs there
abbrev pub price : View → ℚ → ℕ → ℕ → Result ℚ Operation
price v total n j = mul_walk total (coefficient (v.cost n) j)

abbrev pub prices : View → ℕ → Result (Unit {0}) Operation
prices v n = each_walk (price v (or_zero (node_total v n)) n) (v.columns (v.stage n))

-- from the low end to the high one, where there are two that differ
abbrev pub span_by : Bool → ℚ → ℚ → Result ℚ Operation
span_by true low high = Ok zero_ℚ
span_by false low high = sub_walk high low

abbrev pub span : Option ℚ → Option ℚ → Result ℚ Operation
span None high = Ok zero_ℚ
span (Some low) None = Ok zero_ℚ
span (Some low) (Some high) = span_by (same low high) low high

abbrev pub row_span : NodeRow → Result ℚ Operation
row_span r = span r.low r.high

abbrev pub row_spans : View → ℕ → Result (Unit {0}) Operation
row_spans v n = each_walk row_span (v.rows n)

abbrev pub operations : View → Result (Unit {0}) Operation
operations v = then_walk (each_walk (node_total v) v.live) (λ _. then_walk (each_walk (prices v) v.live)
    (λ _. each_walk (row_spans v) v.live))
