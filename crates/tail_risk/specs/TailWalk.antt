-- The operations by which the program is made, and how the call ends.
use Rattle.std.specs.Prelude.{ℕ, zero, suc, List, [], ◌∷◌, length, Option, Some, None, Result, Ok, Err}
use Rattle.rationals.specs.Rational.{ℚ, one_ℚ}
use Rattle.rationals.specs.Choices.{pick}
use Rattle.rationals.specs.Sparse.{Entry}
use Rattle.rationals.specs.Forms.{put}
use Rattle.rationals.specs.Passes.{Operation, sub_walk, mul_walk, div_walk, then_walk, then_value}
use Rattle.rationals.specs.Replies.{Reply}
use Rattle.rationals.specs.Replies.Reply.{Says, Silent}
use Rattle.scen_defs.specs.Program.{Node, Program, is_live, node_at}
use Rattle.scen_defs.specs.Lists.{passes_at}
use Rattle.tail_risk.specs.TailNames.{has_tail_names}
use Rattle.tail_risk.specs.TailProgram.{node_with, with_nodes, is_too_large}
use Rattle.tail_risk.specs.declared.rates.Rates.{Rates}
use Rattle.frac128.specs.declared.fault.ArithmeticFault.{ArithmeticFault}
use Rattle.frac128.specs.declared.fault.ArithmeticFault.TheVariants.{Passed as PassedFault, Memory as MemoryFault}
use Rattle.tail_risk.specs.declared.fault.TailFault.{TailFault}
use Rattle.tail_risk.specs.declared.fault.TailFault.TheVariants.{Name, Limit, Passed, Memory}

-- `1 - level`, the weight divided by it, and `1 - weight`
abbrev pub rates_walk : ℚ → ℚ → Result Rates Operation
rates_walk level weight =
    then_walk (sub_walk one_ℚ level) (λ rest.
    then_walk (div_walk weight rest) (λ u.
    then_value (λ old. record { old = old; h = weight; u = u }) (sub_walk one_ℚ weight)))

-- a form times a number, column by column
abbrev pub scaled_form_walk : ℚ → List Entry → Result (List Entry) Operation
scaled_form_walk k [] = Ok []
scaled_form_walk k (e ∷ f) = then_walk (mul_walk e.value k) (λ v. then_value (put e.column v) (scaled_form_walk k f))

-- the costs of node n
abbrev pub node_walk : Program → Rates → ℕ → Result Node Operation
node_walk p rates n = then_value (node_with p rates n) (scaled_form_walk rates.old (node_at p.nodes n).cost)

-- where it is live
abbrev pub place_walk : Program → Rates → ℕ → Result (Option Node) Operation
place_walk p rates n = pick (passes_at is_live n p.nodes) (then_value Some (node_walk p rates n)) (Ok None)

-- so many nodes, from number n on
abbrev pub nodes_walk : Program → Rates → ℕ → ℕ → Result (List (Option Node)) Operation
nodes_walk p rates n zero = Ok []
nodes_walk p rates n (suc count) =
    then_walk (place_walk p rates n) (λ place. then_value (λ rest. place ∷ rest) (nodes_walk p rates (suc n) count))

-- the program, or the first operation that passes
abbrev pub tail_walk : Program → ℚ → ℚ → Result Program Operation
tail_walk p level weight = then_walk (rates_walk level weight) (λ rates. then_value (with_nodes p) (nodes_walk p rates 0 (length p.nodes)))

-- ---- how the call ends
-- where nothing was refused before: as the walk ends
abbrev pub tail_end_by : {X : Type 0} → Result X Operation → Result X TailFault
tail_end_by (Ok x) = Ok x
tail_end_by (Err o) = Err (Passed o)

-- a name that is taken comes first, then the limit, then an operation that passes
abbrev pub tail_end : Program → ℚ → ℚ → Result Program TailFault
tail_end p level weight =
    pick (has_tail_names p) (Err Name) (pick (is_too_large p level weight) (Err Limit) (tail_end_by (tail_walk p level weight)))

-- what follows from a fault of arithmetic
abbrev pub tail_fault : ArithmeticFault → TailFault
tail_fault (PassedFault o) = Passed o
tail_fault MemoryFault = Memory

-- what an error says of it
abbrev pub tail_says : {X : Type 0} → TailFault → Reply (Result X TailFault)
tail_says Name = Says (Err Name)
tail_says Limit = Says (Err Limit)
tail_says (Passed o) = Says (Err (Passed o))
tail_says Memory = Silent
