-- The totals of nodes and their shares, operation by operation: the totals by node, each by scenario, and then the shares by node.
use Rattle.std.specs.Prelude.{◌≡◌, ℕ, suc, List, [], ◌∷◌, ◌++◌, Result, Ok, get_or}
use Rattle.rationals.specs.Rational.{ℚ, zero_ℚ, one_ℚ}
use Rattle.rationals.specs.Passes.{Operation, div_walk, then_walk}
use Rattle.scen_defs.specs.Program.{Scenario}
use Rattle.scen_defs.specs.Walks.{total_from}
use Rattle.scen_tree.specs.declared.position.Position.{Position}
use Rattle.scen_tree.specs.declared.position.Position.TheVariants.{Dropped, Root, Below}
use Rattle.scen_tree.specs.declared.shares.Chances.{Chances as ChancesOf}

-- a sum, or the operation in which it ends
abbrev pub Sum : Type 0
Sum = Result ℚ Operation

-- the values of these behind those that are there, or the first operation in which one of them ends
abbrev pub gathered_from : List ℚ → List Sum → Result (List ℚ) Operation
gathered_from built [] = Ok built
gathered_from built (sum ∷ sums) = then_walk sum (λ value. gathered_from (built ++ value ∷ []) sums)

-- the sum of a node that wasn't dropped, else 0
abbrev pub live_sum : Position → Sum → Sum
live_sum Dropped sum = Ok zero_ℚ
live_sum Root sum = sum
live_sum (Below _) sum = sum

-- the probabilities of the scenarios through each node, added in their order; the first node has the number n
abbrev pub live_sums_from : ℕ → List Position → List Scenario → List Sum
live_sums_from n [] scenarios = []
live_sums_from n (position ∷ positions) scenarios = live_sum position (total_from n zero_ℚ scenarios)
    ∷ live_sums_from (suc n) positions scenarios

-- a node's total divided by its parent's, 1 at the root
abbrev pub share_walk : List ℚ → ℚ → Position → Sum
share_walk totals total Dropped = Ok zero_ℚ
share_walk totals total Root = Ok one_ℚ
share_walk totals total (Below parent) = div_walk total (get_or totals parent zero_ℚ)

abbrev pub shares_from : List ℚ → ℕ → List Position → List Sum
shares_from totals n [] = []
shares_from totals n (position ∷ positions) = share_walk totals (get_or totals n zero_ℚ) position
    ∷ shares_from totals (suc n) positions

-- the totals and the shares by node
pub record Chances : Type 0 where
  pub totals : List ℚ
  pub shares : List ℚ

abbrev pub chances_of : ChancesOf → Chances
chances_of c = record { totals = c.totals.items; shares = c.shares.items }

abbrev pub totals_walk : List Position → List Scenario → Result (List ℚ) Operation
totals_walk positions scenarios = gathered_from [] (live_sums_from 0 positions scenarios)

abbrev pub shares_walk : List ℚ → List Position → Result (List ℚ) Operation
shares_walk totals positions = gathered_from [] (shares_from totals 0 positions)

-- the totals, and then the shares; or the first operation that passes
abbrev pub chances_walk : List Position → List Scenario → Result Chances Operation
chances_walk positions scenarios =
    then_walk (totals_walk positions scenarios) (λ totals. then_walk (shares_walk totals positions)
    (λ shares. Ok (record { totals = totals; shares = shares })))
