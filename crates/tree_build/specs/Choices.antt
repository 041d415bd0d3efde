-- The cases that a scenario has: their probabilities, and what they set.
use Rattle.std.specs.Prelude.{ℕ, List, [], ◌∷◌, ◌++◌, get_or}
use Rattle.rationals.specs.Rational.{ℚ, zero_ℚ}
use Rattle.stoch_defs.specs.Random.{Sets, Case, Block}
use Rattle.tree_build.specs.declared.wheels.Wheel.{Wheel}

-- what stands for a block and a case past the last one
abbrev pub no_block : Block
no_block = record { stage = 0; cases = [] }

abbrev pub no_case : Case
no_case = record { probability = zero_ℚ; sets = [] }

abbrev pub case_at : List Block → ℕ → ℕ → Case
case_at blocks block case = get_or (get_or blocks block no_block).cases case no_case

abbrev pub chances_of : List Block → List Wheel → List ℕ → List ℚ
chances_of blocks [] digits = []
chances_of blocks (wheel ∷ wheels) [] = []
chances_of blocks (wheel ∷ wheels) (digit ∷ digits) = (case_at blocks wheel.block digit).probability ∷ chances_of blocks wheels digits

-- what the first case sets, and then the own case
abbrev pub sets_of : List Block → List Wheel → List ℕ → Sets
sets_of blocks [] digits = []
sets_of blocks (wheel ∷ wheels) [] = []
sets_of blocks (wheel ∷ wheels) (digit ∷ digits) = ((case_at blocks wheel.block 0).sets ++ (case_at blocks wheel.block digit).sets)
    ++ sets_of blocks wheels digits
