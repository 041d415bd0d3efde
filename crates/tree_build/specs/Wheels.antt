-- The cases of blocks that a scenario chooses, like the digits of a number.
use Rattle.std.specs.Prelude.{ℕ, suc, ◌<◌, ◌+◌, ◌*◌, ◌/◌, ◌%◌, List, [], ◌∷◌, map, flat_map, length, nat_eq}
use Rattle.std.specs.Prelude.{nat_le, if◌then◌else◌}
use Rattle.rationals.specs.Choices.{pick}
use Rattle.stoch_defs.specs.Random.{Block}
use Rattle.build_defs.specs.Scenarios.{stages_from}
use Rattle.tree_build.specs.declared.wheels.Wheel.{Wheel}

-- the blocks of a stage, of which the first has the number i
abbrev pub wheels_at : ℕ → ℕ → List Block → List Wheel
wheels_at stage i [] = []
wheels_at stage i (block ∷ blocks) = pick (nat_eq block.stage stage)
    (record { block = i; stage = stage; size = length block.cases } ∷ wheels_at stage (suc i) blocks) (wheels_at stage (suc i) blocks)

-- by period; there are so many periods
abbrev pub wheels_of : ℕ → List Block → List Wheel
wheels_of count blocks = flat_map (λ stage. wheels_at stage 0 blocks) (stages_from 0 count)

abbrev pub sizes_of : List Wheel → List ℕ
sizes_of wheels = map (λ (wheel : Wheel). wheel.size) wheels

abbrev pub product : List ℕ → ℕ
product [] = 1
product (size ∷ sizes) = size * product sizes

-- the digits of a number: the first varies slowest
abbrev pub digits_of : List ℕ → ℕ → List ℕ
digits_of [] number = []
digits_of (size ∷ sizes) number = (number / product sizes) ∷ digits_of sizes (number % product sizes)

-- each digit is below its size
abbrev pub IsWithin : List ℕ → List ℕ → Type 0
IsWithin [] [] = Unit {0}
IsWithin [] (_ ∷ _) = ⊥
IsWithin (_ ∷ _) [] = ⊥
IsWithin (size ∷ sizes) (digit ∷ digits) = (digit < size) × IsWithin sizes digits

-- the digits of the blocks up to a stage as one number
abbrev pub key_to : ℕ → List Wheel → List ℕ → ℕ → ℕ
key_to stage [] digits key = key
key_to stage (wheel ∷ wheels) [] key = key
key_to stage (wheel ∷ wheels) (digit ∷ digits) key =
    key_to stage wheels digits (if nat_le wheel.stage stage then key * wheel.size + digit
    else key)

abbrev pub key_row : List Wheel → ℕ → List ℕ → List ℕ
key_row wheels count digits = map (λ stage. key_to stage wheels digits 0) (stages_from 0 count)
