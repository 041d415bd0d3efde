-- Wheels: the blocks in the order of their periods.
use Rattle.std.proofs.Common.{◌≡◌, ◌∙◌, ap, ap₂, refl, ℕ, suc, ◌+◌, ◌<◌, Bool, true, false, List, [], ◌∷◌, ◌++◌, map, flat_map, length, get_or, nat_eq, arith, if◌then◌else◌}
use Rattle.std.proofs.lemmas.Bool.Decides.{nat_tests}
use Rattle.std.specs.List.{filter}
use Rattle.rationals.specs.Choices.{pick}
use Rattle.stoch_defs.specs.Random.{Block}
use Rattle.scen_defs.specs.Lists.{Each}
use Rattle.build_defs.specs.Scenarios.{stages_from, by_period}
use Rattle.build_defs.proofs.EachLemmas.{each_flat}
use Rattle.tree_build.specs.declared.wheels.Wheel.{Wheel}
use Rattle.tree_build.specs.Wheels.{wheels_at, wheels_of, sizes_of}
use Rattle.tree_build.specs.Choices.{no_block}
use Rattle.tree_build.proofs.ScenarioLaws.{IsWheel}
use Rattle.build_laws.proofs.Places.{map_both}
use Rattle.build_laws.proofs.Choices.{counts}

abbrev pub block_of : List Block → Wheel → Block
block_of blocks wheel = get_or blocks wheel.block no_block

-- these are the blocks from number i on
abbrev StandAt : List Block → ℕ → List Block → Type 0
StandAt blocks i rest = (k : ℕ) → k < length rest → get_or blocks (i + k) no_block ≡ get_or rest k no_block

next_at : (blocks : List Block) (i : ℕ) (block : Block) (rest : List Block) → StandAt blocks i (block ∷ rest) → StandAt blocks (suc i) rest
next_at blocks i block rest at k below = ap (λ (n : ℕ). get_or blocks n no_block) (let e : suc i + k ≡ i + suc k = omega arith in e) ∙ at (suc k) (omega (arith, below))

first_at : (blocks : List Block) (i : ℕ) (block : Block) (rest : List Block) → StandAt blocks i (block ∷ rest) → get_or blocks i no_block ≡ block
first_at blocks i block rest at = ap (λ (n : ℕ). get_or blocks n no_block) (let e : i ≡ i + 0 = omega arith in e) ∙ at 0 (omega arith)

abbrev wheel_by : ℕ → ℕ → Block → Wheel
wheel_by i stage block = record { block = i; stage = stage; size = length block.cases }

stage_blocks : (blocks : List Block) (stage i : ℕ) (rest : List Block) → StandAt blocks i rest → map (block_of blocks) (wheels_at stage i rest) ≡ filter (λ (block : Block). nat_eq block.stage stage) rest
stage_blocks blocks stage i [] at = refl
stage_blocks blocks stage i (block ∷ rest) at = go (nat_eq block.stage stage) (stage_blocks blocks stage (suc i) rest (next_at blocks i block rest at))
  where
    go : (b : Bool) → map (block_of blocks) (wheels_at stage (suc i) rest) ≡ filter (λ (block : Block). nat_eq block.stage stage) rest →
        map (block_of blocks) (pick b (wheel_by i stage block ∷ wheels_at stage (suc i) rest) (wheels_at stage (suc i) rest)) ≡ (if b then block ∷ filter (λ (block : Block). nat_eq block.stage stage) rest else filter (λ (block : Block). nat_eq block.stage stage) rest)
    go true later = ap₂ ◌∷◌ (first_at blocks i block rest at) later
    go false later = later

by_stages : (blocks : List Block) (stages : List ℕ) → map (block_of blocks) (flat_map (λ stage. wheels_at stage 0 blocks) stages) ≡ flat_map (λ stage. filter (λ (block : Block). nat_eq block.stage stage) blocks) stages
by_stages blocks [] = refl
by_stages blocks (stage ∷ stages) =
    map_both (block_of blocks) (wheels_at stage 0 blocks) (flat_map (λ stage. wheels_at stage 0 blocks) stages)
    ∙ ap₂ ◌++◌ (stage_blocks blocks stage 0 blocks (λ k below. ap (λ (n : ℕ). get_or blocks n no_block) (let e : 0 + k ≡ k = omega arith in e))) (by_stages blocks stages)

-- the blocks of the wheels
pub blocks_are : (count : ℕ) (blocks : List Block) → map (block_of blocks) (wheels_of count blocks) ≡ by_period count blocks
blocks_are count blocks = by_stages blocks (stages_from 0 count)

-- a wheel has the stage of its block
abbrev pub HasStage : List Block → Wheel → Type 0
HasStage blocks wheel = (block_of blocks wheel).stage ≡ wheel.stage

of_stage : (n m : ℕ) → nat_eq n m ≡ true → n ≡ m
of_stage n m e = grind (arith, nat_tests, e)

stage_wheels : (blocks : List Block) (stage i : ℕ) (rest : List Block) → StandAt blocks i rest → Each (HasStage blocks) (wheels_at stage i rest)
stage_wheels blocks stage i [] at = tt
stage_wheels blocks stage i (block ∷ rest) at = go (nat_eq block.stage stage) refl (stage_wheels blocks stage (suc i) rest (next_at blocks i block rest at))
  where
    go : (b : Bool) → nat_eq block.stage stage ≡ b → Each (HasStage blocks) (wheels_at stage (suc i) rest) → Each (HasStage blocks) (pick b (wheel_by i stage block ∷ wheels_at stage (suc i) rest) (wheels_at stage (suc i) rest))
    go true is later = (ap (λ (b : Block). b.stage) (first_at blocks i block rest at) ∙ of_stage block.stage stage is, later)
    go false is later = later

pub stages_are : (count : ℕ) (blocks : List Block) → Each (HasStage blocks) (wheels_of count blocks)
stages_are count blocks =
    each_flat (HasStage blocks) (λ stage. wheels_at stage 0 blocks) (stages_from 0 count)
    (λ stage. stage_wheels blocks stage 0 blocks (λ k below. ap (λ (n : ℕ). get_or blocks n no_block) (let e : 0 + k ≡ k = omega arith in e)))

-- a wheel has the size of its block
pub sizes_are : (blocks : List Block) (wheels : List Wheel) → Each (IsWheel blocks) wheels → sizes_of wheels ≡ counts (map (block_of blocks) wheels)
sizes_are blocks [] all = refl
sizes_are blocks (w ∷ wheels) all = ap₂ ◌∷◌ all.0.size (sizes_are blocks wheels all.1)
