-- Scenarios that are stated one by one: what tells their nodes apart.
use Rattle.std.specs.Prelude.{ℕ, suc, List, [], ◌∷◌, ◌++◌, Option, Some, None, map, get_or, length, nat_lt, if◌then◌else◌}
use Rattle.stoch_defs.specs.Random.{Branch}
use Rattle.build_defs.specs.Scenarios.{stages_from}

-- the key of the parent at a stage, by the keys of the earlier scenarios; 0 on the core's own path
abbrev pub key_above : List (List ℕ) → Option ℕ → ℕ → ℕ
key_above rows None stage = 0
key_above rows (Some number) stage = get_or (get_or rows number []) stage 0

-- a scenario's own key from its branch period on, before it its parent's
abbrev pub branch_key : List (List ℕ) → Branch → ℕ → ℕ → ℕ
branch_key rows branch own stage = if nat_lt stage branch.stage then key_above rows branch.parent stage else own

-- the keys of the scenarios behind those that are there; there are so many stages
abbrev pub branch_rows : ℕ → List (List ℕ) → List Branch → List (List ℕ)
branch_rows count rows [] = rows
branch_rows count rows (branch ∷ branches) = branch_rows count (rows
    ++ map (branch_key rows branch (suc (length rows))) (stages_from 0 count) ∷ []) branches
