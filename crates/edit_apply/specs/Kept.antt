-- Which nodes are kept, and the numbers of new ones.
use Rattle.std.specs.Prelude.{ℕ, suc, ◌+◌, ◌-◌, ltb, Bool, false, ◌||◌, List, [], ◌∷◌, get_or, Option, None}
use Rattle.rationals.specs.Choices.{pick}
use Rattle.scen_defs.specs.Lists.{is_in}
use Rattle.scen_defs.specs.Program.{Node, Scenario}
use Rattle.scen_defs.specs.Valid.{is_reached}

-- the marks of nodes, counted from k on, with those of a path, and with those of all paths
abbrev pub with_path : List ℕ → ℕ → List Bool → List Bool
with_path path k [] = []
with_path path k (mark ∷ marks) = (mark || is_in k path) ∷ with_path path (suc k) marks

abbrev pub with_paths : List Scenario → ℕ → List Bool → List Bool
with_paths ss k [] = []
with_paths ss k (mark ∷ marks) = (mark || is_reached k ss) ∷ with_paths ss (suc k) marks

-- the nodes, counted from k on, that are marked
abbrev pub kept_from : List Bool → ℕ → List (Option Node) → List (Option Node)
kept_from marks k [] = []
kept_from marks k (place ∷ nodes) = pick (get_or marks k false) place None ∷ kept_from marks (suc k) nodes

-- the number at stage i of a path that shares the first t stages with another, whose node there is n; new nodes are numbered from k on
abbrev pub new_node : ℕ → ℕ → ℕ → ℕ → ℕ
new_node t k i n = pick (ltb i t) n (k + (i - t))
