-- The numbers of nodes, given what tells the nodes of a stage apart.
use Rattle.std.specs.Prelude.{ℕ, suc, ◌<◌, Bool, ◌&&◌, List, [], ◌∷◌, ◌++◌, map, nat_eq, if◌then◌else◌, ⊤}
use Rattle.std.specs.List.{list_any, position_or_len}
use Rattle.smps_build.specs.declared.fault.BuildFault.{BuildFault}
use Rattle.smps_build.specs.declared.fault.BuildFault.TheVariants.{Limit, Passed, Memory}
use Rattle.build_defs.specs.Built.{most_nodes}
use Rattle.tree_build.specs.declared.numbering.Debut.{Debut}
use Rattle.tree_build.specs.declared.numbering.Keys.{Keys}
use Rattle.tree_build.specs.declared.numbering.Path.{Path}

-- a stage, and what tells a node from the other nodes of that stage
abbrev pub Key : Type 0
Key = ℕ × ℕ

abbrev pub same_key : Key → Key → Bool
same_key one other = nat_eq one.0 other.0 && nat_eq one.1 other.1

abbrev pub has_key : List Key → Key → Bool
has_key seen key = list_any (same_key key) seen

abbrev pub with_key : List Key → Key → List Key
with_key seen key = if has_key seen key then seen else seen ++ key ∷ []

-- the place of a key, or the number of all where it isn't there
abbrev pub number_of : List Key → Key → ℕ
number_of seen key = position_or_len (same_key key) seen

abbrev pub key_of : Debut → Key
key_of debut = (debut.stage, debut.key)

abbrev pub keys_of : List Debut → List Key
keys_of debuts = map key_of debuts

abbrev pub with_debut : List Debut → Debut → List Debut
with_debut debuts debut = if has_key (keys_of debuts) (key_of debut) then debuts else debuts ++ debut ∷ []

-- those that are there, and the new ones among others
abbrev pub debuts_from : List Debut → List Debut → List Debut
debuts_from seen [] = seen
debuts_from seen (debut ∷ debuts) = debuts_from (with_debut seen debut) debuts

-- the numbers of the others
abbrev pub numbers_from : List Debut → List Debut → List ℕ
numbers_from seen [] = []
numbers_from seen (debut ∷ debuts) = number_of (keys_of seen) (key_of debut) ∷ numbers_from (with_debut seen debut) debuts

-- along a scenario, from a stage on
abbrev pub row_debuts : ℕ → ℕ → List ℕ → List Debut
row_debuts scenario stage [] = []
row_debuts scenario stage (key ∷ keys) = record { scenario = scenario; stage = stage; key = key } ∷ row_debuts scenario (suc stage) keys

-- scenario by scenario; the first has this number
abbrev pub all_debuts : ℕ → List (List ℕ) → List Debut
all_debuts scenario [] = []
all_debuts scenario (row ∷ rows) = row_debuts scenario 0 row ++ all_debuts (suc scenario) rows

abbrev pub paths_from : List Debut → ℕ → List (List ℕ) → List (List ℕ)
paths_from seen scenario [] = []
paths_from seen scenario (row ∷ rows) = numbers_from seen (row_debuts scenario 0 row)
    ∷ paths_from (debuts_from seen (row_debuts scenario 0 row)) (suc scenario) rows

abbrev pub rows_content : List Keys → List (List ℕ)
rows_content [] = []
rows_content (row ∷ rows) = row.by_stage.items ∷ rows_content rows

abbrev pub paths_content : List Path → List (List ℕ)
paths_content [] = []
paths_content (path ∷ paths) = path.nodes.items ∷ paths_content paths

-- there are more nodes than there may be
abbrev pub IsOver : ℕ → BuildFault → Type 0
IsOver count Limit = most_nodes < count
IsOver count (Passed _) = ⊥
IsOver count Memory = ⊤
