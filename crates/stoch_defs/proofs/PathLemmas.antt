-- Paths of scenarios.
use Rattle.std.proofs.Common.{◌≡◌, ◌∙◌, ◌+◌, ◌<◌, ap, ℕ, zero, suc, Bool, true, false, List, [], ◌∷◌, ◌++◌, Option, Some, None, refl, sym, get_or, nat_lt, length, length-append, arith, if◌then◌else◌}
use Rattle.std.proofs.Math.ListN.{get_or-append}
use Rattle.std.proofs.Math.Seq.{get_or-append_seam}
use Rattle.stoch_defs.specs.Random.{Sets}
use Rattle.stoch_defs.specs.Stated.{Node, path_among, paths_from, paths_of}

-- one more scenario
pub paths_snoc : (paths : List Sets) (nodes : List Node) (last : Node) →
    paths_from paths (nodes ++ last ∷ []) ≡ paths_from paths nodes ++ (last.sets ++ path_among (paths_from paths nodes) last.parent) ∷ []
paths_snoc paths [] last = refl
paths_snoc paths (node ∷ nodes) last = paths_snoc (paths ++ (node.sets ++ path_among paths node.parent) ∷ []) nodes last

pub paths_length : (paths : List Sets) (nodes : List Node) → length (paths_from paths nodes) ≡ length paths + length nodes
paths_length paths [] = omega arith
paths_length paths (node ∷ nodes) =
    let more = paths ++ (node.sets ++ path_among paths node.parent) ∷ [] in
    paths_length more nodes ∙ omega (arith, length-append paths ((node.sets ++ path_among paths node.parent) ∷ []))

-- the paths that are there stay
pub path_stays : (paths : List Sets) (nodes : List Node) (k : ℕ) → k < length paths → get_or (paths_from paths nodes) k [] ≡ get_or paths k []
path_stays paths [] k below = refl
path_stays paths (node ∷ nodes) k below =
    let last = node.sets ++ path_among paths node.parent in
    let more : k < length (paths ++ last ∷ []) = omega (arith, length-append paths (last ∷ [])) in
    path_stays (paths ++ last ∷ []) nodes k more ∙ get_or-append paths (last ∷ []) [] k below
