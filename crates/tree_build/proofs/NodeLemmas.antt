-- The values of nodes, one by one.
use Rattle.std.proofs.Common.{◌≡◌, ap, sym, refl, ℕ, zero, suc, ◌+◌, ◌<◌, ◌≤◌, Bool, true, false, ◌||◌, ◌⊎◌, inl, inr, List, [], ◌∷◌, ◌++◌, length, get_or, sum_by, nat_lt, arith}
use Rattle.std.proofs.lemmas.Bool.Decides.{nat_tests}
use Rattle.std.proofs.lemmas.List.Sums.{sum_by-append}
use Rattle.core_defs.specs.declared.program.Core.{Core}
use Rattle.time_defs.specs.Means.{Stages}
use Rattle.stoch_defs.specs.Random.{Branch}
use Rattle.build_defs.specs.Built.{most_node_parts}
use Rattle.tree_build.specs.declared.parts.Values.{Values as ValuesOf}
use Rattle.tree_build.specs.declared.numbering.Debut.{Debut}
use Rattle.tree_build.specs.declared.numbering.Path.{Path}
use Rattle.tree_build.specs.declared.limits.Counts.{Counts}
use Rattle.tree_build.specs.Values.{Values, values_content, all_content}
use Rattle.tree_build.specs.Numbering.{paths_content}
use Rattle.tree_build.specs.Limits.{entries_in, rows_in, costs_in, IsOverWith, are_over}
use Rattle.tree_build.specs.Nodes.{no_values, branch_node, branch_nodes}

pub content_at : (all : List ValuesOf) (i : ℕ) (x : ValuesOf) → i < length all → x ≡ get_or all i x → get_or (all_content all) i no_values ≡ values_content x
content_at [] i x below read = absurd (omega (arith, below))
content_at (first ∷ all) zero x below read = ap values_content (sym read)
content_at (first ∷ all) (suc i) x below read = content_at all i x (omega (arith, below)) read

pub content_past : (all : List ValuesOf) (i : ℕ) → length all ≤ i → get_or (all_content all) i no_values ≡ no_values
content_past [] i past = refl
content_past (first ∷ all) zero past = absurd (omega (arith, past))
content_past (first ∷ all) (suc i) past = content_past all i (omega (arith, past))

pub path_at : (paths : List Path) (i : ℕ) (path : Path) → i < length paths → path ≡ get_or paths i path → get_or (paths_content paths) i [] ≡ path.nodes.items
path_at [] i path below read = absurd (omega (arith, below))
path_at (first ∷ paths) zero path below read = ap (λ (r : Path). r.nodes.items) (sym read)
path_at (first ∷ paths) (suc i) path below read = path_at paths i path (omega (arith, below)) read

pub path_past : (paths : List Path) (i : ℕ) → length paths ≤ i → get_or (paths_content paths) i [] ≡ []
path_past [] i past = refl
path_past (first ∷ paths) zero past = absurd (omega (arith, past))
path_past (first ∷ paths) (suc i) past = path_past paths i (omega (arith, past))

abbrev pub no_debut : Debut
no_debut = record { scenario = 0; stage = 0; key = 0 }

-- ---- counts

pub sum_push : (f : Values → ℕ) (all : List Values) (d : Values) → sum_by f (all ++ d ∷ []) ≡ sum_by f all + f d
sum_push f all d = let split = sum_by-append f all (d ∷ []) in let last : sum_by f (d ∷ []) ≡ f d = omega arith in omega (arith, split, last)

pub counted : (f : Values → ℕ) (all more : List Values) (d : Values) (count sum : ℕ) → more ≡ all ++ d ∷ [] → count ≡ sum_by f all → sum ≡ count + f d → sum ≡ sum_by f more
counted f all more d count sum made before after = let push = sum_push f all d in let same : sum_by f more ≡ sum_by f (all ++ d ∷ []) = ap (sum_by f) made in omega (arith, push, same, before, after)

more_nodes : (f : Values → ℕ) (core : Core) (p : Stages) (base : List Values) (branches : List Branch) (paths : List (List ℕ)) (all : List Values) (debuts : List Debut) →
    sum_by f all ≤ sum_by f (branch_nodes core p base branches paths all debuts)
more_nodes f core p base branches paths all [] = omega arith
more_nodes f core p base branches paths all (debut ∷ debuts) =
    let d = branch_node core p base branches paths all debut in
    let push = sum_push f all d in
    let later = more_nodes f core p base branches paths (all ++ d ∷ []) debuts in
    omega (arith, push, later)

pub first_over : (a b c : Bool) → (a ≡ true) ⊎ ((b ≡ true) ⊎ (c ≡ true)) → (a || (b || c)) ≡ true
first_over true b c over = refl
first_over false true c over = refl
first_over false false true over = refl
first_over false false false (inl h) = h
first_over false false false (inr (inl h)) = h
first_over false false false (inr (inr h)) = h

pub much : (n m : ℕ) → n < m → nat_lt n m ≡ true
much n m h = grind (arith, nat_tests)

-- what is too much with one more node is too much over all nodes
pub over_whole : (counts : Counts) (all whole : List Values) (d : Values) → counts.entries ≡ sum_by entries_in all → counts.rows ≡ sum_by rows_in all → counts.costs ≡ sum_by costs_in all → IsOverWith counts d →
    ((f : Values → ℕ) → sum_by f all + f d ≤ sum_by f whole) → are_over whole ≡ true
over_whole counts all whole d entries rows costs over more =
    first_over (nat_lt most_node_parts (sum_by entries_in whole)) (nat_lt most_node_parts (sum_by rows_in whole)) (nat_lt most_node_parts (sum_by costs_in whole)) (go over)
  where
    go : IsOverWith counts d → (nat_lt most_node_parts (sum_by entries_in whole) ≡ true) ⊎ ((nat_lt most_node_parts (sum_by rows_in whole) ≡ true) ⊎ (nat_lt most_node_parts (sum_by costs_in whole) ≡ true))
    go (inl h) = inl (much most_node_parts (sum_by entries_in whole) (omega (arith, h, entries, more entries_in)))
    go (inr (inl h)) = inr (inl (much most_node_parts (sum_by rows_in whole) (omega (arith, h, rows, more rows_in))))
    go (inr (inr h)) = inr (inr (much most_node_parts (sum_by costs_in whole) (omega (arith, h, costs, more costs_in))))

pub branch_more : (f : Values → ℕ) (core : Core) (p : Stages) (base : List Values) (branches : List Branch) (paths : List (List ℕ)) (all : List Values) (debut : Debut) (debuts : List Debut) →
    sum_by f all + f (branch_node core p base branches paths all debut) ≤ sum_by f (branch_nodes core p base branches paths all (debut ∷ debuts))
branch_more f core p base branches paths all debut debuts =
    let d = branch_node core p base branches paths all debut in
    let push = sum_push f all d in
    let later = more_nodes f core p base branches paths (all ++ d ∷ []) debuts in
    omega (arith, push, later)

-- what is not too much with all nodes
pub block_more : (f : Values → ℕ) (all rest : List Values) (d : Values) → sum_by f all + f d ≤ sum_by f (all ++ d ∷ rest)
block_more f all rest d =
    let split = sum_by-append f all (d ∷ rest) in
    let cons = sum_by-append f (d ∷ []) rest in
    let last : sum_by f (d ∷ []) ≡ f d = omega arith in
    omega (arith, split, cons, last)
