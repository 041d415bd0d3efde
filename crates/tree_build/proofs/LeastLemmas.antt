-- Nodes have at least what the values of the core have.
use Rattle.std.proofs.Common.{◌≡◌, ◌∙◌, ap, sym, refl, subst, ℕ, zero, suc, ◌+◌, ◌<◌, ◌≤◌, Bool, true, false, ◌&&◌, ◌||◌, ◌⊎◌, inl, inr, List, [], ◌∷◌, ◌++◌, length, get_or, map, drop, sum_by, nat_eq, nat_lt, arith, Option, Some, None, if◌then◌else◌}
use Rattle.std.proofs.lemmas.List.{drop_more, map-append}
use Rattle.std.proofs.lemmas.List.Sums.{sum_by-cons, sum_by_push}
use Rattle.std.proofs.lemmas.Bool.Decides.{nat_tests}
use Rattle.rationals.specs.Rational.{ℚ, zero_ℚ}
use Rattle.rationals.specs.Sparse.{Entry as Term}
use Rattle.rationals.specs.Forms.{put}
use Rattle.frac128.proofs.FormLemmas.{put_nonzero}
use Rattle.smps_words.specs.declared.entry.Entry.{Entry}
use Rattle.smps_words.specs.declared.entry.Entry.TheVariants.{Cost, Matrix, Rhs}
use Rattle.core_defs.specs.declared.program.Core.{Core}
use Rattle.time_defs.specs.Means.{Stages}
use Rattle.stoch_defs.specs.Random.{Sets, Case, Block, Branch}
use Rattle.build_defs.specs.Built.{most_node_parts}
use Rattle.build_defs.specs.Scenarios.{no_branch}
use Rattle.tree_build.specs.declared.parts.RowValues.{RowValues}
use Rattle.tree_build.specs.declared.limits.Counts.{Counts}
use Rattle.tree_build.specs.declared.wheels.Wheel.{Wheel}
use Rattle.tree_build.specs.declared.numbering.Debut.{Debut}
use Rattle.tree_build.specs.Values.{put_at, Values, at_row, with_entry, with_rhs, with_set, with_sets}
use Rattle.tree_build.specs.Wheels.{sizes_of}
use Rattle.tree_build.specs.Choices.{no_block, no_case, case_at, sets_of}
use Rattle.tree_build.specs.Limits.{entry_count, entries_in, rows_in, costs_in, counts_with, IsOverWith, are_over}
use Rattle.tree_build.specs.Nodes.{no_values, digits_at, block_node, node_in, source_of, branch_node, branch_nodes}
use Rattle.tree_build.specs.Least.{TakesNone, SetsTakeNone, CasesTakeNone, BlocksTakeNone, core_node, core_nodes, source_rows, branch_count, branch_counts}
use Rattle.tree_build.proofs.Lists.{each_get}
use Rattle.tree_build.proofs.TermLemmas.{put_apart}
use Rattle.tree_build.proofs.NodeLemmas.{no_debut, first_over, much}

-- ---- an entry is set

put_full : (j : ℕ) (v : ℚ) (f : List Term) → (v ≡ zero_ℚ → ⊥) → length (put j v f) ≡ suc (length f)
put_full j v f some = ap length (put_apart j v f ∙ ap (λ front. front ++ f) (put_nonzero j v some))

put_long : (j : ℕ) (v : ℚ) (f : List Term) → (v ≡ zero_ℚ → ⊥) → length f ≤ length (put_at j v f)
put_long j v [] some = omega arith
put_long j v (e ∷ f) some = go (nat_lt e.column j) (nat_eq e.column j) (put_long j v f some)
  where
    go : (b a : Bool) → length f ≤ length (put_at j v f) → length (e ∷ f) ≤ length (if b then e ∷ put_at j v f else (if a then put j v f else put j v (e ∷ f)))
    go true a rest = omega (arith, rest)
    go false true rest = let full = put_full j v f some in omega (arith, full)
    go false false rest = let full = put_full j v (e ∷ f) some in omega (arith, full)

entry_long : (i j : ℕ) (v : ℚ) (rows : List RowValues) → (v ≡ zero_ℚ → ⊥) → sum_by entry_count rows ≤ sum_by entry_count (at_row i (with_entry j v) rows)
entry_long i j v [] some = omega arith
entry_long i j v (r ∷ rows) some =
    let one = go (nat_eq r.row i) in
    let rest = entry_long i j v rows some in
    let here = sum_by-cons entry_count r rows in
    let there : sum_by entry_count (at_row i (with_entry j v) (r ∷ rows)) ≡ entry_count (if nat_eq r.row i then with_entry j v r else r) + sum_by entry_count (at_row i (with_entry j v) rows) =
    sum_by-cons entry_count (if nat_eq r.row i then with_entry j v r else r) (at_row i (with_entry j v) rows) in
    omega (arith, one, rest, here, there)
  where
    go : (b : Bool) → entry_count r ≤ entry_count (if b then with_entry j v r else r)
    go true = put_long j v r.entries some
    go false = omega arith

rhs_long : (i : ℕ) (v : ℚ) (rows : List RowValues) → sum_by entry_count rows ≤ sum_by entry_count (at_row i (with_rhs v) rows)
rhs_long i v [] = omega arith
rhs_long i v (r ∷ rows) =
    let one = go (nat_eq r.row i) in
    let rest = rhs_long i v rows in
    let here = sum_by-cons entry_count r rows in
    let there : sum_by entry_count (at_row i (with_rhs v) (r ∷ rows)) ≡ entry_count (if nat_eq r.row i then with_rhs v r else r) + sum_by entry_count (at_row i (with_rhs v) rows) =
    sum_by-cons entry_count (if nat_eq r.row i then with_rhs v r else r) (at_row i (with_rhs v) rows) in
    omega (arith, one, rest, here, there)
  where
    go : (b : Bool) → entry_count r ≤ entry_count (if b then with_rhs v r else r)
    go true = omega arith
    go false = omega arith

same_rows : (i : ℕ) (change : RowValues → RowValues) (rows : List RowValues) → length (at_row i change rows) ≡ length rows
same_rows i change [] = refl
same_rows i change (r ∷ rows) = ap suc (same_rows i change rows)

-- no fewer entries, rows and costs
pub record HasNoLess (d other : Values) : Type 0 where
  pub entries : entries_in d ≤ entries_in other
  pub rows : rows_in d ≤ rows_in other
  pub costs : costs_in d ≤ costs_in other

none_less : (d : Values) → HasNoLess d d
none_less d = record { entries = omega arith; rows = omega arith; costs = omega arith }

no_less_both : (a b c : Values) → HasNoLess a b → HasNoLess b c → HasNoLess a c
no_less_both a b c one other = record {
  entries = omega (arith, one.entries, other.entries);
  rows = omega (arith, one.rows, other.rows);
  costs = omega (arith, one.costs, other.costs);
}

set_more : (core : Core) (p : Stages) (stage : ℕ) (d : Values) (e : Entry) (v : ℚ) → TakesNone e v → HasNoLess d (with_set core p stage d e v)
set_more core p stage d (Cost j) v some = go (nat_lt j (length p.columns) && nat_eq (get_or p.columns j 0) stage)
  where
    go : (b : Bool) → HasNoLess d (if b then record { cost = put_at j v d.cost; rows = d.rows } else d)
    go true = record { entries = omega arith; rows = omega arith; costs = put_long j v d.cost some }
    go false = none_less d
set_more core p stage d (Matrix i j) v some = go (nat_lt j (length core.columns.items))
  where
    go : (b : Bool) → HasNoLess d (if b then record { cost = d.cost; rows = at_row i (with_entry j v) d.rows } else d)
    go true = record {
      entries = entry_long i j v d.rows some;
      rows = let same = same_rows i (with_entry j v) d.rows in omega (arith, same);
      costs = omega arith;
    }
    go false = none_less d
set_more core p stage d (Rhs i) v some = record {
  entries = rhs_long i v d.rows;
  rows = let same = same_rows i (with_rhs v) d.rows in omega (arith, same);
  costs = omega arith;
}

sets_more : (core : Core) (p : Stages) (stage : ℕ) (d : Values) (sets : Sets) → SetsTakeNone sets → HasNoLess d (with_sets core p stage d sets)
sets_more core p stage d [] some = none_less d
sets_more core p stage d (pair ∷ sets) some =
    no_less_both d (with_set core p stage d pair.0 pair.1) (with_sets core p stage (with_set core p stage d pair.0 pair.1) sets)
    (set_more core p stage d pair.0 pair.1 some.0) (sets_more core p stage (with_set core p stage d pair.0 pair.1) sets some.1)

-- ---- the cases of a scenario

case_takes : (blocks : List Block) (block case : ℕ) → BlocksTakeNone blocks → SetsTakeNone (case_at blocks block case).sets
case_takes blocks block case all =
    each_get (λ (c : Case). SetsTakeNone c.sets) (get_or blocks block no_block).cases case no_case
    (each_get (λ (b : Block). CasesTakeNone b.cases) blocks block no_block all tt) tt

both_take : (one other : Sets) → SetsTakeNone one → SetsTakeNone other → SetsTakeNone (one ++ other)
both_take [] other some more = more
both_take (pair ∷ one) other some more = (some.0, both_take one other some.1 more)

sets_take : (blocks : List Block) (wheels : List Wheel) (digits : List ℕ) → BlocksTakeNone blocks → SetsTakeNone (sets_of blocks wheels digits)
sets_take blocks [] digits all = tt
sets_take blocks (wheel ∷ wheels) [] all = tt
sets_take blocks (wheel ∷ wheels) (digit ∷ digits) all =
    let first = (case_at blocks wheel.block 0).sets in
    let own = (case_at blocks wheel.block digit).sets in
    both_take (first ++ own) (sets_of blocks wheels digits)
    (both_take first own (case_takes blocks wheel.block 0 all) (case_takes blocks wheel.block digit all)) (sets_take blocks wheels digits all)

-- ---- all nodes

node_more : (core : Core) (p : Stages) (base : List Values) (blocks : List Block) (wheels : List Wheel) (debut : Debut) → BlocksTakeNone blocks →
    HasNoLess (core_node base debut) (block_node core p base blocks wheels debut)
node_more core p base blocks wheels debut all =
    sets_more core p debut.stage (core_node base debut) (sets_of blocks wheels (digits_at (sizes_of wheels) debut.scenario)) (sets_take blocks wheels (digits_at (sizes_of wheels) debut.scenario) all)

sum_more : (f : Values → ℕ) (g h : Debut → Values) (debuts : List Debut) → ((d : Debut) → f (g d) ≤ f (h d)) → sum_by f (map g debuts) ≤ sum_by f (map h debuts)
sum_more f g h [] each = omega arith
sum_more f g h (d ∷ debuts) each =
    let one = each d in
    let rest = sum_more f g h debuts each in
    let here : sum_by f (map g (d ∷ debuts)) ≡ f (g d) + sum_by f (map g debuts) = sum_by-cons f (g d) (map g debuts) in
    let there : sum_by f (map h (d ∷ debuts)) ≡ f (h d) + sum_by f (map h debuts) = sum_by-cons f (h d) (map h debuts) in
    omega (arith, one, rest, here, there)

is_much : (n m : ℕ) → nat_lt n m ≡ true → n < m
is_much n m h = grind (arith, nat_tests)

over_more : (one other : List Values) → ((f : Values → ℕ) → ((a b : Values) → HasNoLess a b → f a ≤ f b) → sum_by f one ≤ sum_by f other) → are_over one ≡ true → are_over other ≡ true
over_more one other more over =
    let entries = more entries_in (λ a b h. h.entries) in
    let rows = more rows_in (λ a b h. h.rows) in
    let costs = more costs_in (λ a b h. h.costs) in
    go (nat_lt most_node_parts (sum_by entries_in one)) refl (nat_lt most_node_parts (sum_by rows_in one)) refl (nat_lt most_node_parts (sum_by costs_in one)) refl over entries rows costs
  where
    go : (a : Bool) → nat_lt most_node_parts (sum_by entries_in one) ≡ a → (b : Bool) → nat_lt most_node_parts (sum_by rows_in one) ≡ b → (c : Bool) → nat_lt most_node_parts (sum_by costs_in one) ≡ c
        → (a || (b || c)) ≡ true → sum_by entries_in one ≤ sum_by entries_in other → sum_by rows_in one ≤ sum_by rows_in other → sum_by costs_in one ≤ sum_by costs_in other → are_over other ≡ true
    go true a b is_b c is_c h entries rows costs =
        let low = is_much most_node_parts (sum_by entries_in one) a in
        first_over (nat_lt most_node_parts (sum_by entries_in other)) (nat_lt most_node_parts (sum_by rows_in other)) (nat_lt most_node_parts (sum_by costs_in other))
        (inl (much most_node_parts (sum_by entries_in other) (omega (arith, low, entries))))
    go false a true b c is_c h entries rows costs =
        let low = is_much most_node_parts (sum_by rows_in one) b in
        first_over (nat_lt most_node_parts (sum_by entries_in other)) (nat_lt most_node_parts (sum_by rows_in other)) (nat_lt most_node_parts (sum_by costs_in other))
        (inr (inl (much most_node_parts (sum_by rows_in other) (omega (arith, low, rows)))))
    go false a false b true c h entries rows costs =
        let low = is_much most_node_parts (sum_by costs_in one) c in
        first_over (nat_lt most_node_parts (sum_by entries_in other)) (nat_lt most_node_parts (sum_by rows_in other)) (nat_lt most_node_parts (sum_by costs_in other))
        (inr (inr (much most_node_parts (sum_by costs_in other) (omega (arith, low, costs)))))
    go false a false b false c h entries rows costs = absurd (cc)

-- where the core alone has too much for the nodes, the nodes have too much
pub blocks_over_core : (core : Core) (p : Stages) (base : List Values) (blocks : List Block) (wheels : List Wheel) (debuts : List Debut) → BlocksTakeNone blocks → are_over (core_nodes base debuts) ≡ true →
    are_over (map (block_node core p base blocks wheels) debuts) ≡ true
blocks_over_core core p base blocks wheels debuts all over =
    over_more (core_nodes base debuts) (map (block_node core p base blocks wheels) debuts)
    (λ f keeps. sum_more f (core_node base) (block_node core p base blocks wheels) debuts (λ d. keeps (core_node base d) (block_node core p base blocks wheels d) (node_more core p base blocks wheels d all))) over

-- ---- the core's nodes, counted one by one

same_counts : (a b : Counts) → a.entries ≡ b.entries → a.rows ≡ b.rows → a.costs ≡ b.costs → a ≡ b
same_counts a b e r c = λ i. record { entries = e i; rows = r i; costs = c i }

pub none_more : (counts : Counts) → counts ≡ counts_with counts no_values
none_more counts = same_counts counts (counts_with counts no_values) (omega arith) (omega arith) (omega arith)

pub core_step : (f : Values → ℕ) (base : List Values) (debuts : List Debut) (i count sum whole : ℕ) → i < length debuts → sum ≡ count + f (core_node base (get_or debuts i no_debut)) →
    count + sum_by f (core_nodes base (drop i debuts)) ≡ whole → sum + sum_by f (core_nodes base (drop (i + 1) debuts)) ≡ whole
core_step f base debuts i count sum whole below is kept =
    let next : sum_by f (core_nodes base (drop i debuts)) ≡ f (core_node base (get_or debuts i no_debut)) + sum_by f (core_nodes base (drop (i + 1) debuts)) =
    ap (λ ds. sum_by f (core_nodes base ds)) (drop_more debuts i no_debut below) ∙ sum_by-cons f (core_node base (get_or debuts i no_debut)) (core_nodes base (drop (i + 1) debuts)) in
    omega (arith, is, kept, next)

pub core_over : (counts : Counts) (base : List Values) (debuts : List Debut) (i : ℕ) → i < length debuts → IsOverWith counts (core_node base (get_or debuts i no_debut)) →
    counts.entries + sum_by entries_in (core_nodes base (drop i debuts)) ≡ sum_by entries_in (core_nodes base debuts) →
    counts.rows + sum_by rows_in (core_nodes base (drop i debuts)) ≡ sum_by rows_in (core_nodes base debuts) →
    counts.costs + sum_by costs_in (core_nodes base (drop i debuts)) ≡ sum_by costs_in (core_nodes base debuts) → are_over (core_nodes base debuts) ≡ true
core_over counts base debuts i below over entries rows costs =
    first_over (nat_lt most_node_parts (sum_by entries_in whole)) (nat_lt most_node_parts (sum_by rows_in whole)) (nat_lt most_node_parts (sum_by costs_in whole)) (go over)
  where
    whole : List Values
    whole = core_nodes base debuts

    d : Values
    d = core_node base (get_or debuts i no_debut)

    next : (f : Values → ℕ) → sum_by f (core_nodes base (drop i debuts)) ≡ f d + sum_by f (core_nodes base (drop (i + 1) debuts))
    next f = ap (λ ds. sum_by f (core_nodes base ds)) (drop_more debuts i no_debut below) ∙ sum_by-cons f d (core_nodes base (drop (i + 1) debuts))

    go : IsOverWith counts d → (nat_lt most_node_parts (sum_by entries_in whole) ≡ true) ⊎ ((nat_lt most_node_parts (sum_by rows_in whole) ≡ true) ⊎ (nat_lt most_node_parts (sum_by costs_in whole) ≡ true))
    go (inl h) = let n = next entries_in in inl (much most_node_parts (sum_by entries_in whole) (omega (arith, h, entries, n)))
    go (inr (inl h)) = let n = next rows_in in inr (inl (much most_node_parts (sum_by rows_in whole) (omega (arith, h, rows, n))))
    go (inr (inr h)) = let n = next costs_in in inr (inr (much most_node_parts (sum_by costs_in whole) (omega (arith, h, costs, n))))

-- ---- the rows of nodes of scenarios that are stated

abbrev pub total : List ℕ → ℕ
total counts = sum_by (λ n. n) counts

pub count_push : (counts : List ℕ) (n : ℕ) → total (counts ++ n ∷ []) ≡ total counts + n
count_push counts n = sum_by_push (λ n. n) counts n

total_map : (f : Values → ℕ) (all : List Values) → total (map f all) ≡ sum_by f all
total_map f [] = refl
total_map f (d ∷ all) = sum_by-cons (λ n. n) (f d) (map f all) ∙ ap (λ rest. f d + rest) (total_map f all) ∙ sym (sum_by-cons f d all)

sets_rows : (core : Core) (p : Stages) (stage : ℕ) (d : Values) (sets : Sets) → rows_in (with_sets core p stage d sets) ≡ rows_in d
sets_rows core p stage d [] = refl
sets_rows core p stage d (pair ∷ sets) = sets_rows core p stage (with_set core p stage d pair.0 pair.1) sets ∙ one pair.0 pair.1
  where
    one : (e : Entry) (v : ℚ) → rows_in (with_set core p stage d e v) ≡ rows_in d
    one (Cost j) v = go (nat_lt j (length p.columns) && nat_eq (get_or p.columns j 0) stage)
      where
        go : (b : Bool) → rows_in (if b then record { cost = put_at j v d.cost; rows = d.rows } else d) ≡ rows_in d
        go true = refl
        go false = refl
    one (Matrix i j) v = go (nat_lt j (length core.columns.items))
      where
        go : (b : Bool) → rows_in (if b then record { cost = d.cost; rows = at_row i (with_entry j v) d.rows } else d) ≡ rows_in d
        go true = same_rows i (with_entry j v) d.rows
        go false = refl
    one (Rhs i) v = same_rows i (with_rhs v) d.rows

rows_read : (all : List Values) (n : ℕ) → rows_in (get_or all n no_values) ≡ get_or (map rows_in all) n 0
rows_read [] n = refl
rows_read (d ∷ all) zero = refl
rows_read (d ∷ all) (suc n) = rows_read all n

branch_rows_are : (core : Core) (p : Stages) (base : List Values) (branches : List Branch) (paths : List (List ℕ)) (all : List Values) (debut : Debut) →
    rows_in (branch_node core p base branches paths all debut) ≡ branch_count base branches paths (map rows_in all) debut
branch_rows_are core p base branches paths all debut = own (nat_lt debut.stage branch.stage) ∙ source branch.parent
  where
    branch : Branch
    branch = get_or branches debut.scenario no_branch

    from : Values
    from = source_of base paths all branch.parent debut.stage

    own : (b : Bool) → rows_in (if b then from else with_sets core p debut.stage from branch.sets) ≡ rows_in from
    own true = refl
    own false = sets_rows core p debut.stage from branch.sets

    source : (parent : Option ℕ) → rows_in (source_of base paths all parent debut.stage) ≡ source_rows base paths (map rows_in all) parent debut.stage
    source None = refl
    source (Some parent) = rows_read all (node_in paths parent debut.stage)

branch_rows_all : (core : Core) (p : Stages) (base : List Values) (branches : List Branch) (paths : List (List ℕ)) (all : List Values) (debuts : List Debut) →
    map rows_in (branch_nodes core p base branches paths all debuts) ≡ branch_counts base branches paths (map rows_in all) debuts
branch_rows_all core p base branches paths all [] = refl
branch_rows_all core p base branches paths all (debut ∷ debuts) =
    let d = branch_node core p base branches paths all debut in
    branch_rows_all core p base branches paths (all ++ d ∷ []) debuts
    ∙ ap (λ counts. branch_counts base branches paths counts debuts)
    (map-append rows_in all (d ∷ []) ∙ ap (λ n. map rows_in all ++ n ∷ []) (branch_rows_are core p base branches paths all debut))

more_counts : (base : List Values) (branches : List Branch) (paths : List (List ℕ)) (counts : List ℕ) (debuts : List Debut) → total counts ≤ total (branch_counts base branches paths counts debuts)
more_counts base branches paths counts [] = omega arith
more_counts base branches paths counts (debut ∷ debuts) =
    let n = branch_count base branches paths counts debut in
    let push = count_push counts n in
    let later = more_counts base branches paths (counts ++ n ∷ []) debuts in
    omega (arith, push, later)

pub count_next : (base : List Values) (branches : List Branch) (paths : List (List ℕ)) (counts more : List ℕ) (debuts : List Debut) (i own : ℕ) (whole : List ℕ) → i < length debuts →
    own ≡ branch_count base branches paths counts (get_or debuts i no_debut) → more ≡ counts ++ own ∷ [] →
    branch_counts base branches paths counts (drop i debuts) ≡ whole → branch_counts base branches paths more (drop (i + 1) debuts) ≡ whole
count_next base branches paths counts more debuts i own whole below is made kept =
    ap (λ all. branch_counts base branches paths all (drop (i + 1) debuts)) (made ∙ ap (λ n. counts ++ n ∷ []) is)
    ∙ sym (ap (branch_counts base branches paths counts) (drop_more debuts i no_debut below)) ∙ kept

pub rows_over : (base : List Values) (branches : List Branch) (paths : List (List ℕ)) (counts : List ℕ) (debuts : List Debut) (i own rows : ℕ) → i < length debuts →
    own ≡ branch_count base branches paths counts (get_or debuts i no_debut) → rows ≡ total counts → most_node_parts < rows + own →
    branch_counts base branches paths counts (drop i debuts) ≡ branch_counts base branches paths [] debuts →
    (core : Core) (p : Stages) → are_over (branch_nodes core p base branches paths [] debuts) ≡ true
rows_over base branches paths counts debuts i own rows below is counted over kept core p =
    first_over (nat_lt most_node_parts (sum_by entries_in whole)) (nat_lt most_node_parts (sum_by rows_in whole)) (nat_lt most_node_parts (sum_by costs_in whole))
    (inr (inl (much most_node_parts (sum_by rows_in whole) (omega (arith, over, counted, push, later, all)))))
  where
    whole : List Values
    whole = branch_nodes core p base branches paths [] debuts

    push : total (counts ++ own ∷ []) ≡ total counts + own
    push = count_push counts own

    kept_next : branch_counts base branches paths (counts ++ own ∷ []) (drop (i + 1) debuts) ≡ branch_counts base branches paths [] debuts
    kept_next = count_next base branches paths counts (counts ++ own ∷ []) debuts i own (branch_counts base branches paths [] debuts) below is refl kept

    later : total (counts ++ own ∷ []) ≤ total (branch_counts base branches paths [] debuts)
    later = subst (λ l. total (counts ++ own ∷ []) ≤ total l) kept_next (more_counts base branches paths (counts ++ own ∷ []) (drop (i + 1) debuts))

    all : total (branch_counts base branches paths [] debuts) ≡ sum_by rows_in whole
    all = ap total (sym (branch_rows_all core p base branches paths [] debuts)) ∙ total_map rows_in whole
