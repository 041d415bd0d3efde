-- The values at hand: what goes into them, and the path above a scenario.
use Rattle.std.proofs.Common.{◌≡◌, ◌∙◌, ◌+◌, ◌-◌, ◌<◌, ◌≤◌, subst, ap, ℕ, zero, suc, Bool, true, false, cond, List, [], ◌∷◌, ◌++◌, Option, Some, None, refl, sym, get_or, nat_lt, nat_eq, drop, map, length, length-append, arith, if◌then◌else◌}
use Rattle.std.proofs.lemmas.Bool.{ltb-true, ltb-false, eqb-true}
use Rattle.std.specs.Option.{option_eq}
use Rattle.std.proofs.lemmas.List.{get_or_past, get_or-map, length-map}
use Rattle.std.proofs.Math.ListN.{get_or-append}
use Rattle.std.proofs.Math.Seq.{get_or-append_seam, drop-cons}
use Rattle.std.specs.Map.{lookup}
use Rattle.rationals.specs.Rational.{ℚ}
use Rattle.smps_words.specs.declared.entry.Entry.{Entry}
use Rattle.stoch_defs.specs.Entries.{same_entry}
use Rattle.stoch_defs.specs.Random.{Sets}
use Rattle.stoch_defs.specs.Stated.{Node, value_set, path_among, paths_from, paths_of}
use Rattle.stoch_defs.proofs.EntryLemmas.{same_is, same_both_ways}
use Rattle.stoch_defs.proofs.PathLemmas.{paths_snoc, paths_length, path_stays}
use Rattle.scenario_paths.specs.declared.hand.Hand.{Hand}
use Rattle.scenario_paths.specs.declared.hand.Scenario.{Scenario}
use Rattle.scenario_paths.specs.Paths.{set_first, earlier, is_among, node_stated, SetsTheSame, IsAtHand}
use Rattle.scenario_paths.proofs.EntryLemmas.{derived, derived_is}

-- ---- maps

pub lookup_is : (sets : Sets) (entry : Entry) → lookup (derived entry) sets ≡ value_set sets entry
lookup_is [] entry = refl
lookup_is (set ∷ sets) entry = rw (derived_is entry set.0, lookup_is sets entry) refl

-- what is set for an entry after one is set
pub put_is : (old new : Sets) (key : Entry) (value : ℚ) →
    ((q : Entry) → lookup (derived q) new ≡ cond (derived key q) (Some value) (lookup (derived q) old)) → (entry : Entry) →
    value_set new entry ≡ (if same_entry entry key then Some value else value_set old entry)
put_is old new key value said entry =
    sym (lookup_is new entry) ∙ said entry ∙ ap (λ b. cond b (Some value) (lookup (derived entry) old)) (derived_is key entry ∙ same_both_ways key entry)
    ∙ ap (λ v. if same_entry entry key then Some value else v) (lookup_is old entry)

-- a set goes before what is there
pub first_here : (here : Bool) (value : ℚ) (old rest below : Option ℚ) → old ≡ set_first rest below → (if here then Some value else old) ≡ set_first (if here then Some value else rest) below
first_here true value old rest below e = refl
first_here false value old rest below e = e

pub first_none : (found : Option ℚ) → set_first found None ≡ found
first_none None = refl
first_none (Some value) = refl

pub first_all : (one two three : Option ℚ) → set_first (set_first one two) three ≡ set_first one (set_first two three)
first_all None two three = refl
first_all (Some value) two three = refl

-- what is missing goes behind what is there: an entry that has a value
skips : (here : Bool) (value : ℚ) (found rest : Option ℚ) → (here ≡ true → (v : ℚ) × (found ≡ Some v)) → set_first found (if here then Some value else rest) ≡ set_first found rest
skips true value None rest there = let h = there refl in absurd (clash h.0 h.1)
  where
    clash : (v : ℚ) → None ≡ Some v → ⊥
    clash v e = cc
skips true value (Some w) rest there = refl
skips false value found rest there = refl

pub has_already : (values sets : Sets) (key entry : Entry) (value v : ℚ) → value_set values key ≡ Some v →
    set_first (value_set values entry) (value_set ((key, value) ∷ sets) entry) ≡ set_first (value_set values entry) (value_set sets entry)
has_already values sets key entry value v there =
    skips (same_entry entry key) value (value_set values entry) (value_set sets entry) (λ same. (v, ap (value_set values) (same_is entry key same) ∙ there))

-- and one that has none
joins : (here : Bool) (value : ℚ) (found rest : Option ℚ) → (here ≡ true → found ≡ None) → set_first (if here then Some value else found) rest ≡ set_first found (if here then Some value else rest)
joins true value None rest none = refl
joins true value (Some w) rest none = absurd (clash (none refl))
  where
    clash : Some w ≡ None → ⊥
    clash e = cc
joins false value found rest none = refl

pub gets_it : (values new sets : Sets) (key entry : Entry) (value : ℚ) → value_set values key ≡ None → value_set new entry ≡ (if same_entry entry key then Some value else value_set values entry) →
    set_first (value_set new entry) (value_set sets entry) ≡ set_first (value_set values entry) (value_set ((key, value) ∷ sets) entry)
gets_it values new sets key entry value none is =
    ap (λ v. set_first v (value_set sets entry)) is
    ∙ joins (same_entry entry key) value (value_set values entry) (value_set sets entry) (λ same. ap (value_set values) (same_is entry key same) ∙ none)

-- ---- paths

abbrev pub no_node : Node
no_node = record { parent = None; sets = [] }

below_or_not : (paths all : List Sets) (k : ℕ) (b : Bool) → nat_lt k (length paths) ≡ b → ((j : ℕ) → j < length paths → get_or all j [] ≡ get_or paths j []) →
    get_or paths k [] ≡ path_among all (if b then Some k else None)
below_or_not paths all k true e same = sym (same k (ltb-true k (length paths) e))
below_or_not paths all k false e same = get_or_past paths k [] (ltb-false k (length paths) e)

earlier_is : (paths all : List Sets) (parent : Option ℕ) → ((j : ℕ) → j < length paths → get_or all j [] ≡ get_or paths j []) → path_among paths parent ≡ path_among all (earlier parent (length paths))
earlier_is paths all None same = refl
earlier_is paths all (Some k) same = below_or_not paths all k (nat_lt k (length paths)) refl same

-- the path of a scenario: what it sets, and behind that the path of its parent
path_at : (paths : List Sets) (nodes : List Node) (i : ℕ) → i < length nodes →
    get_or (paths_from paths nodes) (length paths + i) [] ≡ (get_or nodes i no_node).sets ++ path_among (paths_from paths nodes) (earlier (get_or nodes i no_node).parent (length paths + i))
path_at paths [] i below = absurd (omega (arith, below))
path_at paths (node ∷ nodes) zero below =
    let last = node.sets ++ path_among paths node.parent in
    let all = paths_from (paths ++ last ∷ []) nodes in
    let at : length paths + 0 ≡ length paths = omega arith in
    let within : length paths < length (paths ++ last ∷ []) = omega (arith, length-append paths (last ∷ [])) in
    let stays : (j : ℕ) → j < length paths → get_or all j [] ≡ get_or paths j [] = λ j h. path_stays (paths ++ last ∷ []) nodes j (omega (arith, length-append paths (last ∷ []))) ∙ get_or-append paths (last ∷ []) [] j h in
    ap (λ (k : ℕ). get_or all k []) at ∙ path_stays (paths ++ last ∷ []) nodes (length paths) within ∙ get_or-append_seam paths last [] []
    ∙ ap (λ above. node.sets ++ above) (earlier_is paths all node.parent stays)
    ∙ ap (λ (k : ℕ). node.sets ++ path_among all (earlier node.parent k)) (sym at)
path_at paths (node ∷ nodes) (suc i) below =
    let last = node.sets ++ path_among paths node.parent in
    let all = paths_from (paths ++ last ∷ []) nodes in
    let at : length (paths ++ last ∷ []) + i ≡ length paths + suc i = omega (arith, length-append paths (last ∷ [])) in
    let less : i < length nodes = omega (arith, below) in
    ap (λ (k : ℕ). get_or all k []) (sym at) ∙ path_at (paths ++ last ∷ []) nodes i less
    ∙ ap (λ (k : ℕ). (get_or nodes i no_node).sets ++ path_among all (earlier (get_or nodes i no_node).parent k)) at

pub path_here : (nodes : List Node) (at : ℕ) → at < length nodes →
    get_or (paths_of nodes) at [] ≡ (get_or nodes at no_node).sets ++ path_among (paths_of nodes) (earlier (get_or nodes at no_node).parent at)
path_here nodes at below =
    let zero_at : 0 + at ≡ at = omega arith in
    ap (λ (k : ℕ). get_or (paths_of nodes) k []) (sym zero_at) ∙ path_at [] nodes at below
    ∙ ap (λ (k : ℕ). (get_or nodes at no_node).sets ++ path_among (paths_of nodes) (earlier (get_or nodes at no_node).parent k)) zero_at

pub set_behind : (own path : Sets) (entry : Entry) → value_set (own ++ path) entry ≡ set_first (value_set own entry) (value_set path entry)
set_behind [] path entry = refl
set_behind (set ∷ own) path entry = first_here (same_entry entry set.0) set.1 (value_set (own ++ path) entry) (value_set own entry) (value_set path entry) (set_behind own path entry)

-- a further scenario leaves the path at hand
stays_at : (nodes : List Node) (last : Node) (at : Option ℕ) → is_among at (length nodes) ≡ true → path_among (paths_of (nodes ++ last ∷ [])) at ≡ path_among (paths_of nodes) at
stays_at nodes last None e = refl
stays_at nodes last (Some k) e =
    let within : k < length (paths_of nodes) = omega (arith, ltb-true k (length nodes) e, paths_length [] nodes) in
    ap (λ paths. get_or paths k []) (paths_snoc [] nodes last) ∙ get_or-append (paths_of nodes) ((last.sets ++ path_among (paths_of nodes) last.parent) ∷ []) [] k within

pub among_more : (at : Option ℕ) (count more : ℕ) → count ≤ more → is_among at count ≡ true → is_among at more ≡ true
among_more None count more below e = refl
among_more (Some k) count more below e = grind (arith, ltb-true k count e)

pub path_kept : (nodes : List Node) (last : Node) (at : Option ℕ) (values : Sets) → is_among at (length nodes) ≡ true → SetsTheSame values (path_among (paths_of nodes) at) → SetsTheSame values (path_among (paths_of (nodes ++ last ∷ [])) at)
path_kept nodes last at values e shown = λ entry. shown entry ∙ ap (λ path. value_set path entry) (sym (stays_at nodes last at e))

-- ---- steps of the code

pub pushed : (nodes all : List Node) (last : Node) (hand : Hand) → all ≡ nodes ++ last ∷ [] → IsAtHand nodes hand → IsAtHand all hand
pushed nodes all last hand is at =
    let more : length nodes ≤ length (nodes ++ last ∷ []) = omega (arith, length-append nodes (last ∷ [])) in
    subst (λ known. IsAtHand known hand) (sym is) (record {
      among = among_more hand.at (length nodes) (length (nodes ++ last ∷ [])) more at.among;
      values = path_kept nodes last hand.at hand.values.entries at.among at.values;
    })

-- the value before those that are set is set
pub sets_step : (sets old new start : Sets) (left : ℕ) (set : Entry × ℚ) → 0 < left → left ≤ length sets → set ≡ get_or sets (left - 1) set →
    ((q : Entry) → lookup (derived q) new ≡ cond (derived set.0 q) (Some set.1) (lookup (derived q) old)) →
    ((q : Entry) → value_set old q ≡ set_first (value_set (drop left sets) q) (value_set start q)) →
    (entry : Entry) → value_set new entry ≡ set_first (value_set (drop (left - 1) sets) entry) (value_set start entry)
sets_step sets old new start left set some within at said before entry =
    let less : left - 1 < length sets = omega arith in
    let next : suc (left - 1) ≡ left = omega arith in
    let front : drop (left - 1) sets ≡ set ∷ drop left sets =
    drop-cons sets (left - 1) set less ∙ ap (λ (first : Entry × ℚ). first ∷ drop (suc (left - 1)) sets) (sym at) ∙ ap (λ (n : ℕ). set ∷ drop n sets) next in
    put_is old new set.0 set.1 said entry
    ∙ first_here (same_entry entry set.0) set.1 (value_set old entry) (value_set (drop left sets) entry) (value_set start entry) (before entry)
    ∙ ap (λ all. set_first (value_set all entry) (value_set start entry)) (sym front)

-- a value that is missing is set
pub missing_step : (sets old new : Sets) (i : ℕ) (set : Entry × ℚ) → i < length sets → set ≡ get_or sets i set → lookup (derived set.0) old ≡ None →
    ((q : Entry) → lookup (derived q) new ≡ cond (derived set.0 q) (Some set.1) (lookup (derived q) old)) → (entry : Entry) →
    set_first (value_set new entry) (value_set (drop (i + 1) sets) entry) ≡ set_first (value_set old entry) (value_set (drop i sets) entry)
missing_step sets old new i set within at none said entry =
    let next : suc i ≡ i + 1 = omega arith in
    let front : drop i sets ≡ set ∷ drop (i + 1) sets =
    drop-cons sets i set within ∙ ap (λ (first : Entry × ℚ). first ∷ drop (suc i) sets) (sym at) ∙ ap (λ (n : ℕ). set ∷ drop n sets) next in
    gets_it old new (drop (i + 1) sets) set.0 entry set.1 (sym (lookup_is old set.0) ∙ none) (put_is old new set.0 set.1 said entry)
    ∙ ap (λ all. set_first (value_set old entry) (value_set all entry)) (sym front)

-- a value that is there stays
pub there_step : (sets old : Sets) (i : ℕ) (set : Entry × ℚ) (v : ℚ) → i < length sets → set ≡ get_or sets i set → lookup (derived set.0) old ≡ Some v → (entry : Entry) →
    set_first (value_set old entry) (value_set (drop (i + 1) sets) entry) ≡ set_first (value_set old entry) (value_set (drop i sets) entry)
there_step sets old i set v within at some entry =
    let next : suc i ≡ i + 1 = omega arith in
    let front : drop i sets ≡ set ∷ drop (i + 1) sets =
    drop-cons sets i set within ∙ ap (λ (first : Entry × ℚ). first ∷ drop (suc i) sets) (sym at) ∙ ap (λ (n : ℕ). set ∷ drop n sets) next in
    sym (has_already old (drop (i + 1) sets) set.0 entry set.1 v (sym (lookup_is old set.0) ∙ some))
    ∙ ap (λ all. set_first (value_set old entry) (value_set all entry)) (sym front)

-- up to the parent: what is missing is on its path
pub up_step : (nodes : List Node) (at : ℕ) (node : Node) (old new : Sets) (entry : Entry) → at < length nodes → get_or nodes at no_node ≡ node →
    value_set new entry ≡ set_first (value_set old entry) (value_set node.sets entry) →
    set_first (value_set new entry) (value_set (path_among (paths_of nodes) (earlier node.parent at)) entry) ≡ set_first (value_set old entry) (value_set (path_among (paths_of nodes) (Some at)) entry)
up_step nodes at node old new entry within is said =
    let above : Sets = path_among (paths_of nodes) (earlier node.parent at) in
    let here : get_or (paths_of nodes) at [] ≡ node.sets ++ above =
    path_here nodes at within ∙ ap (λ (n : Node). n.sets ++ path_among (paths_of nodes) (earlier n.parent at)) is in
    ap (λ v. set_first v (value_set above entry)) said ∙ first_all (value_set old entry) (value_set node.sets entry) (value_set above entry)
    ∙ ap (set_first (value_set old entry)) (sym (set_behind node.sets above entry) ∙ ap (λ path. value_set path entry) (sym here))

-- a number past the last scenario has nothing on its path
pub past_step : (nodes : List Node) (at : ℕ) → length nodes ≤ at → path_among (paths_of nodes) (Some at) ≡ []
past_step nodes at past = get_or_past (paths_of nodes) at [] (omega (arith, paths_length [] nodes))

-- what a child sets, before its parent's path
pub child_step : (nodes : List Node) (number : ℕ) (node : Node) (at : Option ℕ) (old new : Sets) → number < length nodes → get_or nodes number no_node ≡ node → earlier node.parent number ≡ at →
    SetsTheSame old (path_among (paths_of nodes) at) → ((q : Entry) → value_set new q ≡ set_first (value_set node.sets q) (value_set old q)) → SetsTheSame new (path_among (paths_of nodes) (Some number))
child_step nodes number node at old new within is parent shown said = λ entry.
    said entry ∙ ap (set_first (value_set node.sets entry)) (shown entry ∙ ap (λ a. value_set (path_among (paths_of nodes) a) entry) (sym parent))
    ∙ sym (set_behind node.sets (path_among (paths_of nodes) (earlier node.parent number)) entry)
    ∙ ap (λ path. value_set path entry) (sym (path_here nodes number within ∙ ap (λ (n : Node). n.sets ++ path_among (paths_of nodes) (earlier n.parent number)) is))

-- a scenario among those that the code has
pub at_map : (xs : List Scenario) (i : ℕ) (x : Scenario) → i < length xs → x ≡ get_or xs i x → get_or (map node_stated xs) i no_node ≡ node_stated x
at_map xs i x within is = get_or-map node_stated xs i x no_node within ∙ ap node_stated (sym is)

pub within_map : (xs : List Scenario) (i : ℕ) → i < length xs → i < length (map node_stated xs)
within_map xs i within = omega (arith, within, length-map xs node_stated)

pub past_map : (xs : List Scenario) (i : ℕ) → length xs ≤ i → path_among (paths_of (map node_stated xs)) (Some i) ≡ []
past_map xs i past = past_step (map node_stated xs) i (omega (arith, past, length-map xs node_stated))

pub same_option : (one other : Option ℕ) → option_eq nat_eq one other ≡ true → one ≡ other
same_option None None e = refl
same_option None (Some b) e = cc
same_option (Some a) None e = cc
same_option (Some a) (Some b) e = ap Some (eqb-true a b e)

pub none_left : (path : Sets) (found sought : Option ℚ) (entry : Entry) → path ≡ [] → set_first found (value_set path entry) ≡ sought → found ≡ sought
none_left path found sought entry is e = sym (first_none found) ∙ ap (λ p. set_first found (value_set p entry)) (sym is) ∙ e
