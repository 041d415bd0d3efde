-- Marks of nodes, path by path, and the nodes that are kept.
use Rattle.std.proofs.Common.{◌≡◌, ℕ, zero, suc, ◌+◌, ◌<◌, ◌≤◌, Bool, true, false, ◌||◌, eqb, List, [], ◌∷◌, ◌++◌, length, get_or, take, drop, map, slice_set, replicate, Option, None, refl, sym, ap, ap₂, subst, ◌∙◌, arith, add-one, append_assoc}
use Rattle.std.proofs.lemmas.Bool.{eq-eqb, ne_eqb}
use Rattle.scen_defs.specs.declared.program.Node.{Node as NodeOf}
use Rattle.rationals.specs.Rational.{ℚ}
use Rattle.rationals.specs.Choices.{pick}
use Rattle.scen_defs.specs.Lists.{is_in}
use Rattle.scen_defs.specs.declared.program.Scenario.{Scenario as ScenarioOf}
use Rattle.scen_defs.specs.Program.{Node, Scenario, place_content, nodes_content, scenario_content, scenarios_content}
use Rattle.scen_defs.specs.Valid.{is_reached}
use Rattle.scen_defs.proofs.NodeReads.{drop_read}
use Rattle.scen_tree.specs.declared.position.Position.{Position}
use Rattle.scen_tree.specs.Trees.{position_of}
use Rattle.edit_defs.specs.declared.counts.Counts.{Counts}
use Rattle.edit_defs.specs.After.{divided, reached_nodes}
use Rattle.edit_defs.specs.Limits.{plus, place_counts, counts}
use Rattle.edit_apply.specs.Kept.{with_path, with_paths, kept_from}
use Rattle.edit_apply.specs.Told.{marks_by}
use Rattle.edit_apply.proofs.Counting.{plus_assoc}

or_false : (b : Bool) → (b || false) ≡ b
or_false true = refl
or_false false = refl

or_assoc : (a b c : Bool) → (a || (b || c)) ≡ ((a || b) || c)
or_assoc true b c = refl
or_assoc false b c = refl

or_true : (b : Bool) → (b || true) ≡ true
or_true true = refl
or_true false = refl

pub no_path : (k : ℕ) (marks : List Bool) → with_path [] k marks ≡ marks
no_path k [] = refl
no_path k (b ∷ marks) = ap₂ (λ (x : Bool) (xs : List Bool). x ∷ xs) (or_false b) (no_path (suc k) marks)

pub no_paths : (k : ℕ) (marks : List Bool) → with_paths [] k marks ≡ marks
no_paths k [] = refl
no_paths k (b ∷ marks) = ap₂ (λ (x : Bool) (xs : List Bool). x ∷ xs) (or_false b) (no_paths (suc k) marks)

pub one_path : (s : Scenario) (ss : List Scenario) (k : ℕ) (marks : List Bool) → with_paths (s ∷ ss) k marks ≡ with_paths ss k (with_path s.path k marks)
one_path s ss k [] = refl
one_path s ss k (b ∷ marks) = ap₂ (λ (x : Bool) (xs : List Bool). x ∷ xs) (or_assoc b (is_in k s.path) (is_reached k ss)) (one_path s ss (suc k) marks)

past_end : {A : Type 0} (xs : List A) (i : ℕ) → length xs ≤ i → drop i xs ≡ []
past_end [] zero h = refl
past_end [] (suc i) h = refl
past_end (x ∷ xs) zero h = absurd (omega (arith, h))
past_end (x ∷ xs) (suc i) h = past_end xs i (omega (arith, h))

pub marks_end : (path : List ℕ) (i : ℕ) (marks whole : List Bool) → length path ≤ i → with_path (drop i path) 0 marks ≡ whole → marks ≡ whole
marks_end path i marks whole h w = sym (no_path 0 marks) ∙ ap (λ (ns : List ℕ). with_path ns 0 marks) (sym (past_end path i h)) ∙ w

pub reached_end : (ss : List ScenarioOf) (i : ℕ) (marks whole : List Bool) → length ss ≤ i → with_paths (scenarios_content (drop i ss)) 0 marks ≡ whole → marks ≡ whole
reached_end ss i marks whole h w = sym (no_paths 0 marks) ∙ ap (λ (ts : List ScenarioOf). with_paths (scenarios_content ts) 0 marks) (sym (past_end ss i h)) ∙ w

pub path_long : (path : List ℕ) (k : ℕ) (marks : List Bool) → length (with_path path k marks) ≡ length marks
path_long path k [] = refl
path_long path k (b ∷ marks) = ap suc (path_long path (suc k) marks)

pub next_reached : (ss : List ScenarioOf) (i : ℕ) (s : ScenarioOf) (path : List ℕ) (marks more whole : List Bool) → i < length ss → s ≡ get_or ss i s → path ≡ s.path.items → more ≡ with_path path 0 marks
    → with_paths (scenarios_content (drop i ss)) 0 marks ≡ whole → with_paths (scenarios_content (drop (i + 1) ss)) 0 more ≡ whole
next_reached ss i s path marks more whole h e q m w =
    ap (with_paths (scenarios_content (drop (i + 1) ss)) 0) (m ∙ ap (λ (ns : List ℕ). with_path ns 0 marks) q)
    ∙ sym (one_path (scenario_content s) (scenarios_content (drop (i + 1) ss)) 0 marks)
    ∙ ap (λ (ts : List ScenarioOf). with_paths (scenarios_content ts) 0 marks) (sym (drop_read ss i s h e)) ∙ w

-- a node before the marks, or behind them, marks nothing
apart : (n : ℕ) (path : List ℕ) (k : ℕ) (marks : List Bool) → ((m : ℕ) → k ≤ m → m < k + length marks → n ≡ m → ⊥) → with_path (n ∷ path) k marks ≡ with_path path k marks
apart n path k [] h = refl
apart n path k (b ∷ marks) h =
    ap₂ (λ (x : Bool) (xs : List Bool). (b || (x || is_in k path)) ∷ xs) (ne_eqb n k (λ e. h k (omega arith) (omega arith) e))
    (apart n path (suc k) marks (λ m l u e. h m (omega (arith, l)) (omega (arith, u)) e))

-- a node among them marks its place
within : (n : ℕ) (path : List ℕ) (i k : ℕ) (marks : List Bool) → n ≡ k + i → i < length marks → with_path (n ∷ path) k marks ≡ with_path path k (slice_set marks i true)
within n path i k [] e h = absurd (omega (arith, h))
within n path zero k (b ∷ marks) e h =
    let there : eqb n k ≡ true = eq-eqb n k (omega (arith, e)) in
    ap₂ (λ (x : Bool) (xs : List Bool). (b || (x || is_in k path)) ∷ xs) there (apart n path (suc k) marks (λ m l u f. omega (arith, e, l, f)))
    ∙ ap (λ (x : Bool). x ∷ with_path path (suc k) marks) (or_true b)
within n path (suc i) k (b ∷ marks) e h =
    ap₂ (λ (x : Bool) (xs : List Bool). (b || (x || is_in k path)) ∷ xs) (ne_eqb n k (λ f. omega (arith, e, f))) (within n path i (suc k) marks (omega (arith, e)) (omega (arith, h)))

pub mark_one : (n : ℕ) (marks : List Bool) → n < length marks → slice_set marks n true ≡ with_path (n ∷ []) 0 marks
mark_one n marks h = sym (within n [] n 0 marks (omega arith) h ∙ no_path 0 (slice_set marks n true))

pub mark_none : (n : ℕ) (marks : List Bool) → length marks ≤ n → marks ≡ with_path (n ∷ []) 0 marks
mark_none n marks h = sym (apart n [] 0 marks (λ m lo hi f. omega (arith, h, hi, f)) ∙ no_path 0 marks)

or_once : (b x r : Bool) → ((b || (x || false)) || r) ≡ (b || (x || r))
or_once true x r = refl
or_once false true r = refl
or_once false false r = refl

one_more : (n : ℕ) (path : List ℕ) (k : ℕ) (marks : List Bool) → with_path path k (with_path (n ∷ []) k marks) ≡ with_path (n ∷ path) k marks
one_more n path k [] = refl
one_more n path k (b ∷ marks) = ap₂ (λ (x : Bool) (xs : List Bool). x ∷ xs) (or_once b (eqb n k) (is_in k path)) (one_more n path (suc k) marks)

read_again : (path : List ℕ) (i : ℕ) → i < length path → get_or path i 0 ≡ get_or path i (get_or path i 0)
read_again [] i h = absurd (omega (arith, h))
read_again (n ∷ path) zero h = refl
read_again (n ∷ path) (suc i) h = read_again path i (omega (arith, h))

pub next_mark : (path : List ℕ) (i : ℕ) (marks more whole : List Bool) → i < length path → more ≡ with_path (get_or path i 0 ∷ []) 0 marks
    → with_path (drop i path) 0 marks ≡ whole → with_path (drop (i + 1) path) 0 more ≡ whole
next_mark path i marks more whole h m w =
    ap (with_path (drop (i + 1) path) 0) m ∙ one_more (get_or path i 0) (drop (i + 1) path) 0 marks
    ∙ ap (λ (ns : List ℕ). with_path ns 0 marks) (sym (drop_read path i (get_or path i 0) h (read_again path i h))) ∙ w

-- ---- the marks by all paths keep what is reached
marked_at : (ss : List Scenario) (i k : ℕ) (marks : List Bool) → i < length marks → get_or marks i false ≡ false → get_or (with_paths ss k marks) i false ≡ is_reached (k + i) ss
marked_at ss i k [] h f = absurd (omega (arith, h))
marked_at ss zero k (b ∷ marks) h f = let e : b ≡ false = f in ap₂ (λ (x : Bool) (m : ℕ). x || is_reached m ss) e (let z : k ≡ k + 0 = omega arith in z)
marked_at ss (suc i) k (b ∷ marks) h f = marked_at ss i (suc k) marks (omega (arith, h)) f ∙ ap (λ (m : ℕ). is_reached m ss) (let z : suc k + i ≡ k + suc i = omega arith in z)

unmarked_at : (n i : ℕ) → get_or (replicate n false) i false ≡ false
unmarked_at zero i = refl
unmarked_at (suc n) zero = refl
unmarked_at (suc n) (suc i) = unmarked_at n i

replicate_long : (n : ℕ) → length (replicate n false) ≡ n
replicate_long zero = refl
replicate_long (suc n) = ap suc (replicate_long n)

keeps : (ss : List Scenario) (marks : List Bool) (k : ℕ) (nodes : List (Option Node)) → ((i : ℕ) → i < length nodes → get_or marks (k + i) false ≡ is_reached (k + i) ss) → kept_from marks k nodes ≡ reached_nodes ss k nodes
keeps ss marks k [] h = refl
keeps ss marks k (place ∷ nodes) h =
    let here : get_or marks k false ≡ is_reached k ss = subst (λ (m : ℕ). get_or marks m false ≡ is_reached m ss) (let z : k + 0 ≡ k = omega arith in z) (h 0 (omega arith)) in
    ap₂ (λ (b : Bool) (ns : List (Option Node)). pick b place None ∷ ns) here
    (keeps ss marks (suc k) nodes (λ i l. subst (λ (m : ℕ). get_or marks m false ≡ is_reached m ss) (let z : k + suc i ≡ suc k + i = omega arith in z) (h (suc i) (omega (arith, l)))))

pub marked_nodes : (ss : List Scenario) (nodes : List (Option Node)) → kept_from (marks_by ss nodes) 0 nodes ≡ reached_nodes ss 0 nodes
marked_nodes ss nodes = keeps ss (marks_by ss nodes) 0 nodes
    (λ i l. subst (λ (m : ℕ). get_or (marks_by ss nodes) m false ≡ is_reached (0 + i) ss) (let y : i ≡ 0 + i = omega arith in y) (marked_at ss i 0 (replicate (length nodes) false) (let z : length (replicate (length nodes) false) ≡ length nodes = replicate_long (length nodes) in omega (arith, l, z)) (unmarked_at (length nodes) i)))

-- dividing leaves paths as they are
divided-reached : (rest : ℚ) (ss : List Scenario) (k : ℕ) → is_reached k (map (divided rest) ss) ≡ is_reached k ss
divided-reached rest [] k = refl
divided-reached rest (s ∷ ss) k = ap (λ (b : Bool). is_in k s.path || b) (divided-reached rest ss k)

pub reached_divided : (rest : ℚ) (ss : List Scenario) (k : ℕ) (nodes : List (Option Node)) → reached_nodes (map (divided rest) ss) k nodes ≡ reached_nodes ss k nodes
reached_divided rest ss k [] = refl
reached_divided rest ss k (place ∷ nodes) = ap₂ (λ (b : Bool) (ns : List (Option Node)). pick b place None ∷ ns) (divided-reached rest ss k) (reached_divided rest ss (suc k) nodes)

-- ---- the kept nodes, one after another
pub next_position : (marks : List Bool) (all more : List Position) (nodes : List (Option NodeOf)) (i : ℕ) (place : Option NodeOf) (here : Position) (whole : List Position) → i < length nodes → place ≡ get_or nodes i place
    → here ≡ position_of (pick (get_or marks i false) (place_content place) None) → more ≡ all ++ here ∷ []
    → all ++ map position_of (kept_from marks i (nodes_content (drop i nodes))) ≡ whole → more ++ map position_of (kept_from marks (i + 1) (nodes_content (drop (i + 1) nodes))) ≡ whole
next_position marks all more nodes i place here whole h e p m w =
    ap (λ (ps : List Position). ps ++ map position_of (kept_from marks (i + 1) (nodes_content (drop (i + 1) nodes)))) m
    ∙ append_assoc all (here ∷ []) (map position_of (kept_from marks (i + 1) (nodes_content (drop (i + 1) nodes))))
    ∙ ap₂ (λ (q : Position) (j : ℕ). all ++ q ∷ map position_of (kept_from marks j (nodes_content (drop (i + 1) nodes)))) p (add-one i)
    ∙ ap (λ (ns : List (Option NodeOf)). all ++ map position_of (kept_from marks i (nodes_content ns))) (sym (drop_read nodes i place h e)) ∙ w

pub next_kept_counts : (marks : List Bool) (sum more here : Counts) (nodes : List (Option NodeOf)) (i : ℕ) (place : Option NodeOf) (whole : Counts) → i < length nodes → place ≡ get_or nodes i place
    → here ≡ place_counts (pick (get_or marks i false) (place_content place) None) → more ≡ plus sum here
    → plus sum (counts (kept_from marks i (nodes_content (drop i nodes)))) ≡ whole → plus more (counts (kept_from marks (i + 1) (nodes_content (drop (i + 1) nodes)))) ≡ whole
next_kept_counts marks sum more here nodes i place whole h e p m w =
    ap (λ (a : Counts). plus a (counts (kept_from marks (i + 1) (nodes_content (drop (i + 1) nodes))))) (m ∙ ap (plus sum) p)
    ∙ plus_assoc sum (place_counts (pick (get_or marks i false) (place_content place) None)) (counts (kept_from marks (i + 1) (nodes_content (drop (i + 1) nodes))))
    ∙ ap (λ (j : ℕ). plus sum (plus (place_counts (pick (get_or marks i false) (place_content place) None)) (counts (kept_from marks j (nodes_content (drop (i + 1) nodes)))))) (add-one i)
    ∙ ap (λ (ns : List (Option NodeOf)). plus sum (counts (kept_from marks i (nodes_content ns)))) (sym (drop_read nodes i place h e)) ∙ w

-- the places before i as they are kept, and those from i on still to be
abbrev pub half_kept : List Bool → ℕ → ℕ → List (Option NodeOf) → List (Option Node)
half_kept marks k i nodes = nodes_content (take i nodes) ++ kept_from marks (k + i) (nodes_content (drop i nodes))

kept_step : (marks : List Bool) (k i : ℕ) (nodes : List (Option NodeOf)) (x y : Option NodeOf) → i < length nodes → x ≡ get_or nodes i x → place_content y ≡ pick (get_or marks (k + i) false) (place_content x) None
    → half_kept marks k (suc i) (slice_set nodes i y) ≡ half_kept marks k i nodes
kept_step marks k i [] x y h e p = absurd (omega (arith, h))
kept_step marks k zero (z ∷ nodes) x y h e p =
    let s : x ≡ z = e in
    ap₂ (λ (q : Option Node) (j : ℕ). q ∷ kept_from marks j (nodes_content nodes)) (p ∙ ap₂ (λ (j : ℕ) (w : Option NodeOf). pick (get_or marks j false) (place_content w) None) (let q : k + 0 ≡ k = omega arith in q) s) (let q : k + 1 ≡ suc k = omega arith in q)
    ∙ ap (λ (j : ℕ). pick (get_or marks j false) (place_content z) None ∷ kept_from marks (suc j) (nodes_content nodes)) (let q : k ≡ k + 0 = omega arith in q)
kept_step marks k (suc i) (z ∷ nodes) x y h e p =
    ap (λ (j : ℕ). place_content z ∷ nodes_content (take (suc i) (slice_set nodes i y)) ++ kept_from marks j (nodes_content (drop (suc i) (slice_set nodes i y)))) (let q : k + suc (suc i) ≡ suc k + suc i = omega arith in q)
    ∙ ap (λ (ns : List (Option Node)). place_content z ∷ ns) (kept_step marks (suc k) i nodes x y (omega (arith, h)) e (p ∙ ap (λ (j : ℕ). pick (get_or marks j false) (place_content x) None) (let q : k + suc i ≡ suc k + i = omega arith in q)))
    ∙ ap (λ (j : ℕ). place_content z ∷ nodes_content (take i nodes) ++ kept_from marks j (nodes_content (drop i nodes))) (let q : suc k + i ≡ k + suc i = omega arith in q)

pub next_kept : (marks : List Bool) (i : ℕ) (nodes more : List (Option NodeOf)) (x y : Option NodeOf) (whole : List (Option Node)) → i < length nodes → x ≡ get_or nodes i x
    → place_content y ≡ pick (get_or marks i false) (place_content x) None → more ≡ slice_set nodes i y
    → half_kept marks 0 i nodes ≡ whole → half_kept marks 0 (i + 1) more ≡ whole
next_kept marks i nodes more x y whole h e p m w = ap₂ (λ (j : ℕ) (ns : List (Option NodeOf)). half_kept marks 0 j ns) (add-one i) m ∙ kept_step marks 0 i nodes x y h e (p ∙ ap (λ (j : ℕ). pick (get_or marks j false) (place_content x) None) (let z : i ≡ 0 + i = omega arith in z)) ∙ w
