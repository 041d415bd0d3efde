-- Counts over all nodes, node by node, and where an entry is set.
use Rattle.std.proofs.Common.{◌≡◌, ℕ, zero, suc, ◌+◌, ◌<◌, ◌≤◌, ◌++◌, ◌||◌, leb, ltb, Bool, true, false, eqb, List, [], ◌∷◌, length, get_or, drop, map, sum_by, Option, Some, None, inl, inr, refl, sym, ap, ap₂, ◌∙◌, arith}
use Rattle.std.proofs.lemmas.Bool.{eq-eqb, ne_eqb, leb-true, leb-false, ltb-true, ltb-false}
use Rattle.std.proofs.lemmas.List.{length-map}
use Rattle.std.proofs.lemmas.List.Sums.{sum_by-cons}
use Rattle.rationals.specs.Rational.{ℚ}
use Rattle.rationals.specs.Choices.{pick}
use Rattle.scen_defs.specs.declared.program.Node.{Node as NodeOf}
use Rattle.scen_defs.specs.declared.program.NodeRow.{NodeRow}
use Rattle.scen_defs.specs.Lists.{Once, passes_at}
use Rattle.scen_defs.specs.Program.{Node, Program, is_live, node_at, place_content, nodes_content, scenarios_content}
use Rattle.scen_defs.specs.declared.program.Scenario.{Scenario as ScenarioOf}
use Rattle.scen_defs.specs.Valid.{IsProgram, row_at}
use Rattle.scen_defs.proofs.NodeReads.{drop_read}
use Rattle.smps_build.specs.Ends.{Interval}
use Rattle.smps_words.specs.declared.entry.Entry.TheVariants.{Cost, Matrix, Rhs}
use Rattle.edit_defs.specs.declared.counts.Counts.{Counts}
use Rattle.edit_defs.specs.declared.edit.Edit.TheVariants.{Set}
use Rattle.edit_defs.specs.After.{change_node, change_row, set_entry, with_entry, with_ends, with_value, home_of, after}
use Rattle.edit_defs.specs.Applies.{IsSet}
use Rattle.edit_defs.specs.Intervals.{right_side}
use Rattle.edit_defs.specs.Limits.{are_many, is_above, plus, no_counts, row_entries, node_counts, place_counts, counts}
use Rattle.edit_defs.specs.Shifts.{find_row}
use Rattle.edit_defs.proofs.Kept.{home-is}
use Rattle.scen_defs.proofs.Contents.{scenarios_length}
use Rattle.edit_entries.proofs.OneRow.{absent-same, once_there}

same_counts : (a b : Counts) → a.nodes ≡ b.nodes → a.entries ≡ b.entries → a.rows ≡ b.rows → a.costs ≡ b.costs → a ≡ b
same_counts a b n e r c = λ i. record { nodes = n i; entries = e i; rows = r i; costs = c i }

pub plus_none : (a : Counts) → plus a no_counts ≡ a
plus_none a = same_counts (plus a no_counts) a (omega arith) (omega arith) (omega arith) (omega arith)

pub plus_assoc : (a b c : Counts) → plus (plus a b) c ≡ plus a (plus b c)
plus_assoc a b c = same_counts (plus (plus a b) c) (plus a (plus b c)) (omega arith) (omega arith) (omega arith) (omega arith)

-- one more node
pub next_counts : (sum more here : Counts) (nodes : List (Option NodeOf)) (i : ℕ) (place : Option NodeOf) (whole : Counts) → i < length nodes → place ≡ get_or nodes i place → here ≡ place_counts (place_content place) → more ≡ plus sum here
    → plus sum (counts (nodes_content (drop i nodes))) ≡ whole → plus more (counts (nodes_content (drop (i + 1) nodes))) ≡ whole
next_counts sum more here nodes i place whole h e p m k =
    ap (λ (a : Counts). plus a (counts (nodes_content (drop (i + 1) nodes)))) (m ∙ ap (plus sum) p)
    ∙ plus_assoc sum (place_counts (place_content place)) (counts (nodes_content (drop (i + 1) nodes)))
    ∙ ap (λ (ns : List (Option NodeOf)). plus sum (counts (nodes_content ns))) (sym (drop_read nodes i place h e)) ∙ k

-- ---- one node changed
swapped : (x y c : Counts) → plus (plus y c) x ≡ plus (plus x c) y
swapped x y c = same_counts (plus (plus y c) x) (plus (plus x c) y) (omega arith) (omega arith) (omega arith) (omega arith)

behind : (a c d x y : Counts) → plus d x ≡ plus c y → plus (plus a d) x ≡ plus (plus a c) y
behind a c d x y h =
    let n : d.nodes + x.nodes ≡ c.nodes + y.nodes = ap (λ (z : Counts). z.nodes) h in
    let e : d.entries + x.entries ≡ c.entries + y.entries = ap (λ (z : Counts). z.entries) h in
    let r : d.rows + x.rows ≡ c.rows + y.rows = ap (λ (z : Counts). z.rows) h in
    let k : d.costs + x.costs ≡ c.costs + y.costs = ap (λ (z : Counts). z.costs) h in
    same_counts (plus (plus a d) x) (plus (plus a c) y) (omega (arith, n)) (omega (arith, e)) (omega (arith, r)) (omega (arith, k))

changed_counts : (n : ℕ) (f : Node → Node) (nodes : List (Option Node)) → passes_at is_live n nodes ≡ true
    → plus (counts (change_node n f nodes)) (node_counts (node_at nodes n)) ≡ plus (counts nodes) (node_counts (f (node_at nodes n)))
changed_counts n f [] h = absurd (cc)
changed_counts zero f (None ∷ nodes) h = absurd (cc)
changed_counts zero f (Some x ∷ nodes) h = swapped (node_counts x) (node_counts (f x)) (counts nodes)
changed_counts (suc n) f (None ∷ nodes) h = behind no_counts (counts nodes) (counts (change_node n f nodes)) (node_counts (node_at nodes n)) (node_counts (f (node_at nodes n))) (changed_counts n f nodes h)
changed_counts (suc n) f (Some x ∷ nodes) h = behind (node_counts x) (counts nodes) (counts (change_node n f nodes)) (node_counts (node_at nodes n)) (node_counts (f (node_at nodes n))) (changed_counts n f nodes h)

pub cost_counts : (p : Program) (name : List ℕ) (j : ℕ) (v : ℚ) (n less more : ℕ) → IsProgram p → IsSet p name (Cost j)
    → less ≡ length (node_at p.nodes (home_of p name (Cost j))).cost → more ≡ length (set_entry j v (node_at p.nodes (home_of p name (Cost j))).cost)
    → n + less ≡ (counts p.nodes).costs + more → record (counts p.nodes) { costs = n } ≡ counts (after p (Set name (Cost j) v)).nodes
cost_counts p name j v n less more g a l m h =
    let q = changed_counts (home_of p name (Cost j)) (with_value p (Cost j) v) p.nodes (home-is p g name (Cost j) a).0 in
    let x : Node = node_at p.nodes (home_of p name (Cost j)) in
    let c : Counts = counts (after p (Set name (Cost j) v)).nodes in
    let d : Counts = counts p.nodes in
    let e0 : c.nodes + 1 ≡ d.nodes + 1 = ap (λ (z : Counts). z.nodes) q in
    let e1 : c.entries + sum_by row_entries x.rows ≡ d.entries + sum_by row_entries x.rows = ap (λ (z : Counts). z.entries) q in
    let e2 : c.rows + length x.rows ≡ d.rows + length x.rows = ap (λ (z : Counts). z.rows) q in
    let e3 : c.costs + length x.cost ≡ d.costs + length (set_entry j v x.cost) = ap (λ (z : Counts). z.costs) q in
    same_counts (record d { costs = n }) c (omega (arith, e0)) (omega (arith, e1)) (omega (arith, e2)) (omega (arith, e3, h, l, m))

pub cost_after : (p : Program) (name : List ℕ) (j : ℕ) (v : ℚ) (place less more n : ℕ) (c : Counts) (nodes : List (Option Node)) → nodes ≡ p.nodes → IsProgram p → IsSet p name (Cost j) → place ≡ home_of p name (Cost j) → c ≡ counts p.nodes
    → less ≡ length (node_at nodes place).cost → more ≡ length (set_entry j v (node_at nodes place).cost) → n + less ≡ c.costs + more → record c { costs = n } ≡ counts (after p (Set name (Cost j) v)).nodes
cost_after p name j v place less more n c nodes u g a h k l m e =
    ap (λ (d : Counts). record d { costs = n }) k
    ∙ cost_counts p name j v n less more g a (l ∙ ap₂ (λ (ns : List (Option Node)) (q : ℕ). length (node_at ns q).cost) u h) (m ∙ ap₂ (λ (ns : List (Option Node)) (q : ℕ). length (set_entry j v (node_at ns q).cost)) u h) (e ∙ ap (λ (d : Counts). d.costs + more) k)

-- ---- one row changed
rows_entries : (i : ℕ) (f : NodeRow → NodeRow) (rows : List NodeRow) → Once i (map (λ (r : NodeRow). r.row) rows)
    → sum_by row_entries (map (change_row i f) rows) + row_entries (find_row i rows) ≡ sum_by row_entries rows + row_entries (f (find_row i rows))
rows_entries i f [] o = absurd o
rows_entries i f (r ∷ rows) (inl o) = go (eqb r.row i) (eq-eqb r.row i o.0) (absent-same i f rows o.1)
  where
    go : (b : Bool) → b ≡ true → map (change_row i f) rows ≡ rows → sum_by row_entries (pick b (f r) r ∷ map (change_row i f) rows) + row_entries (pick b r (find_row i rows)) ≡ sum_by row_entries (r ∷ rows) + row_entries (f (pick b r (find_row i rows)))
    go false e s = absurd (cc)
    go true e s =
        let one : sum_by row_entries (f r ∷ map (change_row i f) rows) ≡ row_entries (f r) + sum_by row_entries (map (change_row i f) rows) = sum_by-cons row_entries (f r) (map (change_row i f) rows) in
        let two : sum_by row_entries (r ∷ rows) ≡ row_entries r + sum_by row_entries rows = sum_by-cons row_entries r rows in
        let same : sum_by row_entries (map (change_row i f) rows) ≡ sum_by row_entries rows = ap (sum_by row_entries) s in
        omega (arith, one, two, same)
rows_entries i f (r ∷ rows) (inr o) = go (eqb r.row i) (ne_eqb r.row i o.0) (rows_entries i f rows o.1)
  where
    go : (b : Bool) → b ≡ false → sum_by row_entries (map (change_row i f) rows) + row_entries (find_row i rows) ≡ sum_by row_entries rows + row_entries (f (find_row i rows))
        → sum_by row_entries (pick b (f r) r ∷ map (change_row i f) rows) + row_entries (pick b r (find_row i rows)) ≡ sum_by row_entries (r ∷ rows) + row_entries (f (pick b r (find_row i rows)))
    go true e s = absurd (cc)
    go false e s =
        let one : sum_by row_entries (r ∷ map (change_row i f) rows) ≡ row_entries r + sum_by row_entries (map (change_row i f) rows) = sum_by-cons row_entries r (map (change_row i f) rows) in
        let two : sum_by row_entries (r ∷ rows) ≡ row_entries r + sum_by row_entries rows = sum_by-cons row_entries r rows in
        omega (arith, one, two, s)

pub matrix_counts : (p : Program) (name : List ℕ) (i j : ℕ) (v : ℚ) (n less more : ℕ) → IsProgram p → IsSet p name (Matrix i j)
    → less ≡ length (find_row i (node_at p.nodes (home_of p name (Matrix i j))).rows).entries
    → more ≡ length (set_entry j v (find_row i (node_at p.nodes (home_of p name (Matrix i j))).rows).entries)
    → n + less ≡ (counts p.nodes).entries + more → record (counts p.nodes) { entries = n } ≡ counts (after p (Set name (Matrix i j) v)).nodes
matrix_counts p name i j v n less more g a l m h =
    let q = changed_counts (home_of p name (Matrix i j)) (with_value p (Matrix i j) v) p.nodes (home-is p g name (Matrix i j) a).0 in
    let x : Node = node_at p.nodes (home_of p name (Matrix i j)) in
    let s : List NodeRow = map (change_row i (with_entry j v)) x.rows in
    let c : Counts = counts (after p (Set name (Matrix i j) v)).nodes in
    let d : Counts = counts p.nodes in
    let w = rows_entries i (with_entry j v) x.rows (once_there p name i j (home_of p name (Matrix i j)) p.nodes g a refl refl) in
    let w1 : sum_by row_entries s + length (find_row i x.rows).entries ≡ sum_by row_entries x.rows + length (set_entry j v (find_row i x.rows).entries) = w in
    let k : length s ≡ length x.rows = length-map x.rows (change_row i (with_entry j v)) in
    let e0 : c.nodes + 1 ≡ d.nodes + 1 = ap (λ (z : Counts). z.nodes) q in
    let e1 : c.entries + sum_by row_entries x.rows ≡ d.entries + sum_by row_entries s = ap (λ (z : Counts). z.entries) q in
    let e2 : c.rows + length x.rows ≡ d.rows + length s = ap (λ (z : Counts). z.rows) q in
    let e3 : c.costs + length x.cost ≡ d.costs + length x.cost = ap (λ (z : Counts). z.costs) q in
    same_counts (record d { entries = n }) c (omega (arith, e0)) (omega (arith, e1, w1, h, l, m)) (omega (arith, e2, k)) (omega (arith, e3))

pub matrix_after : (p : Program) (name : List ℕ) (i j : ℕ) (v : ℚ) (place less more n : ℕ) (c : Counts) (nodes : List (Option Node)) → nodes ≡ p.nodes → IsProgram p → IsSet p name (Matrix i j) → place ≡ home_of p name (Matrix i j) → c ≡ counts p.nodes
    → less ≡ length (find_row i (node_at nodes place).rows).entries → more ≡ length (set_entry j v (find_row i (node_at nodes place).rows).entries)
    → n + less ≡ c.entries + more → record c { entries = n } ≡ counts (after p (Set name (Matrix i j) v)).nodes
matrix_after p name i j v place less more n c nodes u g a h k l m e =
    ap (λ (d : Counts). record d { entries = n }) k
    ∙ matrix_counts p name i j v n less more g a (l ∙ ap₂ (λ (ns : List (Option Node)) (q : ℕ). length (find_row i (node_at ns q).rows).entries) u h) (m ∙ ap₂ (λ (ns : List (Option Node)) (q : ℕ). length (set_entry j v (find_row i (node_at ns q).rows).entries)) u h) (e ∙ ap (λ (d : Counts). d.entries + more) k)

-- ---- a right-hand side is not counted
ends_entries : (i : ℕ) (ends : Interval) (rows : List NodeRow) → sum_by row_entries (map (change_row i (with_ends ends)) rows) ≡ sum_by row_entries rows
ends_entries i ends [] = refl
ends_entries i ends (r ∷ rows) = go (eqb r.row i) (ends_entries i ends rows)
  where
    go : (b : Bool) → sum_by row_entries (map (change_row i (with_ends ends)) rows) ≡ sum_by row_entries rows → sum_by row_entries (pick b (with_ends ends r) r ∷ map (change_row i (with_ends ends)) rows) ≡ sum_by row_entries (r ∷ rows)
    go true e = sum_by-cons row_entries (with_ends ends r) (map (change_row i (with_ends ends)) rows) ∙ ap (λ (k : ℕ). length r.entries + k) e ∙ sym (sum_by-cons row_entries r rows)
    go false e = sum_by-cons row_entries r (map (change_row i (with_ends ends)) rows) ∙ ap (λ (k : ℕ). length r.entries + k) e ∙ sym (sum_by-cons row_entries r rows)

kept_counts : (n : ℕ) (f : Node → Node) (nodes : List (Option Node)) → ((x : Node) → node_counts (f x) ≡ node_counts x) → counts (change_node n f nodes) ≡ counts nodes
kept_counts n f [] h = refl
kept_counts zero f (None ∷ nodes) h = refl
kept_counts zero f (Some x ∷ nodes) h = ap (λ (a : Counts). plus a (counts nodes)) (h x)
kept_counts (suc n) f (None ∷ nodes) h = ap (plus no_counts) (kept_counts n f nodes h)
kept_counts (suc n) f (Some x ∷ nodes) h = ap (plus (node_counts x)) (kept_counts n f nodes h)

pub right_counts : (p : Program) (name : List ℕ) (i : ℕ) (v : ℚ) → counts (after p (Set name (Rhs i) v)).nodes ≡ counts p.nodes
right_counts p name i v = kept_counts (home_of p name (Rhs i)) (with_value p (Rhs i) v) p.nodes
    (λ x. same_counts (node_counts (with_value p (Rhs i) v x)) (node_counts x) refl (ends_entries i (right_side (row_at p.rows i) v) x.rows) (length-map x.rows (change_row i (with_ends (right_side (row_at p.rows i) v)))) refl)

-- ---- a scenario and nodes more
pub counts_append : (xs ys : List (Option Node)) → counts (xs ++ ys) ≡ plus (counts xs) (counts ys)
counts_append [] ys = same_counts (counts ys) (plus no_counts (counts ys)) (omega arith) (omega arith) (omega arith) (omega arith)
counts_append (x ∷ xs) ys = ap (plus (place_counts x)) (counts_append xs ys) ∙ sym (plus_assoc (place_counts x) (counts xs) (counts ys))

lt-ltb : (a b : ℕ) → a < b → ltb a b ≡ true
lt-ltb a b h = go (ltb a b) refl
  where
    go : (x : Bool) → ltb a b ≡ x → x ≡ true
    go true e = refl
    go false e = absurd (let l : b ≤ a = ltb-false a b e in omega (arith, h, l))

ge-ltb : (a b : ℕ) → b ≤ a → ltb a b ≡ false
ge-ltb a b h = go (ltb a b) refl
  where
    go : (x : Bool) → ltb a b ≡ x → x ≡ false
    go false e = refl
    go true e = absurd (let l : a < b = ltb-true a b e in omega (arith, h, l))

from-le : (n : ℕ) → leb 10000 n ≡ ltb 10000 (n + 1)
from-le n = go (leb 10000 n) (ltb 10000 (n + 1)) refl refl
  where
    go : (a b : Bool) → leb 10000 n ≡ a → ltb 10000 (n + 1) ≡ b → a ≡ b
    go true true e f = refl
    go false false e f = refl
    go true false e f = absurd (let l : 10000 ≤ n = leb-true 10000 n e in let m : n + 1 ≤ 10000 = ltb-false 10000 (n + 1) f in omega (arith, l, m))
    go false true e f = absurd (let l : n < 10000 = leb-false 10000 n e in let m : 10000 < n + 1 = ltb-true 10000 (n + 1) f in omega (arith, l, m))

one-above : (ss : List ScenarioOf) (c : Counts) → is_above (length (scenarios_content ss) + 1) c ≡ (leb 10000 (length ss) || (ltb 20000 c.nodes || are_many c))
one-above ss c = ap (λ (b : Bool). b || (ltb 20000 c.nodes || are_many c)) (ap (λ (n : ℕ). ltb 10000 (n + 1)) (scenarios_length ss) ∙ sym (from-le (length ss)))

pub above_scenarios : (ss : List ScenarioOf) (c : Counts) (b : Bool) → b ≡ leb 10000 (length ss) → b ≡ true → true ≡ is_above (length (scenarios_content ss) + 1) c
above_scenarios ss c b e t = sym (one-above ss c ∙ ap (λ (x : Bool). x || (ltb 20000 c.nodes || are_many c)) (sym e ∙ t))

pub above_nodes : (ss : List ScenarioOf) (c : Counts) (b : Bool) → b ≡ leb 10000 (length ss) → b ≡ false → 20000 < c.nodes → true ≡ is_above (length (scenarios_content ss) + 1) c
above_nodes ss c b e t l = sym (one-above ss c ∙ ap₂ (λ (x y : Bool). x || (y || are_many c)) (sym e ∙ t) (lt-ltb 20000 c.nodes l))

pub above_many : (ss : List ScenarioOf) (c : Counts) (b m : Bool) → b ≡ leb 10000 (length ss) → b ≡ false → c.nodes ≤ 20000 → m ≡ are_many c → m ≡ is_above (length (scenarios_content ss) + 1) c
above_many ss c b m e t l a = sym (one-above ss c ∙ ap₂ (λ (x y : Bool). x || (y || are_many c)) (sym e ∙ t) (ge-ltb 20000 c.nodes l) ∙ sym a)
