-- The data of a program's nodes are those of its books.
use Rattle.std.proofs.Common.{◌≡◌, ◌∙◌, ap, ap₂, sym, refl, subst, ℕ, zero, suc, ◌+◌, ◌<◌, ◌≤◌, Bool, true, false, ◌||◌, eqb, List, [], ◌∷◌, length, get_or, map, Option, Some, None, Ok, inl, inr, arith, add-zero, lt-ltb}
use Rattle.std.proofs.lemmas.Bool.{eq-eqb}
use Rattle.rationals.specs.Rational.{ℚ, zero_ℚ, one_ℚ, neg_ℚ, ◌/ℚ◌, ◌*ℚ◌, ◌≤ℚ◌, ◌<ℚ◌, by_facts, terms, lt_le_ℚ, lt_by, ne_of_gt_ℚ, div_mul_ℚ}
use Rattle.rationals.specs.Ring.Facts.{end, by_times}
use Rattle.rationals.specs.Sparse.{Entry}
use Rattle.rationals.specs.Forms.{IsForm}
use Rattle.scen_defs.specs.declared.report.Kind.{Kind}
use Rattle.scen_defs.specs.declared.report.Kind.TheVariants.{Feasible, Recession, Cost}
use Rattle.scen_defs.specs.declared.program.Column.{Column}
use Rattle.scen_defs.specs.declared.program.Row.{Row}
use Rattle.scen_defs.specs.declared.program.NodeRow.{NodeRow}
use Rattle.scen_defs.specs.Lists.{Each, Once, places}
use Rattle.rationals.specs.Intervals.{InOrder}
use Rattle.rationals.specs.Choices.{pick}
use Rattle.scen_defs.specs.Program.{Node, Program, View, view_of, is_live, node_at, or_root, IsLive, IsNode, IsColumnOf, IsTree, total}
use Rattle.scen_defs.specs.Flat.{zero_row, is_child, children, share}
use Rattle.scen_defs.specs.Valid.{Lives, HasParent, IsProgram}
use Rattle.scen_defs.proofs.SumLaws.{each-map, each-once}
use Rattle.scen_defs.proofs.Subtrees.{ChildIs, child-is}
use Rattle.scen_defs.proofs.Valid.{each-place, once-passes}
use Rattle.scen_nodes.specs.Derived.{derived_cost, derived_row, zero_bound}
use Rattle.scen_tree.specs.Trees.{position_of, is_below, children_of, Tree, tree_walk}
use Rattle.cut_defs.specs.declared.datum.ColumnBounds.{ColumnBounds}
use Rattle.cut_defs.specs.declared.datum.Share.{Share}
use Rattle.cut_defs.specs.Data.{Datum, RowsRise, BoundsRise, SharesRise, is_own, IsDatum, bounds_of, share_of, datum_of}
use Rattle.cut_defs.proofs.CutLaws.{each-child}
use Rattle.edit_defs.specs.Data.{view_in}
use Rattle.edit_defs.proofs.Lists.{passes-within, map-same, map-map, each-mapped, each-all}
use Rattle.edit_defs.proofs.EditLaws.{scripts_make_books}
use Rattle.node_data.specs.Frames.{stage_of, columns_from, frame_of, children_in, columns_in}
use Rattle.node_data.specs.NodeData.{derived_bounds, share_in}
use Rattle.node_data.specs.Laws.{DataAreTheBooks}
use Rattle.node_data.proofs.TreeReads.{children_at, children_are, share_at, stands_within}

no : {A : Type 0} → false ≡ true → A
no e = absurd (cc)

-- ---- the tree in the form of a kind
tree_in : (kind : Kind) (p : Program) → IsProgram p → IsTree (view_in kind p)
tree_in kind p i = (scripts_make_books kind p [] i tt).tree 0

lives_in : (kind : Kind) (p : Program) (n : ℕ) → Lives p n → IsLive (view_in kind p) n
lives_in Feasible p n l = once-passes is_live n p.nodes l
lives_in Recession p n l = once-passes is_live n p.nodes l
lives_in Cost p n l = once-passes is_live n p.nodes l

alive : (p : Program) (n : ℕ) → IsLive (view_of p) n → Lives p n
alive p n h = each-once (Lives p) n (places is_live 0 p.nodes) h (each-place (Lives p) is_live p.nodes (λ n q. q))

-- a child's parent
child_parent : (p : Program) → IsProgram p → (n m : ℕ) → Lives p m → is_child (view_of p) n m ≡ true → (node_at p.nodes m).parent ≡ Some n
child_parent p i n m l e = go (node_at p.nodes m).parent refl (i.nodes m l).parent
  where
    is : ChildIs (view_of p) n m
    is = child-is (view_of p) n m e

    go : (parent : Option ℕ) → (node_at p.nodes m).parent ≡ parent → HasParent p m (node_at p.nodes m).stage parent → (node_at p.nodes m).parent ≡ Some n
    go None e h = absurd (let a : (node_at p.nodes m).stage ≡ 0 = h.1 in let b : (node_at p.nodes m).stage ≡ suc (node_at p.nodes n).stage = is.stage in omega (arith, a, b))
    go (Some q) e h = e ∙ ap (λ (k : ℕ). Some k) (sym (ap or_root e) ∙ is.parent)

-- ---- the parts of the datum
rows_same : (rows : List NodeRow) → map (derived_row Feasible) rows ≡ rows
rows_same [] = refl
rows_same (r ∷ rows) = ap (λ (rs : List NodeRow). r ∷ rs) (rows_same rows)

rows_same_cost : (rows : List NodeRow) → map (derived_row Cost) rows ≡ rows
rows_same_cost [] = refl
rows_same_cost (r ∷ rows) = ap (λ (rs : List NodeRow). r ∷ rs) (rows_same_cost rows)

costs_are : (kind : Kind) (p : Program) (n : ℕ) → derived_cost kind (node_at p.nodes n).cost ≡ (view_in kind p).cost n
costs_are Feasible p n = refl
costs_are Recession p n = refl
costs_are Cost p n = refl

rows_are : (kind : Kind) (p : Program) (n : ℕ) → map (derived_row kind) (node_at p.nodes n).rows ≡ (view_in kind p).rows n
rows_are Feasible p n = rows_same (node_at p.nodes n).rows
rows_are Recession p n = refl
rows_are Cost p n = rows_same_cost (node_at p.nodes n).rows

zeroed : (absent : ℚ) (b : Option ℚ) → zero_bound absent b ≡ Some (elim b [ None ↦ absent | Some e ↦ zero_ℚ ])
zeroed absent None = refl
zeroed absent (Some e) = refl

bound_is : (kind : Kind) (p : Program) (j : ℕ) → derived_bounds kind (bounds_of (view_of p) j) ≡ bounds_of (view_in kind p) j
bound_is Feasible p j = refl
bound_is Recession p j =
    ap₂ (λ (low high : Option ℚ). let b : ColumnBounds = record { column = j; lower = low; upper = high } in b)
    (zeroed (neg_ℚ one_ℚ) ((view_of p).lower j)) (zeroed one_ℚ ((view_of p).upper j))
bound_is Cost p j = refl

columns_at : (v : View) (k s count : ℕ) → s < count → get_or (columns_from v k count) s [] ≡ map (bounds_of v) (v.columns (k + s))
columns_at v k s zero h = absurd (omega arith)
columns_at v k zero (suc count) h = ap (λ m. map (bounds_of v) (v.columns m)) (sym (add-zero k))
columns_at v k (suc s) (suc count) h = columns_at v (suc k) s count (omega arith) ∙ ap (λ m. map (bounds_of v) (v.columns m)) (let e : suc k + s ≡ k + suc s = omega arith in e)

stage_at : (nodes : List (Option Node)) (n : ℕ) → get_or (map stage_of nodes) n 0 ≡ (node_at nodes n).stage
stage_at [] n = refl
stage_at (None ∷ nodes) zero = refl
stage_at (Some node ∷ nodes) zero = refl
stage_at (None ∷ nodes) (suc n) = stage_at nodes n
stage_at (Some node ∷ nodes) (suc n) = stage_at nodes n

stages_length : (nodes : List (Option Node)) → length (map stage_of nodes) ≡ length nodes
stages_length [] = refl
stages_length (place ∷ nodes) = ap suc (stages_length nodes)

own_columns : (p : Program) → IsProgram p → (n : ℕ) → Lives p n → columns_in (frame_of p) n ≡ map (bounds_of (view_of p)) ((view_of p).columns ((view_of p).stage n))
own_columns p i n l =
    let columns : List (List ColumnBounds) = columns_from (view_of p) 0 (length p.periods) in
    let within : n < length p.nodes = passes-within is_live n p.nodes l in
    let long : length (map stage_of p.nodes) ≡ length p.nodes = stages_length p.nodes in
    let s : ℕ = (node_at p.nodes n).stage in
    let step : 0 + s ≡ s = omega arith in
    ap (λ b. pick b (get_or columns (get_or (map stage_of p.nodes) n 0) []) []) (lt-ltb n (length (map stage_of p.nodes)) (omega (arith, within, long)))
    ∙ ap (λ k. get_or columns k []) (stage_at p.nodes n)
    ∙ columns_at (view_of p) 0 s (length p.periods) (i.nodes n l).stage
    ∙ ap (λ k. map (bounds_of (view_of p)) ((view_of p).columns k)) step

columns_same : (kind : Kind) (p : Program) (n : ℕ) → (view_of p).columns ((view_of p).stage n) ≡ (view_in kind p).columns ((view_in kind p).stage n)
columns_same Feasible p n = refl
columns_same Recession p n = refl
columns_same Cost p n = refl

bounds_are : (kind : Kind) (p : Program) → IsProgram p → (n : ℕ) → Lives p n
    → map (derived_bounds kind) (columns_in (frame_of p) n) ≡ map (bounds_of (view_in kind p)) ((view_in kind p).columns ((view_in kind p).stage n))
bounds_are kind p i n l =
    let js : List ℕ = (view_of p).columns ((view_of p).stage n) in
    ap (map (derived_bounds kind)) (own_columns p i n l) ∙ map-map (derived_bounds kind) (bounds_of (view_of p)) js
    ∙ map-same (λ j. derived_bounds kind (bounds_of (view_of p) j)) (bounds_of (view_in kind p)) js (each-all (bound_is kind p) js)
    ∙ ap (map (bounds_of (view_in kind p))) (columns_same kind p n)

own_children : (p : Program) → IsProgram p → (n : ℕ) → Lives p n → children_in (frame_of p) n ≡ children (view_of p) n
own_children p i n l =
    let step : 0 + n ≡ n = omega arith in
    children_at (map position_of p.nodes) 0 n (map position_of p.nodes) (stands_within p n l) ∙ ap (children_of (map position_of p.nodes)) step ∙ children_are p i n

shares_same : (kind : Kind) (p : Program) (n : ℕ) → map (share_of (view_of p)) (children (view_of p) n) ≡ map (share_of (view_in kind p)) (children (view_in kind p) n)
shares_same Feasible p n = refl
shares_same Recession p n = refl
shares_same Cost p n = refl

shares_are : (kind : Kind) (p : Program) (tree : Tree) → IsProgram p → tree_walk p ≡ Ok tree → (n : ℕ) → Lives p n
    → map (share_in tree) (children_in (frame_of p) n) ≡ map (share_of (view_in kind p)) (children (view_in kind p) n)
shares_are kind p tree i e n l =
    ap (map (share_in tree)) (own_children p i n l)
    ∙ map-same (share_in tree) (share_of (view_of p)) (children (view_of p) n)
    (each-child (view_of p) (tree_in Cost p i) n (λ m. share_in tree m ≡ share_of (view_of p) m) (λ m h c. share_at p tree e m n (alive p m h) l (child_parent p i n m (alive p m h) c)))
    ∙ shares_same kind p n

-- the datum as the program in the form of the kind has it
abbrev in_program : Kind → Program → ℕ → ℕ → ℕ → Datum
in_program kind p n rows_version costs_version = record {
  node = n;
  rows_version = rows_version;
  costs_version = costs_version;
  cost = (view_in kind p).cost n;
  rows = (view_in kind p).rows n;
  bounds = map (bounds_of (view_in kind p)) ((view_in kind p).columns ((view_in kind p).stage n));
  shares = map (share_of (view_in kind p)) (children (view_in kind p) n);
}

pub same_datum : (n rv cv : ℕ) {cost cost' : List Entry} {rows rows' : List NodeRow} {bounds bounds' : List ColumnBounds} {shares shares' : List Share}
    → cost ≡ cost' → rows ≡ rows' → bounds ≡ bounds' → shares ≡ shares'
    → (let d : Datum = record { node = n; rows_version = rv; costs_version = cv; cost = cost; rows = rows; bounds = bounds; shares = shares } in d)
    ≡ (let d : Datum = record { node = n; rows_version = rv; costs_version = cv; cost = cost'; rows = rows'; bounds = bounds'; shares = shares' } in d)
same_datum n rv cv c r b s = λ i. record { node = n; rows_version = rv; costs_version = cv; cost = c i; rows = r i; bounds = b i; shares = s i }

-- ---- and it is a datum
abbrev Rise : ℕ → List ℕ → Type 0
Rise k [] = Unit {0}
Rise k (n ∷ ns) = (k ≤ n) × Rise (suc n) ns

places_rise : {A : Type 0} (test : A → Bool) (k j : ℕ) (xs : List A) → k ≤ j → Rise k (places test j xs)
places_rise test k j [] h = tt
places_rise {A} test k j (x ∷ xs) h = go (test x) (places_rise test (suc j) (suc j) xs (omega arith)) (places_rise test k (suc j) xs (omega arith))
  where
    go : (b : Bool) → Rise (suc j) (places test (suc j) xs) → Rise k (places test (suc j) xs) → Rise k (elim b [ true ↦ j ∷ places test (suc j) xs | false ↦ places test (suc j) xs ])
    go true r s = (h, r)
    go false r s = s

rows_rise : (k : ℕ) (rows : List NodeRow) → Rise k (map (λ (r : NodeRow). r.row) rows) → RowsRise k rows
rows_rise k [] h = tt
rows_rise k (r ∷ rows) h = (h.0, rows_rise (suc r.row) rows h.1)

zero_rows_rise : (k : ℕ) (rows : List NodeRow) → RowsRise k rows → RowsRise k (map zero_row rows)
zero_rows_rise k [] h = tt
zero_rows_rise k (r ∷ rows) h = (h.0, zero_rows_rise (suc r.row) rows h.1)

bounds_rise : (v : View) (k : ℕ) (js : List ℕ) → Rise k js → BoundsRise k (map (bounds_of v) js)
bounds_rise v k [] h = tt
bounds_rise v k (j ∷ js) h = (h.0, bounds_rise v (suc j) js h.1)

shares_rise : (v : View) (k : ℕ) (ms : List ℕ) → Rise k ms → SharesRise k (map (share_of v) ms)
shares_rise v k [] h = tt
shares_rise v k (m ∷ ms) h = (h.0, shares_rise v (suc m) ms h.1)

or_true : (b : Bool) → (b || true) ≡ true
or_true true = refl
or_true false = refl

own : (v : View) (j : ℕ) (js : List ℕ) → Once j js → is_own (map (bounds_of v) js) j ≡ true
own v j [] h = absurd h
own v j (x ∷ js) (inl h) = ap (λ b. b || is_own (map (bounds_of v) js) j) (eq-eqb x j h.0)
own v j (x ∷ js) (inr h) = ap (λ b. eqb x j || b) (own v j js h.1) ∙ or_true (eqb x j)

quotient_above : (a t : ℚ) → zero_ℚ <ℚ a → zero_ℚ <ℚ t → zero_ℚ <ℚ a /ℚ t
quotient_above a t above positive =
    let back : a /ℚ t *ℚ t ≡ a = div_mul_ℚ a t (ne_of_gt_ℚ positive) in
    let low : zero_ℚ ≤ℚ t = lt_le_ℚ positive in
    lt_by above (λ k. subst (λ (x : ℚ). x ≤ℚ zero_ℚ) back (by_facts (a /ℚ t ∷ t ∷ []) (by_times low k end) (search terms depth 40) tt))

share_above : (v : View) → IsTree v → (n m : ℕ) → IsLive v n → IsLive v m → is_child v n m ≡ true → zero_ℚ <ℚ share v m
share_above v t n m l h c =
    quotient_above (total v m) (total v (v.parent m)) (each-once (λ n. zero_ℚ <ℚ total v n) m v.live h t.totals)
    (subst (λ (k : ℕ). zero_ℚ <ℚ total v k) (sym (child-is v n m c).parent) (each-once (λ n. zero_ℚ <ℚ total v n) n v.live l t.totals))

rows_in_order : (kind : Kind) (p : Program) → IsProgram p → (n : ℕ) → Lives p n → RowsRise 0 ((view_in kind p).rows n)
rows_in_order kind p i n l = go kind (rows_rise 0 (node_at p.nodes n).rows (subst (Rise 0) (sym (i.nodes n l).numbers) (places_rise (λ (r : Row). eqb r.stage (node_at p.nodes n).stage) 0 0 p.rows (omega arith))))
  where
    go : (kind : Kind) → RowsRise 0 (node_at p.nodes n).rows → RowsRise 0 ((view_in kind p).rows n)
    go Feasible h = h
    go Recession h = zero_rows_rise 0 (node_at p.nodes n).rows h
    go Cost h = h

costs_own : (kind : Kind) (p : Program) → IsProgram p → (n : ℕ) → Lives p n
    → Each (λ (e : Entry). is_own (map (bounds_of (view_in kind p)) ((view_in kind p).columns ((view_in kind p).stage n))) e.column ≡ true) ((view_in kind p).cost n)
costs_own Feasible p i n l = tt
costs_own Recession p i n l = each-map (λ e h. own (view_in Recession p) e.column ((view_of p).columns ((view_of p).stage n))
    (once-passes (λ (c : Column). eqb c.stage (node_at p.nodes n).stage) e.column p.columns h)) (node_at p.nodes n).cost (i.nodes n l).cost
costs_own Cost p i n l = each-map (λ e h. own (view_of p) e.column ((view_of p).columns ((view_of p).stage n))
    (once-passes (λ (c : Column). eqb c.stage (node_at p.nodes n).stage) e.column p.columns h)) (node_at p.nodes n).cost (i.nodes n l).cost

form_in : (kind : Kind) (p : Program) (n : ℕ) → IsForm (node_at p.nodes n).cost → IsForm ((view_in kind p).cost n)
form_in Feasible p n f = record { rises = tt; nonzero = tt }
form_in Recession p n f = f
form_in Cost p n f = f

children_rise : (kind : Kind) (p : Program) → IsProgram p → (n : ℕ) → Rise 0 (children (view_in kind p) n)
children_rise kind p i n = go kind (subst (Rise 0) (children_are p i n) (places_rise (is_below n) 0 0 (map position_of p.nodes) (omega arith)))
  where
    go : (kind : Kind) → Rise 0 (children (view_of p) n) → Rise 0 (children (view_in kind p) n)
    go Feasible h = h
    go Recession h = h
    go Cost h = h

columns_rise : (kind : Kind) (p : Program) (s : ℕ) → Rise 0 ((view_in kind p).columns s)
columns_rise Feasible p s = places_rise (λ (c : Column). eqb c.stage s) 0 0 p.columns (omega arith)
columns_rise Recession p s = places_rise (λ (c : Column). eqb c.stage s) 0 0 p.columns (omega arith)
columns_rise Cost p s = places_rise (λ (c : Column). eqb c.stage s) 0 0 p.columns (omega arith)

is_datum : (kind : Kind) (p : Program) → IsProgram p → (n rows_version costs_version : ℕ) → Lives p n → IsForm (node_at p.nodes n).cost
    → IsDatum (in_program kind p n rows_version costs_version)
is_datum kind p i n rv cv l f =
    let w : View = view_in kind p in
    let t : IsTree w = tree_in kind p i in
    let here : IsLive w n = lives_in kind p n l in
    let node : IsNode w n = each-once (IsNode w) n w.live here t.nodes in
    record {
      cost = form_in kind p n f;
      rows = rows_in_order kind p i n l;
      bounds = bounds_rise w 0 (w.columns (w.stage n)) (columns_rise kind p (w.stage n));
      shares = shares_rise w 0 (children w n) (children_rise kind p i n);
      own = costs_own kind p i n l;
      above = each-mapped (λ (s : Share). zero_ℚ <ℚ s.share) (share_of w) (children w n) (each-child w t n (λ m. zero_ℚ <ℚ share w m) (λ m h c. share_above w t n m here h c));
      row_ends = each-map (λ r h. h.in_order) (w.rows n) node.rows;
      column_ends = each-mapped (λ (b : ColumnBounds). InOrder b.lower b.upper) (bounds_of w) (w.columns (w.stage n)) (each-map (λ j (h : IsColumnOf w (w.stage n) j). h.in_order) (w.columns (w.stage n)) (t.columns (w.stage n)));
    }

pub data_are_the_books : DataAreTheBooks
data_are_the_books kind p tree n rv cv book h f =
    let i : IsProgram p = h.program in
    let book_is : in_program kind p n rv cv ≡ datum_of book n rv cv = same_datum n rv cv h.right.cost h.right.rows h.right.bounds h.right.shares in (
      same_datum n rv cv (costs_are kind p n) (rows_are kind p n) (bounds_are kind p i n h.lives) (shares_are kind p tree i h.walk n h.lives) ∙ book_is,
      subst IsDatum book_is (is_datum kind p i n rv cv h.lives f),
    )
