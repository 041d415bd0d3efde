-- A SET of a right-hand side moves one row of the book.
use Rattle.std.proofs.Common.{◌≡◌, ℕ, zero, suc, ◌+◌, ◌-◌, ◌<◌, ◌≤◌, Bool, true, false, ◌&&◌, ◌||◌, eqb, ltb, List, [], ◌∷◌, ◌++◌, map, length, is_some, Option, Some, None, inl, inr, refl, sym, ap, ap₂, subst, ◌∙◌, arith, eqb-true}
use Rattle.std.proofs.lemmas.Bool.{eq-eqb, ne_eqb, eqb-false, ltb-true, ltb-false, and_parts}
use Rattle.rationals.specs.Rational.{ℚ, zero_ℚ, one_ℚ, ◌-ℚ◌, by_ring, by_eqs, terms, add_zero_ℚ}
use Rattle.rationals.specs.Ring.Eqs.{done, by_eq}
use Rattle.rationals.specs.Choices.{pick}
use Rattle.smps_words.specs.declared.entry.Entry.{Entry}
use Rattle.smps_words.specs.declared.entry.Entry.TheVariants.{Cost as CostEntry, Matrix, Rhs}
use Rattle.scen_defs.specs.Lists.{Each, Once, Absent, passes_at}
use Rattle.scen_defs.specs.declared.report.Kind.{Kind}
use Rattle.scen_defs.specs.declared.report.Kind.TheVariants.{Feasible, Recession, Cost}
use Rattle.scen_defs.specs.declared.program.Row.{Row}
use Rattle.scen_defs.specs.declared.program.NodeRow.{NodeRow}
use Rattle.scen_defs.specs.Program.{Node, Program, view_of, is_live, node_at}
use Rattle.scen_defs.specs.Flat.{zero_end, zero_row}
use Rattle.scen_defs.specs.Valid.{Lives, Follows, FitsRow, FitsNode, has_low, has_high, row_at, is_reached, IsProgram}
use Rattle.scen_defs.proofs.SumLaws.{each-map, each-both}
use Rattle.scen_defs.proofs.Valid.{once-passes}
use Rattle.scen_defs.proofs.Subtrees.{no}
use Rattle.cut_defs.specs.Repairs.{moved_end, moved_row}
use Rattle.edit_defs.specs.declared.edit.Edit.{Edit}
use Rattle.edit_defs.specs.declared.edit.Edit.TheVariants.{Set, Prob, Drop, Add}
use Rattle.smps_build.specs.Ends.{Interval}
use Rattle.edit_defs.specs.Intervals.{width, Apart, HasWidth, right_side}
use Rattle.edit_defs.specs.After.{others, home_of, with_entry, with_ends, change_row, with_value, change_node, copies, after, after_edits}
use Rattle.edit_defs.specs.Applies.{IsSet, Applies, AllApply}
use Rattle.edit_defs.specs.Touches.{touches_rows, path_of}
use Rattle.edit_defs.specs.Data.{Test, one_if, version, view_in, rows_datum}
use Rattle.edit_defs.specs.Shifts.{find_row, side, move, move_in, HasWidths, IsEditAt}
use Rattle.edit_defs.specs.Laws.{WidthsStay, RightSidesShift}
use Rattle.edit_defs.proofs.Lists.{map-map, passes-within, passes-left, passes-right, node-left, node-right, changed-live, changed-there, changed-other, reached-live, reached-node}
use Rattle.edit_defs.proofs.Stays.{named-fits}
use Rattle.edit_defs.proofs.IntervalLaws.{IsInterval, interval-is}
use Rattle.edit_defs.proofs.Kept.{home-is, each-changed}
use Rattle.edit_defs.proofs.Books.{node-right as right-at, all-programs}
use Rattle.edit_defs.proofs.Programs.{edits_keep_programs}

-- ---- widths stay
with-width : (p : Program) (entry : Entry) (v : ℚ) (x : Node) → Each (λ (r : NodeRow). HasWidth (row_at p.rows r.row) r) x.rows → Each (λ (r : NodeRow). HasWidth (row_at p.rows r.row) r) (with_value p entry v x).rows
with-width p (CostEntry j) v x h = h
with-width p (Matrix i j) v x h = each-changed (λ (r : NodeRow). HasWidth (row_at p.rows r.row) r) i (with_entry j v) (λ r e k. record { apart = k.apart }) x.rows h
with-width p (Rhs i) v x h = each-changed (λ (r : NodeRow). HasWidth (row_at p.rows r.row) r) i (with_ends (right_side (row_at p.rows i) v))
    (λ r e k. subst (λ (j : ℕ). HasWidth (row_at p.rows j) (with_ends (right_side (row_at p.rows i) v) r)) (sym e) (record { apart = (interval-is (row_at p.rows i).kind v (row_at p.rows i).range).apart })) x.rows h

copies-rows : (P : List NodeRow → Type 0) (p : Program) (t s : ℕ) (above above' : Option ℕ) (k : ℕ) (path : List ℕ) → ((n : ℕ) → Lives p n → P (node_at p.nodes n).rows) → Follows p s above path
    → (i : ℕ) → i < length (copies p.nodes t above' k path) → P (node_at (copies p.nodes t above' k path) i).rows
copies-rows P p zero s above above' k [] h f i l = absurd (omega (arith, l))
copies-rows P p (suc t) s above above' k [] h f i l = absurd (omega (arith, l))
copies-rows P p zero s above above' k (n ∷ path) h f zero l = h n f.0
copies-rows P p zero s above above' k (n ∷ path) h f (suc i) l = copies-rows P p zero (suc s) (Some n) (Some k) (suc k) path h f.3 i (omega (arith, l))
copies-rows P p (suc t) s above above' k (n ∷ path) h f i l = copies-rows P p t (suc s) (Some n) (Some n) k path h f.3 i l

width-stays : (p : Program) (e : Edit) → IsProgram p → Applies p e → HasWidths p → HasWidths (after p e)
width-stays p (Set name entry v) i a h n l = go (eqb n (home_of p name entry)) refl
  where
    lives : Lives p n
    lives = sym (changed-live n (home_of p name entry) (with_value p entry v) p.nodes) ∙ l

    go : (b : Bool) → eqb n (home_of p name entry) ≡ b → Each (λ (r : NodeRow). HasWidth (row_at p.rows r.row) r) (node_at (change_node (home_of p name entry) (with_value p entry v) p.nodes) n).rows
    go true e = let d : n ≡ home_of p name entry = eqb-true n (home_of p name entry) e in
        subst (λ (x : Node). Each (λ (r : NodeRow). HasWidth (row_at p.rows r.row) r) x.rows) (sym (ap (λ (k : ℕ). node_at (change_node (home_of p name entry) (with_value p entry v) p.nodes) k) d ∙ changed-there (home_of p name entry) (with_value p entry v) p.nodes (home-is p i name entry a).0))
        (with-width p entry v (node_at p.nodes (home_of p name entry)) (h (home_of p name entry) (home-is p i name entry a).0))
    go false e = subst (λ (x : Node). Each (λ (r : NodeRow). HasWidth (row_at p.rows r.row) r) x.rows) (sym (changed-other n (home_of p name entry) (with_value p entry v) p.nodes (eqb-false n (home_of p name entry) e))) (h n lives)
width-stays p (Prob name q) i a h n l = h n l
width-stays p (Drop name) i a h n l = subst (λ (x : Node). Each (λ (r : NodeRow). HasWidth (row_at p.rows r.row) r) x.rows) (sym (reached-node (others name p.scenarios) n 0 p.nodes l))
    (h n (and_parts (passes_at is_live n p.nodes) (is_reached n (others name p.scenarios)) (sym (reached-live (others name p.scenarios) n n 0 p.nodes (omega arith)) ∙ l)).0)
width-stays p (Add name parent q t) i a h n l = go (ltb n (length p.nodes)) refl
  where
    cs : List (Option Node)
    cs = copies p.nodes t None (length p.nodes) (path_of p parent)

    go : (b : Bool) → ltb n (length p.nodes) ≡ b → Each (λ (r : NodeRow). HasWidth (row_at p.rows r.row) r) (node_at (p.nodes ++ cs) n).rows
    go true e = let b : n < length p.nodes = ltb-true n (length p.nodes) e in
        subst (λ (x : Node). Each (λ (r : NodeRow). HasWidth (row_at p.rows r.row) r) x.rows) (sym (node-left n p.nodes cs b)) (h n (sym (passes-left is_live n p.nodes cs b) ∙ l))
    go false e = let b : length p.nodes ≤ n = ltb-false n (length p.nodes) e in let d : n ≡ length p.nodes + (n - length p.nodes) = omega (arith, b) in
        subst (λ (x : Node). Each (λ (r : NodeRow). HasWidth (row_at p.rows r.row) r) x.rows) (sym (node-right (n - length p.nodes) n p.nodes cs d))
        (copies-rows (Each (λ (r : NodeRow). HasWidth (row_at p.rows r.row) r)) p t 0 None None (length p.nodes) (path_of p parent) h (named-fits p i parent a.known).path (n - length p.nodes)
        (passes-within is_live (n - length p.nodes) cs (sym (passes-right is_live (n - length p.nodes) n p.nodes cs d) ∙ l)))

pub widths_stay : WidthsStay
widths_stay p [] k i a h = h
widths_stay p (e ∷ es) zero i a h = h
widths_stay p (e ∷ es) (suc k) i a h = widths_stay (after p e) es k (edits_keep_programs p e i a.0) a.1 (width-stays p e i a.0 h)

-- ---- the next program and the next version
pub after-next : (p : Program) (es : List Edit) (k : ℕ) (e : Edit) → IsEditAt k es e → after_edits (suc k) p es ≡ after (after_edits k p es) e
after-next p [] k e h = absurd h
after-next p (f ∷ []) zero e h = ap (after p) h
after-next p (f ∷ g ∷ es) zero e h = ap (after p) h
after-next p (f ∷ es) (suc k) e h = after-next (after p f) es k e h

pub version-next : (touched : Test) (p : Program) (es : List Edit) (k : ℕ) (e : Edit) (n : ℕ) → IsEditAt k es e → version touched (suc k) p es n ≡ version touched k p es n + one_if (touched (after_edits k p es) e n)
version-next touched p [] k e n h = absurd h
version-next touched p (f ∷ []) zero e n h = let q : one_if (touched p f n) ≡ one_if (touched p e n) = ap (λ (e : Edit). one_if (touched p e n)) h in omega (arith, q)
version-next touched p (f ∷ g ∷ es) zero e n h = let q : one_if (touched p f n) ≡ one_if (touched p e n) = ap (λ (e : Edit). one_if (touched p e n)) h in omega (arith, q)
version-next touched p (f ∷ es) (suc k) e n h = let r : version touched (suc k) (after p f) es n ≡ version touched k (after p f) es n + one_if (touched (after_edits k (after p f) es) e n) = version-next touched (after p f) es k e n h in omega (arith, r)

pub applies-at : (p : Program) (es : List Edit) (k : ℕ) (e : Edit) → AllApply p es → IsEditAt k es e → Applies (after_edits k p es) e
applies-at p [] k e a h = absurd h
applies-at p (f ∷ es) zero e a h = subst (Applies p) h a.0
applies-at p (f ∷ es) (suc k) e a h = applies-at (after p f) es k e a.1 h

-- ---- one row moved
one-moves : (low high low' high' : Option ℚ) (w : ℚ) → is_some low ≡ is_some low' → is_some high ≡ is_some high' → Apart low high w → Apart low' high' w
    → (moved_end (side low' high' -ℚ side low high) low ≡ low') × (moved_end (side low' high' -ℚ side low high) high ≡ high')
one-moves None None None None w a b p q = (refl, refl)
one-moves None (Some h) None (Some h') w a b p q = (refl, ap (λ z. let x : Option ℚ = Some z in x) (by_ring (h ∷ h' ∷ []) (search terms depth 40) tt))
one-moves (Some l) None (Some l') None w a b p q = (ap (λ z. let x : Option ℚ = Some z in x) (by_ring (l ∷ l' ∷ []) (search terms depth 40) tt), refl)
one-moves (Some l) (Some h) (Some l') (Some h') w a b p q = (
  ap (λ z. let x : Option ℚ = Some z in x) (by_ring (l ∷ l' ∷ []) (search terms depth 40) tt),
  ap (λ z. let x : Option ℚ = Some z in x) (by_eqs (l ∷ h ∷ l' ∷ h' ∷ w ∷ []) (by_eq one_ℚ p (by_eq (zero_ℚ -ℚ one_ℚ) q done)) (search terms depth 40) tt),
)
one-moves None None None (Some h') w a b p q = absurd (no (sym b) refl)
one-moves None (Some h) None None w a b p q = absurd (no b refl)
one-moves None high (Some l') high' w a b p q = absurd (no (sym a) refl)
one-moves (Some l) high None high' w a b p q = absurd (no a refl)
one-moves (Some l) None (Some l') (Some h') w a b p q = absurd (no (sym b) refl)
one-moves (Some l) (Some h) (Some l') None w a b p q = absurd (no b refl)

zero-moves : (low low' : Option ℚ) → is_some low ≡ is_some low' → moved_end zero_ℚ (zero_end low) ≡ zero_end low'
zero-moves None None a = refl
zero-moves None (Some l') a = absurd (no (sym a) refl)
zero-moves (Some l) None a = absurd (no a refl)
zero-moves (Some l) (Some l') a = ap (λ z. let x : Option ℚ = Some z in x) (add_zero_ℚ zero_ℚ)

-- rows in another form, one of them changed: where that change is a move of the form, the whole is
abbrev Moves : (NodeRow → NodeRow) → (NodeRow → NodeRow) → ℚ → ℕ → List NodeRow → NodeRow → Type 0
Moves g f by i rows r = r.row ≡ i → r ≡ find_row i rows → g (f r) ≡ record (g r) { low = moved_end by (g r).low; high = moved_end by (g r).high }

rows-move : (g : NodeRow → NodeRow) → ((r : NodeRow) → (g r).row ≡ r.row) → (i : ℕ) (f : NodeRow → NodeRow) (by : ℚ) (rows : List NodeRow) → Once i (map (λ (r : NodeRow). r.row) rows)
    → Each (Moves g f by i rows) rows
    → map g (map (change_row i f) rows) ≡ map (moved_row i by) (map g rows)
rows-move g keep i f by [] o h = refl
rows-move g keep i f by (r ∷ rows) (inl o) h = ap₂ (λ (x : NodeRow) xs. x ∷ xs) head (rest rows o.1)
  where
    first : eqb r.row i ≡ true
    first = eq-eqb r.row i o.0

    head : g (pick (eqb r.row i) (f r) r) ≡ moved_row i by (g r)
    head = ap (λ b. g (pick b (f r) r)) first ∙ h.0 o.0 (ap (λ b. pick b r (find_row i rows)) (sym first))
        ∙ ap (λ b. elim b [ true ↦ record (g r) { low = moved_end by (g r).low; high = moved_end by (g r).high } | false ↦ g r ]) (sym first ∙ ap (λ (k : ℕ). eqb k i) (sym (keep r)))

    rest : (rows : List NodeRow) → Absent i (map (λ (r : NodeRow). r.row) rows) → map g (map (change_row i f) rows) ≡ map (moved_row i by) (map g rows)
    rest [] a = refl
    rest (r ∷ rows) a = ap₂ (λ (x : NodeRow) xs. x ∷ xs) (ap (λ b. g (pick b (f r) r)) (ne_eqb r.row i a.0)
        ∙ ap (λ b. elim b [ true ↦ record (g r) { low = moved_end by (g r).low; high = moved_end by (g r).high } | false ↦ g r ]) (sym (ne_eqb r.row i a.0) ∙ ap (λ (k : ℕ). eqb k i) (sym (keep r)))) (rest rows a.1)
rows-move g keep i f by (r ∷ rows) (inr o) h = ap₂ (λ (x : NodeRow) xs. x ∷ xs)
    (ap (λ b. g (pick b (f r) r)) (ne_eqb r.row i o.0) ∙ ap (λ b. elim b [ true ↦ record (g r) { low = moved_end by (g r).low; high = moved_end by (g r).high } | false ↦ g r ]) (sym (ne_eqb r.row i o.0) ∙ ap (λ (k : ℕ). eqb k i) (sym (keep r))))
    (rows-move g keep i f by rows o.1 (each-map {P = Moves g f by i (r ∷ rows)} {Q = Moves g f by i rows} (λ s k e d. k e (d ∙ ap (λ b. pick b r (find_row i rows)) (sym (ne_eqb r.row i o.0)))) rows h.1))

map-id : (rows : List NodeRow) → map (λ (r : NodeRow). r) rows ≡ rows
map-id [] = refl
map-id (r ∷ rows) = ap (λ rs. r ∷ rs) (map-id rows)

-- ---- the rows of the edit's node before and after
record Moved (p : Program) (name : List ℕ) (i : ℕ) (v : ℚ) : Type 0 where
  once : Once i (map (λ (r : NodeRow). r.row) (node_at p.nodes (home_of p name (Rhs i))).rows)
  plain : (view_of (after p (Set name (Rhs i) v))).rows (home_of p name (Rhs i)) ≡ map (moved_row i (move p name i v)) (node_at p.nodes (home_of p name (Rhs i))).rows
  zeros : map zero_row ((view_of (after p (Set name (Rhs i) v))).rows (home_of p name (Rhs i))) ≡ map (moved_row i zero_ℚ) (map zero_row (node_at p.nodes (home_of p name (Rhs i))).rows)

moved : (p : Program) (name : List ℕ) (i : ℕ) (v : ℚ) → IsProgram p → IsSet p name (Rhs i) → HasWidths p → Moved p name i v
moved p name i v g a w = record {
  once = once;
  plain = there ∙ sym (map-id (map (change_row i f) rows)) ∙ rows-move (λ r. r) (λ r. refl) i f (move p name i v) rows once (each-both plain rows fits.rows (w n home.0)) ∙ ap (map (moved_row i (move p name i v))) (map-id rows);
  zeros = ap (map zero_row) there ∙ rows-move zero_row (λ r. refl) i f zero_ℚ rows once (each-map zeros rows fits.rows);
}
  where
    n : ℕ
    n = home_of p name (Rhs i)

    home : Lives p (home_of p name (Rhs i)) × ((node_at p.nodes (home_of p name (Rhs i))).stage ≡ (row_at p.rows i).stage)
    home = home-is p g name (Rhs i) a

    fits : FitsNode p (home_of p name (Rhs i)) (node_at p.nodes (home_of p name (Rhs i)))
    fits = g.nodes (home_of p name (Rhs i)) home.0

    rows : List NodeRow
    rows = (node_at p.nodes (home_of p name (Rhs i))).rows

    ends : Interval
    ends = right_side (row_at p.rows i) v

    f : NodeRow → NodeRow
    f = with_ends (right_side (row_at p.rows i) v)

    is : IsInterval (row_at p.rows i).kind (row_at p.rows i).range (right_side (row_at p.rows i) v)
    is = interval-is (row_at p.rows i).kind v (row_at p.rows i).range

    there : (view_of (after p (Set name (Rhs i) v))).rows n ≡ map (change_row i f) rows
    there = ap (λ (x : Node). x.rows) (changed-there n (with_value p (Rhs i) v) p.nodes home.0)

    row-passes : (test : Row → Bool) (i : ℕ) (rs : List Row) → i < length rs → test (row_at rs i) ≡ true → passes_at test i rs ≡ true
    row-passes test i [] h t = absurd (omega (arith, h))
    row-passes test zero (r ∷ rs) h t = t
    row-passes test (suc i) (r ∷ rs) h t = row-passes test i rs (omega (arith, h)) t

    once : Once i (map (λ (r : NodeRow). r.row) (node_at p.nodes (home_of p name (Rhs i))).rows)
    once = subst (Once i) (sym fits.numbers) (once-passes (λ (r : Row). eqb r.stage (node_at p.nodes (home_of p name (Rhs i))).stage) i p.rows
        (row-passes (λ (r : Row). eqb r.stage (node_at p.nodes (home_of p name (Rhs i))).stage) i p.rows a.entry_is (eq-eqb (row_at p.rows i).stage (node_at p.nodes (home_of p name (Rhs i))).stage (sym home.1))))

    -- the old ends are there where the new ones are
    old-ends : (r : NodeRow) → FitsRow p (node_at p.nodes n).stage r → r.row ≡ i → (is_some r.low ≡ is_some ends.0) × (is_some r.high ≡ is_some ends.1)
    old-ends r k e = (subst (λ (j : ℕ). is_some r.low ≡ has_low (row_at p.rows j).kind (row_at p.rows j).range) e k.ends.low ∙ sym is.low, subst (λ (j : ℕ). is_some r.high ≡ has_high (row_at p.rows j).kind (row_at p.rows j).range) e k.ends.high ∙ sym is.high)

    plain : (r : NodeRow) → FitsRow p (node_at p.nodes n).stage r → HasWidth (row_at p.rows r.row) r → Moves (λ r. r) f (move p name i v) i rows r
    plain r k x e d =
        let q : (moved_end (side ends.0 ends.1 -ℚ side r.low r.high) r.low ≡ ends.0) × (moved_end (side ends.0 ends.1 -ℚ side r.low r.high) r.high ≡ ends.1)
        = one-moves r.low r.high ends.0 ends.1 (width (row_at p.rows i).range) (old-ends r k e).0 (old-ends r k e).1 (subst (λ (j : ℕ). Apart r.low r.high (width (row_at p.rows j).range)) e x.apart) is.apart in
        sym (ap (λ (o : NodeRow). record r { low = moved_end (side ends.0 ends.1 -ℚ side o.low o.high) r.low; high = moved_end (side ends.0 ends.1 -ℚ side o.low o.high) r.high }) (sym d)
        ∙ ap₂ (λ (l h : Option ℚ). record r { low = l; high = h }) q.0 q.1)

    zeros : (r : NodeRow) → FitsRow p (node_at p.nodes n).stage r → Moves zero_row f zero_ℚ i rows r
    zeros r k e d = ap₂ (λ (l h : Option ℚ). record r { low = l; high = h }) (sym (zero-moves r.low ends.0 (old-ends r k e).0)) (sym (zero-moves r.high ends.1 (old-ends r k e).1))

moved-in : (kind : Kind) (p : Program) (name : List ℕ) (i : ℕ) (v : ℚ) → Moved p name i v
    → (view_in kind (after p (Set name (Rhs i) v))).rows (home_of p name (Rhs i)) ≡ map (moved_row i (move_in kind (move p name i v))) ((view_in kind p).rows (home_of p name (Rhs i)))
moved-in Feasible p name i v m = m.plain
moved-in Recession p name i v m = m.zeros
moved-in Cost p name i v m = m.plain

once-in : (kind : Kind) (p : Program) (name : List ℕ) (i : ℕ) (v : ℚ) → Moved p name i v → Once i (map (λ (r : NodeRow). r.row) ((view_in kind p).rows (home_of p name (Rhs i))))
once-in Feasible p name i v m = m.once
once-in Recession p name i v m = subst (Once i) (sym (map-map (λ (r : NodeRow). r.row) zero_row (node_at p.nodes (home_of p name (Rhs i))).rows)) m.once
once-in Cost p name i v m = m.once

pub right_sides_shift : RightSidesShift
right_sides_shift kind p es k name i v g all w at = record {
  rows = λ u e. rows ∙ ap (λ (x : ℕ). map (moved_row i (move_in kind (move q name i v))) (rows_datum kind p es n x)) (same u e);
  once = λ u e. subst (λ (x : ℕ). Once i (map (λ (r : NodeRow). r.row) (rows_datum kind p es n x))) (same u e) once;
}
  where
    q : Program
    q = after_edits k p es

    n : ℕ
    n = home_of (after_edits k p es) name (Rhs i)

    good : IsProgram q
    good = all-programs edits_keep_programs es k p g all

    fits : IsSet q name (Rhs i)
    fits = applies-at p es k (Set name (Rhs i) v) all at

    home : Lives q n
    home = (home-is q good name (Rhs i) fits).0

    m : Moved q name i v
    m = moved q name i v good fits (widths_stay p es k g all w)

    step : after_edits (suc k) p es ≡ after q (Set name (Rhs i) v)
    step = after-next p es k (Set name (Rhs i) v) at

    next : suc (version touches_rows k p es n) ≡ version touches_rows (suc k) p es n
    next = (let e : suc (version touches_rows k p es n) ≡ version touches_rows k p es n + 1 = omega arith in e)
        ∙ ap (λ b. version touches_rows k p es n + one_if (b && true || false)) (sym (eq-eqb n n refl))
        ∙ sym (version-next touches_rows p es k (Set name (Rhs i) v) n at)

    after-it : (j : ℕ) → Lives (after_edits j p es) n → (view_in kind (after_edits j p es)).rows n ≡ rows_datum kind p es n (version touches_rows j p es n)
    after-it j l = (right-at edits_keep_programs kind p es g all j n l).rows

    same : (u : ℕ) → suc u ≡ suc (version touches_rows k p es n) → version touches_rows k p es n ≡ u
    same u e = omega (arith, e)

    rows : rows_datum kind p es n (suc (version touches_rows k p es n)) ≡ map (moved_row i (move_in kind (move q name i v))) (rows_datum kind p es n (version touches_rows k p es n))
    rows = ap (λ (x : ℕ). rows_datum kind p es n x) next ∙ sym (after-it (suc k) (subst (λ (r : Program). Lives r n) (sym step) (changed-live n n (with_value q (Rhs i) v) q.nodes ∙ home)))
        ∙ ap (λ (r : Program). (view_in kind r).rows n) step ∙ moved-in kind q name i v m ∙ ap (map (moved_row i (move_in kind (move q name i v)))) (after-it k home)

    once : Once i (map (λ (r : NodeRow). r.row) (rows_datum kind p es n (version touches_rows k p es n)))
    once = subst (λ (rs : List NodeRow). Once i (map (λ (r : NodeRow). r.row) rs)) (after-it k home) (once-in kind q name i v m)
