-- A Bound cut that is made of cuts of a task is at most what a point of the task's program costs: weak duality at a node.
use Rattle.std.proofs.Common.{◌≡◌, ◌∙◌, ℕ, zero, suc, ◌<◌, ◌≤◌, Bool, true, false, ◌&&◌, ◌||◌, eqb, List, [], ◌∷◌, inl, inr}
use Rattle.std.proofs.Common.{Option, Some, None, map, length, get_or, refl, sym, ap, ap₂, subst, arith, eqb-true}
use Rattle.std.proofs.lemmas.Bool.{eq-eqb, ne_eqb, eqb-false}
use Rattle.std.specs.List.{Contains}
use Rattle.rationals.specs.Rational.{ℚ, zero_ℚ, ◌+ℚ◌, ◌-ℚ◌, ◌*ℚ◌, ◌≤ℚ◌, ◌<ℚ◌, by_ring, by_linear, by_facts, terms}
use Rattle.rationals.specs.Rational.{one_ℚ, zero_lt_one_ℚ, not_le_of_lt_ℚ, lt_le_ℚ, mul_mono_ℚ, mul_zero_ℚ, zero_mul_ℚ, add_comm_ℚ}
use Rattle.rationals.specs.Ring.Given.{nothing, fact, equal}
use Rattle.rationals.specs.Ring.Facts.{end, by_le}
use Rattle.rationals.specs.Sums.{sum_ℚ, sum-map, sum-add, sum-zero}
use Rattle.rationals.specs.Sparse.{Entry, coefficient, product, value_if, product-along}
use Rattle.scen_defs.specs.Lists.{Each, Absent, Once}
use Rattle.rationals.specs.Intervals.{Between}
use Rattle.scen_defs.specs.Ends.{IsGoodAt, worth}
use Rattle.scen_defs.specs.declared.program.NodeRow.{NodeRow}
use Rattle.scen_defs.proofs.SumLaws.{each-map, each-both, sum-ext, sum-same, sum-below, sum-pick, product-over}
use Rattle.scen_defs.proofs.EndLaws.{worth-below}
use Rattle.cut_defs.specs.declared.datum.ColumnBounds.{ColumnBounds}
use Rattle.cut_defs.specs.declared.datum.Share.{Share}
use Rattle.cut_defs.specs.declared.kinds.CutKind.{CutKind}
use Rattle.cut_defs.specs.declared.kinds.CutKind.TheVariants.{Bound, Ray}
use Rattle.cut_defs.specs.Cuts.{is_bound}
use Rattle.cut_defs.specs.Data.{Datum, BoundsRise, SharesRise, is_own}
use Rattle.cut_defs.specs.Stored.{Source, Stored, StoredUses, source_of, constant_of, form_of, form_sum, constant_sum, slope_of}
use Rattle.cut_defs.specs.Stored.{cost_of as datum_cost, reduced_of, weight_on, WeightsFit, IsEarlier}
use Rattle.cut_defs.specs.Stored.StoredUses.{No_stored, Use_stored}
use Rattle.cut_proof.specs.declared.child.ChildCuts.{ChildCuts}
use Rattle.node_lp.specs.declared.task.Task.{Task}
use Rattle.node_lp.specs.Places.{OfColumns}
use Rattle.node_lp.specs.Problem.{held, PlacedCut, is_priced, taken_of, taken, problem_of, child_at, IsCut, IsOther, IsProblem}
use Rattle.node_lp.specs.Records.{shared_cost, limit_of, Meets, cost_at}
use Rattle.node_lp.specs.Answers.{LooseAnswer}
use Rattle.node_lp.proofs.Columns.{each_split}
use Rattle.node_lp.proofs.CutAnswers.{none_earlier}
use Rattle.node_lp.proofs.Pairing.{product_add, product_sub, product_times, product_none, product_ext, pairing}
use Rattle.answer_laws.specs.Bounds.{StandsAmong, UsesAmong, IsBoundOf, BoundsHoldAtPoints, NeverLoose}
use Rattle.answer_laws.proofs.Costs.{cost_by, from_on, cost_at_place, shared_is}

-- ---- what holds of each member
each_index : {A : Type 0} (P : A → Type 0) (xs : List A) (i : ℕ) (d : A) → i < length xs → Each P xs → P (get_or xs i d)
each_index P [] i d l h = absurd (omega (arith, l))
each_index P (x ∷ xs) zero d l h = h.0
each_index P (x ∷ xs) (suc i) d l h = each_index P xs i d (omega (arith, l)) h.1

each_contains : {A : Type 0} (P : A → Type 0) (xs : List A) (x : A) → Each P xs → Contains xs x → P x
each_contains P xs x h c = subst P c.2 (each_index P xs c.0 x c.1 h)

-- ---- of columns and of children that rise each stands once
later_columns : (n j : ℕ) (bs : List ColumnBounds) → BoundsRise n bs → j < n → Absent j (map (λ (b : ColumnBounds). b.column) bs)
later_columns n j [] r l = tt
later_columns n j (b ∷ bs) r l =
    let low : n ≤ b.column = r.0 in
    ((λ e. absurd (omega (arith, low, l, e))), later_columns (suc b.column) j bs r.1 (omega (arith, low, l)))

once_own : (n j : ℕ) (bs : List ColumnBounds) → BoundsRise n bs → is_own bs j ≡ true
    → Once j (map (λ (b : ColumnBounds). b.column) bs)
once_own n j [] r e = absurd (let no : false ≡ true = e in cc)
once_own n j (b ∷ bs) r e = go (eqb b.column j) refl e (λ f. once_own (suc b.column) j bs r.1 f)
  where
    go : (t : Bool) → eqb b.column j ≡ t → (t || is_own bs j) ≡ true
        → (is_own bs j ≡ true → Once j (map (λ (b : ColumnBounds). b.column) bs))
        → Once j (map (λ (b : ColumnBounds). b.column) (b ∷ bs))
    go true q e rest =
        let same : b.column ≡ j = eqb-true b.column j q in inl (same, later_columns (suc b.column) j bs r.1 (omega (arith, same)))
    go false q e rest = inr (eqb-false b.column j q, rest e)

later_children : (n m : ℕ) (ss : List Share) → SharesRise n ss → m < n → Absent m (map (λ (s : Share). s.child) ss)
later_children n m [] r l = tt
later_children n m (s ∷ ss) r l =
    let low : n ≤ s.child = r.0 in
    ((λ e. absurd (omega (arith, low, l, e))), later_children (suc s.child) m ss r.1 (omega (arith, low, l)))

once_child : (n k m : ℕ) (ss : List Share) → SharesRise n ss → child_at ss k ≡ Some m → Once m (map (λ (s : Share). s.child) ss)
once_child n k m [] r e = absurd (let no : ◌≡◌ {A = Option ℕ} None (Some m) = e in cc)
once_child n zero m (s ∷ ss) r e =
    let same : s.child ≡ m = (let some : ◌≡◌ {A = Option ℕ} (Some s.child) (Some m) = e in cc) in
    inl (same, later_children (suc s.child) m ss r.1 (omega (arith, same)))
once_child n (suc k) m (s ∷ ss) r e =
    let rest : suc s.child ≤ m = from_on (suc s.child) k m ss r.1 e in
    inr ((λ same. absurd (omega (arith, rest, same))), once_child (suc s.child) k m ss r.1 e)

-- ---- a form times the slopes of a record
-- weight times what the used cuts' forms are worth where the columns have the values z
abbrev uses_at : StoredUses → (ℕ → ℚ) → ℚ
uses_at No_stored z = zero_ℚ
uses_at (Use_stored w cut uses) z = w *ℚ product (form_of cut) z +ℚ uses_at uses z

-- what the rows are worth there, times their multipliers
abbrev rows_at : List NodeRow → (ℕ → ℚ) → (ℕ → ℚ) → ℚ
rows_at rows y z = sum_ℚ (λ (r : NodeRow). product r.entries z *ℚ y r.row) rows

uses_paired : (g : List Entry) (uses : StoredUses) → product g (form_sum uses) ≡ uses_at uses (coefficient g)
uses_paired g No_stored = product_none g
uses_paired g (Use_stored w cut uses) =
    product_ext g (λ j. w *ℚ coefficient (form_of cut) j +ℚ form_sum uses j) (λ j. form_sum uses j +ℚ w *ℚ coefficient (form_of cut) j)
    (λ j. add_comm_ℚ (w *ℚ coefficient (form_of cut) j) (form_sum uses j))
    ∙ product-along g (form_sum uses) (coefficient (form_of cut)) w
    ∙ ap₂ (λ p q. p +ℚ w *ℚ q) (uses_paired g uses) (pairing g (form_of cut))
    ∙ add_comm_ℚ (uses_at uses (coefficient g)) (w *ℚ product (form_of cut) (coefficient g))

rows_paired : (g : List Entry) (y : ℕ → ℚ) (rows : List NodeRow)
    → product g (λ j. sum_ℚ (λ (r : NodeRow). coefficient r.entries j *ℚ y r.row) rows) ≡ rows_at rows y (coefficient g)
rows_paired g y [] = product_none g
rows_paired g y (r ∷ rows) =
    product_add g (λ j. coefficient r.entries j *ℚ y r.row) (λ j. sum_ℚ (λ (s : NodeRow). coefficient s.entries j *ℚ y s.row) rows)
    ∙ ap₂ ◌+ℚ◌ (product_times g (coefficient r.entries) (y r.row) ∙ ap (λ q. q *ℚ y r.row) (pairing g r.entries)) (rows_paired g y rows)

slopes_paired : (d : Datum) (s : Source) (uses : StoredUses) (g : List Entry)
    → product g (slope_of d s uses) ≡ uses_at uses (coefficient g) -ℚ rows_at d.rows (coefficient s.multipliers) (coefficient g)
slopes_paired d s uses g =
    product_sub g (form_sum uses) (λ j. sum_ℚ (λ (r : NodeRow). coefficient r.entries j *ℚ coefficient s.multipliers r.row) d.rows)
    ∙ ap₂ ◌-ℚ◌ (uses_paired g uses) (rows_paired g (coefficient s.multipliers) d.rows)

uses_add : (uses : StoredUses) (a b : ℕ → ℚ) → uses_at uses (λ j. a j +ℚ b j) ≡ uses_at uses a +ℚ uses_at uses b
uses_add No_stored a b = by_ring [] (search terms depth 40) tt
uses_add (Use_stored w cut uses) a b =
    ap₂ (λ p q. w *ℚ p +ℚ q) (product_add (form_of cut) a b) (uses_add uses a b)
    ∙ by_ring (w ∷ product (form_of cut) a ∷ product (form_of cut) b ∷ uses_at uses a ∷ uses_at uses b ∷ []) (search terms depth 40) tt

rows_add : (rows : List NodeRow) (y a b : ℕ → ℚ) → rows_at rows y (λ j. a j +ℚ b j) ≡ rows_at rows y a +ℚ rows_at rows y b
rows_add [] y a b = by_ring [] (search terms depth 40) tt
rows_add (r ∷ rows) y a b =
    ap₂ (λ p q. p *ℚ y r.row +ℚ q) (product_add r.entries a b) (rows_add rows y a b)
    ∙ by_ring (y r.row ∷ product r.entries a ∷ product r.entries b ∷ rows_at rows y a ∷ rows_at rows y b ∷ []) (search terms depth 40) tt

-- ---- the used cuts lie below the costs of their children
-- a Bound cut is limited by this cost, a Ray cut by 0
abbrev limit_by : CutKind → ℚ → ℚ
limit_by Bound cost = cost
limit_by Ray cost = zero_ℚ

abbrev limits_by : (ℕ → ℚ) → StoredUses → ℚ
limits_by cost No_stored = zero_ℚ
limits_by cost (Use_stored w cut uses) = w *ℚ limit_by (source_of cut).kind (cost (source_of cut).node) +ℚ limits_by cost uses

-- each weight is above 0, and each used cut is about one of these children, and within its limit at the values z
abbrev IsWithin : List ℕ → (ℕ → ℚ) → (ℕ → ℚ) → Stored → Type 0
IsWithin ms cost z cut = Once (source_of cut).node ms
    × (constant_of cut +ℚ product (form_of cut) z ≤ℚ limit_by (source_of cut).kind (cost (source_of cut).node))

abbrev AreWithin : List ℕ → (ℕ → ℚ) → (ℕ → ℚ) → StoredUses → Type 0
AreWithin ms cost z No_stored = Unit {0}
AreWithin ms cost z (Use_stored w cut uses) = (zero_ℚ <ℚ w) × IsWithin ms cost z cut × AreWithin ms cost z uses

one_below : (w c p l d u m : ℚ) → w *ℚ (c +ℚ p) ≤ℚ w *ℚ l → d +ℚ u ≤ℚ m → (w *ℚ c +ℚ d) +ℚ (w *ℚ p +ℚ u) ≤ℚ w *ℚ l +ℚ m
one_below w c p l d u m h k = by_linear (w ∷ c ∷ p ∷ l ∷ d ∷ u ∷ m ∷ []) (fact h (fact k nothing)) (search terms depth 40) tt

uses_below : (ms : List ℕ) (cost z : ℕ → ℚ) (uses : StoredUses) → AreWithin ms cost z uses
    → constant_sum uses +ℚ uses_at uses z ≤ℚ limits_by cost uses
uses_below ms cost z No_stored h = by_linear [] nothing (search terms depth 40) tt
uses_below ms cost z (Use_stored w cut uses) h =
    one_below w (constant_of cut) (product (form_of cut) z) (limit_by (source_of cut).kind (cost (source_of cut).node)) (constant_sum uses)
    (uses_at uses z) (limits_by cost uses) (mul_mono_ℚ (lt_le_ℚ h.0) h.1.1) (uses_below ms cost z uses h.2)

one_limit : (cost : ℕ → ℚ) (w : ℚ) (kind : CutKind) (m : ℕ) (ms : List ℕ) → Once m ms
    → w *ℚ limit_by kind (cost m) ≡ sum_ℚ (λ k. value_if (is_bound kind && eqb m k) w *ℚ cost k) ms
one_limit cost w Ray m ms h = mul_zero_ℚ w ∙ sym (sum-ext _ (λ k. zero_ℚ) (λ k. zero_mul_ℚ (cost k)) ms ∙ sum-zero ms)
one_limit cost w Bound m ms h =
    sym (sum-pick m (λ k. value_if (eqb m k) w *ℚ cost k) ms h (others ms) ∙ ap (λ b. value_if b w *ℚ cost m) (eq-eqb m m refl))
  where
    others : (ks : List ℕ) → Each (λ k. (k ≡ m → ⊥) → value_if (eqb m k) w *ℚ cost k ≡ zero_ℚ) ks
    others [] = tt
    others (k ∷ ks) = ((λ ne. ap (λ b. value_if b w *ℚ cost k) (ne_eqb m k (λ p. ne (sym p))) ∙ zero_mul_ℚ (cost k)), others ks)

limits_by_child : (ms : List ℕ) (cost z : ℕ → ℚ) (uses : StoredUses) → AreWithin ms cost z uses
    → limits_by cost uses ≡ sum_ℚ (λ m. weight_on uses m *ℚ cost m) ms
limits_by_child ms cost z No_stored h = sym (sum-ext _ (λ m. zero_ℚ) (λ m. zero_mul_ℚ (cost m)) ms ∙ sum-zero ms)
limits_by_child ms cost z (Use_stored w cut uses) h =
    ap₂ ◌+ℚ◌ (one_limit cost w (source_of cut).kind (source_of cut).node ms h.1.0) (limits_by_child ms cost z uses h.2)
    ∙ sym (sum-add (λ m. value_if (is_bound (source_of cut).kind && eqb (source_of cut).node m) w *ℚ cost m)
    (λ m. weight_on uses m *ℚ cost m) ms)
    ∙ sum-ext _ _ (λ m. by_ring (value_if (is_bound (source_of cut).kind && eqb (source_of cut).node m) w ∷ weight_on uses m ∷ cost m ∷ [])
    (search terms depth 40) tt) ms

-- ---- the task's cuts at a point
each_taken_of : (P : PlacedCut → Type 0) (k : ℕ) (cuts : List Stored) → Each P (taken_of true k cuts)
    → Each (λ (cut : Stored). P (record { child = k; cut = held cut })) cuts
each_taken_of P k [] h = tt
each_taken_of P k (c ∷ cs) h = (h.0, each_taken_of P k cs h.1)

-- the place of the child, and what holds of its cuts at that place
abbrev AtPlace : (PlacedCut → Type 0) → ChildCuts → Type 0
AtPlace P c = (k : ℕ) × Each (λ (cut : Stored). P (record { child = k; cut = held cut })) c.cuts.items

each_taken : (P : PlacedCut → Type 0) (k : ℕ) (cs : List ChildCuts) → Each P (taken true k cs) → Each (AtPlace P) cs
each_taken P k [] h = tt
each_taken P k (c ∷ cs) h =
    let parts : Each P (taken_of true k c.cuts.items) × Each P (taken true (suc k) cs)
    = each_split P (taken_of true k c.cuts.items) (taken true (suc k) cs) h in
    ((k, each_taken_of P k c.cuts.items parts.0), each_taken P (suc k) cs parts.1)

-- what holds of each cut that the task's program takes holds of one of those about its children
of_taken : (P : PlacedCut → Type 0) (cs : List ChildCuts) → Each P (taken true 0 cs) → (cut : Stored) → StandsAmong cs cut
    → (k : ℕ) × P (record { child = k; cut = held cut })
of_taken P cs h cut a =
    let at : AtPlace P a.child = each_contains (AtPlace P) cs a.child (each_taken P 0 cs h) a.stands in
    (at.0, each_contains (λ (c : Stored). P (record { child = at.0; cut = held c })) a.child.cuts.items cut at.1 a.among)

limit_same : (ss : List Share) (costs : List ℚ) → SharesRise 0 ss → (kind : CutKind) (k m : ℕ) → child_at ss k ≡ Some m
    → limit_of kind costs k ≡ limit_by kind (cost_by ss costs m)
limit_same ss costs rise Bound k m e = sym (cost_at_place 0 k m ss costs rise e)
limit_same ss costs rise Ray k m e = refl

-- ---- the trial has no value in an own column
at_earlier : (bs : List ColumnBounds) (f : List Entry) (y : ℕ → ℚ) (g : List Entry)
    → ((j : ℕ) → IsEarlier bs j → coefficient f j ≡ y j) → Each (IsOther bs) g → product g (coefficient f) ≡ product g y
at_earlier bs f y [] h o = refl
at_earlier bs f y (e ∷ g) h o =
    ap₂ (λ p q. e.value *ℚ p +ℚ q) (h e.column (none_earlier 0 bs e.column o.0)) (at_earlier bs f y g h o.1)

-- ---- weak duality
turn : (a y w : ℚ) → a ≤ℚ y *ℚ w → a ≤ℚ w *ℚ y
turn a y w h = by_linear (a ∷ y ∷ w ∷ []) (fact h nothing) (search terms depth 40) tt

rows_below : (rows : List NodeRow) (y z : ℕ → ℚ) → Each (λ (r : NodeRow). IsGoodAt r.low r.high (y r.row)) rows
    → Each (λ (r : NodeRow). Between r.low r.high (product r.entries z)) rows
    → sum_ℚ (λ (r : NodeRow). worth r.low r.high (y r.row)) rows ≤ℚ rows_at rows y z
rows_below rows y z g b =
    sum-below (λ (r : NodeRow). worth r.low r.high (y r.row)) (λ (r : NodeRow). product r.entries z *ℚ y r.row) rows
    (each-both (λ r p q. turn (worth r.low r.high (y r.row)) (y r.row) (product r.entries z)
    (worth-below r.low r.high (y r.row) (product r.entries z) p q)) rows g b)

columns_below : (bs : List ColumnBounds) (x : List Entry) (y : ℕ → ℚ) → BoundsRise 0 bs
    → Each (λ (e : Entry). is_own bs e.column ≡ true) x → Each (λ (b : ColumnBounds). IsGoodAt b.lower b.upper (y b.column)) bs
    → Each (λ (b : ColumnBounds). Between b.lower b.upper (coefficient x b.column)) bs
    → sum_ℚ (λ (b : ColumnBounds). worth b.lower b.upper (y b.column)) bs ≤ℚ product x y
columns_below bs x y rise own g b =
    subst (λ q. sum_ℚ (λ (b : ColumnBounds). worth b.lower b.upper (y b.column)) bs ≤ℚ q)
    (sym (sum-map (λ j. coefficient x j *ℚ y j) (λ (b : ColumnBounds). b.column) bs)
    ∙ product-over x y (map (λ (b : ColumnBounds). b.column) bs) (each-map (λ (e : Entry) i. once_own 0 e.column bs rise i) x own))
    (sum-below (λ (b : ColumnBounds). worth b.lower b.upper (y b.column)) (λ (b : ColumnBounds). coefficient x b.column *ℚ y b.column) bs
    (each-both (λ c p q. turn (worth c.lower c.upper (y c.column)) (y c.column) (coefficient x c.column)
    (worth-below c.lower c.upper (y c.column) (coefficient x c.column) p q)) bs g b))

-- rows and columns at the point x and at the trial t, used cuts likewise, and the costs
all_below : (constant value rows columns cuts rows_x rows_t uses_x uses_t cost shared : ℚ) → constant ≡ rows +ℚ columns +ℚ cuts
    → value ≡ uses_t -ℚ rows_t → rows ≤ℚ rows_x +ℚ rows_t → columns ≤ℚ cost +ℚ (uses_x -ℚ rows_x)
    → cuts +ℚ (uses_x +ℚ uses_t) ≤ℚ shared → constant +ℚ value ≤ℚ cost +ℚ shared
all_below constant value rows columns cuts rows_x rows_t uses_x uses_t cost shared e f h k l =
    by_linear (constant ∷ value ∷ rows ∷ columns ∷ cuts ∷ rows_x ∷ rows_t ∷ uses_x ∷ uses_t ∷ cost ∷ shared ∷ [])
    (equal e (equal f (fact h (fact k (fact l nothing))))) (search terms depth 40) tt

module _ (t : Task) (x : List Entry) (costs : List ℚ) (fits : IsProblem (problem_of t)) (priced : is_priced t.kind ≡ true)
    (own : OfColumns t.datum.bounds x) (meets : Meets (problem_of t) x costs) where
  abbrev numbers : List ℕ
  numbers = map (λ (s : Share). s.child) t.datum.shares

  abbrev cost : ℕ → ℚ
  cost = cost_by t.datum.shares costs

  abbrev at_x : ℕ → ℚ
  at_x = coefficient x

  abbrev at_trial : ℕ → ℚ
  at_trial = coefficient t.trial

  abbrev both : ℕ → ℚ
  both = λ j. coefficient x j +ℚ coefficient t.trial j

  abbrev Below : PlacedCut → Type 0
  Below c = c.cut.constant +ℚ product c.cut.form (λ j. coefficient x j +ℚ coefficient t.trial j) ≤ℚ limit_of c.cut.kind costs c.child

  abbrev Holds : PlacedCut → Type 0
  Holds c = IsCut true t.datum.shares c × Below c

  all_hold : Each Holds (taken true 0 t.children.items)
  all_hold = each-both (λ c p q. (p, q)) (taken true 0 t.children.items)
      (subst (λ (b : Bool). Each (IsCut b t.datum.shares) (taken b 0 t.children.items)) priced fits.cuts)
      (subst (λ (b : Bool). Each Below (taken b 0 t.children.items)) priced meets.cuts)

  one_within : (cut : Stored) → StandsAmong t.children.items cut → IsWithin numbers cost both cut
  one_within cut a =
      let at : (k : ℕ) × Holds (record { child = k; cut = held cut }) = of_taken Holds t.children.items all_hold cut a in (
        once_child 0 at.0 (source_of cut).node t.datum.shares fits.shares_rise at.1.0.about,
        subst (λ q. constant_of cut +ℚ product (form_of cut) both ≤ℚ q)
            (limit_same t.datum.shares costs fits.shares_rise (source_of cut).kind at.0 (source_of cut).node at.1.0.about) at.1.1,
      )

  are_within : (uses : StoredUses) → UsesAmong t.children.items uses → AreWithin numbers cost both uses
  are_within No_stored h = tt
  are_within (Use_stored w cut uses) h = (h.0, one_within cut h.1, are_within uses h.2)

  shared_by_weights : (uses : StoredUses) → WeightsFit t.datum Bound uses
      → shared_cost t.datum.shares costs ≡ sum_ℚ (λ m. weight_on uses m *ℚ cost m) numbers
  shared_by_weights uses w =
      shared_is cost t.datum.shares costs (λ k m e. cost_at_place 0 k m t.datum.shares costs fits.shares_rise e)
      ∙ sum-same (λ (s : Share). s.share *ℚ cost s.child) (λ (s : Share). weight_on uses s.child *ℚ cost s.child) t.datum.shares
      (each-map (λ (s : Share) e. ap (λ q. q *ℚ cost s.child) (sym e)) t.datum.shares w)
      ∙ sym (sum-map (λ m. weight_on uses m *ℚ cost m) (λ (s : Share). s.child) t.datum.shares)

  cuts_below : (uses : StoredUses) → UsesAmong t.children.items uses → WeightsFit t.datum Bound uses
      → constant_sum uses +ℚ (uses_at uses at_x +ℚ uses_at uses at_trial) ≤ℚ shared_cost t.datum.shares costs
  cuts_below uses a w =
      subst (λ q. constant_sum uses +ℚ q ≤ℚ shared_cost t.datum.shares costs) (uses_add uses at_x at_trial)
      (subst (λ q. constant_sum uses +ℚ uses_at uses both ≤ℚ q)
      (limits_by_child numbers cost both uses (are_within uses a) ∙ sym (shared_by_weights uses w))
      (uses_below numbers cost both uses (are_within uses a)))

  reduced_paired : (s : Source) (uses : StoredUses) → s.kind ≡ Bound → product x (reduced_of t.datum s uses)
      ≡ product t.datum.cost at_x +ℚ (uses_at uses at_x -ℚ rows_at t.datum.rows (coefficient s.multipliers) at_x)
  reduced_paired s uses kind =
      product_add x (datum_cost t.datum s.kind) (slope_of t.datum s uses)
      ∙ ap₂ ◌+ℚ◌ (ap (λ (k : CutKind). product x (datum_cost t.datum k)) kind ∙ pairing x t.datum.cost) (slopes_paired t.datum s uses x)

  pub bound_below : (s : Source) (uses : StoredUses) (constant : ℚ) (form : List Entry) → IsBoundOf t s uses constant form
      → constant +ℚ product form (coefficient t.trial) ≤ℚ cost_at (problem_of t) x costs
  bound_below s uses constant form b =
      let trial_value : product form at_trial ≡ uses_at uses at_trial -ℚ rows_at t.datum.rows (coefficient s.multipliers) at_trial
      = pairing form t.trial ∙ at_earlier t.datum.bounds form (slope_of t.datum s uses) t.trial b.made.form_is fits.trial
      ∙ slopes_paired t.datum s uses t.trial in
      all_below constant (product form at_trial)
      (sum_ℚ (λ (r : NodeRow). worth r.low r.high (coefficient s.multipliers r.row)) t.datum.rows)
      (sum_ℚ (λ (c : ColumnBounds). worth c.lower c.upper (reduced_of t.datum s uses c.column)) t.datum.bounds) (constant_sum uses)
      (rows_at t.datum.rows (coefficient s.multipliers) at_x) (rows_at t.datum.rows (coefficient s.multipliers) at_trial)
      (uses_at uses at_x) (uses_at uses at_trial) (product t.datum.cost at_x) (shared_cost t.datum.shares costs)
      b.made.constant_is trial_value
      (subst (λ q. sum_ℚ (λ (r : NodeRow). worth r.low r.high (coefficient s.multipliers r.row)) t.datum.rows ≤ℚ q)
      (rows_add t.datum.rows (coefficient s.multipliers) at_x at_trial)
      (rows_below t.datum.rows (coefficient s.multipliers) both b.made.rows meets.rows))
      (subst (λ q. sum_ℚ (λ (c : ColumnBounds). worth c.lower c.upper (reduced_of t.datum s uses c.column)) t.datum.bounds ≤ℚ q)
      (reduced_paired s uses b.kind)
      (columns_below t.datum.bounds x (reduced_of t.datum s uses) fits.bounds.rises own.own b.made.bounds meets.bounds))
      (cuts_below uses b.among (subst (λ (k : CutKind). WeightsFit t.datum k uses) b.kind b.made.weights))

pub bounds_hold_at_points : BoundsHoldAtPoints
bounds_hold_at_points t s uses constant form x costs fits priced b own meets =
    bound_below t x costs fits priced own meets s uses constant form b

-- ---- so there is a least cost
too_low : (bound least : ℚ) → bound ≤ℚ least → least ≤ℚ bound -ℚ one_ℚ → one_ℚ ≤ℚ zero_ℚ
too_low bound least h k = by_facts (bound ∷ least ∷ []) (by_le 1 h (by_le 1 k end)) (search terms depth 40) tt

never : (t : Task) (s : Source) (uses : StoredUses) (constant : ℚ) (form : List Entry) → IsProblem (problem_of t)
    → is_priced t.kind ≡ true → IsBoundOf t s uses constant form → LooseAnswer t → ⊥
never t s uses constant form fits priced b loose =
    let bound : ℚ = constant +ℚ product form (coefficient t.trial) in
    let low : (x : List Entry) × (costs : List ℚ) × OfColumns t.datum.bounds x × Meets (problem_of t) x costs
    × (cost_at (problem_of t) x costs ≤ℚ bound -ℚ one_ℚ)
    = loose.no_least.below (bound -ℚ one_ℚ) in
    not_le_of_lt_ℚ zero_lt_one_ℚ (too_low bound (cost_at (problem_of t) low.0 low.1)
    (bounds_hold_at_points t s uses constant form low.0 low.1 fits priced b low.2 low.3) low.4)

pub never_loose : NeverLoose
never_loose = record { priced = never; costless = λ t priced none loose. loose.costs priced none }
