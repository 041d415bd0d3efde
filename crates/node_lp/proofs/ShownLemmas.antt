-- What the test of multipliers and weights tells, and the cut that is made of them.
use Rattle.std.proofs.Common.{◌≡◌, ℕ, zero, suc, ◌+◌, ◌<◌, ◌≤◌, Bool, true, false, ◌&&◌, ◌||◌, eqb, List, [], ◌∷◌, ◌++◌, map, Option, Some, None, Ok, length, get_or, drop, refl, sym, ap, ap₂, subst, ◌∙◌, arith, add-one, eq-eqb}
use Rattle.std.proofs.lemmas.Bool.{ne_eqb}
use Rattle.rationals.specs.Rational.{ℚ, zero_ℚ, ◌+ℚ◌, by_ring, terms, zero_add_ℚ, add_zero_ℚ}
use Rattle.rationals.specs.Sparse.{Entry, value_if}
use Rattle.lp_defs.specs.Program.{NoneNegative}
use Rattle.scen_defs.specs.Lists.{Each, is_in}
use Rattle.scen_defs.specs.Ends.{IsGoodAt}
use Rattle.scen_defs.specs.declared.program.NodeRow.{NodeRow}
use Rattle.scen_defs.proofs.SumLaws.{each-map, each-both}
use Rattle.cut_defs.specs.Data.{SharesRise}
use Rattle.cut_defs.specs.Cuts.{is_bound}
use Rattle.cut_defs.specs.Stored.{Stored, StoredUses, source_of, constant_of, form_of, IsMadeFrom}
use Rattle.cut_defs.specs.declared.datum.ColumnBounds.{ColumnBounds}
use Rattle.cut_defs.specs.declared.datum.Share.{Share}
use Rattle.cut_defs.specs.declared.kinds.CutKind.{CutKind}
use Rattle.cut_defs.specs.declared.kinds.CutKind.TheVariants as cut_kind
use Rattle.cut_proof.specs.Conditions.{MayBeMade}
use Rattle.cut_proof.specs.declared.child.ChildCuts.{ChildCuts}
use Rattle.node_lp.specs.declared.task.Task.{Task}
use Rattle.node_lp.specs.Weighed.{Weighed}
use Rattle.node_lp.specs.Problem.{HeldCut, PlacedCut, IsProblem, is_priced, taken_of, taken, problem_of}
use Rattle.node_lp.specs.Records.{weight_on, RaysAlone, HasWeights, IsRecord}
use Rattle.node_lp.specs.Stored.{AreStored, IsStoredIn, stored_uses}
use Rattle.node_lp.specs.Told.{stored_cuts, record_of, cut_made}
use Rattle.node_lp.specs.Tests.{stored_weight, IsCutAbout, HasShare, HaveShares, StoredAlone, MayShow, ShowsCut}
use Rattle.node_lp.specs.Uses.{first}
use Rattle.node_lp.proofs.EndLemmas.{next_item}
use Rattle.node_lp.proofs.StoredShows.{weights_fit, are_above, reduced_same}
use Rattle.node_lp.proofs.CutAnswers.{cuts_same, uses_children, value_is}

-- ---- a row with a number
pub row_in : (rows : List NodeRow) (i : ℕ) (r : NodeRow) (n : ℕ) → i < length rows → r ≡ get_or rows i r → r.row ≡ n → is_in n (map (λ (r : NodeRow). r.row) rows) ≡ true
row_in [] i r n l e h = absurd (omega (arith, l))
row_in (q ∷ rows) zero r n l e h =
    ap (λ b. b || is_in n (map (λ (r : NodeRow). r.row) rows)) (eq-eqb q.row n (ap (λ (s : NodeRow). s.row) (sym e) ∙ h))
row_in (q ∷ rows) (suc i) r n l e h = or_later (eqb q.row n) (is_in n (map (λ (r : NodeRow). r.row) rows)) (row_in rows i r n (omega (arith, l)) e h)
  where
    or_later : (a b : Bool) → b ≡ true → (a || b) ≡ true
    or_later true b e = refl
    or_later false b e = e

-- ---- weights of a child
pub weight_counts : (k : CutKind) (m n : ℕ) (w s new : ℚ) → k ≡ cut_kind.Bound → m ≡ n → new ≡ w +ℚ s → new ≡ value_if (is_bound k && eqb m n) w +ℚ s
weight_counts k m n w s new e f h = h ∙ sym (ap₂ (λ a b. value_if (a && b) w +ℚ s) (ap is_bound e) (eq-eqb m n f))

pub weight_other : (k : CutKind) (m n : ℕ) (w s : ℚ) → k ≡ cut_kind.Bound → (m ≡ n → ⊥) → s ≡ value_if (is_bound k && eqb m n) w +ℚ s
weight_other k m n w s e f = sym (ap₂ (λ a b. value_if (a && b) w +ℚ s) (ap is_bound e) (ne_eqb m n f) ∙ zero_add_ℚ s)

pub weight_ray : (k : CutKind) (m n : ℕ) (w s : ℚ) → k ≡ cut_kind.Ray → s ≡ value_if (is_bound k && eqb m n) w +ℚ s
weight_ray k m n w s e = sym (ap (λ a. value_if (a && eqb m n) w +ℚ s) (ap is_bound e) ∙ zero_add_ℚ s)

no_value : (b : Bool) → value_if b zero_ℚ ≡ zero_ℚ
no_value true = refl
no_value false = refl

no_weight : (m : ℕ) (cs : List Stored) → stored_weight m cs [] ≡ zero_ℚ
no_weight m [] = refl
no_weight m (c ∷ cs) = refl

weight_head : (m : ℕ) (c : Stored) (cs : List Stored) (left : List ℚ)
    → stored_weight m (c ∷ cs) left ≡ value_if (is_bound (source_of c).kind && eqb (source_of c).node m) (first left) +ℚ stored_weight m cs (drop 1 left)
weight_head m c cs [] = sym (ap₂ ◌+ℚ◌ (no_value (is_bound (source_of c).kind && eqb (source_of c).node m)) (no_weight m cs) ∙ zero_add_ℚ zero_ℚ)
weight_head m c cs (w ∷ ws) = refl

pub weight_step : (m : ℕ) (sum new total w : ℚ) (cs : List Stored) (i : ℕ) (c d : Stored) (left others : List ℚ) → i < length cs → c ≡ get_or cs i c → d ≡ c
    → w ≡ first left → others ≡ drop 1 left → new ≡ value_if (is_bound (source_of d).kind && eqb (source_of d).node m) w +ℚ sum
    → sum +ℚ stored_weight m (drop i cs) left ≡ total → new +ℚ stored_weight m (drop (i + 1) cs) others ≡ total
weight_step m sum new total w cs i c d left others l e same f o h k =
    let term : ℚ = value_if (is_bound (source_of c).kind && eqb (source_of c).node m) (first left) in
    let made : new ≡ term +ℚ sum = h ∙ ap₂ (λ (s : Stored) q. value_if (is_bound (source_of s).kind && eqb (source_of s).node m) q +ℚ sum) same f in
    let here : stored_weight m (drop i cs) left ≡ term +ℚ stored_weight m (drop (i + 1) cs) (drop 1 left) =
    ap (λ (qs : List Stored). stored_weight m qs left) (next_item cs i c l e) ∙ weight_head m c (drop (i + 1) cs) left in
    ap₂ (λ a (b : List ℚ). a +ℚ stored_weight m (drop (i + 1) cs) b) made o
    ∙ by_ring (sum ∷ term ∷ stored_weight m (drop (i + 1) cs) (drop 1 left) ∷ []) (search terms depth 40) tt
    ∙ ap (λ q. sum +ℚ q) (sym here) ∙ k

pub weight_ends : (m : ℕ) (sum total : ℚ) (cs : List Stored) (left : List ℚ) → cs ≡ [] → sum +ℚ stored_weight m cs left ≡ total → sum ≡ total
weight_ends m sum total cs left e h = sym (ap (λ (qs : List Stored). sum +ℚ stored_weight m qs left) e ∙ add_zero_ℚ sum) ∙ h

-- ---- those of all children
pub shares_step : (ss : List Share) (cs : List ChildCuts) (i : ℕ) (s : Share) (c : ChildCuts) (left others : List ℚ) (n : ℕ) → i < length ss → s ≡ get_or ss i s → i < length cs → c ≡ get_or cs i c
    → HasShare s c.cuts.items left → n ≡ length c.cuts.items → others ≡ drop n left → (all : Type 0) → (HaveShares (drop i ss) (drop i cs) left → all)
    → HaveShares (drop (i + 1) ss) (drop (i + 1) cs) others → all
shares_step ss cs i s c left others n l e m f h k o all go rest =
    go (subst (λ (qs : List Share). HaveShares qs (drop i cs) left) (sym (next_item ss i s l e))
    (subst (λ (ds : List ChildCuts). HaveShares (s ∷ drop (i + 1) ss) ds left) (sym (next_item cs i c m f))
    (h, subst (λ (ws : List ℚ). HaveShares (drop (i + 1) ss) (drop (i + 1) cs) ws) (o ∙ ap (λ a. drop a left) k) rest)))

pub shares_end : (ss : List Share) (cs : List ChildCuts) (left : List ℚ) → ss ≡ [] → cs ≡ [] → HaveShares ss cs left
shares_end ss cs left e f = subst (λ (qs : List Share). HaveShares qs cs left) (sym e) (subst (λ (ds : List ChildCuts). HaveShares [] ds left) (sym f) tt)

nothing : (ps : List PlacedCut) (m : ℕ) → weight_on [] ps m ≡ zero_ℚ
nothing [] m = refl
nothing (p ∷ ps) m = refl

none_left : (n : ℕ) → ◌≡◌ {A = List ℚ} (drop n []) []
none_left zero = refl
none_left (suc n) = refl

-- those of one child, then those of the others
placed_weight : (m k : ℕ) (cs : List Stored) (rest : List PlacedCut) (ws : List ℚ)
    → weight_on ws (taken_of true k cs ++ rest) m ≡ stored_weight m cs ws +ℚ weight_on (drop (length cs) ws) rest m
placed_weight m k [] rest ws = sym (zero_add_ℚ (weight_on ws rest m))
placed_weight m k (c ∷ cs) rest [] =
    sym (ap (λ (ws : List ℚ). zero_ℚ +ℚ weight_on ws rest m) (none_left (length (c ∷ cs))) ∙ ap (λ q. zero_ℚ +ℚ q) (nothing rest m) ∙ zero_add_ℚ zero_ℚ)
placed_weight m k (c ∷ cs) rest (w ∷ ws) =
    let term : ℚ = value_if (is_bound (source_of c).kind && eqb (source_of c).node m) w in
    ap (λ q. term +ℚ q) (placed_weight m k cs rest ws)
    ∙ by_ring (term ∷ stored_weight m cs ws ∷ weight_on (drop (length cs) ws) rest m ∷ []) (search terms depth 40) tt

none_here : (n m : ℕ) (cs : List Stored) (ws : List ℚ) → Each (IsCutAbout n) cs → (n ≡ m → ⊥) → stored_weight m cs ws ≡ zero_ℚ
none_here n m [] ws h d = refl
none_here n m (c ∷ cs) [] h d = refl
none_here n m (c ∷ cs) (w ∷ ws) h d =
    ap₂ ◌+ℚ◌ (other (is_bound (source_of c).kind)) (none_here n m cs ws h.1 d) ∙ zero_add_ℚ zero_ℚ
  where
    no : eqb (source_of c).node m ≡ false
    no = ne_eqb (source_of c).node m (λ e. d (sym h.0.node ∙ e))

    other : (b : Bool) → value_if (b && eqb (source_of c).node m) w ≡ zero_ℚ
    other true = ap (λ t. value_if t w) no
    other false = refl

nothing_behind : (m k : ℕ) (ss : List Share) (cs : List ChildCuts) (ws : List ℚ) → HaveShares ss cs ws → Each (λ (s : Share). s.child ≡ m → ⊥) ss
    → weight_on ws (taken true k cs) m ≡ zero_ℚ
nothing_behind m k [] [] ws h d = refl
nothing_behind m k [] (c ∷ cs) ws h d = absurd h
nothing_behind m k (s ∷ ss) [] ws h d = absurd h
nothing_behind m k (s ∷ ss) (c ∷ cs) ws h d =
    placed_weight m k c.cuts.items (taken true (suc k) cs) ws
    ∙ ap₂ ◌+ℚ◌ (none_here s.child m c.cuts.items ws h.0.about d.0) (nothing_behind m (suc k) ss cs (drop (length c.cuts.items) ws) h.1 d.1)
    ∙ zero_add_ℚ zero_ℚ

are_above_them : (n m : ℕ) (ss : List Share) → m < n → SharesRise n ss → Each (λ (s : Share). s.child ≡ m → ⊥) ss
are_above_them n m [] l h = tt
are_above_them n m (s ∷ ss) l h = let q : n ≤ s.child = h.0 in ((λ e. omega (arith, l, q, e)), are_above_them (suc s.child) m ss (omega (arith, l, q)) h.1)

pub shares_fit : (n k : ℕ) (ss : List Share) (cs : List ChildCuts) (ws : List ℚ) → HaveShares ss cs ws → SharesRise n ss
    → Each (λ (s : Share). weight_on ws (taken true k cs) s.child ≡ s.share) ss
shares_fit n k [] cs ws h r = tt
shares_fit n k (s ∷ ss) [] ws h r = absurd h
shares_fit n k (s ∷ ss) (c ∷ cs) ws h r =
    let others : Each (λ (t : Share). t.child ≡ s.child → ⊥) ss = are_above_them (suc s.child) s.child ss (omega arith) r.1 in (
      placed_weight s.child k c.cuts.items (taken true (suc k) cs) ws
          ∙ ap₂ ◌+ℚ◌ h.0.sum (nothing_behind s.child (suc k) ss cs (drop (length c.cuts.items) ws) h.1 others) ∙ add_zero_ℚ s.share,
      each-both (λ (t : Share) (a : weight_on (drop (length c.cuts.items) ws) (taken true (suc k) cs) t.child ≡ t.share) (b : t.child ≡ s.child → ⊥).
          placed_weight t.child k c.cuts.items (taken true (suc k) cs) ws
          ∙ ap₂ ◌+ℚ◌ (none_here s.child t.child c.cuts.items ws h.0.about (λ e. b (sym e))) a ∙ zero_add_ℚ t.share)
          ss (shares_fit (suc s.child) (suc k) ss cs (drop (length c.cuts.items) ws) h.1 r.1) others,
    )

-- ---- of a record that shows that there is no point
pub alone_step : (cs : List Stored) (i : ℕ) (c d : Stored) (left others : List ℚ) (w : ℚ) → i < length cs → c ≡ get_or cs i c → d ≡ c → w ≡ first left → others ≡ drop 1 left
    → (is_bound (source_of d).kind ≡ true → w ≡ zero_ℚ) → (all : Type 0) → (StoredAlone (drop i cs) left → all) → StoredAlone (drop (i + 1) cs) others → all
alone_step cs i c d left others w l e same f o h all go rest =
    go (subst (λ (ds : List Stored). StoredAlone ds left) (sym (next_item cs i c l e))
    (by left (λ b. sym f ∙ h (ap (λ (s : Stored). is_bound (source_of s).kind) same ∙ b)) (subst (λ (ws : List ℚ). StoredAlone (drop (i + 1) cs) ws) o rest)))
  where
    by : (left : List ℚ) → (is_bound (source_of c).kind ≡ true → first left ≡ zero_ℚ) → StoredAlone (drop (i + 1) cs) (drop 1 left) → StoredAlone (c ∷ drop (i + 1) cs) left
    by [] f r = tt
    by (w ∷ ws) f r = (f, r)

alone_same : (ws : List ℚ) (cs : List PlacedCut) (ds : List Stored) → AreStored cs ds → StoredAlone ds ws → RaysAlone ws cs
alone_same ws [] ds s h = tt
alone_same ws (c ∷ cs) [] s h = absurd s
alone_same [] (c ∷ cs) (d ∷ ds) s h = tt
alone_same (w ∷ ws) (c ∷ cs) (d ∷ ds) s h =
    ((λ e. h.0 (ap (λ (k : HeldCut). is_bound k.kind) s.0 ∙ e)), alone_same ws cs ds s.1 h.1)

stored_length : (cs : List PlacedCut) (ds : List Stored) → AreStored cs ds → length ds ≡ length cs
stored_length [] [] s = refl
stored_length [] (d ∷ ds) s = absurd s
stored_length (c ∷ cs) [] s = absurd s
stored_length (c ∷ cs) (d ∷ ds) s = ap suc (stored_length cs ds s.1)

-- ---- the cut that is made of them
module _ (t : Task) where
  stored_in : IsStoredIn t.datum (problem_of t) (stored_cuts (is_priced t.kind) t.children.items)
  stored_in = record { rows = refl; cost = refl; bounds = refl; shares = refl; same = cuts_same (is_priced t.kind) 0 t.children.items }

  pub count_is : (cuts : List Stored) → cuts ≡ stored_cuts (is_priced t.kind) t.children.items → length cuts ≡ length (problem_of t).cuts
  count_is cuts e = ap length e ∙ stored_length (problem_of t).cuts (stored_cuts (is_priced t.kind) t.children.items) stored_in.same

  pub bound_weights : (shares : List Share) (children : List ChildCuts) (ws : List ℚ) → IsProblem (problem_of t) → is_priced t.kind ≡ true → shares ≡ t.datum.shares → children ≡ t.children.items
      → HaveShares shares children ws → HasWeights (problem_of t) cut_kind.Bound ws
  bound_weights shares children ws h priced e f k =
      subst (λ (b : Bool). Each (λ (s : Share). weight_on ws (taken b 0 t.children.items) s.child ≡ s.share) t.datum.shares) (sym priced)
      (shares_fit 0 0 t.datum.shares t.children.items ws
      (subst (λ (ss : List Share). HaveShares ss t.children.items ws) e (subst (λ (cs : List ChildCuts). HaveShares shares cs ws) f k)) h.shares_rise)

  pub ray_weights : (cuts : List Stored) (ws : List ℚ) → cuts ≡ stored_cuts (is_priced t.kind) t.children.items → StoredAlone cuts ws → HasWeights (problem_of t) cut_kind.Ray ws
  ray_weights cuts ws e k =
      alone_same ws (problem_of t).cuts (stored_cuts (is_priced t.kind) t.children.items) stored_in.same (subst (λ (ds : List Stored). StoredAlone ds ws) e k)

  may_be : (kind : CutKind) (m : Weighed) → IsProblem (problem_of t) → MayShow t kind m
      → MayBeMade t.datum (record_of t.datum kind m) (stored_uses m.weights (stored_cuts (is_priced t.kind) t.children.items))
  may_be kind m h k = record {
    node = refl;
    rows_version = refl;
    costs_version = refl;
    on_rows = k.places;
    weights = weights_fit t.datum (record_of t.datum kind m) (problem_of t) (stored_cuts (is_priced t.kind) t.children.items) m.weights stored_in kind k.weights;
    children = uses_children t.datum (is_priced t.kind) m.weights (problem_of t).cuts (stored_cuts (is_priced t.kind) t.children.items) stored_in.same h.cuts
        (are_above m.weights (stored_cuts (is_priced t.kind) t.children.items) k.none_below);
  }

  pub shows_cut : (kind : CutKind) (m : Weighed) (cut : Stored) → IsProblem (problem_of t) → MayShow t kind m
      → cut_made t.datum kind (stored_cuts (is_priced t.kind) t.children.items) m ≡ Ok (Some cut)
      → (MayBeMade t.datum (record_of t.datum kind m) (stored_uses m.weights (stored_cuts (is_priced t.kind) t.children.items))
      → IsMadeFrom t.datum (record_of t.datum kind m) (stored_uses m.weights (stored_cuts (is_priced t.kind) t.children.items)) (constant_of cut) (form_of cut))
      → ShowsCut t kind m cut
  shows_cut kind m cut h k walk make =
      let from : IsMadeFrom t.datum (record_of t.datum kind m) (stored_uses m.weights (stored_cuts (is_priced t.kind) t.children.items)) (constant_of cut) (form_of cut) = make (may_be kind m h k) in
      record {
        good = record {
          one_each = k.one_each;
          none_below = k.none_below;
          rows = from.rows;
          bounds = each-map (λ (b : ColumnBounds) g. subst (IsGoodAt b.lower b.upper)
              (reduced_same t.datum (record_of t.datum kind m) (problem_of t) (stored_cuts (is_priced t.kind) t.children.items) m.weights stored_in kind refl b.column) g) t.datum.bounds from.bounds;
          weights = k.weights;
        };
        places = k.places;
        rises = k.rises;
        made = walk;
        from = from;
        value = value_is t.datum (record_of t.datum kind m) (problem_of t) (stored_cuts (is_priced t.kind) t.children.items) m.weights stored_in kind refl (constant_of cut) (form_of cut) from h.trial;
      }
