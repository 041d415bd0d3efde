-- The multipliers by node of a cut on rows of a program fit the program.
use Rattle.std.proofs.Common.{◌≡◌, ℕ, zero, suc, ◌≤◌, ◌<◌, Bool, true, false, ◌&&◌, eqb, List, [], ◌∷◌, Option, Some, None, Ok}
use Rattle.std.proofs.Common.{map, refl, sym, ap₂, subst, ◌∙◌, inl, inr, arith, eqb-true}
use Rattle.std.specs.Prelude.{◌⊎◌}
use Rattle.std.proofs.lemmas.Bool.{eq-eqb}
use Rattle.rationals.specs.Rational.{zero_ℚ, one_ℚ, ◌+ℚ◌, ◌*ℚ◌, zero_add_ℚ, add_zero_ℚ, mul_zero_ℚ}
use Rattle.rationals.specs.Sparse.{Entry, coefficient, value_if, Ascending}
use Rattle.rationals.specs.Forms.{AllNonzero, IsForm}
use Rattle.rationals.specs.Choices.{pick}
use Rattle.scen_defs.specs.declared.program.NodeRow.{NodeRow}
use Rattle.scen_defs.specs.declared.program.Row.{Row}
use Rattle.scen_defs.specs.declared.report.Kind.{Kind}
use Rattle.scen_defs.specs.declared.report.Kind.TheVariants.{Feasible, Recession, Cost}
use Rattle.scen_defs.specs.Lists.{Each, is_in, passes_at, places}
use Rattle.scen_defs.specs.Values.{At, at}
use Rattle.scen_defs.specs.Program.{Node, Program, View, is_live, node_at}
use Rattle.scen_defs.specs.Flat.{zero_row}
use Rattle.scen_defs.specs.Valid.{IsProgram, Lives}
use Rattle.scen_defs.proofs.SumLaws.{each-map}
use Rattle.scen_defs.proofs.Valid.{each-place}
use Rattle.scen_model.specs.Derived.{is_row_of, all_fit}
use Rattle.cut_defs.specs.Stored.{Source, Stored, StoredUses}
use Rattle.cut_defs.specs.Stored.Stored.{Stored_of}
use Rattle.cut_defs.specs.Stored.StoredUses.{No_stored, Use_stored}
use Rattle.cut_defs.specs.Current.{stored_flat, stored_flats}
use Rattle.cut_sums.proofs.TallyLaws.{absent}
use Rattle.edit_defs.specs.Data.{view_in}
use Rattle.edit_defs.proofs.Lists.{passes-within, map-map}
use Rattle.dual_assemble.specs.Walks.{form_at, flat_from}
use Rattle.dual_assemble.specs.Values.{numbers_by_node}
use Rattle.dual_assemble.specs.Laws.{flat_of}
use Rattle.dual_assemble.proofs.FlatEnds.{flats_are_exact}
use Rattle.dual_assemble.proofs.Numbers.{values_are_numbers}
use Rattle.joined_laws.proofs.Along.{without}
use Rattle.joined_laws.proofs.Places.{in_each}
use Rattle.joined_laws.specs.Rows.{row_numbers_at, IsOnRows, AreOnRows}
use Rattle.joined_laws.specs.Fits.{MultipliersFit}
use Rattle.joined_laws.proofs.Lists.{FitsAt, row_fits, all_each, all_fits}

-- ---- a form's columns are those where it isn't 0
own_value : (n : ℕ) (e : Entry) (f : List Entry) → Ascending n (e ∷ f) → coefficient (e ∷ f) e.column ≡ e.value
own_value n e f h =
    ap₂ (λ b z. value_if b e.value +ℚ z) (eq-eqb e.column e.column refl) (absent (suc e.column) e.column f (omega arith) h.1)
    ∙ add_zero_ℚ e.value

tail_zero : (n j : ℕ) (e : Entry) (f : List Entry) → Ascending n (e ∷ f) → coefficient (e ∷ f) j ≡ zero_ℚ → coefficient f j ≡ zero_ℚ
tail_zero n j e f h q = go (eqb e.column j) refl q
  where
    go : (b : Bool) → eqb e.column j ≡ b → value_if b e.value +ℚ coefficient f j ≡ zero_ℚ → coefficient f j ≡ zero_ℚ
    go true t q = absent (suc e.column) j f (omega (arith, eqb-true e.column j t)) h.1
    go false t q = sym (zero_add_ℚ (coefficient f j)) ∙ q

columns_each : (P : ℕ → Type 0) (n : ℕ) (f : List Entry) → Ascending n f → AllNonzero f
    → ((j : ℕ) → (coefficient f j ≡ zero_ℚ → ⊥) → P j) → Each (λ (e : Entry). P e.column) f
columns_each P n [] a z h = tt
columns_each P n (e ∷ f) a z h = (
  h e.column (λ q. z.0 (sym (own_value n e f a) ∙ q)),
  columns_each P (suc e.column) f a.1 z.1 (λ j k. h j (λ q. k (tail_zero n j e f a q))),
)

-- ---- multipliers off the rows are 0
module _ (v : View) (n i : ℕ) (off : is_in i (row_numbers_at v n) ≡ true → ⊥) where
  one_zero : (s : Source) → Each (λ (e : Entry). is_in e.column (row_numbers_at v s.node) ≡ true) s.multipliers
      → (b : Bool) → eqb s.node n ≡ b → value_if b (coefficient s.multipliers i) ≡ zero_ℚ
  one_zero s h true e = without s.multipliers i (each-map {Q = λ (d : Entry). d.column ≡ i → ⊥}
      (λ d k q. off (subst (λ (m : ℕ). is_in i (row_numbers_at v m) ≡ true) (eqb-true s.node n e)
      (subst (λ (j : ℕ). is_in j (row_numbers_at v s.node) ≡ true) q k))) s.multipliers h)
  one_zero s h false e = refl

  mutual
    unfolding stored_flat

    flat_zero : (cut : Stored) → IsOnRows v cut → stored_flat cut n i ≡ zero_ℚ
    flat_zero (Stored_of s uses constant form) h =
        ap₂ (λ x y. x +ℚ y) (one_zero s h.0 (eqb s.node n) refl) (flats_zero uses h.1) ∙ zero_add_ℚ zero_ℚ

    flats_zero : (uses : StoredUses) → AreOnRows v uses → stored_flats uses n i ≡ zero_ℚ
    flats_zero No_stored h = refl
    flats_zero (Use_stored weight cut uses) h =
        ap₂ (λ x y. weight *ℚ x +ℚ y) (flat_zero cut h.0) (flats_zero uses h.1) ∙ add_zero_ℚ (weight *ℚ zero_ℚ) ∙ mul_zero_ℚ weight

-- ---- the rows of a node in the form of any run are those of its stage
same_numbers : (kind : Kind) (p : Program) (n : ℕ)
    → row_numbers_at (view_in kind p) n ≡ map (λ (r : NodeRow). r.row) (node_at p.nodes n).rows
same_numbers Feasible p n = refl
same_numbers Recession p n = map-map (λ (r : NodeRow). r.row) zero_row (node_at p.nodes n).rows
same_numbers Cost p n = refl

gone_rows : (nodes : List (Option Node)) (n : ℕ) → passes_at is_live n nodes ≡ false → (node_at nodes n).rows ≡ []
gone_rows [] n h = refl
gone_rows (None ∷ nodes) zero h = refl
gone_rows (Some node ∷ nodes) zero h = absurd (cc)
gone_rows (None ∷ nodes) (suc n) h = gone_rows nodes n h
gone_rows (Some node ∷ nodes) (suc n) h = gone_rows nodes n h

-- ---- lists
form_there : (fs : List (List Entry)) (n : ℕ) → Each IsForm fs → IsForm (form_at fs n)
form_there [] n h = record { rises = tt; nonzero = tt }
form_there (f ∷ fs) zero h = h.0
form_there (f ∷ fs) (suc n) h = form_there fs n h.1

at_none : (n k : ℕ) (values : List At) → Each (λ (a : At). a.node ≡ n → a.index ≡ k → ⊥) values → at values n k ≡ zero_ℚ
at_none n k [] h = refl
at_none n k (a ∷ values) h = go (eqb a.node n) (eqb a.index k) refl refl (at_none n k values h.1)
  where
    go : (b c : Bool) → eqb a.node n ≡ b → eqb a.index k ≡ c → at values n k ≡ zero_ℚ
        → pick (b && c) a.value (at values n k) ≡ zero_ℚ
    go true true e q rest = absurd (h.0 (eqb-true a.node n e) (eqb-true a.index k q))
    go true false e q rest = rest
    go false c e q rest = rest

within : (n : ℕ) → (n < 4294967296) ⊎ (4294967296 ≤ n)
within n = grind arith

module _ (p : Program) (i : IsProgram p) where
  -- the node is live, and the row is of its stage
  abbrev HasRow : ℕ → ℕ → Type 0
  HasRow n k = Lives p n × (is_row_of p (node_at p.nodes n).stage k ≡ true)

  -- a node that has a row is live, and the row is of its stage
  has_row : (n k : ℕ) (b : Bool) → passes_at is_live n p.nodes ≡ b
      → is_in k (map (λ (r : NodeRow). r.row) (node_at p.nodes n).rows) ≡ true
      → HasRow n k
  has_row n k true l h = (
    l,
    in_each (λ m. is_row_of p (node_at p.nodes n).stage m ≡ true) k
        (places (λ (r : Row). eqb r.stage (node_at p.nodes n).stage) 0 p.rows)
        (each-place (λ m. is_row_of p (node_at p.nodes n).stage m ≡ true) (λ (r : Row). eqb r.stage (node_at p.nodes n).stage) p.rows
        (λ m e. e))
        (subst (λ (ks : List ℕ). is_in k ks ≡ true) (i.nodes n l).numbers h),
  )
  has_row n k false l h = absurd (let e : false ≡ true =
      subst (λ (rows : List NodeRow). is_in k (map (λ (r : NodeRow). r.row) rows) ≡ true) (gone_rows p.nodes n l) h in cc)

  module _ (kind : Kind) where
    row_of_node : (n k : ℕ) → is_in k (row_numbers_at (view_in kind p) n) ≡ true
        → HasRow n k
    row_of_node n k h =
        has_row n k (passes_at is_live n p.nodes) refl (subst (λ (ks : List ℕ). is_in k ks ≡ true) (same_numbers kind p n) h)

    module _ (cut : Stored) (fs : List (List Entry)) (on : IsOnRows (view_in kind p) cut) (made : flat_from [] one_ℚ cut ≡ Ok fs) where
      off_zero : (n k : ℕ) → is_in k (row_numbers_at (view_in kind p) n) ≡ false → flat_of fs n k ≡ zero_ℚ
      off_zero n k e = flats_are_exact cut fs n k made ∙ flat_zero (view_in kind p) n k (λ q. absurd (cc)) cut on

      -- where a number isn't 0 its place is a row of a live node
      nonzero_row : (n k : ℕ) → (flat_of fs n k ≡ zero_ℚ → ⊥) → HasRow n k
      nonzero_row n k h = go (is_in k (row_numbers_at (view_in kind p) n)) refl
        where
          go : (b : Bool) → is_in k (row_numbers_at (view_in kind p) n) ≡ b → HasRow n k
          go true e = row_of_node n k e
          go false e = absurd (h (off_zero n k e))

      zero_else : (n k : ℕ) → (HasRow n k → ⊥) → flat_of fs n k ≡ zero_ℚ
      zero_else n k h = go (is_in k (row_numbers_at (view_in kind p) n)) refl
        where
          go : (b : Bool) → is_in k (row_numbers_at (view_in kind p) n) ≡ b → flat_of fs n k ≡ zero_ℚ
          go true e = absurd (h (row_of_node n k e))
          go false e = off_zero n k e

      module _ (forms : Each IsForm fs) where
        on_places : Each (λ (a : At). HasRow a.node a.index) (numbers_by_node 0 fs)
        on_places = all_each HasRow fs (λ n. let f : IsForm (form_at fs n) = form_there fs n forms in
            columns_each (HasRow n) 0 (form_at fs n) f.rises f.nonzero (nonzero_row n))

        they_fit : all_fit p true (numbers_by_node 0 fs) ≡ true
        they_fit = all_fits p true (numbers_by_node 0 fs) (each-map {Q = λ (a : At). FitsAt p true a.node a.index}
            (λ a r. row_fits p a.node a.index r.0 r.1) (numbers_by_node 0 fs) on_places)

        -- past the last row or node both are 0
        both_none : (n k : ℕ) → (HasRow n k → ⊥) → at (numbers_by_node 0 fs) n k ≡ flat_of fs n k
        both_none n k h = at_none n k (numbers_by_node 0 fs) (each-map {Q = λ (a : At). a.node ≡ n → a.index ≡ k → ⊥}
            (λ a r e q. h (subst (λ (m : ℕ). HasRow m k) e (subst (HasRow a.node) q r))) (numbers_by_node 0 fs) on_places)
            ∙ sym (zero_else n k h)

        they_are : (n k : ℕ) → at (numbers_by_node 0 fs) n k ≡ flat_of fs n k
        they_are n k = go (within n) (within k)
          where
            go : (n < 4294967296) ⊎ (4294967296 ≤ n) → (k < 4294967296) ⊎ (4294967296 ≤ k) → at (numbers_by_node 0 fs) n k ≡ flat_of fs n k
            go (inl a) (inl b) = values_are_numbers fs (numbers_by_node 0 fs) refl forms n k a b
            go (inl a) (inr b) = both_none n k (λ r. absurd (omega (
              arith,
              passes-within (λ (x : Row). eqb x.stage (node_at p.nodes n).stage)
                  k p.rows r.1,
              i.small.rows,
              b,
            )))
            go (inr a) b = both_none n k (λ r. absurd (omega (arith, passes-within is_live n p.nodes r.0, i.small.nodes, a)))

pub multipliers_fit : MultipliersFit
multipliers_fit kind p cut fs i on made forms = (they_fit p i kind cut fs on made forms, they_are p i kind cut fs on made forms)
