-- The answers of the simplex method show that they are right.
use Rattle.std.proofs.Common.{◌≡◌, ℕ, zero, suc, ◌<◌, ◌≤◌, ◌+◌, ◌-◌, Bool, true, false, None, List, [], ◌∷◌, ◌++◌, Ok, Err, length, refl, sym, ap, ap₂, ◌∙◌, subst, arith, le_refl}
use Rattle.std.proofs.lemmas.List.{append_assoc, append-nil}
use Rattle.rationals.specs.Rational.{ℚ, zero_ℚ, one_ℚ, ◌-ℚ◌, neg_ℚ, ◌≤ℚ◌, ◌<ℚ◌, by_eqs, by_linear, terms}
use Rattle.rationals.specs.Ring.Eqs.{done, by_eq}
use Rattle.rationals.specs.Ring.Given.{fact, equal, nothing}
use Rattle.rationals.specs.Sums.{dot}
use Rattle.rationals.specs.Passes.{sub_walk}
use Rattle.rationals.specs.Sparse.{Entry, product, coefficient, coefficient_is, Ascending}
use Rattle.lp_defs.specs.Walks.{Walk, after_ok, sub_walk_is}
use Rattle.lp_defs.specs.Lines.{value_at}
use Rattle.lp_defs.specs.Path.{Row, Tableau, Ending, Done, Open, TooLong, Stopped, entering, path}
use Rattle.lp_defs.specs.Linear.{AllRows, values, rights}
use Rattle.lp_defs.specs.Ends.{unit, EndsWell, IsPoint, IsDualOf}
use Rattle.lp_defs.specs.Basis.{IsRayOf, point, ray}
use Rattle.lp_defs.specs.Phases.{unit_rows, with_units, priced, has_artificial_above, Driven, Driven_out, Driven_long, Driven_stop, driven, first_duals, unit_duals}
use Rattle.lp_defs.specs.Program.{Program, IsProgram}
use Rattle.lp_defs.specs.Solution.{counted, first_rows, first_cost, first_end, second_end, between, Nowhere}
use Rattle.lp_defs.specs.Certificates.{IsNonnegative, IsFeasible, IsOptimal, IsInfeasible, IsUnbounded, IsCertified, SolutionsAreCertified, column_of}
use Rattle.lp_defs.specs.Stages.{all_columns, First, Second}
use Rattle.lp_defs.proofs.Basic.{value_is, point_of, entering_below}
use Rattle.lp_defs.proofs.Rays.{ray_of}
use Rattle.lp_defs.proofs.Phases.{start_duals, duals_of}
use Rattle.lp_defs.proofs.Starts.{length_with_units, free_at_units, meets_of, stays_of, column_is, right_is, costs_rise, costs_below, cost_is_one}
use Rattle.lp_defs.proofs.Settled.{point_ends, ray_ends}
use Rattle.lp_defs.proofs.Ready.{first_units, first_begins, first_path, costs_above_zero, driving_begins, EndsDriven, driven_well, second_begins, second_path}

-- ---- duals by column

pub duals_long : (j m : ℕ) (o : List Entry) → length (unit_duals j m o) ≡ m
duals_long j zero o = refl
duals_long j (suc m) o = let k : length (unit_duals (suc j) m o) ≡ m = duals_long (suc j) m o in omega arith

-- at columns that cost nothing
free_duals : (cost : List Entry) (j : ℕ) (rows : List (List Entry)) (right : List ℚ) (o : List Entry) → Ascending 0 cost → length right ≡ length rows → AllRows (λ r. product cost (unit r.basic) ≡ zero_ℚ) (unit_rows j rows right) → start_duals cost (unit_rows j rows right) o ≡ unit_duals j (length rows) o
free_duals cost j [] right o h e f = refl
free_duals cost j (g ∷ rows) [] o h e f = absurd (omega arith)
free_duals cost j (g ∷ rows) (b ∷ right) o h e f =
    ap₂ (λ (v : ℚ) (l : List ℚ). v ∷ l)
    (by_eqs (value_at cost j ∷ value_at o j ∷ product cost (unit j) ∷ []) (by_eq (neg_ℚ one_ℚ) (value_is 0 j cost h) (by_eq one_ℚ f.0 done)) (search terms depth 40) tt)
    (free_duals cost (suc j) rows right o h (omega arith) f.1)

-- 1 less the reduced cost
abbrev one_duals : ℕ → ℕ → List Entry → List ℚ
one_duals j zero o = []
one_duals j (suc m) o = (one_ℚ -ℚ value_at o j) ∷ one_duals (suc j) m o

first_duals_are : (j m : ℕ) (o : List Entry) (d y : List ℚ) → first_duals j m o d ≡ Ok y → y ≡ d ++ one_duals j m o
first_duals_are j zero o d y e = let h : y ≡ d = cc in h ∙ sym (append-nil d)
first_duals_are j (suc m) o d y e =
    let u = after_ok (sub_walk one_ℚ (value_at o j)) (λ v. first_duals (suc j) m o (d ++ v ∷ [])) y e in
    first_duals_are (suc j) m o (d ++ u.0 ∷ []) y u.2 ∙ append_assoc d (u.0 ∷ []) (one_duals (suc j) m o) ∙ ap (λ (v : ℚ). d ++ v ∷ one_duals (suc j) m o) (sub_walk_is one_ℚ (value_at o j) u.0 u.1)

one_long : (j m : ℕ) (o : List Entry) → length (one_duals j m o) ≡ m
one_long j zero o = refl
one_long j (suc m) o = let k : length (one_duals (suc j) m o) ≡ m = one_long (suc j) m o in omega arith

-- at columns that cost 1
one_start : (cost : List Entry) (j n m : ℕ) (rows : List (List Entry)) (right : List ℚ) (o : List Entry) → ((c : ℕ) → n ≤ c → c < n + m → value_at cost c ≡ one_ℚ) → n ≤ j → j + length rows ≤ n + m → length right ≡ length rows → start_duals cost (unit_rows j rows right) o ≡ one_duals j (length rows) o
one_start cost j n m [] right o h l k e = refl
one_start cost j n m (g ∷ rows) [] o h l k e = absurd (omega arith)
one_start cost j n m (g ∷ rows) (b ∷ right) o h l k e =
    ap₂ (λ (v : ℚ) (l : List ℚ). v ∷ l) (ap (λ (v : ℚ). v -ℚ value_at o j) (h j l (omega arith))) (one_start cost (suc j) n m rows right o h (omega arith) (omega arith) (omega arith))

module _ (p : Program) (is : IsProgram p) where
  long : length p.right ≡ length (with_units p.columns p.rows)
  long = is.one_each ∙ sym (length_with_units p.columns p.rows)

  rights_are : rights (unit_rows p.columns (with_units p.columns p.rows) p.right) ≡ p.right
  rights_are = right_is p.columns (with_units p.columns p.rows) p.right (is.one_each ∙ sym (length_with_units p.columns p.rows))

  -- ---- phase one
  infeasible_of : (t : Tableau) (y : List ℚ) → First p t → entering p.columns t.objective ≡ None → zero_ℚ <ℚ product (first_cost p) (point t.rows) → first_duals p.columns (length p.rows) t.objective [] ≡ Ok y → IsInfeasible p y
  infeasible_of t y h e above w =
      let rows : List Row = first_rows p in
      let m : ℕ = length p.rows in
      let k : length (with_units p.columns p.rows) ≡ length p.rows = length_with_units p.columns p.rows in
      let same : start_duals (first_cost p) (first_rows p) t.objective ≡ y =
      one_start (first_cost p) p.columns p.columns (length p.rows) (with_units p.columns p.rows) p.right t.objective (λ c a b. cost_is_one p.columns (length p.rows) c a b) (le_refl p.columns) (omega arith) (is.one_each ∙ sym (length_with_units p.columns p.rows))
      ∙ ap (λ (l : ℕ). one_duals p.columns l t.objective) k ∙ sym (first_duals_are p.columns (length p.rows) t.objective [] y w) in
      let d : IsDualOf p.columns (first_cost p) (first_rows p) y (product (first_cost p) (point t.rows)) = subst (λ (l : List ℚ). IsDualOf p.columns (first_cost p) (first_rows p) l (product (first_cost p) (point t.rows))) same
      (duals_of p.columns (first_cost p) (first_rows p) t (costs_rise 0 p.columns (length p.rows) (omega arith)) (first_units p is) (h.0, h.1) e) in
      record {
        one_each = ap (λ (l : List ℚ). length l) (first_duals_are p.columns (length p.rows) t.objective [] y w) ∙ one_long p.columns (length p.rows) t.objective;
        sums = λ j l.
            let g : dot y (values (first_rows p) (unit j)) ≤ℚ product (first_cost p) (unit j) = d.good j l in
            let c : dot y (values (first_rows p) (unit j)) ≡ dot y (column_of p.rows j) = ap (dot y) (column_is p.columns p.columns j p.rows p.right l (le_refl p.columns) is.one_each) in
            by_linear (dot y (values (first_rows p) (unit j)) ∷ product (first_cost p) (unit j) ∷ dot y (column_of p.rows j) ∷ []) (fact g (equal c (equal (costs_below p.columns p.columns (length p.rows) j l (le_refl p.columns)) nothing))) (search terms depth 40) tt;
        above = subst (λ (v : ℚ). zero_ℚ <ℚ v) (d.worth ∙ ap (dot y) (right_is p.columns (with_units p.columns p.rows) p.right (is.one_each ∙ sym (length_with_units p.columns p.rows)))) above;
      }

  -- ---- phase two
  nonnegative_of : (x : ℕ → ℚ) → IsPoint (all_columns p) x → ((c : ℕ) → p.columns ≤ c → x c ≡ zero_ℚ) → IsNonnegative p x
  nonnegative_of x h z = record { nonnegative = λ j. (h j).0; outside = z }

  feasible_of : (t : Tableau) → Second p t → IsFeasible p (point t.rows)
  feasible_of t h =
      let k = point_of (all_columns p) p.cost (first_rows p) t h.three in
      record {
        nonnegative = nonnegative_of (point t.rows) k.range (λ c l. point_ends p.columns c t.rows l h.settled);
        meets = meets_of p.columns p.columns p.rows p.right (point t.rows) (le_refl p.columns) (λ c l. point_ends p.columns c t.rows l h.settled) is.one_each k.solves;
      }

  optimal_of : (t : Tableau) → Second p t → entering p.columns t.objective ≡ None → IsOptimal p (point t.rows) (unit_duals p.columns (length p.rows) t.objective)
  optimal_of t h e =
      let y : List ℚ = unit_duals p.columns (length p.rows) t.objective in
      let k = point_of (all_columns p) p.cost (first_rows p) t h.three in
      let same : start_duals p.cost (first_rows p) t.objective ≡ unit_duals p.columns (length p.rows) t.objective =
      free_duals p.cost p.columns (with_units p.columns p.rows) p.right t.objective is.cost.form.rises (is.one_each ∙ sym (length_with_units p.columns p.rows))
      (free_at_units p.columns p.columns p.cost (with_units p.columns p.rows) p.right (le_refl p.columns) is.cost.below)
      ∙ ap (λ (l : ℕ). unit_duals p.columns l t.objective) (length_with_units p.columns p.rows) in
      let d : IsDualOf p.columns p.cost (first_rows p) (unit_duals p.columns (length p.rows) t.objective) (product p.cost (point t.rows)) = subst (λ (l : List ℚ). IsDualOf p.columns p.cost (first_rows p) l (product p.cost (point t.rows))) same
      (duals_of p.columns p.cost (first_rows p) t is.cost.form.rises (first_units p is) (h.three.0, h.three.1) e) in
      record {
        point = feasible_of t h;
        duals = record {
          one_each = duals_long p.columns (length p.rows) t.objective;
          reduced = λ j l.
              let g : dot y (values (first_rows p) (unit j)) ≤ℚ product p.cost (unit j) = d.good j l in
              let c : dot y (values (first_rows p) (unit j)) ≡ dot y (column_of p.rows j) = ap (dot y) (column_is p.columns p.columns j p.rows p.right l (le_refl p.columns) is.one_each) in
              by_linear (dot y (values (first_rows p) (unit j)) ∷ product p.cost (unit j) ∷ coefficient p.cost j ∷ dot y (column_of p.rows j) ∷ []) (fact g (equal c (equal (coefficient_is p.cost j) nothing))) (search terms depth 40) tt;
        };
        equal = d.worth ∙ ap (dot y) (right_is p.columns (with_units p.columns p.rows) p.right (is.one_each ∙ sym (length_with_units p.columns p.rows)));
      }

  unbounded_of : (j : ℕ) (t : Tableau) → Second p t → j < p.columns → IsRayOf (all_columns p) p.cost (first_rows p) (ray j t.rows) → IsUnbounded p (point t.rows) (ray j t.rows)
  unbounded_of j t h l d = record {
    point = feasible_of t h;
    ray = record {
      nonnegative = nonnegative_of (ray j t.rows) d.direction (λ c k. ray_ends p.columns j c t.rows l k h.three.1.rows_rise h.settled);
      stays = stays_of p.columns p.columns p.rows p.right (ray j t.rows) (le_refl p.columns) (λ c k. ray_ends p.columns j c t.rows l k h.three.1.rows_rise h.settled) is.one_each d.flat;
      falls = d.falls;
    };
  }

  second_certified : (e : Ending) → EndsWell (Second p) p.columns e → IsCertified p (second_end p e)
  second_certified (Done k t) w = optimal_of t w.0 w.1
  second_certified (Open j t) w = unbounded_of j t w.0 (entering_below p.columns t.objective j w.1) (ray_of p.columns (all_columns p) p.cost (first_rows p) j t (omega arith) w.0.three w.1 w.2)
  second_certified TooLong w = tt
  second_certified (Stopped k o) w = tt

  between_certified : (pivots : ℕ) (d : Driven) → EndsDriven p d → IsCertified p (between p pivots d)
  between_certified pivots (Driven_out k t) h = go (priced p.cost t.rows p.cost) refl
    where
      go : (w : Walk (List Entry)) → priced p.cost t.rows p.cost ≡ w → IsCertified p (counted k w (λ o. second_end p (path p.columns (pivots - k) k (record { rows = t.rows; objective = o }))))
      go (Ok o) e = second_certified (path p.columns (pivots - k) k (record { rows = t.rows; objective = o })) (second_path p (pivots - k) k (record { rows = t.rows; objective = o }) (second_begins p t o is h e))
      go (Err q) e = tt
  between_certified pivots Driven_long h = tt
  between_certified pivots (Driven_stop k o) h = tt

  first_certified : (pivots : ℕ) (e : Ending) → EndsWell (First p) p.columns e → IsCertified p (first_end p pivots e)
  first_certified pivots (Done k t) w = go (has_artificial_above p.columns t.rows) refl
    where
      duals : (v : Walk (List ℚ)) → zero_ℚ <ℚ product (first_cost p) (point t.rows) → first_duals p.columns (length p.rows) t.objective [] ≡ v → IsCertified p (counted k v Nowhere)
      duals (Ok y) l q = infeasible_of t y w.0 w.1 l q
      duals (Err o) l q = tt

      go : (b : Bool) → has_artificial_above p.columns t.rows ≡ b
          → IsCertified p (elim b [ true ↦ counted k (first_duals p.columns (length p.rows) t.objective []) Nowhere | false ↦ between p pivots (driven p.columns (length t.rows) 0 (pivots - k) k t) ])
      go true q = duals (first_duals p.columns (length p.rows) t.objective []) (costs_above_zero p t w.0 q) refl
      go false q = between_certified pivots (driven p.columns (length t.rows) 0 (pivots - k) k t) (driven_well p (pivots - k) k t (driving_begins p t w.0 q))
  first_certified pivots (Open j t) w = tt
  first_certified pivots TooLong w = tt
  first_certified pivots (Stopped k o) w = tt

pub solutions_are_certified : SolutionsAreCertified
solutions_are_certified p pivots is = go (priced (first_cost p) (first_rows p) (first_cost p)) refl
  where
    go : (w : Walk (List Entry)) → priced (first_cost p) (first_rows p) (first_cost p) ≡ w → IsCertified p (counted 0 w (λ o. first_end p pivots (path p.columns pivots 0 (record { rows = first_rows p; objective = o }))))
    go (Ok o) e = first_certified p is pivots (path p.columns pivots 0 (record { rows = first_rows p; objective = o })) (first_path p pivots 0 (record { rows = first_rows p; objective = o }) (first_begins p o is e))
    go (Err q) e = tt
