-- What is made of the end of the path shows itself.
use Rattle.std.proofs.Common.{◌≡◌, ℕ, suc, Bool, true, false, List, [], ◌∷◌, ◌++◌, Ok, length, take, drop, refl, sym, ap, subst, ◌∙◌, append-nil}
use Rattle.rationals.specs.declared.Op.TheVariants.{Add}
use Rattle.rationals.specs.Rational.{ℚ, zero_ℚ, one_ℚ, ◌+ℚ◌, ◌*ℚ◌, by_eqs, terms, zero_add_ℚ, add_zero_ℚ}
use Rattle.rationals.specs.Ring.Eqs.{done, by_eq}
use Rattle.rationals.specs.Passes.{then_walk, add_product_walk}
use Rattle.rationals.specs.Totals.{sum_walk}
use Rattle.rationals.specs.Sparse.{Entry, product, coefficient}
use Rattle.rationals.specs.Forms.{put}
use Rattle.rationals.proofs.WalkLaws.{walk_value, step_value, sum_from_is}
use Rattle.rationals.specs.Choices.{pick}
use Rattle.lp_defs.specs.Program as lp
use Rattle.lp_defs.specs.Certificates as lp_shows
use Rattle.lp_defs.specs.Solution.{Solution, Optimum, Nowhere, Endless, Cut_off, Passes}
use Rattle.lp_defs.specs.Walks.{after_ok, sub_walk_is}
use Rattle.farkas_ray.specs.Sums.{ray_walk}
use Rattle.slack_form.specs.declared.limits.Limits.{Limits}
use Rattle.slack_form.specs.Standard.{standard_of, signed, turned_back}
use Rattle.scen_defs.specs.declared.program.NodeRow.{NodeRow}
use Rattle.cut_defs.specs.declared.datum.ColumnBounds.{ColumnBounds}
use Rattle.interval_form.specs.declared.part.Part.{Part}
use Rattle.interval_form.specs.declared.part.Part.TheVariants.{Above, Below, Free}
use Rattle.interval_form.specs.declared.part.Vector.TheVariants.{Point}
use Rattle.interval_form.specs.Parts.{part_at, value_of, value_walk}
use Rattle.interval_form.specs.Values.{place_value}
use Rattle.interval_form.specs.Own.{by_number, columns_of, listed}
use Rattle.interval_form.specs.Spans.{limit_count, sum_first}
use Rattle.interval_form.specs.Rows.{terms_walk, row_sums, row_numbers}
use Rattle.interval_form.specs.Plain.{IsWritten}
use Rattle.interval_form.proofs.RowLemmas.{ok_same, terms_more}
use Rattle.cut_defs.specs.declared.datum.Share.{Share}
use Rattle.node_lp.specs.declared.found.Found.{Found}
use Rattle.node_lp.specs.declared.found.Found.TheVariants as found
use Rattle.node_lp.specs.Problem.{Problem, IsProblem}
use Rattle.node_lp.specs.Plain.{plain_of}
use Rattle.node_lp.specs.Records.{IsPointOf, ShowsNoPoint, shared_cost, cost_at}
use Rattle.node_lp.specs.Points.{point_of, costs_from, costs_of, own_of, weights_of}
use Rattle.node_lp.specs.Walk.{node_parts, point_from, child_walk, children_from, cost_walk, multipliers_from, end_walk}
use Rattle.node_lp.specs.Places.{OfRows, OfColumns}
use Rattle.node_lp.specs.Shows.{IsSound}
use Rattle.node_lp.proofs.EndLemmas.{put_next}
use Rattle.node_lp.proofs.NodeShows.{node_laws}
use Rattle.node_lp.proofs.PlaceShows.{own_rows, own_columns}

-- ---- what the walks give

number_is : (q : Part) (z : ℕ → ℚ) (v : ℚ) → value_walk Point q z ≡ Ok v → v ≡ value_of q z
number_is (Above l m) z v e = walk_value Add l (z m) v e
number_is (Below u m) z v e = sub_walk_is u (z m) v e
number_is (Free m n) z v e = sub_walk_is (z m) (z n) v e

point_are : (z : ℕ → ℚ) (ps : List Part) (made : List Entry) (k : ℕ) (bs : List ColumnBounds) (all : List Entry) → point_from z ps made k bs ≡ Ok all → all ≡ made ++ by_number (columns_of bs) (listed (place_value ps z) k bs)
point_are z ps made k [] all e = sym (ok_same made all e) ∙ sym (append-nil made)
point_are z ps made k (b ∷ bs) all e =
    let a = after_ok (value_walk Point (part_at ps k) z) (λ v. point_from z ps (made ++ put b.column v []) (suc k) bs) all e in
    point_are z ps (made ++ put b.column a.0 []) (suc k) bs all a.2
    ∙ ap (λ (v : ℚ). (made ++ put b.column v []) ++ by_number (columns_of bs) (listed (place_value ps z) (suc k) bs)) (number_is (part_at ps k) z a.0 a.1)
    ∙ put_next made b.column (place_value ps z k) (by_number (columns_of bs) (listed (place_value ps z) (suc k) bs))

multipliers_are : (made : List Entry) (rows : List NodeRow) (w : List ℚ) (all : List Entry) → multipliers_from made rows w ≡ Ok all → all ≡ made ++ by_number (row_numbers rows) (row_sums rows w)
multipliers_are made [] w all e = sym (ok_same made all e) ∙ sym (append-nil made)
multipliers_are made (r ∷ rs) w all e =
    let a = after_ok (sum_walk (take (limit_count r.low r.high) w)) (λ y. multipliers_from (made ++ put r.row y []) rs (drop (limit_count r.low r.high) w)) all e in
    let s : a.0 ≡ sum_first (limit_count r.low r.high) w = sum_from_is zero_ℚ (take (limit_count r.low r.high) w) a.0 a.1 ∙ zero_add_ℚ (sum_first (limit_count r.low r.high) w) in
    multipliers_are (made ++ put r.row a.0 []) rs (drop (limit_count r.low r.high) w) all a.2
    ∙ ap (λ (v : ℚ). (made ++ put r.row v []) ++ by_number (row_numbers rs) (row_sums rs (drop (limit_count r.low r.high) w))) s
    ∙ put_next made r.row (sum_first (limit_count r.low r.high) w) (by_number (row_numbers rs) (row_sums rs (drop (limit_count r.low r.high) w)))

children_are : (z : ℕ → ℚ) (ps : List Part) (s : ℚ) (k : ℕ) (shares : List Share) (v : ℚ) → children_from z ps s k shares ≡ Ok v → v ≡ s +ℚ shared_cost shares (costs_from (place_value ps z) k shares)
children_are z ps s k [] v e = sym (ok_same s v e) ∙ sym (add_zero_ℚ s)
children_are z ps s k (h ∷ hs) v e =
    let a = after_ok (child_walk z s h.share (part_at ps k)) (λ t. children_from z ps t (suc k) hs) v e in
    let b = after_ok (value_walk Point (part_at ps k) z) (λ c. add_product_walk s h.share c) a.0 a.1 in
    let t : a.0 ≡ s +ℚ h.share *ℚ place_value ps z k = step_value Add s h.share b.0 a.0 b.2 ∙ ap (λ c. s +ℚ h.share *ℚ c) (number_is (part_at ps k) z b.0 b.1) in
    by_eqs (v ∷ a.0 ∷ s ∷ h.share *ℚ place_value ps z k ∷ shared_cost hs (costs_from (place_value ps z) (suc k) hs) ∷ []) (by_eq one_ℚ (children_are z ps a.0 (suc k) hs v a.2) (by_eq one_ℚ t done)) (search terms depth 40) tt

no_costs : (ss : List Share) → shared_cost ss [] ≡ zero_ℚ
no_costs [] = refl
no_costs (s ∷ ss) = refl

cost_is : (p : Problem) (z : ℕ → ℚ) (x : List Entry) (v : ℚ) → cost_walk p z x ≡ Ok v → v ≡ cost_at p x (costs_of p (place_value (node_parts p) z))
cost_is p z x v e =
    let a = after_ok (terms_walk Add (coefficient x) zero_ℚ p.cost) (λ s. pick p.priced (children_from z (node_parts p) s (length p.bounds) p.shares) (Ok s)) v e in
    let s : a.0 ≡ product p.cost (coefficient x) = terms_more (coefficient x) zero_ℚ p.cost a.0 a.1 ∙ zero_add_ℚ _ in
    go p.priced a.0 a.2 ∙ ap (λ q. q +ℚ shared_cost p.shares (costs_of p (place_value (node_parts p) z))) s
  where
    go : (b : Bool) (s : ℚ) → pick b (children_from z (node_parts p) s (length p.bounds) p.shares) (Ok s) ≡ Ok v → v ≡ s +ℚ shared_cost p.shares (pick b (costs_from (place_value (node_parts p) z) (length p.bounds) p.shares) [])
    go true s h = children_are z (node_parts p) s (length p.bounds) p.shares v h
    go false s h = sym (ok_same s v h) ∙ sym (add_zero_ℚ s) ∙ ap (λ q. s +ℚ q) (sym (no_costs p.shares))

-- ---- the ends

same_point : (p : Problem) (x x' : List Entry) (v v' : ℚ) (y y' : List Entry) (ws : List ℚ) → x ≡ x' → v ≡ v' → y ≡ y' → IsPointOf p x' v' y' ws → IsPointOf p x v y ws
same_point p x x' v v' y y' ws e f g h =
    subst (λ (x : List Entry). IsPointOf p x v y ws) (sym e) (subst (λ (v : ℚ). IsPointOf p x' v y ws) (sym f) (subst (λ (y : List Entry). IsPointOf p x' v' y ws) (sym g) h))

module _ (p : Problem) (limits : Limits) (h : IsProblem p) (w : IsWritten (plain_of p) limits) where
  pub end_shows : (standard : lp.Program) (end : Solution) (all : Found) → lp_shows.IsCertified (standard_of limits) end → end_walk p limits.rows.items standard end ≡ Ok all → IsSound p all
  end_shows standard (Optimum x y) all c e =
      let a = after_ok (multipliers_from [] p.rows (turned_back limits.rows.items y)) (λ own. then_walk (point_from x (node_parts p) [] 0 p.bounds) (λ pt. then_walk (cost_walk p x pt) (λ v. Ok (found.Point pt v (record { rows = own; weights = (weights_of p (turned_back limits.rows.items y)) }))))) all e in
      let b = after_ok (point_from x (node_parts p) [] 0 p.bounds) (λ pt. then_walk (cost_walk p x pt) (λ v. Ok (found.Point pt v (record { rows = a.0; weights = (weights_of p (turned_back limits.rows.items y)) })))) all a.2 in
      let d = after_ok (cost_walk p x b.0) (λ v. Ok (found.Point b.0 v (record { rows = a.0; weights = (weights_of p (turned_back limits.rows.items y)) }))) all b.2 in
      let point : b.0 ≡ point_of p (place_value (node_parts p) x) = point_are x (node_parts p) [] 0 p.bounds b.0 b.1 in
      let value : d.0 ≡ cost_at p (point_of p (place_value (node_parts p) x)) (costs_of p (place_value (node_parts p) x)) = cost_is p x b.0 d.0 d.1 ∙ ap (λ (pt : List Entry). cost_at p pt (costs_of p (place_value (node_parts p) x))) point in
      subst (IsSound p) (ok_same (found.Point b.0 d.0 (record { rows = a.0; weights = (weights_of p (signed limits y)) })) all d.2) record {
        shows = same_point p b.0 (point_of p (place_value (node_parts p) x)) d.0 (cost_at p (point_of p (place_value (node_parts p) x)) (costs_of p (place_value (node_parts p) x))) a.0 (own_of p (signed limits y)) (weights_of p (signed limits y))
            point value (multipliers_are [] p.rows (signed limits y) a.0 a.1) (node_laws.point p limits x y h w c);
        held = λ k. tt;
        costless = λ k f. tt;
        places = (
          subst (OfColumns p.bounds) (sym point) (own_columns p h (place_value (node_parts p) x)),
          subst (λ (f : List Entry). OfRows p.rows f) (sym (multipliers_are [] p.rows (signed limits y) a.0 a.1)) (own_rows p (signed limits y)),
        );
      }
  end_shows standard (Nowhere y) all c e =
      let a = after_ok (multipliers_from [] p.rows (turned_back limits.rows.items y)) (λ own. then_walk (ray_walk standard y) (λ shown. Ok (found.NoPoint (record { rows = own; weights = (weights_of p (turned_back limits.rows.items y)) })))) all e in
      let b = after_ok (ray_walk standard y) (λ shown. Ok (found.NoPoint (record { rows = a.0; weights = (weights_of p (turned_back limits.rows.items y)) }))) all a.2 in
      subst (IsSound p) (ok_same (found.NoPoint (record { rows = a.0; weights = (weights_of p (signed limits y)) })) all b.2) record {
        shows = subst (λ (f : List Entry). ShowsNoPoint p f (weights_of p (signed limits y))) (sym (multipliers_are [] p.rows (signed limits y) a.0 a.1)) (node_laws.no_point p limits y h w c);
        held = λ k. tt;
        costless = λ k f. tt;
        places = subst (λ (f : List Entry). OfRows p.rows f) (sym (multipliers_are [] p.rows (signed limits y) a.0 a.1)) (own_rows p (signed limits y));
      }
  end_shows standard (Endless x d) all c e = subst (IsSound p) (ok_same found.Loose all e) record { shows = node_laws.loose p limits x d h w c; held = λ k. node_laws.held p limits x d h k w c; costless = λ k f. node_laws.costless p limits x d h k f w c; places = tt }
  end_shows standard Cut_off all c e = subst (IsSound p) (ok_same found.PivotsEnded all e) record { shows = tt; held = λ k. tt; costless = λ k f. tt; places = tt }
  end_shows standard (Passes k o) all c e = absurd (cc)
