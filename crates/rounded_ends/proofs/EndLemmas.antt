-- What runs over a program come to.
use Rattle.std.proofs.Common.{◌≡◌, ℕ, suc, ◌+◌, ◌<◌, Bool, true, false, eqb, List, [], ◌∷◌, Option, Some, None, IfSome, length, get_or, refl, sym, ap, subst, ◌∙◌, arith}
use Rattle.rationals.specs.Rational.{ℚ, zero_ℚ, ◌+ℚ◌, ◌*ℚ◌, zero_add_ℚ}
use Rattle.rationals.specs.Sums.{sum_ℚ}
use Rattle.scen_defs.specs.declared.program.Column.{Column}
use Rattle.scen_defs.specs.declared.program.Program.{Program as ProgramOf}
use Rattle.scen_defs.specs.Lists.{Each, places, passes_at}
use Rattle.scen_defs.specs.Ends.{IsGoodAt, worth}
use Rattle.scen_defs.specs.Program.{View, content, nodes_content, is_live, view_of, total}
use Rattle.scen_defs.specs.Flat.{cost, node_cost, reduced, IsGood, value}
use Rattle.scen_defs.proofs.SumLaws.{each-both, each-map, sum-same}
use Rattle.scen_defs.proofs.Costs.{cost-by_nodes}
use Rattle.scen_defs.proofs.Valid.{programs_are_trees}
use Rattle.scen_defs.proofs.WalkEnds.{total_from-ends}
use Rattle.scen_model.specs.Walks.{reduced_walk}
use Rattle.scen_model.specs.Gathered.{AreTotals, AreAll, column_number}
use Rattle.scen_model.proofs.DualEnds.{reduced-is}
use Rattle.scen_model.proofs.Homes.{content_long}
use Rattle.rounded_sums.specs.declared.side.Side.{Side}
use Rattle.rounded_sums.specs.Sides.{Beside}
use Rattle.rounded_sums.proofs.SideLemmas.{beside_trans, beside_add, beside_refl}
use Rattle.rounded_ends.specs.Runs.{Ran, rows_good, rows_worth, columns_good, columns_worth}
use Rattle.rounded_ends.specs.Worths.{IsWorthAll}

-- ---- what holds of each place of what passes a test
module _ {A : Type 0} (test : A → Bool) (P : ℕ → Type 0) where
  by_test : Bool → ℕ → List A → List ℕ
  by_test b k xs = elim b [ true ↦ k ∷ places test (suc k) xs | false ↦ places test (suc k) xs ]

  step : (k : ℕ) (xs : List A) (b : Bool) → (b ≡ true → P k) → Each P (places test (suc k) xs) → Each P (by_test b k xs)
  unfolding by_test
  step k xs true h r = (h refl, r)
  step k xs false h r = r

  pub each_places : (k : ℕ) (xs : List A) → ((n i : ℕ) → n ≡ k + i → i < length xs → passes_at test i xs ≡ true → P n) → Each P (places test k xs)
  unfolding by_test
  each_places k [] h = tt
  each_places k (x ∷ xs) h = step k xs (test x) (λ e. h k 0 (omega arith) (omega arith) e)
      (each_places (suc k) xs (λ n i e l t. h n (suc i) (omega (arith, e)) (omega (arith, l)) t))

-- ---- the cost
pub cost_is : (p : ProgramOf) (totals : List ℚ) → length totals ≡ length p.nodes.items → AreTotals (view_of (content p)) totals → (x : ℕ → ℕ → ℚ)
    → sum_ℚ (λ n. get_or totals n zero_ℚ *ℚ node_cost (view_of (content p)) x n) (view_of (content p)).live ≡ cost (view_of (content p)) x
cost_is p totals long are x =
    let v = view_of (content p) in
    let P : ℕ → Type 0 = λ n. get_or totals n zero_ℚ *ℚ node_cost v x n ≡ total v n *ℚ node_cost v x n in
    sum-same (λ n. get_or totals n zero_ℚ *ℚ node_cost v x n) (λ n. total v n *ℚ node_cost v x n) v.live
    (each_places is_live P 0 (nodes_content p.nodes.items) (λ n i e l t.
    let below : n < length totals = omega (arith, e, l, long, content_long p.nodes.items) in
    ap (λ (z : ℚ). z *ℚ node_cost v x n) (total_from-ends n zero_ℚ v.scenarios (get_or totals n zero_ℚ) (are n zero_ℚ below) ∙ zero_add_ℚ (total v n))))
    ∙ sym (cost-by_nodes v (programs_are_trees (content p) p.keeps).0 x)

-- ---- what multipliers are worth
module _ (p : ProgramOf) (y : ℕ → ℕ → ℚ) (seats : List ℕ) (numbers : List (List ℚ)) (are : AreAll (content p) seats (reduced_walk (view_of (content p)).cost (view_of (content p)) y) numbers) where
  abbrev v : View
  v = view_of (content p)

  abbrev d : ℕ → ℕ → ℚ
  d = column_number numbers seats

  abbrev SameAt : ℕ → Type 0
  SameAt n = Each (λ j. d n j ≡ reduced v y n j) (v.columns (v.stage n))

  all_reduced : Each SameAt v.live
  all_reduced = each_places is_live SameAt 0 (nodes_content p.nodes.items) (λ n i e l t.
      let live : passes_at is_live n (nodes_content p.nodes.items) ≡ true = let same : i ≡ n = omega (arith, e) in subst (λ k. passes_at is_live k (nodes_content p.nodes.items) ≡ true) same t in
      each_places (λ (c : Column). eqb c.stage (v.stage n)) (λ j. d n j ≡ reduced v y n j) 0 p.columns.items (λ j i e l t.
      let of_stage : passes_at (λ (c : Column). eqb c.stage (v.stage n)) j p.columns.items ≡ true =
      let same : i ≡ j = omega (arith, e) in subst (λ k. passes_at (λ (c : Column). eqb c.stage (v.stage n)) k p.columns.items ≡ true) same t in
      reduced-is v y n j (d n j) (are n j live of_stage).0))

  good_at : (n : ℕ) → SameAt n → columns_good v d n → Each (λ j. IsGoodAt (v.lower j) (v.upper j) (reduced v y n j)) (v.columns (v.stage n))
  good_at n same h = each-both (λ j e g. subst (λ (q : ℚ). IsGoodAt (v.lower j) (v.upper j) q) e g) (v.columns (v.stage n)) same h

  worth_at : (n : ℕ) → SameAt n → columns_worth v d n ≡ sum_ℚ (λ j. worth (v.lower j) (v.upper j) (reduced v y n j)) (v.columns (v.stage n))
  worth_at n same = sum-same (λ j. worth (v.lower j) (v.upper j) (d n j)) (λ j. worth (v.lower j) (v.upper j) (reduced v y n j)) (v.columns (v.stage n))
      (each-map (λ j e. ap (λ (q : ℚ). worth (v.lower j) (v.upper j) q) e) (v.columns (v.stage n)) same)

  is_good : Each (rows_good v y) v.live → Each (columns_good v d) v.live → IsGood v y
  is_good rows columns = each-both (λ n r b. record { rows = r; bounds = b }) v.live rows (each-both (λ n same h. good_at n same h) v.live all_reduced columns)

  value_is : value v y ≡ sum_ℚ (rows_worth v y) v.live +ℚ sum_ℚ (columns_worth v d) v.live
  unfolding value
  value_is = ap (λ (z : ℚ). sum_ℚ (rows_worth v y) v.live +ℚ z) (sym (sum-same (columns_worth v d) (λ n. sum_ℚ (λ j. worth (v.lower j) (v.upper j) (reduced v y n j)) (v.columns (v.stage n))) v.live
      (each-map (λ n same. worth_at n same) v.live all_reduced)))

  pub worth_is : (side : Side) (sum all told : ℚ) → Ran side (rows_good v y) (rows_worth v y) zero_ℚ v.live sum → Ran side (columns_good v d) (columns_worth v d) sum v.live all
      → Beside side all told → IsWorthAll side v y told
  worth_is side sum all told rows columns h = record {
    good = is_good rows.holds columns.holds;
    beside = subst (λ (z : ℚ). Beside side z told) (sym value_is)
        (beside_trans side (sum_ℚ (rows_worth v y) v.live +ℚ sum_ℚ (columns_worth v d) v.live) all told
        (beside_trans side (sum_ℚ (rows_worth v y) v.live +ℚ sum_ℚ (columns_worth v d) v.live) (sum +ℚ sum_ℚ (columns_worth v d) v.live) all
        (beside_add side (sum_ℚ (rows_worth v y) v.live) sum (sum_ℚ (columns_worth v d) v.live) (sum_ℚ (columns_worth v d) v.live)
        (subst (λ (z : ℚ). Beside side z sum) (zero_add_ℚ (sum_ℚ (rows_worth v y) v.live)) rows.beside) (beside_refl side (sum_ℚ (columns_worth v d) v.live))) columns.beside) h);
  }

  pub worth_told : (side : Side) (sum all : ℚ) (told : Option ℚ) → Ran side (rows_good v y) (rows_worth v y) zero_ℚ v.live sum
      → Ran side (columns_good v d) (columns_worth v d) sum v.live all → IfSome told (Beside side all) → IfSome told (IsWorthAll side v y)
  worth_told side sum all None rows columns h = tt
  worth_told side sum all (Some q) rows columns h = worth_is side sum all q rows columns h
