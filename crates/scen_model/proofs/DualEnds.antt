-- The value of the walk over the value of multipliers.
use Rattle.std.proofs.Common.{◌≡◌, ℕ, Bool, true, false, List, [], ◌∷◌, Option, Some, None, Ok, Err, sym, ap, subst, ◌∙◌}
use Rattle.rationals.specs.declared.Op.TheVariants.{Add, Sub, Mul}
use Rattle.rationals.specs.Rational.{ℚ, zero_ℚ, one_ℚ, ◌+ℚ◌, ◌-ℚ◌, ◌*ℚ◌, by_eqs, by_ring, terms, add_zero_ℚ}
use Rattle.rationals.specs.Ring.Eqs.{done, by_eq}
use Rattle.rationals.specs.Passes.{then_walk, mul_walk, add_product_walk, less_product_walk}
use Rattle.rationals.specs.Sums.{sum_ℚ}
use Rattle.rationals.specs.Sparse.{coefficient, value_if}
use Rattle.rationals.proofs.WalkLaws.{walk_value, step_value, ended}
use Rattle.rationals.specs.Choices.{pick}
use Rattle.scen_defs.specs.declared.program.NodeRow.{NodeRow}
use Rattle.scen_defs.specs.Lists.{Each}
use Rattle.scen_defs.specs.Ends.{used_end, IsFinite, number, IsGoodAt, worth}
use Rattle.scen_defs.specs.Program.{View, total}
use Rattle.scen_defs.specs.Flat.{is_above, subtree, reduced, GoodAt, IsGood, value}
use Rattle.scen_defs.proofs.SumLaws.{each-both, each-map, sum-keep}
use Rattle.scen_model.specs.declared.stop.Stop.TheVariants.{Decided}
use Rattle.scen_defs.specs.Walks.{less_from}
use Rattle.scen_model.specs.Walks.{total_walk, totals_walk, stopping, end_step, worth_step, rows_from, less_step, less_all, reduced_walk, column_step, columns_step, all_rows, all_columns, dual_walk}
use Rattle.scen_model.specs.Laws.{DualLaws}
use Rattle.scen_defs.proofs.WalkEnds.{total_from-ends}
use Rattle.scen_model.proofs.WalkEnds.{Decides, decides, stopping-ends, stopping-decided, fold-adds, fold-takes, fold-each, fold-decided}
use Rattle.scen_model.proofs.WalkEnds.Decides.{at_first, at_next}

-- ---- a multiplier and the end that it uses
module _ (low high : Option ℚ) (y s : ℚ) where
  pub worth-adds : (q : ℚ) → worth_step low high y s ≡ Ok q → q ≡ s +ℚ worth low high y
  unfolding worth
  worth-adds q e = go (used_end low high y) e
    where
      go : (u : Option ℚ) → end_step s y u ≡ Ok q → q ≡ s +ℚ y *ℚ number u
      go None e = absurd (cc)
      go (Some u) e = step_value Add s y u q (stopping-ends (add_product_walk s y u) q e)

  pub worth-good : (q : ℚ) → worth_step low high y s ≡ Ok q → IsGoodAt low high y
  worth-good q e = record { finite = go (used_end low high y) e }
    where
      go : (u : Option ℚ) → end_step s y u ≡ Ok q → IsFinite u
      go None e = absurd (cc)
      go (Some u) e = tt

  pub worth-decided : worth_step low high y s ≡ Err Decided → IsGoodAt low high y → ⊥
  worth-decided e g = go (used_end low high y) e g.finite
    where
      go : (u : Option ℚ) → end_step s y u ≡ Err Decided → IsFinite u → ⊥
      go None e f = f
      go (Some u) e f = stopping-decided (add_product_walk s y u) e

-- ---- the rows of a node
rows-worth : (ℕ → ℚ) → List NodeRow → ℚ
rows-worth y rs = sum_ℚ (λ (r : NodeRow). worth r.low r.high (y r.row)) rs

rows-add : (y : ℕ → ℚ) (s : ℚ) (rs : List NodeRow) (q : ℚ) → rows_from y s rs ≡ Ok q → q ≡ s +ℚ rows-worth y rs
unfolding rows-worth
rows-add y s [] q e = let d : q ≡ s = cc in d ∙ sym (add_zero_ℚ s)
rows-add y s (r ∷ rs) q e =
    let one = ended (worth_step r.low r.high (y r.row) s) (λ t. rows_from y t rs) q e in
    let a : q ≡ one.result +ℚ rows-worth y rs = rows-add y one.result rs q one.next_is in
    let b : one.result ≡ s +ℚ worth r.low r.high (y r.row) = worth-adds r.low r.high (y r.row) s one.result one.first_is in
    by_eqs (q ∷ s ∷ one.result ∷ worth r.low r.high (y r.row) ∷ rows-worth y rs ∷ []) (by_eq one_ℚ a (by_eq one_ℚ b done)) (search terms depth 40) tt

RowsGood : (ℕ → ℚ) → List NodeRow → Type 0
RowsGood y rs = Each (λ (r : NodeRow). IsGoodAt r.low r.high (y r.row)) rs

rows-good : (y : ℕ → ℚ) (s : ℚ) (rs : List NodeRow) (q : ℚ) → rows_from y s rs ≡ Ok q → RowsGood y rs
unfolding RowsGood
rows-good y s [] q e = tt
rows-good y s (r ∷ rs) q e =
    let one = ended (worth_step r.low r.high (y r.row) s) (λ t. rows_from y t rs) q e in
    (worth-good r.low r.high (y r.row) s one.result one.first_is, rows-good y one.result rs q one.next_is)

rows-decided : (y : ℕ → ℚ) (s : ℚ) (rs : List NodeRow) → rows_from y s rs ≡ Err Decided → RowsGood y rs → ⊥
unfolding RowsGood
rows-decided y s [] e g = absurd (cc)
rows-decided y s (r ∷ rs) e g = go (decides (worth_step r.low r.high (y r.row) s) (λ t. rows_from y t rs) e) (λ t k. rows-decided y t rs k g.1)
  where
    go : Decides (worth_step r.low r.high (y r.row) s) (λ t. rows_from y t rs) → ((t : ℚ) → rows_from y t rs ≡ Err Decided → ⊥) → ⊥
    go (at_first d) rest = worth-decided r.low r.high (y r.row) s d g.0
    go (at_next t d k) rest = rest t k

-- ---- a reduced cost
products : ℕ → (ℕ → ℚ) → List NodeRow → ℚ
products j y rs = sum_ℚ (λ (r : NodeRow). coefficient r.entries j *ℚ y r.row) rs

less-takes : (j : ℕ) (y : ℕ → ℚ) (s : ℚ) (rs : List NodeRow) (q : ℚ) → less_from j y s rs ≡ Ok q → q ≡ s -ℚ products j y rs
unfolding products
less-takes j y s [] q e = let d : q ≡ s = cc in d ∙ by_ring (s ∷ []) (search terms depth 40) tt
less-takes j y s (r ∷ rs) q e =
    let one = ended (less_product_walk s (coefficient r.entries j) (y r.row)) (λ t. less_from j y t rs) q e in
    let a : q ≡ one.result -ℚ products j y rs = less-takes j y one.result rs q one.next_is in
    let b : one.result ≡ s -ℚ coefficient r.entries j *ℚ y r.row = step_value Sub s (coefficient r.entries j) (y r.row) one.result one.first_is in
    by_eqs (q ∷ s ∷ one.result ∷ coefficient r.entries j ∷ y r.row ∷ products j y rs ∷ []) (by_eq one_ℚ a (by_eq one_ℚ b done)) (search terms depth 40) tt

less_step-takes : (v : View) (y : ℕ → ℕ → ℚ) (m j : ℕ) (s : ℚ) (n : ℕ) (q : ℚ) → less_step v y m j s n ≡ Ok q → q ≡ s -ℚ value_if (is_above v m n) (products j (y n) (v.rows n))
less_step-takes v y m j s n q e = go (is_above v m n) e
  where
    go : (b : Bool) → pick b (less_from j (y n) s (v.rows n)) (Ok s) ≡ Ok q → q ≡ s -ℚ value_if b (products j (y n) (v.rows n))
    go true e = less-takes j (y n) s (v.rows n) q e
    go false e = let d : q ≡ s = cc in d ∙ by_ring (s ∷ []) (search terms depth 40) tt

pub reduced-is : (v : View) (y : ℕ → ℕ → ℚ) (m j : ℕ) (q : ℚ) → reduced_walk v.cost v y m j ≡ Ok q → q ≡ reduced v y m j
unfolding reduced products
reduced-is v y m j q e =
    let one = ended (total_walk v m) (λ t. then_walk (mul_walk t (coefficient (v.cost m) j)) (λ c. less_all v y m j c)) q e in
    let two = ended (mul_walk one.result (coefficient (v.cost m) j)) (λ c. less_all v y m j c) q one.next_is in
    let t : one.result ≡ zero_ℚ +ℚ total v m = total_from-ends m zero_ℚ v.scenarios one.result one.first_is in
    let c : two.result ≡ one.result *ℚ coefficient (v.cost m) j = walk_value Mul one.result (coefficient (v.cost m) j) two.result two.first_is in
    let r : q ≡ two.result -ℚ sum_ℚ (λ n. value_if (is_above v m n) (products j (y n) (v.rows n))) v.live = fold-takes (less_step v y m j) (λ n. value_if (is_above v m n) (products j (y n) (v.rows n))) (λ s n q e. less_step-takes v y m j s n q e) two.result v.live q two.next_is in
    let k : sum_ℚ (λ n. products j (y n) (v.rows n)) (subtree v m) ≡ sum_ℚ (λ n. value_if (is_above v m n) (products j (y n) (v.rows n))) v.live = sum-keep (λ n. is_above v m n) (λ n. products j (y n) (v.rows n)) v.live in
    by_eqs (q ∷ one.result ∷ two.result ∷ total v m ∷ coefficient (v.cost m) j ∷ sum_ℚ (λ n. value_if (is_above v m n) (products j (y n) (v.rows n))) v.live ∷ sum_ℚ (λ n. products j (y n) (v.rows n)) (subtree v m) ∷ [])
    (by_eq one_ℚ r (by_eq one_ℚ c (by_eq (coefficient (v.cost m) j) t (by_eq one_ℚ k done)))) (search terms depth 40) tt

-- ---- the columns of a node
module _ (v : View) (y : ℕ → ℕ → ℚ) (n j : ℕ) where
  column-add : (s q : ℚ) → column_step v.cost v y n s j ≡ Ok q → q ≡ s +ℚ worth (v.lower j) (v.upper j) (reduced v y n j)
  column-add s q e =
      let one = ended (stopping (reduced_walk v.cost v y n j)) (λ d. worth_step (v.lower j) (v.upper j) d s) q e in
      let r : one.result ≡ reduced v y n j = reduced-is v y n j one.result (stopping-ends (reduced_walk v.cost v y n j) one.result one.first_is) in
      worth-adds (v.lower j) (v.upper j) one.result s q one.next_is ∙ ap (λ d. s +ℚ worth (v.lower j) (v.upper j) d) r

  column-good : (s q : ℚ) → column_step v.cost v y n s j ≡ Ok q → IsGoodAt (v.lower j) (v.upper j) (reduced v y n j)
  column-good s q e =
      let one = ended (stopping (reduced_walk v.cost v y n j)) (λ d. worth_step (v.lower j) (v.upper j) d s) q e in
      let r : one.result ≡ reduced v y n j = reduced-is v y n j one.result (stopping-ends (reduced_walk v.cost v y n j) one.result one.first_is) in
      subst (λ (d : ℚ). IsGoodAt (v.lower j) (v.upper j) d) r (worth-good (v.lower j) (v.upper j) one.result s q one.next_is)

  column-decided : (s : ℚ) → column_step v.cost v y n s j ≡ Err Decided → IsGoodAt (v.lower j) (v.upper j) (reduced v y n j) → ⊥
  column-decided s e g = go (decides (stopping (reduced_walk v.cost v y n j)) (λ d. worth_step (v.lower j) (v.upper j) d s) e)
    where
      go : Decides (stopping (reduced_walk v.cost v y n j)) (λ d. worth_step (v.lower j) (v.upper j) d s) → ⊥
      go (at_first d) = stopping-decided (reduced_walk v.cost v y n j) d
      go (at_next d k h) =
          let r : d ≡ reduced v y n j = reduced-is v y n j d (stopping-ends (reduced_walk v.cost v y n j) d k) in
          worth-decided (v.lower j) (v.upper j) d s h (subst (λ (e : ℚ). IsGoodAt (v.lower j) (v.upper j) e) (sym r) g)

columns-worth : View → (ℕ → ℕ → ℚ) → ℕ → ℚ
columns-worth v y n = sum_ℚ (λ j. worth (v.lower j) (v.upper j) (reduced v y n j)) (v.columns (v.stage n))

ColumnsGood : View → (ℕ → ℕ → ℚ) → ℕ → Type 0
ColumnsGood v y n = Each (λ j. IsGoodAt (v.lower j) (v.upper j) (reduced v y n j)) (v.columns (v.stage n))

module _ (v : View) (y : ℕ → ℕ → ℚ) (s : ℚ) (n : ℕ) where
  columns-add : (q : ℚ) → columns_step v.cost v y s n ≡ Ok q → q ≡ s +ℚ columns-worth v y n
  unfolding columns-worth
  columns-add q e = fold-adds (column_step v.cost v y n) (λ j. worth (v.lower j) (v.upper j) (reduced v y n j)) (λ s j q e. column-add v y n j s q e) s (v.columns (v.stage n)) q e

  columns-good : (q : ℚ) → columns_step v.cost v y s n ≡ Ok q → ColumnsGood v y n
  unfolding ColumnsGood
  columns-good q e = fold-each (column_step v.cost v y n) (λ j. IsGoodAt (v.lower j) (v.upper j) (reduced v y n j)) (λ s j q e. column-good v y n j s q e) s (v.columns (v.stage n)) q e

  columns-decided : columns_step v.cost v y s n ≡ Err Decided → ColumnsGood v y n → ⊥
  unfolding ColumnsGood
  columns-decided e g = fold-decided (column_step v.cost v y n) (λ j. IsGoodAt (v.lower j) (v.upper j) (reduced v y n j)) (λ s j e g. column-decided v y n j s e g) s (v.columns (v.stage n)) e g

-- ---- the whole
module _ (v : View) (y : ℕ → ℕ → ℚ) where
  after_totals : (q : ℚ) → dual_walk v y ≡ Ok q → then_walk (all_rows v y) (λ s. all_columns v.cost v y s) ≡ Ok q
  after_totals q e = (ended (stopping (totals_walk v v.live)) (λ _. then_walk (all_rows v y) (λ s. all_columns v.cost v y s)) q e).next_is

  value-is : (q : ℚ) → dual_walk v y ≡ Ok q → q ≡ value v y
  unfolding value rows-worth columns-worth
  value-is q e =
      let one = ended (all_rows v y) (λ s. all_columns v.cost v y s) q (after_totals q e) in
      let a : one.result ≡ zero_ℚ +ℚ sum_ℚ (λ n. rows-worth (y n) (v.rows n)) v.live = fold-adds (λ s n. rows_from (y n) s (v.rows n)) (λ n. rows-worth (y n) (v.rows n)) (λ s n q e. rows-add (y n) s (v.rows n) q e) zero_ℚ v.live one.result one.first_is in
      let b : q ≡ one.result +ℚ sum_ℚ (columns-worth v y) v.live = fold-adds (columns_step v.cost v y) (columns-worth v y) (λ s n q e. columns-add v y s n q e) one.result v.live q one.next_is in
      by_eqs (q ∷ one.result ∷ sum_ℚ (λ n. rows-worth (y n) (v.rows n)) v.live ∷ sum_ℚ (columns-worth v y) v.live ∷ []) (by_eq one_ℚ b (by_eq one_ℚ a done)) (search terms depth 40) tt

  is-good : (q : ℚ) → dual_walk v y ≡ Ok q → IsGood v y
  unfolding RowsGood ColumnsGood
  is-good q e =
      let one = ended (all_rows v y) (λ s. all_columns v.cost v y s) q (after_totals q e) in
      each-both (λ n r c. record { rows = r; bounds = c }) v.live
      (fold-each (λ s n. rows_from (y n) s (v.rows n)) (λ n. RowsGood (y n) (v.rows n)) (λ s n q e. rows-good (y n) s (v.rows n) q e) zero_ℚ v.live one.result one.first_is)
      (fold-each (columns_step v.cost v y) (ColumnsGood v y) (λ s n q e. columns-good v y s n q e) one.result v.live q one.next_is)

  not-good : dual_walk v y ≡ Err Decided → IsGood v y → ⊥
  unfolding RowsGood ColumnsGood
  not-good e g = go (decides (stopping (totals_walk v v.live)) (λ _. then_walk (all_rows v y) (λ s. all_columns v.cost v y s)) e)
    where
      rows : (all_rows v y ≡ Err Decided) → ⊥
      rows d = fold-decided (λ s n. rows_from (y n) s (v.rows n)) (λ n. RowsGood (y n) (v.rows n)) (λ s n e h. rows-decided (y n) s (v.rows n) e h) zero_ℚ v.live d (each-map (λ n (h : GoodAt v y n). h.rows) v.live g)

      columns : (s : ℚ) → all_columns v.cost v y s ≡ Err Decided → ⊥
      columns s d = fold-decided (columns_step v.cost v y) (ColumnsGood v y) (λ s n e h. columns-decided v y s n e h) s v.live d (each-map (λ n (h : GoodAt v y n). h.bounds) v.live g)

      later : Decides (all_rows v y) (λ s. all_columns v.cost v y s) → ⊥
      later (at_first d) = rows d
      later (at_next s d k) = columns s k

      go : Decides (stopping (totals_walk v v.live)) (λ _. then_walk (all_rows v y) (λ s. all_columns v.cost v y s)) → ⊥
      go (at_first d) = stopping-decided (totals_walk v v.live) d
      go (at_next _ d k) = later (decides (all_rows v y) (λ s. all_columns v.cost v y s) k)

pub dual_is : DualLaws
dual_is = record { good = is-good; value = value-is; not_good = not-good }
