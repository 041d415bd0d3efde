-- What the walks of a cut come to.
use Rattle.std.proofs.Common.{◌≡◌, ℕ, true, false, List, [], ◌∷◌, ◌++◌, map, Option, Some, None, Ok, refl, sym, ap, subst, ◌∙◌, append_assoc, append-nil}
use Rattle.rationals.specs.declared.Op.TheVariants.{Add, Sub}
use Rattle.rationals.specs.Rational.{ℚ, one_ℚ, ◌+ℚ◌, ◌-ℚ◌, ◌*ℚ◌, by_eqs, by_ring, terms, add_zero_ℚ}
use Rattle.rationals.specs.Ring.Eqs.{done, by_eq}
use Rattle.rationals.specs.Passes.{add_product_walk, less_product_walk}
use Rattle.rationals.specs.Sums.{sum_ℚ}
use Rattle.rationals.specs.Sparse.{Entry, coefficient}
use Rattle.rationals.proofs.WalkLaws.{step_value, ended}
use Rattle.scen_defs.specs.declared.program.NodeRow.{NodeRow}
use Rattle.scen_defs.specs.Lists.{Each}
use Rattle.scen_defs.specs.Ends.{used_end, number, IsFinite, IsGoodAt, worth}
use Rattle.scen_defs.specs.Walks.{less_from}
use Rattle.cut_defs.specs.declared.datum.ColumnBounds.{ColumnBounds}
use Rattle.cut_defs.specs.Data.{Datum}
use Rattle.cut_defs.specs.Stored.{Source, StoredUses, form_sum, constant_sum, slope_of, cost_of, reduced_of, constant_of, form_of}
use Rattle.cut_defs.specs.Stored.StoredUses.{No_stored, Use_stored}
use Rattle.cut_sums.specs.declared.sums.Priced.{Priced}
use Rattle.cut_sums.specs.declared.sums.Worth.{Worth}
use Rattle.cut_sums.specs.Walks.{uses_from, column_walk, priced_from, worth_step, rows_worth, columns_worth, uses_worth}

-- ---- a column
less_ends : (j : ℕ) (y : ℕ → ℚ) (s : ℚ) (rs : List NodeRow) (q : ℚ) → less_from j y s rs ≡ Ok q → q ≡ s -ℚ sum_ℚ (λ (r : NodeRow). coefficient r.entries j *ℚ y r.row) rs
less_ends j y s [] q e = let d : q ≡ s = cc in d ∙ by_ring (s ∷ []) (search terms depth 40) tt
less_ends j y s (r ∷ rs) q e =
    let one = ended (less_product_walk s (coefficient r.entries j) (y r.row)) (λ t. less_from j y t rs) q e in
    let t : one.result ≡ s -ℚ coefficient r.entries j *ℚ y r.row = step_value Sub s (coefficient r.entries j) (y r.row) one.result one.first_is in
    let i : q ≡ one.result -ℚ sum_ℚ (λ (r : NodeRow). coefficient r.entries j *ℚ y r.row) rs = less_ends j y one.result rs q one.next_is in
    by_eqs (q ∷ s ∷ one.result ∷ (coefficient r.entries j *ℚ y r.row) ∷ sum_ℚ (λ (r : NodeRow). coefficient r.entries j *ℚ y r.row) rs ∷ []) (by_eq one_ℚ i (by_eq one_ℚ t done)) (search terms depth 40) tt

uses_ends : (j : ℕ) (s : ℚ) (uses : StoredUses) (q : ℚ) → uses_from j s uses ≡ Ok q → q ≡ s +ℚ form_sum uses j
uses_ends j s No_stored q e = let d : q ≡ s = cc in d ∙ sym (add_zero_ℚ s)
uses_ends j s (Use_stored w cut uses) q e =
    let one = ended (add_product_walk s w (coefficient (form_of cut) j)) (λ t. uses_from j t uses) q e in
    let t : one.result ≡ s +ℚ w *ℚ coefficient (form_of cut) j = step_value Add s w (coefficient (form_of cut) j) one.result one.first_is in
    let i : q ≡ one.result +ℚ form_sum uses j = uses_ends j one.result uses q one.next_is in
    by_eqs (q ∷ s ∷ one.result ∷ (w *ℚ coefficient (form_of cut) j) ∷ form_sum uses j ∷ []) (by_eq one_ℚ i (by_eq one_ℚ t done)) (search terms depth 40) tt

pub column_ends : (d : Datum) (s : Source) (uses : StoredUses) (j : ℕ) (start q : ℚ) → column_walk d.rows s.multipliers uses j start ≡ Ok q → q ≡ start +ℚ slope_of d s uses j
column_ends d s uses j start q e =
    let one = ended (less_from j (coefficient s.multipliers) start d.rows) (λ t. uses_from j t uses) q e in
    let l : one.result ≡ start -ℚ sum_ℚ (λ (r : NodeRow). coefficient r.entries j *ℚ coefficient s.multipliers r.row) d.rows = less_ends j (coefficient s.multipliers) start d.rows one.result one.first_is in
    let u : q ≡ one.result +ℚ form_sum uses j = uses_ends j one.result uses q one.next_is in
    by_eqs (q ∷ start ∷ one.result ∷ sum_ℚ (λ (r : NodeRow). coefficient r.entries j *ℚ coefficient s.multipliers r.row) d.rows ∷ form_sum uses j ∷ []) (by_eq one_ℚ u (by_eq one_ℚ l done)) (search terms depth 40) tt

-- ---- the reduced costs
unfoldable pub price_of : Datum → Source → StoredUses → ColumnBounds → Priced
price_of d s uses b = record { lower = b.lower; upper = b.upper; value = reduced_of d s uses b.column }

pub priced_ends : (d : Datum) (s : Source) (uses : StoredUses) (before : List Priced) (bs : List ColumnBounds) (ps : List Priced) → priced_from d s uses before bs ≡ Ok ps → ps ≡ before ++ map (price_of d s uses) bs
unfolding price_of
priced_ends d s uses before [] ps e = let q : ps ≡ before = cc in q ∙ sym (append-nil before)
priced_ends d s uses before (b ∷ bs) ps e =
    let one = ended (column_walk d.rows s.multipliers uses b.column (cost_of d s.kind b.column)) (λ q. priced_from d s uses (before ++ record { lower = b.lower; upper = b.upper; value = q } ∷ []) bs) ps e in
    let v : one.result ≡ reduced_of d s uses b.column = column_ends d s uses b.column (cost_of d s.kind b.column) one.result one.first_is in
    let i : ps ≡ (before ++ record { lower = b.lower; upper = b.upper; value = one.result } ∷ []) ++ map (price_of d s uses) bs = priced_ends d s uses (before ++ record { lower = b.lower; upper = b.upper; value = one.result } ∷ []) bs ps one.next_is in
    i ∙ append_assoc before (record { lower = b.lower; upper = b.upper; value = one.result } ∷ []) (map (price_of d s uses) bs) ∙ ap (λ (z : ℚ). before ++ record { lower = b.lower; upper = b.upper; value = z } ∷ map (price_of d s uses) bs) v

-- ---- the constant
step_ends : (w : Worth) (low high : Option ℚ) (y : ℚ) (e : Option ℚ) → used_end low high y ≡ e → (v : Worth) → worth_step w y e ≡ Ok v → (v.sum ≡ w.sum +ℚ worth low high y) × (v.is_good ≡ true → (w.is_good ≡ true) × IsGoodAt low high y)
unfolding worth
step_ends w low high y None u v e =
    let r : v ≡ record { sum = w.sum; is_good = false } = cc in (
      ap (λ (x : Worth). x.sum) r ∙ sym (add_zero_ℚ w.sum) ∙ ap (λ z. w.sum +ℚ z) (by_ring (y ∷ []) (search terms depth 40) tt) ∙ ap (λ o. w.sum +ℚ y *ℚ number o) (sym u),
      λ g. absurd (let q : false ≡ true = sym (ap (λ (x : Worth). x.is_good) r) ∙ g in cc),
    )
step_ends w low high y (Some b) u v e =
    let one = ended (add_product_walk w.sum y b) (λ t. Ok (record { sum = t; is_good = w.is_good })) v e in
    let r : v ≡ record { sum = one.result; is_good = w.is_good } = let q : Ok (record { sum = one.result; is_good = w.is_good }) ≡ Ok v = one.next_is in cc in (
      ap (λ (x : Worth). x.sum) r ∙ step_value Add w.sum y b one.result one.first_is ∙ ap (λ o. w.sum +ℚ y *ℚ number o) (sym u),
      λ g. (sym (ap (λ (x : Worth). x.is_good) r) ∙ g, record { finite = subst IsFinite (sym u) tt }),
    )

pub rows_ends : (y : List Entry) (w : Worth) (rs : List NodeRow) (v : Worth) → rows_worth y w rs ≡ Ok v
    → (v.sum ≡ w.sum +ℚ sum_ℚ (λ (r : NodeRow). worth r.low r.high (coefficient y r.row)) rs) × (v.is_good ≡ true → (w.is_good ≡ true) × Each (λ (r : NodeRow). IsGoodAt r.low r.high (coefficient y r.row)) rs)
rows_ends y w [] v e = let d : v ≡ w = cc in (ap (λ (x : Worth). x.sum) d ∙ sym (add_zero_ℚ w.sum), λ g. (sym (ap (λ (x : Worth). x.is_good) d) ∙ g, tt))
rows_ends y w (r ∷ rs) v e =
    let one = ended (worth_step w (coefficient y r.row) (used_end r.low r.high (coefficient y r.row))) (λ t. rows_worth y t rs) v e in
    let s = step_ends w r.low r.high (coefficient y r.row) _ refl one.result one.first_is in
    let i = rows_ends y one.result rs v one.next_is in
    let a : v.sum ≡ one.result.sum +ℚ sum_ℚ (λ (r : NodeRow). worth r.low r.high (coefficient y r.row)) rs = i.0 in
    let b : one.result.sum ≡ w.sum +ℚ worth r.low r.high (coefficient y r.row) = s.0 in (
      by_eqs (v.sum ∷ one.result.sum ∷ w.sum ∷ worth r.low r.high (coefficient y r.row) ∷ sum_ℚ (λ (r : NodeRow). worth r.low r.high (coefficient y r.row)) rs ∷ []) (by_eq one_ℚ a (by_eq one_ℚ b done)) (search terms depth 40) tt,
      λ g. let h = i.1 g in let k = s.1 h.0 in (k.0, (k.1, h.1)),
    )

pub columns_ends : (w : Worth) (ps : List Priced) (v : Worth) → columns_worth w ps ≡ Ok v
    → (v.sum ≡ w.sum +ℚ sum_ℚ (λ (p : Priced). worth p.lower p.upper p.value) ps) × (v.is_good ≡ true → (w.is_good ≡ true) × Each (λ (p : Priced). IsGoodAt p.lower p.upper p.value) ps)
columns_ends w [] v e = let d : v ≡ w = cc in (ap (λ (x : Worth). x.sum) d ∙ sym (add_zero_ℚ w.sum), λ g. (sym (ap (λ (x : Worth). x.is_good) d) ∙ g, tt))
columns_ends w (p ∷ ps) v e =
    let one = ended (worth_step w p.value (used_end p.lower p.upper p.value)) (λ t. columns_worth t ps) v e in
    let s = step_ends w p.lower p.upper p.value _ refl one.result one.first_is in
    let i = columns_ends one.result ps v one.next_is in
    let a : v.sum ≡ one.result.sum +ℚ sum_ℚ (λ (p : Priced). worth p.lower p.upper p.value) ps = i.0 in
    let b : one.result.sum ≡ w.sum +ℚ worth p.lower p.upper p.value = s.0 in (
      by_eqs (v.sum ∷ one.result.sum ∷ w.sum ∷ worth p.lower p.upper p.value ∷ sum_ℚ (λ (p : Priced). worth p.lower p.upper p.value) ps ∷ []) (by_eq one_ℚ a (by_eq one_ℚ b done)) (search terms depth 40) tt,
      λ g. let h = i.1 g in let k = s.1 h.0 in (k.0, (k.1, h.1)),
    )

pub constants_ends : (w : Worth) (uses : StoredUses) (v : Worth) → uses_worth w uses ≡ Ok v → (v.sum ≡ w.sum +ℚ constant_sum uses) × (v.is_good ≡ w.is_good)
constants_ends w No_stored v e = let d : v ≡ w = cc in (ap (λ (x : Worth). x.sum) d ∙ sym (add_zero_ℚ w.sum), ap (λ (x : Worth). x.is_good) d)
constants_ends w (Use_stored weight cut uses) v e =
    let one = ended (worth_step w weight (Some (constant_of cut))) (λ t. uses_worth t uses) v e in
    let two = ended (add_product_walk w.sum weight (constant_of cut)) (λ t. Ok (record { sum = t; is_good = w.is_good })) one.result one.first_is in
    let r : one.result ≡ record { sum = two.result; is_good = w.is_good } = let q : Ok (record { sum = two.result; is_good = w.is_good }) ≡ Ok one.result = two.next_is in cc in
    let i = constants_ends one.result uses v one.next_is in
    let a : v.sum ≡ one.result.sum +ℚ constant_sum uses = i.0 in
    let b : one.result.sum ≡ two.result = ap (λ (x : Worth). x.sum) r in
    let c : two.result ≡ w.sum +ℚ weight *ℚ constant_of cut = step_value Add w.sum weight (constant_of cut) two.result two.first_is in (
      by_eqs (v.sum ∷ one.result.sum ∷ two.result ∷ w.sum ∷ (weight *ℚ constant_of cut) ∷ constant_sum uses ∷ []) (by_eq one_ℚ a (by_eq one_ℚ b (by_eq one_ℚ c done))) (search terms depth 40) tt,
      i.1 ∙ ap (λ (x : Worth). x.is_good) r,
    )
