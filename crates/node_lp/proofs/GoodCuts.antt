-- A record whose used ends are finite always has sums: the making of its cut never ends for want of one.
use Rattle.std.proofs.Common.{◌≡◌, ℕ, Bool, true, false, eqb, List, [], ◌∷◌, ◌++◌, None, Ok, refl, sym, ap₂, ◌∙◌}
use Rattle.rationals.specs.Rational.{ℚ, zero_ℚ, neg_ℚ, ◌+ℚ◌, ◌-ℚ◌, ◌*ℚ◌, by_ring, terms, mul_zero_ℚ}
use Rattle.rationals.specs.Sums.{sum_ℚ, sum-append}
use Rattle.rationals.specs.Sparse.{Entry, coefficient, value_if}
use Rattle.scen_defs.specs.declared.program.NodeRow.{NodeRow}
use Rattle.interval_form.specs.Parts.{entry}
use Rattle.cut_defs.specs.Data.{Datum}
use Rattle.cut_defs.specs.Stored.{Source, StoredUses, form_of, form_sum, slope_of, OnRows, WeightsFit}
use Rattle.cut_defs.specs.Stored.StoredUses.{No_stored, Use_stored}
use Rattle.cut_sums.specs.Walks.{made}
use Rattle.cut_proof.proofs.NotGood.{nothing_is_made}
use Rattle.node_lp.specs.Stored.{IsGoodStored}

-- ---- a form with the record's slopes
scaled : ℚ → List Entry → List Entry
scaled w [] = []
scaled w (e ∷ f) = entry e.column (w *ℚ e.value) ∷ scaled w f

scaled_is : (w : ℚ) (f : List Entry) (j : ℕ) → coefficient (scaled w f) j ≡ w *ℚ coefficient f j
unfolding scaled
scaled_is w [] j = sym (mul_zero_ℚ w)
scaled_is w (e ∷ f) j = ap₂ ◌+ℚ◌ (inside (eqb e.column j)) (scaled_is w f j) ∙ by_ring (w ∷ value_if (eqb e.column j) e.value ∷ coefficient f j ∷ []) (search terms depth 40) tt
  where
    inside : (b : Bool) → value_if b (w *ℚ e.value) ≡ w *ℚ value_if b e.value
    inside true = refl
    inside false = sym (mul_zero_ℚ w)

both : (f g : List Entry) (j : ℕ) → coefficient (f ++ g) j ≡ coefficient f j +ℚ coefficient g j
both f g j = sum-append (λ (e : Entry). value_if (eqb e.column j) e.value) f g

uses_form : StoredUses → List Entry
uses_form No_stored = []
uses_form (Use_stored w cut us) = scaled w (form_of cut) ++ uses_form us

uses_is : (us : StoredUses) (j : ℕ) → coefficient (uses_form us) j ≡ form_sum us j
unfolding uses_form
uses_is No_stored j = refl
uses_is (Use_stored w cut us) j = both (scaled w (form_of cut)) (uses_form us) j ∙ ap₂ ◌+ℚ◌ (scaled_is w (form_of cut) j) (uses_is us j)

rows_form : List Entry → List NodeRow → List Entry
rows_form y [] = []
rows_form y (r ∷ rs) = scaled (neg_ℚ (coefficient y r.row)) r.entries ++ rows_form y rs

rows_are : (y : List Entry) (rs : List NodeRow) (j : ℕ) → coefficient (rows_form y rs) j ≡ zero_ℚ -ℚ sum_ℚ (λ (r : NodeRow). coefficient r.entries j *ℚ coefficient y r.row) rs
unfolding rows_form
rows_are y [] j = by_ring [] (search terms depth 40) tt
rows_are y (r ∷ rs) j =
    both (scaled (neg_ℚ (coefficient y r.row)) r.entries) (rows_form y rs) j ∙ ap₂ ◌+ℚ◌ (scaled_is (neg_ℚ (coefficient y r.row)) r.entries j) (rows_are y rs j)
    ∙ by_ring (coefficient y r.row ∷ coefficient r.entries j ∷ sum_ℚ (λ (s : NodeRow). coefficient s.entries j *ℚ coefficient y s.row) rs ∷ []) (search terms depth 40) tt

slopes : Datum → Source → StoredUses → List Entry
slopes d s us = uses_form us ++ rows_form s.multipliers d.rows

slopes_are : (d : Datum) (s : Source) (us : StoredUses) (j : ℕ) → coefficient (slopes d s us) j ≡ slope_of d s us j
unfolding slopes
slopes_are d s us j =
    both (uses_form us) (rows_form s.multipliers d.rows) j ∙ ap₂ ◌+ℚ◌ (uses_is us j) (rows_are s.multipliers d.rows j)
    ∙ by_ring (form_sum us j ∷ sum_ℚ (λ (r : NodeRow). coefficient r.entries j *ℚ coefficient s.multipliers r.row) d.rows ∷ []) (search terms depth 40) tt

-- ---- so its cut is made
pub always_made : (d : Datum) (s : Source) (us : StoredUses) → OnRows d s → WeightsFit d s.kind us → IsGoodStored d s us → made d s us ≡ Ok None → ⊥
always_made d s us on fit g e = nothing_is_made d s us _ (slopes d s us) e record {
  on_rows = on;
  weights = fit;
  rows = g.rows;
  bounds = g.bounds;
  constant_is = refl;
  form_is = λ j h. slopes_are d s us j;
}
