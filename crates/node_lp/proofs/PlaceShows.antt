-- What is read from the end of the path is of own rows and own columns.
use Rattle.std.proofs.Common.{◌≡◌, ℕ, Bool, true, false, ◌||◌, eqb, List, [], ◌∷◌, map, refl, sym, ap, ◌∙◌, eq-eqb, pos}
use Rattle.std.proofs.lemmas.Bool.{false≢true}
use Rattle.std.specs.Cmp.{signed_Decides}
use Rattle.rationals.specs.Rational.{ℚ}
use Rattle.rationals.specs.Sparse.{Entry}
use Rattle.rationals.specs.Forms.{AllNonzero, is_zero, put_unless}
use Rattle.rationals.proofs.Lowest.{num_zero}
use Rattle.scen_defs.specs.Lists.{Each, is_in}
use Rattle.scen_defs.specs.declared.program.NodeRow.{NodeRow}
use Rattle.scen_defs.proofs.SumLaws.{each-map}
use Rattle.cut_defs.specs.Data.{is_own}
use Rattle.cut_defs.specs.declared.datum.ColumnBounds.{ColumnBounds}
use Rattle.interval_form.specs.Own.{by_number, columns_of, listed}
use Rattle.interval_form.specs.Rows.{row_sums, row_numbers}
use Rattle.interval_form.proofs.OwnForms.{form_ascends, columns_rise}
use Rattle.node_lp.specs.Problem.{Problem, IsProblem}
use Rattle.node_lp.specs.Points.{point_of, own_of}
use Rattle.node_lp.specs.Places.{OfRows, OfColumns}

all_nonzero : (ns : List ℕ) (vs : List ℚ) → AllNonzero (by_number ns vs)
all_nonzero [] vs = tt
all_nonzero (n ∷ ns) [] = tt
all_nonzero (n ∷ ns) (v ∷ vs) = go (is_zero v) refl (all_nonzero ns vs)
  where
    go : (b : Bool) → is_zero v ≡ b → AllNonzero (by_number ns vs) → AllNonzero (put_unless b n v (by_number ns vs))
    go true z h = h
    go false z h = ((λ e. false≢true (sym z ∙ (signed_Decides v.num (pos 0)).1 (num_zero v e))), h)

or_later : (a b : Bool) → b ≡ true → (a || b) ≡ true
or_later true b e = refl
or_later false b e = e

or_here : (a b : Bool) → a ≡ true → (a || b) ≡ true
or_here a b e = ap (λ t. t || b) e

rows_numbered : (rows : List NodeRow) (vs : List ℚ) → OfRows rows (by_number (row_numbers rows) vs)
rows_numbered [] vs = tt
rows_numbered (r ∷ rs) [] = tt
rows_numbered (r ∷ rs) (v ∷ vs) =
    go (is_zero v) (each-map (λ (e : Entry) h. or_later (eqb r.row e.column) (is_in e.column (map (λ (s : NodeRow). s.row) rs)) h) (by_number (row_numbers rs) vs) (rows_numbered rs vs))
  where
    go : (b : Bool) → OfRows (r ∷ rs) (by_number (row_numbers rs) vs) → OfRows (r ∷ rs) (put_unless b r.row v (by_number (row_numbers rs) vs))
    go true h = h
    go false h = (or_here (eqb r.row r.row) (is_in r.row (map (λ (s : NodeRow). s.row) rs)) (eq-eqb r.row r.row refl), h)

abbrev AreOwn : List ColumnBounds → List Entry → Type 0
AreOwn bs x = Each (λ (e : Entry). is_own bs e.column ≡ true) x

columns_numbered : (bs : List ColumnBounds) (vs : List ℚ) → AreOwn bs (by_number (columns_of bs) vs)
columns_numbered [] vs = tt
columns_numbered (b ∷ bs) [] = tt
columns_numbered (b ∷ bs) (v ∷ vs) =
    go (is_zero v) (each-map (λ (e : Entry) h. or_later (eqb b.column e.column) (is_own bs e.column) h) (by_number (columns_of bs) vs) (columns_numbered bs vs))
  where
    go : (t : Bool) → AreOwn (b ∷ bs) (by_number (columns_of bs) vs) → AreOwn (b ∷ bs) (put_unless t b.column v (by_number (columns_of bs) vs))
    go true h = h
    go false h = (or_here (eqb b.column b.column) (is_own bs b.column) (eq-eqb b.column b.column refl), h)

pub own_rows : (p : Problem) (w : List ℚ) → OfRows p.rows (own_of p w)
own_rows p w = rows_numbered p.rows (row_sums p.rows w)

pub own_columns : (p : Problem) → IsProblem p → (x : ℕ → ℚ) → OfColumns p.bounds (point_of p x)
own_columns p h x = record {
  form = record {
    rises = form_ascends 0 (columns_of p.bounds) (listed x 0 p.bounds) (columns_rise 0 p.bounds h.bounds.rises);
    nonzero = all_nonzero (columns_of p.bounds) (listed x 0 p.bounds);
  };
  own = columns_numbered p.bounds (listed x 0 p.bounds);
}
