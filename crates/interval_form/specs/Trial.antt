-- The own rows at given values of the columns that aren't own ones, as rows over the places of the own columns.
use Rattle.std.specs.Prelude.{List, [], ◌∷◌, Option, Some, None}
use Rattle.rationals.specs.Rational.{ℚ, ◌-ℚ◌}
use Rattle.rationals.specs.Sparse.{Entry, product, coefficient}
use Rattle.scen_defs.specs.declared.program.NodeRow.{NodeRow}
use Rattle.cut_defs.specs.declared.datum.ColumnBounds.{ColumnBounds}
use Rattle.interval_form.specs.Own.{own_form, other_form}
use Rattle.interval_form.specs.Spans.{Span}

-- what the trial gives a form
abbrev pub met : List ColumnBounds → List Entry → List Entry → ℚ
met bs trial f = product (other_form bs f) (coefficient trial)

abbrev pub less_end : ℚ → Option ℚ → Option ℚ
less_end t None = None
less_end t (Some e) = Some (e -ℚ t)

-- a row's own entries, and its interval less what the trial gives
abbrev pub span_at : List ColumnBounds → List Entry → NodeRow → Span
span_at bs trial r = record {
  entries = own_form bs r.entries;
  low = less_end (met bs trial r.entries) r.low;
  high = less_end (met bs trial r.entries) r.high;
}

abbrev pub spans_at : List ColumnBounds → List Entry → List NodeRow → List Span
spans_at bs trial [] = []
spans_at bs trial (r ∷ rs) = span_at bs trial r ∷ spans_at bs trial rs
