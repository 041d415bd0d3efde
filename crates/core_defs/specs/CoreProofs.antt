-- That a core keeps its laws has one proof at most, so a field of its type can hold it.
use Rattle.std.specs.Prelude.{ℕ, List, [], ◌∷◌}
use Rattle.std.specs.Coded.{×_prop, Unit-prop}
use Rattle.std.proofs.Props.{props}
use Rattle.rationals.specs.Sparse.{Entry, Ascending}
use Rattle.rationals.specs.Forms.{AllNonzero, EndsBelow}
use Rattle.core_defs.specs.declared.parts.RowDef.{RowDef}
use Rattle.core_defs.specs.declared.parts.ColumnDef.{ColumnDef}
use Rattle.rationals.specs.IntervalProofs.{in_order_prop}
use Rattle.core_defs.specs.Core.{IsCore}

ascending_prop : (low : ℕ) (form : List Entry) → IsProp (Ascending low form)
ascending_prop low [] = Unit-prop
ascending_prop low (e ∷ form) = ×_prop (hlevel props) (ascending_prop _ form)

nonzero_prop : (form : List Entry) → IsProp (AllNonzero form)
nonzero_prop [] = Unit-prop
nonzero_prop (e ∷ form) = ×_prop (hlevel props) (nonzero_prop form)

ends_prop : (count : ℕ) (form : List Entry) → IsProp (EndsBelow count form)
ends_prop count [] = Unit-prop
ends_prop count (e ∷ form) = ×_prop (hlevel props) (ends_prop count form)

pub is_core_prop : (rows : List RowDef) (columns : List ColumnDef) → IsProp (IsCore rows columns)
is_core_prop rows columns = hlevel (props, in_order_prop, ascending_prop, nonzero_prop, ends_prop)
