-- The repair of a cut, operation by operation.
use Rattle.std.specs.Prelude.{◌-◌, Bool, true, false, Option, Some, None, Result, Ok}
use Rattle.rationals.specs.Rational.{ℚ}
use Rattle.rationals.specs.Order.{same}
use Rattle.rationals.specs.Sparse.{coefficient}
use Rattle.rationals.specs.Passes.{Operation, sub_walk, add_product_walk, then_walk}
use Rattle.rationals.specs.Choices.{pick}
use Rattle.cut_defs.specs.declared.kinds.Part.TheVariants.{Rows}
use Rattle.cut_defs.specs.declared.versions.Shift.{Shift}
use Rattle.cut_defs.specs.declared.versions.Touch.{Touch}
use Rattle.cut_defs.specs.Stored.{Source, Stored, StoredUses, constant_of}
use Rattle.cut_defs.specs.Stored.Stored.{Stored_of}
use Rattle.cut_defs.specs.Stored.StoredUses.{No_stored, Use_stored}
use Rattle.cut_defs.specs.Repairs.{is_moved, moved_source}
use Rattle.cut_defs.specs.Support.{cut_rests}

-- the touch of the shift, and that of the version before
abbrev pub touch_of : Shift → Touch
touch_of s = record { node = s.node; part = Rows; version = s.version }

abbrev pub touch_before : Shift → Touch
touch_before s = record { node = s.node; part = Rows; version = s.version - 1 }

-- where the record is moved, the constant plus the row's multiplier times the shift's number, as a step
abbrev pub own_walk : Shift → Source → ℚ → Result ℚ Operation
own_walk s source constant = pick (is_moved s source) (add_product_walk constant (coefficient source.multipliers s.row) s.by) (Ok constant)

-- for each used cut whose constant changed, its new constant less its old one, and the sum plus the weight times that, as a step
abbrev pub change_step : Bool → ℚ → ℚ → ℚ → ℚ → Result ℚ Operation
change_step true sum weight new old = Ok sum
change_step false sum weight new old = then_walk (sub_walk new old) (λ d. add_product_walk sum weight d)

abbrev pub changes_from : ℚ → StoredUses → StoredUses → Result ℚ Operation
changes_from sum No_stored vs = Ok sum
changes_from sum (Use_stored w cut us) No_stored = Ok sum
changes_from sum (Use_stored w cut us) (Use_stored v new vs) =
    then_walk (change_step (same (constant_of new) (constant_of cut)) sum w (constant_of new) (constant_of cut))
    (λ t. changes_from t us vs)

-- one more use at the end
abbrev pub snoc : StoredUses → ℚ → Stored → StoredUses
snoc No_stored w cut = Use_stored w cut No_stored
snoc (Use_stored v c us) w cut = Use_stored v c (snoc us w cut)

abbrev mutual
  -- the repairs of the used cuts in order, then the own change, then those of the used cuts
  pub repair_walk : Shift → Stored → Result Stored Operation
  repair_walk s (Stored_of source uses constant form) =
      then_walk (repairs_from s No_stored uses)
      (λ us. then_walk (own_walk s source constant)
      (λ c. then_walk (changes_from c uses us)
      (λ d. Ok (Stored_of (moved_source s source) us d form))))

  pub repairs_from : Shift → StoredUses → StoredUses → Result StoredUses Operation
  repairs_from s done No_stored = Ok done
  repairs_from s done (Use_stored w cut uses) = then_walk (repair_walk s cut) (λ c. repairs_from s (snoc done w c) uses)

-- the repair, or nothing where a stamp of the node's rows is older than the version before
abbrev pub shifted_walk : Shift → Stored → Result (Option Stored) Operation
shifted_walk s cut = pick (cut_rests cut (touch_before s)) (Ok None) (then_walk (repair_walk s cut) (λ r. Ok (Some r)))
