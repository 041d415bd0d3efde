-- What the walks of a cut mean.
use Rattle.std.specs.Prelude.{◌≡◌, true, false, List, None, Ok}
use Rattle.rationals.specs.Rational.{ℚ, ◌+ℚ◌}
use Rattle.rationals.specs.Sparse.{Entry, product, coefficient}
use Rattle.cut_defs.specs.declared.versions.Shift.{Shift}
use Rattle.cut_defs.specs.declared.versions.Touch.{Touch}
use Rattle.cut_defs.specs.Data.{Datum, Book}
use Rattle.cut_defs.specs.Stored.{Source, Stored, StoredUses, constant_of, form_of, IsMadeFrom, IsMadeFor}
use Rattle.cut_defs.specs.Repairs.{IsShift, repair}
use Rattle.cut_defs.specs.Support.{cut_rests}
use Rattle.cut_sums.specs.Walks.{made, value_walk}
use Rattle.cut_proof.specs.Repairing.{touch_of, touch_before, repair_walk}

-- the value at a trial is the constant and the form there
abbrev pub ValueLaw : Type 0
ValueLaw = (cut : Stored) (trial : List Entry) (q : ℚ) → value_walk cut trial ≡ Ok q
    → q ≡ constant_of cut +ℚ product (form_of cut) (coefficient trial)

pub record RepairLaws : Type 0 where
  -- where the walk comes to its end, it is the repair
  pub repairs : (s : Shift) (cut r : Stored) → repair_walk s cut ≡ Ok r → r ≡ repair s cut
  -- a repair rests on no more touches
  pub rests : (s : Shift) (cut : Stored) (t : Touch) → cut_rests (repair s cut) t ≡ true → cut_rests cut t ≡ true
  -- where no stamp of the node's rows is older than the version before the shift's, the repair doesn't rest on the shift's touch
  pub fresh : (s : Shift) (cut : Stored) → cut_rests cut (touch_before s) ≡ false → cut_rests (repair s cut) (touch_of s) ≡ false
  -- the repair of a cut that is made for a book is made for it
  pub made : (book : Book) (s : Shift) (cut r : Stored) → IsShift book s → IsMadeFor book cut
      → repair_walk s cut ≡ Ok r → IsMadeFor book r

-- where nothing is made of a record, no constant and form are made from its datum: some used end isn't finite
abbrev pub NotGoodLaw : Type 0
NotGoodLaw = (d : Datum) (s : Source) (uses : StoredUses) (constant : ℚ) (form : List Entry) → made d s uses ≡ Ok None
    → IsMadeFrom d s uses constant form → ⊥
