-- The lines of RHS and RANGES in one: pairs of a row and a value, behind the name of a set or none.
use Rattle.std.specs.Prelude.{ℕ, List, [], ◌∷◌, Option, Some, None, Result, Ok, Err, if◌then◌else◌}
use Rattle.refusals.specs.declared.cause.Cause.{Cause}
use Rattle.refusals.specs.declared.cause.Cause.TheVariants as cause
use Rattle.refusals.specs.Results.{◌>>=◌}
use Rattle.core_defs.specs.Filed.{Filed}
use Rattle.core_defs.specs.Stated.{same_set, chosen}
use Rattle.core_defs.specs.Step.{choosing_rhs, choosing_range, with_rhs, with_range}
use Rattle.mps_core.specs.declared.pairs.PairSection.{PairSection}
use Rattle.mps_core.specs.declared.pairs.PairSection.TheVariants.{Rhs, Ranges}

-- the set that the section uses
abbrev pub used_set : PairSection → Filed → Option (Option (List ℕ))
used_set Rhs f = f.rhs_set
used_set Ranges f = f.range_set

abbrev pub choosing_set : PairSection → Filed → Option (List ℕ) → Filed
choosing_set Rhs = choosing_rhs
choosing_set Ranges = choosing_range

abbrev pub with_pair : PairSection → Filed → List ℕ → List ℕ → Result Filed Cause
with_pair Rhs = with_rhs
with_pair Ranges = with_range

abbrev pub with_two_pairs : PairSection → Filed → List ℕ → List ℕ → List ℕ → List ℕ → Result Filed Cause
with_two_pairs section f row word second other = with_pair section f row word >>= λ g. with_pair section g second other

-- a line of another set adds nothing
abbrev pub in_set : PairSection → Filed → Option (List ℕ) → (Filed → Result Filed Cause) → Result Filed Cause
in_set section f set next =
    if same_set (chosen (used_set section f) set) set then next (choosing_set section f set) else Ok (choosing_set section f set)

abbrev pub pairs_line : PairSection → Filed → List (List ℕ) → Result Filed Cause
pairs_line section f (row ∷ word ∷ []) = in_set section f None (λ g. with_pair section g row word)
pairs_line section f (set ∷ row ∷ word ∷ []) = in_set section f (Some set) (λ g. with_pair section g row word)
pairs_line section f (row ∷ word ∷ second ∷ other ∷ []) = in_set section f None (λ g. with_two_pairs section g row word second other)
pairs_line section f (set ∷ row ∷ word ∷ second ∷ other ∷ []) =
    in_set section f (Some set) (λ g. with_two_pairs section g row word second other)
pairs_line section f [] = Err cause.FieldCount
pairs_line section f (_ ∷ []) = Err cause.FieldCount
pairs_line section f (_ ∷ _ ∷ _ ∷ _ ∷ _ ∷ _ ∷ _) = Err cause.FieldCount
