-- That a program keeps its laws has one proof at most, so a field of its type can hold it.
use Rattle.std.proofs.Common.{ℕ, suc, List, [], ◌∷◌, Option, Some, None}
use Rattle.std.specs.Coded.{×_prop, Unit-prop}
use Rattle.std.proofs.Props.{props}
use Rattle.scen_defs.specs.Lists.{Each}
use Rattle.rationals.specs.IntervalProofs.{in_order_prop}
use Rattle.scen_defs.specs.Trees.{Program}
use Rattle.scen_defs.specs.Valid.{Differ, HasParent, Follows, IsProgram}

each_prop : {A : Type 0} {P : A → Type 0} → ((x : A) → IsProp (P x)) → (xs : List A) → IsProp (Each P xs)
each_prop one [] = Unit-prop
each_prop one (x ∷ xs) = ×_prop (one x) (each_prop one xs)

differ_prop : (names : List (List ℕ)) → IsProp (Differ names)
differ_prop [] = Unit-prop
differ_prop (name ∷ names) = ×_prop (each_prop (λ other. hlevel props) names) (differ_prop names)

parent_prop : (p : Program) (n stage : ℕ) (parent : Option ℕ) → IsProp (HasParent p n stage parent)
parent_prop p n stage None = hlevel props
parent_prop p n stage (Some m) = hlevel props

follows_prop : (p : Program) (s : ℕ) (above : Option ℕ) (path : List ℕ) → IsProp (Follows p s above path)
follows_prop p s above [] = hlevel props
follows_prop p s above (n ∷ path) = hlevel (props, follows_prop p (suc s) (Some n) path)

pub is_program_prop : (p : Program) → IsProp (IsProgram p)
is_program_prop p = hlevel (props, each_prop, in_order_prop, differ_prop, parent_prop, follows_prop p)
