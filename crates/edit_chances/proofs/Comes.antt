-- What a walk over operations comes to.
use Rattle.std.proofs.Common.{◌≡◌, Bool, true, false, List, ◌∷◌, Option, Some, None, Result, Ok, Err, refl}
use Rattle.rationals.specs.Rational.{ℚ}
use Rattle.rationals.specs.declared.Op.{Op}
use Rattle.rationals.specs.Passes.{Operation, answer, passes, then_walk, value_of, walk}
use Rattle.rationals.specs.Choices.{pick}
use Rattle.edit_defs.specs.Operations.{first_passing, operation}

-- to that value, where no operation passes; else to the first that does
abbrev pub Comes : {X : Type 0} → Result X Operation → Option Operation → X → Type 0
Comes (Ok x) o v = (x ≡ v) × (o ≡ None)
Comes (Err p) o v = o ≡ Some p

answered : {X : Type 0} (t : Bool) (p : Operation) (x : ℚ) (f : ℚ → Result X Operation) (o : Option Operation) (v : X) → Comes (f x) o v → Comes (then_walk (answer t p x) f) (pick t (Some p) o) v
answered true p x f o v h = refl
answered false p x f o v h = h

-- one operation, and those behind it
pub stepped : {X : Type 0} (op : Op) (a b : ℚ) (f : ℚ → Result X Operation) (os : List Operation) (v : X) → Comes (f (value_of op a b)) (first_passing os) v → Comes (then_walk (walk op a b) f) (first_passing (operation op a b ∷ os)) v
stepped op a b f os v h = answered (passes op a b) (operation op a b) (value_of op a b) f (first_passing os) v h
