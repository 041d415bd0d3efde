-- What is told of a walk that may end early.
use Rattle.std.specs.Prelude.{Ok, Err}
use Rattle.rationals.specs.Passes.{Operation}
use Rattle.lp_defs.specs.Walks.{Walk}

-- what a walk finds, or what is told of the operation in which it ends
abbrev pub or_passed : {A : Type 0} → (Operation → A) → Walk A → A
or_passed tell (Ok x) = x
or_passed tell (Err p) = tell p
