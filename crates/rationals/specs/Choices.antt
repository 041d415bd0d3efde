-- A choice between two values.
use Rattle.std.specs.Prelude.{Bool, true, false}

-- the first where the test holds, else the second
abbrev pub pick : {X : Type 0} → Bool → X → X → X
pick true x y = x
pick false x y = y
