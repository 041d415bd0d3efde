-- In which test of what a method claims an operation passes.
use Rattle.std.specs.Prelude.{◌≡◌, ◌⊎◌, List}
use Rattle.rationals.specs.Passes.{Operation}
use Rattle.scen_defs.specs.Values.{At}
use Rattle.scen_defs.specs.declared.program.Program.{Program}
use Rattle.scen_defs.specs.declared.report.Place.{Place}
use Rattle.scen_defs.specs.declared.report.Place.TheVariants.{Solve, Cut, Cost, Ground, Dual, Check}
use Rattle.proved_report.specs.declared.tested.Tested.TheVariants.{Passes}
use Rattle.proved_report.specs.Tested.{policy_test, direction_test, dual_test, ray_test}

-- the first operation that passes in the test of a policy or of a direction
abbrev pub PassesInPoint : Program → Operation → Type 0
PassesInPoint program o = (values : List At) × ((policy_test program values ≡ Passes o) ⊎ (direction_test program values ≡ Passes o))

-- in that of a dual or of a ray
abbrev pub PassesInMultipliers : Program → Operation → Type 0
PassesInMultipliers program o = (values : List At) × ((dual_test program values ≡ Passes o) ⊎ (ray_test program values ≡ Passes o))

-- points are tested at Cost, multipliers at Dual
abbrev pub PassesInTest : Program → Place → Operation → Type 0
PassesInTest program (Solve k) o = ⊥
PassesInTest program (Cut k) o = ⊥
PassesInTest program (Cost k) o = PassesInPoint program o
PassesInTest program Ground o = ⊥
PassesInTest program Dual o = PassesInMultipliers program o
PassesInTest program Check o = ⊥
