-- How far a script has come, item by item.
use Rattle.std.specs.Prelude.{◌≡◌, ℕ, ◌+◌, List, [], ◌∷◌, ◌++◌}
use Rattle.scen_defs.specs.Program.{Program}
use Rattle.edit_defs.specs.declared.edit.Act.{Act}
use Rattle.edit_defs.specs.declared.edit.Edit.{Edit}
use Rattle.edit_defs.specs.declared.edit.Act.TheVariants.{Change, Solve}
use Rattle.edit_defs.specs.After.{after}
use Rattle.pass_core.specs.declared.budget.Budget.{Budget}
use Rattle.smps_session.specs.declared.told.Told.{Told}
use Rattle.smps_session.specs.declared.whole.StatedLimits.{StatedLimits}
use Rattle.nested_method.specs.declared.method.Method.{Method}
use Rattle.smps_session.specs.Comes.{TakesEdit}
use Rattle.smps_session.specs.Told.{IsTold}

-- the program as it is, the method, how many items came, the number of the next report, and what was told
pub record Course : Type 0 where
  pub program : Program
  pub method : Method
  pub came : ℕ
  pub number : ℕ
  pub tolds : List Told

abbrev pub course_at : Program → Method → ℕ → ℕ → List Told → Course
course_at p method came number tolds = record { program = p; method = method; came = came; number = number; tolds = tolds }

-- a report of the program is told behind the others, in a script that starts with this program
pub record TellsOne (budget : Budget) (stated : StatedLimits) (start : Program) (s t : Course) : Type 0 where
  pub told : Told
  pub is_told : IsTold budget stated start s.came s.number s.program s.method told t.method
  pub course : t ≡ record s { method = t.method; came = s.came + 1; number = s.number + 1; tolds = s.tolds ++ told ∷ [] }

-- an edit, before which so many solves are asked for, changes the program
pub record Changes (work : ℕ) (e : Edit) (s t : Course) : Type 0 where
  pub takes : TakesEdit s.program work e s.method t.method
  pub course : t ≡ record s { program = after s.program e; method = t.method; came = s.came + 1 }

-- behind an item: an edit changes the program, and of a SOLVE a report is told
abbrev pub IsBehind : Budget → StatedLimits → Program → ℕ → Act → Course → Course → Type 0
IsBehind budget stated start work (Change e) s t = Changes work e s t
IsBehind budget stated start work Solve s t = TellsOne budget stated start s t
