-- Reports whose lists can be printed: each number in them is that of a column or a row of the program.
use Rattle.std.specs.Prelude.{ℕ, ◌<◌, List, length, IfSome}
use Rattle.scen_defs.specs.Lists.{Each}
use Rattle.scen_defs.specs.Values.{At}
use Rattle.scen_defs.specs.declared.program.Program.{Program}
use Rattle.scen_defs.specs.declared.report.Report.{Report}

-- each index is below the count of names
abbrev pub HaveNames : ℕ → List At → Type 0
HaveNames count values = Each (λ a. a.index < count) values

-- the lists of columns and the lists of rows
pub record ListsHaveNames (program : Program) (report : Report) : Type 0 where
  pub policy : IfSome report.policy (HaveNames (length program.columns.items))
  pub direction : IfSome report.direction (HaveNames (length program.columns.items))
  pub dual : IfSome report.dual (HaveNames (length program.rows.items))
  pub ray : IfSome report.ray (HaveNames (length program.rows.items))
