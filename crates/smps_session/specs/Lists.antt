-- The lists of a report: what they must be, whatever they show.
use Rattle.std.specs.Prelude.{◌≡◌, Bool, true, false, List, IfSome}
use Rattle.scen_defs.specs.Program.{Program}
use Rattle.scen_defs.specs.Values.{At, AreValues}
use Rattle.scen_defs.specs.declared.report.Report.{Report}
use Rattle.scen_nodes.specs.Derived.{all_fit}

-- A list over the columns or the rows of a program: it rises by node and then by column or row, and has no 0; and it stands at live nodes,
-- at columns or rows of their stages alone.
pub record IsListOf (p : Program) (of_rows : Bool) (values : List At) : Type 0 where
  pub ordered : AreValues values
  pub fits : all_fit p of_rows values ≡ true

-- So is each list of the report: its policy and its direction over columns, its dual and its ray over rows.
pub record ListsAreOf (p : Program) (report : Report) : Type 0 where
  pub policy : IfSome report.policy (IsListOf p false)
  pub direction : IfSome report.direction (IsListOf p false)
  pub dual : IfSome report.dual (IsListOf p true)
  pub ray : IfSome report.ray (IsListOf p true)
