-- What an edit leaves, step by step.
use Rattle.std.proofs.Common.{◌≡◌, ℕ, ◌<◌, ◌^◌, List, length, Option, ap, ap₂, ◌∙◌, arith}
use Rattle.scen_defs.specs.Program.{Program, view_of}
use Rattle.scen_defs.specs.declared.program.Program.{Program as ProgramOf}
use Rattle.frac128.specs.Faults.{FaultOf}
use Rattle.scen_tree.specs.Trees.{tree_walk}
use Rattle.frac128.specs.declared.fault.ArithmeticFault.{ArithmeticFault}
use Rattle.frac128.specs.declared.fault.ArithmeticFault.TheVariants.{Memory, Passed as PassedFault}
use Rattle.cut_defs.specs.declared.versions.Touch.{Touch}
use Rattle.cut_defs.specs.declared.versions.Shift.{Shift}
use Rattle.edit_defs.specs.declared.edit.Edit.{Edit}
use Rattle.edit_defs.specs.declared.edit.Touched.{Touched}
use Rattle.edit_defs.specs.Touches.{touches}
use Rattle.scen_defs.proofs.Contents.{nodes_length}
use Rattle.edit_retire.specs.Dues.{dues, rows_version}
use Rattle.edit_retire.specs.Shifted.{shift_of}
use Rattle.node_data.specs.declared.versions.Version.{Version}
use Rattle.proved_report.specs.declared.open.Open.{Open}
use Rattle.pass_core.specs.Versions.{next_touches}
use Rattle.nested_method.specs.Edited.{touches_of, dues_of, IsTreeless, HasNoTree}

-- the number of places of a program has 32 bits
pub few_places : (program : ProgramOf) → length program.nodes.items < 2 ^ 32
few_places program = let e = nodes_length program.nodes.items in let f = program.keeps.small.nodes in omega (arith, e, f)

-- the sweeps for the touches that rise, and for the shift with the version of the rows among them
pub dues_are : (p : Program) (e : Edit) (versions : List Version) (places : List Touched) (ts : List Touch) (version : ℕ)
    (moved : Option Shift)
    → places ≡ touches p e → ts ≡ next_touches places versions → version ≡ rows_version ts → moved ≡ shift_of p e version
    → dues (view_of p) ts moved ≡ dues_of p e versions
dues_are p e versions places ts version moved a b c d =
    let t : ts ≡ touches_of p e versions = b ∙ ap (λ (ps : List Touched). next_touches ps versions) a in
    ap₂ (dues (view_of p)) t (d ∙ ap (shift_of p e) (c ∙ ap rows_version t))

-- the program after an edit has no tree
pub no_tree : (p : Program) (fault : ArithmeticFault) (why : Open) → FaultOf (tree_walk p) fault → IsTreeless fault why
    → HasNoTree p why
no_tree p (PassedFault o) why f t = record { operation = o; passes = f; why_is = t }
no_tree p Memory why f t = absurd t
