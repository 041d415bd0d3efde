-- The reader's draft as definitions see it, and what its steps give.
use Rattle.std.specs.Prelude.{◌≡◌, ℕ, ◌≤◌, ◌*◌, List, length, Result, Ok, Err}
use Rattle.refusals.specs.declared.cause.Cause.{Cause}
use Rattle.refusals.specs.declared.cause.Refusal.{Refusal}
use Rattle.refusals.specs.declared.cause.ReadFail.{ReadFail}
use Rattle.reader_defs.specs.declared.stop.Stop.{Stop}
use Rattle.reader_defs.specs.Stops.{Gives, ReadsAs}
use Rattle.scen_defs.specs.Program.{Program, content}
use Rattle.edit_defs.specs.declared.edit.Item.{Item}
use Rattle.edit_defs.specs.declared.edit.Script.{Script}
use Rattle.edit_defs.specs.Limits.{counts}
use Rattle.edit_script.specs.declared.draft.Draft.{Draft}
use Rattle.edit_script.specs.Script.{Stand}
use Rattle.edit_script.specs.Tables.{HasTables}
use Rattle.edit_script.specs.Allowed.{AreAllowed, program_after}

abbrev pub stand : Draft → Stand
stand draft = record {
  commands = draft.commands;
  program = content draft.program;
  items = draft.items.items;
  work = draft.work;
  reported = draft.reported;
}

-- the counts are those of its program's nodes, the tables have the program's names, and its numbers are small
pub record IsDraft (draft : Draft) : Type 0 where
  pub counted : draft.counted ≡ counts (content draft.program).nodes
  pub tables : HasTables (content draft.program) draft.tables
  pub commands : draft.commands ≤ 10000
  pub items : length draft.items.items ≤ draft.commands
  pub work : draft.work ≤ draft.commands * 1000000

-- The edits of the items are allowed from this program on, and lead to this other one.
pub record Leads (start : Program) (items : List Item) (p : Program) : Type 0 where
  pub allowed : AreAllowed start items
  pub reaches : program_after start items ≡ p

-- whatever program the edits came from, they still do
abbrev pub KeepsLeads : Draft → Draft → Type 0
KeepsLeads old new = (start : Program) → Leads start old.items.items (content old.program)
    → Leads start new.items.items (content new.program)

-- whatever program the edits came from, those of the script are allowed there
abbrev pub IsAllowedFrom : Draft → Script → Type 0
IsAllowedFrom draft script = (start : Program) → Leads start draft.items.items (content draft.program)
    → AreAllowed start script.items.items

-- The draft stands now where the definition has it, or the cause is the definition's, unless memory ran out.
abbrev pub Stands : Draft → Result (Unit {0}) Stop → Result Stand Cause → Type 0
Stands new result given = Gives (λ _. stand new) result given

-- The script is the definition's, or the refusal is, unless memory ran out.
abbrev pub Means : Result Script ReadFail → Result (List Item) Refusal → Type 0
Means result given = ReadsAs (λ script. script.items.items) result given
