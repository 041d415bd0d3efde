-- The script that an edit list means, line by line.
use Rattle.std.specs.Prelude.{ℕ, suc, ◌+◌, Bool, true, false, leb, List, [], ◌∷◌, ◌++◌, Option, Some, None, Result, Ok, Err}
use Rattle.std.specs.Prelude.{if◌then◌else◌}
use Rattle.smps_words.specs.Line.{TextLine, reading_of}
use Rattle.refusals.specs.declared.cause.Cause.{Cause}
use Rattle.refusals.specs.declared.cause.Cause.TheVariants as cause
use Rattle.refusals.specs.declared.cause.Refusal.{Refusal}
use Rattle.refusals.specs.Results.{◌>>=◌, unless_refused, on_line}
use Rattle.scen_defs.specs.Program.{Program}
use Rattle.edit_defs.specs.declared.edit.Edit.{Edit}
use Rattle.edit_defs.specs.declared.edit.Act.TheVariants as act
use Rattle.edit_defs.specs.declared.edit.Item.{Item}
use Rattle.edit_defs.specs.After.{after}
use Rattle.edit_defs.specs.Causes.{refused}
use Rattle.edit_script.specs.declared.command.Command.{Command}
use Rattle.edit_script.specs.declared.command.Command.TheVariants.{Change, Work, Report}
use Rattle.edit_script.specs.Commands.{command_of}

-- what the commands so far come to
pub record Stand : Type 0 where
  -- how many they are
  pub commands : ℕ
  -- the program after their edits
  pub program : Program
  pub items : List Item
  -- the solves that are asked for behind the last edit or report
  pub work : ℕ
  -- the last one asks for a report
  pub reported : Bool

abbrev pub report_item : Item
report_item = record { work = 0; act = act.Solve }

abbrev pub edit_item : ℕ → Edit → Item
edit_item work e = record { work = work; act = act.Change e }

abbrev pub edited : Stand → Edit → Stand
edited s e = record {
  commands = suc s.commands;
  program = after s.program e;
  items = s.items ++ edit_item s.work e ∷ [];
  work = 0;
  reported = false;
}

-- the edit, where the program has no cause to refuse it
abbrev pub changed : Stand → Edit → Result Stand Cause
changed s e = unless_refused (refused s.program e) (edited s e)

abbrev pub worked : Stand → ℕ → Stand
worked s n = record s { commands = suc s.commands; work = s.work + n; reported = false }

abbrev pub solved : Stand → Stand
solved s = record s { commands = suc s.commands; items = s.items ++ report_item ∷ []; work = 0; reported = true }

-- what a command makes of it
abbrev pub follow : Stand → Command → Result Stand Cause
follow s (Change e) = changed s e
follow s (Work n) = Ok (worked s n)
follow s Report = Ok (solved s)

-- a line behind those before it; there are at most 10,000 commands, which is tested before all else
unfoldable pub step : Stand → List (List ℕ) → Result Stand Cause
step s fields = if leb 10000 s.commands then Err cause.ScriptLimit else (command_of s.program fields >>= follow s)

-- a report stands at the end, also where the list doesn't say so
abbrev pub finished : Stand → List Item
finished s = if s.reported then s.items else s.items ++ report_item ∷ []

-- the first line that is refused is named
abbrev pub items_from : Stand → List TextLine → Result (List Item) Refusal
items_from s [] = Ok (finished s)
items_from s (line ∷ lines) = on_line line.number (step s line.fields) (λ t. items_from t lines)

abbrev pub no_commands : Program → Stand
no_commands p = record { commands = 0; program = p; items = []; work = 0; reported = false }

-- the script that the text means for a program, or the first line that is refused
abbrev pub script_of : List ℕ → Program → Result (List Item) Refusal
script_of text p = items_from (no_commands p) (reading_of 0 text).lines
