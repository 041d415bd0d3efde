-- What `flat` prints.
use Rattle.std.specs.Prelude.{◌≡◌, ◌⊎◌, ℕ, List, Result, Ok, Err, None}
use Rattle.refusals.specs.declared.cause.Cause.{Cause}
use Rattle.refusals.specs.declared.cause.Cause.TheVariants.{FlatLimit, Passes}
use Rattle.command_words.specs.declared.command.Extent.{Extent}
use Rattle.command_words.specs.declared.command.Extent.TheVariants as extent
use Rattle.scen_defs.specs.Program.{Program, view_of}
use Rattle.edit_defs.specs.declared.edit.Item.{Item}
use Rattle.edit_script.specs.Allowed.{program_after}
use Rattle.input_files.specs.declared.kind.FileKind.{FileKind}
use Rattle.input_files.specs.declared.kind.FileKind.TheVariants.{Core}
use Rattle.input_files.specs.Fetched.{Texts}
use Rattle.program_files.specs.Meant.{MeansProgram}
use Rattle.program_files.specs.Edited.{MeansScript}
use Rattle.flat_write.specs.declared.limits.FlatLimits.{FlatLimits}
use Rattle.flat_write.specs.declared.fault.FlatFault.{FlatFault}
use Rattle.flat_write.specs.declared.fault.FlatFault.TheVariants.{Limit, Passed, Memory}
use Rattle.flat_write.specs.Flat.{written}
use Rattle.exit_status.specs.declared.status.Status.{Status}
use Rattle.exit_status.specs.declared.status.Status.TheVariants.{Done, Refused}
use Rattle.exit_status.specs.Lines.{refused_text}
use Rattle.smps_cli.specs.Ends.{MayEnd, RefusesTexts}

-- how large the text may be: as each core file, or as a program on a tree
abbrev pub limits_of : Extent → FlatLimits
limits_of extent.Core = record { rows = 4000; columns = 4000; entries = 100000 }
limits_of extent.Whole = record { rows = 4294967295; columns = 4294967295; entries = 10000000 }

-- what a program comes to as one core file: its text within limits; else whether a limit is exceeded, or the first operation that passes
abbrev pub flat_end : FlatLimits → Program → Result (List ℕ) FlatFault
flat_end limits program = written limits (view_of program)

-- the core file as a whole is refused for this cause, and the line says so
abbrev pub RefusesCore : Cause → Status → List ℕ → Type 0
RefusesCore cause status output = (status ≡ Refused Core 0 cause) × (output ≡ refused_text None Core 0 cause)

-- The output is the text, or the core file is refused.
abbrev pub FlatComes : Result (List ℕ) FlatFault → Status → List ℕ → Type 0
FlatComes (Ok text) status output = (status ≡ Done) × (output ≡ text)
FlatComes (Err Limit) status output = RefusesCore FlatLimit status output
FlatComes (Err (Passed p)) status output = RefusesCore (Passes p) status output
FlatComes (Err Memory) status output = ⊥

-- The answer is that of the program that the texts mean, as all edits of its edit list leave it.
pub record IsFlat (size : Extent) (texts : Texts) (status : Status) (output : List ℕ) : Type 0 where
  pub program : Program
  pub means : MeansProgram texts program
  pub items : List Item
  pub script : MeansScript texts program items
  pub comes : FlatComes (flat_end (limits_of size) (program_after program items)) status output

-- The texts have a first fault; or the program that they mean has no text.
abbrev pub RefusesFlat : Extent → Texts → FileKind → ℕ → Cause → List ℕ → Type 0
RefusesFlat size texts file line cause output =
    RefusesTexts texts file line cause output ⊎ IsFlat size texts (Refused file line cause) output

-- What the texts of the files may come to.
abbrev pub MayBeFlat : Extent → Texts → Status → List ℕ → Type 0
MayBeFlat size texts = MayEnd (IsFlat size texts) (RefusesFlat size texts)
