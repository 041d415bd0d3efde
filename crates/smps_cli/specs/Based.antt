-- What `solve` prints with a basis.
use Rattle.std.specs.Prelude.{◌≡◌, ◌⊎◌, ℕ, List, [], ◌∷◌, None}
use Rattle.std.specs.List.{flat_map}
use Rattle.refusals.specs.declared.cause.Cause.{Cause}
use Rattle.refusals.specs.declared.cause.Cause.TheVariants.{BasisBad}
use Rattle.scen_defs.specs.Program.{Program}
use Rattle.command_words.specs.declared.command.Budget.{Budget}
use Rattle.input_files.specs.declared.kind.FileKind.{FileKind}
use Rattle.input_files.specs.declared.kind.FileKind.TheVariants.{Basis}
use Rattle.input_files.specs.Fetched.{Texts}
use Rattle.edit_script.specs.Script.{report_item}
use Rattle.program_files.specs.Meant.{MeansProgram}
use Rattle.program_files.specs.Edited.{MeansScript}
use Rattle.smps_session.specs.declared.told.Told.{Told}
use Rattle.smps_session.specs.Based.{TellsBasis}
use Rattle.exit_status.specs.declared.status.Status.{Status}
use Rattle.exit_status.specs.declared.status.Status.TheVariants.{Done, Refused}
use Rattle.exit_status.specs.Lines.{refused_text}
use Rattle.basis_file.specs.declared.fault.BasisFault.{BasisFault}
use Rattle.basis_file.specs.declared.fault.BasisFault.TheVariants as fault
use Rattle.smps_cli.specs.Ends.{MayEnd, RefusesTexts}
use Rattle.smps_cli.specs.Solved.{PrintsReports, told_text}

-- The output is the text of the report that the basis shows, which is true of the program that the files mean. There is no edit list.
pub record PrintsShown (budget : Budget) (texts : Texts) (status : Status) (output : List ℕ) : Type 0 where
  pub program : Program
  pub means : MeansProgram texts program
  pub script : MeansScript texts program (report_item ∷ [])
  pub told : Told
  pub tells : TellsBasis (record { solves = budget.solves; pivots = budget.pivots }) program told
  pub text : output ≡ flat_map told_text (told ∷ [])
  pub ends : status ≡ Done

-- So, or it is what is printed without the basis.
abbrev pub PrintsBasis : Budget → Texts → Status → List ℕ → Type 0
PrintsBasis budget texts status output = PrintsShown budget texts status output ⊎ PrintsReports budget texts status output

-- The basis file is refused at this line, and the line says so.
pub record RefusesLine (file : FileKind) (line : ℕ) (cause : Cause) (output : List ℕ) : Type 0 where
  pub file_is : file ≡ Basis
  pub cause_is : cause ≡ BasisBad
  pub text : output ≡ refused_text None Basis line BasisBad

-- why it isn't read
abbrev pub RefusesFault : BasisFault → Status → List ℕ → Type 0
RefusesFault (fault.Line line) status output = (status ≡ Refused Basis line BasisBad) × (output ≡ refused_text None Basis line BasisBad)
RefusesFault fault.Memory status output = ⊥

-- The texts have a first fault; or the basis file has one.
abbrev pub RefusesBasis : Texts → FileKind → ℕ → Cause → List ℕ → Type 0
RefusesBasis texts file line cause output = RefusesTexts texts file line cause output ⊎ RefusesLine file line cause output

-- What the texts of the files may come to.
abbrev pub MayBeBasisSolved : Budget → Texts → Status → List ℕ → Type 0
MayBeBasisSolved budget texts = MayEnd (PrintsBasis budget texts) (RefusesBasis texts)
