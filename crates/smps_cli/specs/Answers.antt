-- What a run answers and writes.
use Rattle.std.specs.Prelude.{◌≡◌, ◌⊎◌, ⊤, ℕ, List, length, Option, Some, None}
use Rattle.smps_io.specs.Faults.{RoseBy}
use Rattle.smps_io.specs.Files.{Files}
use Rattle.smps_io.specs.Puts.{Appends, AppendsPrefix}
use Rattle.command_words.specs.declared.command.Task.{Task}
use Rattle.command_words.specs.declared.command.Task.TheVariants.{Solve, Check, Table, Show, Flat, Value, SolveRisk, CheckRisk, SolveBasis}
use Rattle.command_words.specs.Commands.{FileNames, Asked, command_of}
use Rattle.command_words.specs.Commands.Asked.{OnFiles, MakeThis}
use Rattle.input_files.specs.declared.kind.FileKind.{FileKind}
use Rattle.input_files.specs.Fetched.{Texts, AreGiven, IsNamed, IsLong}
use Rattle.exit_status.specs.declared.status.Status.{Status}
use Rattle.exit_status.specs.declared.status.Status.TheVariants.{Done, SomeOpen, Words, Refused, TooLong, ReadFault, WriteFault, Memory}
use Rattle.exit_status.specs.Lines.{status_line}
use Rattle.smps_cli.specs.Shown.{MayBeShown}
use Rattle.smps_cli.specs.Flat.{MayBeFlat}
use Rattle.smps_cli.specs.Measured.{MayBeMeasured}
use Rattle.smps_cli.specs.Risks.{MayBeRiskSolved, MayBeRiskChecked}
use Rattle.smps_cli.specs.Solved.{MayBeSolved}
use Rattle.smps_cli.specs.Within.{ComesWithin}
use Rattle.smps_cli.specs.Based.{MayBeBasisSolved}
use Rattle.smps_cli.specs.Checks.{MayBeChecked}
use Rattle.smps_cli.specs.Tables.{MayBeTable}
use Rattle.smps_cli.specs.Makes.{MakesPlan}

-- What a task may come to on the texts of its files.
abbrev pub MayCome : Task → Texts → Status → List ℕ → Type 0
MayCome (Solve budget) texts status output = ComesWithin (λ kept. MayBeSolved kept texts) budget status output
MayCome Check texts status output = MayBeChecked texts status output
MayCome (Table sheet) texts status output = MayBeTable sheet texts status output
MayCome Show texts status output = MayBeShown texts status output
MayCome (Flat extent) texts status output = MayBeFlat extent texts status output
MayCome (Value budget) texts status output = MayBeMeasured budget texts status output
MayCome (SolveRisk m budget) texts status output = ComesWithin (λ kept. MayBeRiskSolved m kept texts) budget status output
MayCome (CheckRisk m) texts status output = MayBeRiskChecked m texts status output
MayCome (SolveBasis budget) texts status output = ComesWithin (λ kept. MayBeBasisSolved kept texts) budget status output

-- A file is too long, and the line says so.
abbrev pub SaysTooLong : Option Files → FileNames → Status → List ℕ → Type 0
SaysTooLong content names status output =
    (kind : FileKind) × IsLong content names kind × (status ≡ TooLong kind) × (output ≡ status_line (TooLong kind))

-- A file couldn't be read, and the line says so.
abbrev pub SaysReadFault : FileNames → Status → List ℕ → Type 0
SaysReadFault names status output =
    (kind : FileKind) × IsNamed names kind × (status ≡ ReadFault kind) × (output ≡ status_line (ReadFault kind))

-- A task comes to this on texts that the shelf gave for its files: those of the shelf, where it tells what it holds.
abbrev pub ComesToThis : Option Files → FileNames → Task → Status → List ℕ → Type 0
ComesToThis content names task status output = (texts : Texts) × AreGiven content names texts × MayCome task texts status output

abbrev pub MayAnswerTask : Option Files → FileNames → Task → Status → List ℕ → Type 0
MayAnswerTask content names task status output =
    SaysReadFault names status output ⊎ SaysTooLong content names status output ⊎ ComesToThis content names task status output

-- the words aren't a command's, and the line says so
abbrev pub RefusesWords : Status → List ℕ → Type 0
RefusesWords status output = (status ≡ Words) × (output ≡ status_line Words)

-- With these words a run may come to this status with this whole output.
abbrev pub MayAnswerFor : Option Asked → Option Files → Status → List ℕ → Type 0
MayAnswerFor None content status output = RefusesWords status output
MayAnswerFor (Some (OnFiles names task)) content status output = MayAnswerTask content names task status output
MayAnswerFor (Some (MakeThis plan)) content status output = MakesPlan plan status output

abbrev pub MayAnswer : Option Files → List (List ℕ) → Status → List ℕ → Type 0
MayAnswer content words status output = MayAnswerFor (command_of words) content status output

-- The run came to a status and an output. It answers this status, the sink has the whole output, and has taken as many bytes as
-- that has; or the sink failed or memory was wanting, and the sink has a prefix of it.
pub record Written (content : Option Files) (words : List (List ℕ)) (before after : Option (List ℕ)) (taken taken_after : ℕ)
    (status : Status) : Type 0 where
  pub meant : Status
  pub output : List ℕ
  pub may : MayAnswer content words meant output
  pub prefix : AppendsPrefix before output after
  pub ends : ((status ≡ meant) × Appends before output after × RoseBy taken (length output) taken_after) ⊎ (status ≡ WriteFault)
      ⊎ (status ≡ Memory)

-- memory was wanting before anything was written, or see above
abbrev pub Answers : Option Files → List (List ℕ) → Option (List ℕ) → Option (List ℕ) → ℕ → ℕ → Status → Type 0
Answers content words before after taken taken_after status =
    Written content words before after taken taken_after status ⊎ ((status ≡ Memory) × (after ≡ before))

-- A status that comes after all files were given.
abbrev pub HasTexts : Status → Type 0
HasTexts Done = ⊤
HasTexts SomeOpen = ⊤
HasTexts Words = ⊥
HasTexts (Refused file line cause) = ⊤
HasTexts (TooLong file) = ⊥
HasTexts (ReadFault file) = ⊥
HasTexts WriteFault = ⊥
HasTexts Memory = ⊥
