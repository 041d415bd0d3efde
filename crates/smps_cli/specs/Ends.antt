-- How a command ends that had all its texts.
use Rattle.std.specs.Prelude.{◌≡◌, ⊤, ℕ, List, Option}
use Rattle.refusals.specs.declared.cause.Cause.{Cause}
use Rattle.core_defs.specs.declared.program.Core.{Core}
use Rattle.input_files.specs.declared.kind.FileKind.{FileKind}
use Rattle.input_files.specs.Fetched.{Texts}
use Rattle.program_files.specs.Edited.{RefusesFiles}
use Rattle.program_files.specs.declared.reading.Unread.{Unread}
use Rattle.program_files.specs.declared.reading.Unread.TheVariants as unread
use Rattle.exit_status.specs.declared.status.Status.{Status}
use Rattle.exit_status.specs.declared.status.Status.TheVariants.{Done, SomeOpen, Words, Refused, TooLong, ReadFault, WriteFault, Memory}
use Rattle.exit_status.specs.Lines.{refused_text}

-- It prints this, or refuses a text: nothing else comes.
abbrev pub MayEnd : (Status → List ℕ → Type 0) → (FileKind → ℕ → Cause → List ℕ → Type 0)
    → Status → List ℕ → Type 0
MayEnd prints refuses Done output = prints Done output
MayEnd prints refuses SomeOpen output = prints SomeOpen output
MayEnd prints refuses (Refused file line cause) output = refuses file line cause output
MayEnd prints refuses Words output = ⊥
MayEnd prints refuses (TooLong file) output = ⊥
MayEnd prints refuses (ReadFault file) output = ⊥
MayEnd prints refuses WriteFault output = ⊥
MayEnd prints refuses Memory output = ⊥

-- The texts have this first fault, and the line says so; it has the names of the core, where the fault is told with them.
pub record RefusesTexts (texts : Texts) (file : FileKind) (line : ℕ) (cause : Cause) (output : List ℕ) : Type 0 where
  pub known : Option Core
  pub refused : RefusesFiles texts file (record { line = line; cause = cause }) known
  pub text : output ≡ refused_text known file line cause

-- the status and the line of what stops the reading of the texts
abbrev pub AnswersUnread : Unread → Status → List ℕ → Type 0
AnswersUnread (unread.Refused file refusal known) status output =
    (status ≡ Refused file refusal.line refusal.cause) × (output ≡ refused_text known file refusal.line refusal.cause)
AnswersUnread unread.Memory status output = ⊥

-- what stops the reading is the first fault of the texts, or memory was wanting
abbrev pub RefusesUnread : Texts → Unread → Type 0
RefusesUnread texts (unread.Refused file refusal known) = RefusesFiles texts file refusal known
RefusesUnread texts unread.Memory = ⊤
