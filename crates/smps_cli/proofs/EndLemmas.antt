-- How a command ends that prints something, or refuses a text.
use Rattle.std.proofs.Common.{◌≡◌, ℕ, Bool, true, false, List, Err, inl, inr, sym, subst}
use Rattle.input_files.specs.Fetched.{Texts}
use Rattle.program_files.specs.declared.reading.Unread.{Unread}
use Rattle.program_files.specs.declared.reading.Unread.TheVariants as unread
use Rattle.program_files.specs.Views.{MeansOrRefused, GivesReports}
use Rattle.scen_defs.specs.declared.program.Program.{Program}
use Rattle.exit_status.specs.declared.status.Status.{Status}
use Rattle.smps_cli.specs.Ends.{MayEnd, RefusesTexts, RefusesUnread, AnswersUnread}
use Rattle.exit_status.specs.Findings.{open_status}

module _ (prints : Status → List ℕ → Type 0) (texts : Texts) (output : List ℕ) where
  by_open : (left : Bool) → prints (open_status left) output → MayEnd prints (RefusesTexts texts) (open_status left) output
  by_open true h = h
  by_open false h = h

  pub may_print : (status : Status) (left : Bool) → status ≡ open_status left → prints status output → MayEnd prints (RefusesTexts texts) status output
  may_print status left e h =
      subst (λ (s : Status). MayEnd prints (RefusesTexts texts) s output) (sym e)
      (by_open left (subst (λ (s : Status). prints s output) e h))

  pub may_refuse : (u : Unread) → RefusesUnread texts u → (status : Status) → AnswersUnread u status output → MayEnd prints (RefusesTexts texts) status output
  may_refuse (unread.Refused file refusal known) refuses status h =
      subst (λ (s : Status). MayEnd prints (RefusesTexts texts) s output) (sym h.0) (record { known = known; refused = refuses; text = h.1 })
  may_refuse unread.Memory refuses status h = absurd h

-- what stops the reading of the program, and of the reports, is a first fault
pub program_refuses : (texts : Texts) (u : Unread) → MeansOrRefused texts (Err u) → RefusesUnread texts u
program_refuses texts (unread.Refused file refusal known) h = inl h
program_refuses texts unread.Memory h = tt

pub reports_refuse : (texts : Texts) (most : ℕ) (program : Program) (u : Unread) → GivesReports texts most program (Err u) → RefusesUnread texts u
reports_refuse texts most program (unread.Refused file refusal known) h = inr (inr h)
reports_refuse texts most program unread.Memory h = tt
