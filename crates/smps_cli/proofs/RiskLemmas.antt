-- How `solve` and `check` end with a risk measure.
use Rattle.std.proofs.Common.{◌≡◌, ◌⊎◌, ◌<◌, ◌≤◌, ◌-◌, ◌^◌, ℕ, Bool, true, false, not, List, length, Option, Some, None, Result, Ok, Err, inl, inr, sym, subst, arith}
use Rattle.std.specs.Prelude.{IfSome}
use Rattle.refusals.specs.declared.cause.Cause.{Cause}
use Rattle.refusals.specs.declared.cause.Cause.TheVariants.{ScenarioLimit, Passes, TailName}
use Rattle.refusals.specs.declared.cause.Refusal.{Refusal}
use Rattle.refusals.specs.declared.cause.ReadFail.{ReadFail}
use Rattle.refusals.specs.declared.cause.ReadFail.TheVariants as fail
use Rattle.rationals.specs.Replies.{IsReply}
use Rattle.scen_defs.specs.Program.{Program}
use Rattle.scen_defs.specs.declared.program.Program.{Program as ProgramOf}
use Rattle.scen_defs.specs.declared.report.Report.{Report as ReportOf}
use Rattle.command_words.specs.declared.command.Budget.{Budget}
use Rattle.command_words.specs.declared.command.RiskMeasure.{RiskMeasure}
use Rattle.input_files.specs.declared.kind.FileKind.{FileKind}
use Rattle.input_files.specs.declared.kind.FileKind.TheVariants.{Core, Report}
use Rattle.input_files.specs.Fetched.{Texts, file_limit}
use Rattle.program_files.specs.Meant.{AreWithin}
use Rattle.program_files.specs.Edited.{or_empty}
use Rattle.program_files.specs.declared.reading.Unread.{Unread}
use Rattle.program_files.specs.declared.reading.Unread.TheVariants as unread
use Rattle.report_reader.specs.Reports.{FailOf}
use Rattle.tail_risk.specs.TailWalk.{tail_end, tail_says}
use Rattle.tail_risk.specs.declared.fault.TailFault.{TailFault}
use Rattle.tail_risk.specs.declared.fault.TailFault.TheVariants.{Name, Limit, Passed, Memory as NoMemory}
use Rattle.script_checks.specs.Checked.{all_hold}
use Rattle.exit_status.specs.declared.status.Status.{Status}
use Rattle.exit_status.specs.declared.status.Status.TheVariants.{Refused}
use Rattle.exit_status.specs.Findings.{open_status}
use Rattle.smps_cli.specs.Completes.{AnswersOrWantsMemory, HasNoRisk}
use Rattle.smps_cli.specs.Ends.{MayEnd, RefusesTexts, RefusesUnread, AnswersUnread}
use Rattle.smps_cli.specs.Risks.{RiskComes, RefusesRisk, PrintsRisk, IsRiskSolve, MayBeRiskSolved}
use Rattle.smps_cli.specs.Risks.{RefusesFail, RiskChecksCome, ChecksRisk, IsRiskCheck, MayBeRiskChecked}
use Rattle.smps_cli.specs.Solved.{any_open}

-- ---- what is answered, or refused for the program or by it
module _ (is : Status → List ℕ → Type 0) (texts : Texts) (output : List ℕ) where
  abbrev refuses : FileKind → ℕ → Cause → List ℕ → Type 0
  refuses file line cause told = RefusesTexts texts file line cause told ⊎ is (Refused file line cause) told

  by_left : (left : Bool) → is (open_status left) output → MayEnd is refuses (open_status left) output
  by_left true h = h
  by_left false h = h

  may_answer : (left : Bool) (status : Status) → status ≡ open_status left → is status output → MayEnd is refuses status output
  may_answer left status e h =
      subst (λ (s : Status). MayEnd is refuses s output) (sym e) (by_left left (subst (λ (s : Status). is s output) e h))

  may_refuse : (file : FileKind) (line : ℕ) (cause : Cause) (status : Status) → status ≡ Refused file line cause → is status output
      → MayEnd is refuses status output
  may_refuse file line cause status e h =
      subst (λ (s : Status). MayEnd is refuses s output) (sym e) (inr (subst (λ (s : Status). is s output) e h))

  may_not_read : (u : Unread) → RefusesUnread texts u → (status : Status) → AnswersUnread u status output → MayEnd is refuses status output
  may_not_read (unread.Refused file refusal known) refused status h =
      subst (λ (s : Status). MayEnd is refuses s output) (sym h.0) (inl (record { known = known; refused = refused; text = h.1 }))
  may_not_read unread.Memory refused status h = absurd h

  may_refuse_core : (fault : TailFault) (status : Status) → RefusesRisk fault status output → is status output → MayEnd is refuses status output
  may_refuse_core Name status h = may_refuse Core 0 TailName status h.0
  may_refuse_core Limit status h = may_refuse Core 0 ScenarioLimit status h.0
  may_refuse_core (Passed p) status h = may_refuse Core 0 (Passes p) status h.0
  may_refuse_core NoMemory status h = absurd h

-- what the call says that makes the program
pub risk_refused : (answers : Program → Status → List ℕ → Type 0) (end : Result Program TailFault) (fault : TailFault) (status : Status) (output : List ℕ)
    → IsReply end (tail_says fault) → RefusesRisk fault status output → RiskComes answers end status output
risk_refused answers end Name status output e h = subst (λ (x : Result Program TailFault). RiskComes answers x status output) (sym e) h
risk_refused answers end Limit status output e h = subst (λ (x : Result Program TailFault). RiskComes answers x status output) (sym e) h
risk_refused answers end (Passed p) status output e h = subst (λ (x : Result Program TailFault). RiskComes answers x status output) (sym e) h
risk_refused answers end NoMemory status output e h = absurd h

-- ---- solve
module _ (m : RiskMeasure) (budget : Budget) (texts : Texts) (status : Status) (output : List ℕ) where
  pub risk_solved : IsRiskSolve m budget texts status output → MayBeRiskSolved m budget texts status output
  risk_solved h = go (tail_end h.read m.level m.weight) h.comes
    where
      go : (end : Result Program TailFault) → RiskComes (PrintsRisk m budget h.read) end status output → MayBeRiskSolved m budget texts status output
      go (Ok made) c = may_answer (IsRiskSolve m budget texts) texts output (any_open c.tolds) status c.ends h
      go (Err fault) c = may_refuse_core (IsRiskSolve m budget texts) texts output fault status c h

  pub risk_unsolved : (u : Unread) → RefusesUnread texts u → AnswersUnread u status output → MayBeRiskSolved m budget texts status output
  risk_unsolved u refused c = may_not_read (IsRiskSolve m budget texts) texts output u refused status c

-- ---- check
module _ (m : RiskMeasure) (texts : Texts) (status : Status) (output : List ℕ) where
  pub risk_checked : IsRiskCheck m texts status output → MayBeRiskChecked m texts status output
  risk_checked h = go (tail_end h.read m.level m.weight) h.comes
    where
      told : (made : Program) (c : ChecksRisk m texts h.read made status output) (reports : Result (List ReportOf) Refusal)
          → RiskChecksCome texts c.program reports status output → MayBeRiskChecked m texts status output
      told made c (Ok reports) d = may_answer (IsRiskCheck m texts) texts output (not (all_hold d.checks)) status d.ends h
      told made c (Err refusal) d = may_refuse (IsRiskCheck m texts) texts output Report refusal.line refusal.cause status d.0 h

      go : (end : Result Program TailFault) → RiskComes (ChecksRisk m texts h.read) end status output → MayBeRiskChecked m texts status output
      go (Ok made) c = told made c c.reports c.comes
      go (Err fault) c = may_refuse_core (IsRiskCheck m texts) texts output fault status c h

  pub risk_unchecked : (u : Unread) → RefusesUnread texts u → AnswersUnread u status output → MayBeRiskChecked m texts status output
  risk_unchecked u refused c = may_not_read (IsRiskCheck m texts) texts output u refused status c

-- a report file isn't too long
pub told_short : (texts : Texts) → AreWithin texts → length (or_empty texts.report) < 2 ^ 32 - 1
told_short texts within = go texts.report within.report
  where
    go : (text : Option (List ℕ)) → IfSome text (λ bytes. length bytes ≤ file_limit) → length (or_empty text) < 2 ^ 32 - 1
    go None h = omega arith
    go (Some bytes) h = omega (arith, h)

-- what the call says that reads the report file
pub told_refused : (texts : Texts) (program : ProgramOf) (read : Result (List ReportOf) Refusal) (f : ReadFail) (status : Status) (output : List ℕ)
    → FailOf read f → RefusesFail f status output → RiskChecksCome texts program read status output
told_refused texts program read (fail.Refused refusal) status output e h =
    subst (λ (x : Result (List ReportOf) Refusal). RiskChecksCome texts program x status output) (sym e) h
told_refused texts program read fail.Memory status output e h = absurd h

-- ---- which statuses that may be
answers : (left : Bool) (status : Status) → status ≡ open_status left → AnswersOrWantsMemory status
answers true status e = inr (inl e)
answers false status e = inl e

no_risk : (fault : TailFault) (status : Status) (output : List ℕ) → RefusesRisk fault status output → HasNoRisk status
no_risk Name status output h = inl h.0
no_risk Limit status output h = inr (inl h.0)
no_risk (Passed p) status output h = inr (inr (p, h.0))
no_risk NoMemory status output h = absurd h

pub solve_ends : (m : RiskMeasure) (budget : Budget) (texts : Texts) (status : Status) (output : List ℕ) → IsRiskSolve m budget texts status output
    → AnswersOrWantsMemory status ⊎ HasNoRisk status
solve_ends m budget texts status output h = go (tail_end h.read m.level m.weight) h.comes
  where
    go : (end : Result Program TailFault) → RiskComes (PrintsRisk m budget h.read) end status output → AnswersOrWantsMemory status ⊎ HasNoRisk status
    go (Ok made) c = inl (answers (any_open c.tolds) status c.ends)
    go (Err fault) c = inr (no_risk fault status output c)

pub check_ends : (m : RiskMeasure) (texts : Texts) (status : Status) (output : List ℕ) → IsRiskCheck m texts status output
    → AnswersOrWantsMemory status ⊎ HasNoRisk status ⊎ ((line : ℕ) × (cause : Cause) × (status ≡ Refused Report line cause))
check_ends m texts status output h = go (tail_end h.read m.level m.weight) h.comes
  where
    told : (made : Program) (c : ChecksRisk m texts h.read made status output) (reports : Result (List ReportOf) Refusal)
        → RiskChecksCome texts c.program reports status output
        → AnswersOrWantsMemory status ⊎ HasNoRisk status ⊎ ((line : ℕ) × (cause : Cause) × (status ≡ Refused Report line cause))
    told made c (Ok reports) d = inl (answers (not (all_hold d.checks)) status d.ends)
    told made c (Err refusal) d = inr (inr (refusal.line, refusal.cause, d.0))

    go : (end : Result Program TailFault) → RiskComes (ChecksRisk m texts h.read) end status output
        → AnswersOrWantsMemory status ⊎ HasNoRisk status ⊎ ((line : ℕ) × (cause : Cause) × (status ≡ Refused Report line cause))
    go (Ok made) c = told made c c.reports c.comes
    go (Err fault) c = inr (inl (no_risk fault status output c))
