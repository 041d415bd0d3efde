-- A run on files that mean a program, and whose shelf didn't fail, answers what it is asked for.
use Rattle.std.proofs.Common.{◌≡◌, ◌<◌, ◌≤◌, ℕ, List, length, Option, Some, None, Result, Ok, Err, inl, inr, refl, sym, ap, ◌∙◌, subst, arith}
use Rattle.smps_io.specs.Files.{Files, bytes_of}
use Rattle.refusals.specs.declared.cause.Cause.{Cause}
use Rattle.refusals.specs.declared.cause.Refusal.{Refusal}
use Rattle.core_defs.specs.declared.program.Core.{Core}
use Rattle.command_words.specs.declared.command.Extent.{Extent}
use Rattle.command_words.specs.declared.command.Budget.{Budget}
use Rattle.command_words.specs.declared.command.Page.{Page}
use Rattle.command_words.specs.declared.command.Plan.{Plan}
use Rattle.command_words.specs.declared.command.RiskMeasure.{RiskMeasure}
use Rattle.command_words.specs.declared.command.Sheet.{Sheet}
use Rattle.command_words.specs.declared.command.Task.{Task}
use Rattle.command_words.specs.declared.command.Task.TheVariants as task
use Rattle.command_words.specs.Commands.{FileNames, Asked}
use Rattle.command_words.specs.Commands.Asked.{OnFiles}
use Rattle.input_files.specs.declared.kind.FileKind.{FileKind}
use Rattle.input_files.specs.declared.kind.FileKind.TheVariants as kind
use Rattle.input_files.specs.Fetched.{Texts, IsGiven, IsGivenIf, AreGiven, IsLong, file_limit}
use Rattle.scen_defs.specs.Program.{Program}
use Rattle.edit_script.specs.Allowed.{program_after}
use Rattle.flat_write.specs.declared.fault.FlatFault.{FlatFault}
use Rattle.flat_write.specs.declared.fault.FlatFault.TheVariants as flat
use Rattle.report_sheets.specs.declared.sheet.NoSheet.{NoSheet}
use Rattle.report_sheets.specs.declared.sheet.NoSheet.TheVariants as no_sheet
use Rattle.program_files.specs.Meant.{MeansProgram}
use Rattle.program_files.specs.Edited.{AreMeant, RefusesFiles, or_empty}
use Rattle.program_files.proofs.MeaningLemmas.{texts_mean_one_program}
use Rattle.exit_status.specs.declared.status.Status.{Status}
use Rattle.exit_status.specs.declared.status.Status.TheVariants.{Done, SomeOpen, Words, Refused, TooLong, ReadFault, WriteFault, Memory}
use Rattle.smps_cli.specs.Answers.{MayAnswer, MayAnswerFor, MayCome}
use Rattle.smps_cli.specs.Checks.{PrintsChecks}
use Rattle.smps_cli.specs.Ends.{MayEnd, RefusesTexts}
use Rattle.smps_cli.specs.Flat.{FlatComes, MayBeFlat, RefusesFlat, flat_end, limits_of}
use Rattle.smps_cli.specs.Tables.{MayBeTable, RefusesTable, TableComes, line_after}
use Rattle.smps_cli.specs.Measured.{PrintsMeasuresWithin}
use Rattle.smps_cli.specs.Risks.{MayBeRiskSolved, MayBeRiskChecked, RefusesRiskSolve, RefusesRiskCheck}
use Rattle.smps_cli.specs.Makes.{PrintsSummary, MayMake, workload, texts_of}
use Rattle.smps_cli.specs.Shown.{PrintsProgram}
use Rattle.smps_cli.specs.Solved.{PrintsReports}
use Rattle.smps_cli.specs.Based.{MayBeBasisSolved, RefusesBasis}
use Rattle.smps_cli.specs.Completes.{AsksOfProgram, EndsTask, IsPageOrMeant, AsksForWorkload, AnswersOrWantsMemory}
use Rattle.smps_cli.proofs.RiskLemmas.{solve_ends, check_ends}

-- ---- what the shelf gives

module _ (files : Files) where
  given_one : (name bytes other : List ℕ) → IsGiven (Some files) name bytes → IsGiven (Some files) name other → bytes ≡ other
  given_one name bytes other g h = g.told ∙ sym h.told

  given_if : (name bytes other : Option (List ℕ)) → IsGivenIf (Some files) name bytes → IsGivenIf (Some files) name other → bytes ≡ other
  given_if None None None g h = refl
  given_if None None (Some other) g h = absurd h
  given_if None (Some bytes) other g h = absurd g
  given_if (Some name) None other g h = absurd g
  given_if (Some name) (Some bytes) None g h = absurd h
  given_if (Some name) (Some bytes) (Some other) g h = ap Some (given_one name bytes other g h)

  texts_are : (names : FileNames) (texts other : Texts) → AreGiven (Some files) names texts → AreGiven (Some files) names other → texts ≡ other
  texts_are names texts other g h =
      let core = given_one names.core texts.core other.core g.core h.core in
      let time = given_if names.time texts.time other.time g.time h.time in
      let stoch = given_if names.stoch texts.stoch other.stoch g.stoch h.stoch in
      let edits = given_if names.edits texts.edits other.edits g.edits h.edits in
      let report = given_if names.report texts.report other.report g.report h.report in
      let basis = given_if names.basis texts.basis other.basis g.basis h.basis in
      let measures = given_if names.measures texts.measures other.measures g.measures h.measures in
      λ i. record { core = core i; time = time i; stoch = stoch i; edits = edits i; report = report i; basis = basis i; measures = measures i }

  not_over : (name bytes : List ℕ) → IsGiven (Some files) name bytes → file_limit < length (bytes_of files name) → ⊥
  not_over name bytes g over =
      let within : length (bytes_of files name) ≤ file_limit = subst (λ (told : List ℕ). length told ≤ file_limit) g.told g.within in absurd (omega (arith, over, within))

  not_over_if : (named text : Option (List ℕ)) (name : List ℕ) → named ≡ Some name → IsGivenIf (Some files) named text → file_limit < length (bytes_of files name) → ⊥
  not_over_if None text name e g over = absurd (cc)
  not_over_if (Some other) None name e g over = absurd g
  not_over_if (Some other) (Some bytes) name e g over =
      let same : other ≡ name = cc in
      not_over other bytes g (subst (λ (n : List ℕ). file_limit < length (bytes_of files n)) (sym same) over)

  not_long : (names : FileNames) (texts : Texts) → AreGiven (Some files) names texts → (k : FileKind) → IsLong (Some files) names k → ⊥
  not_long names texts g kind.Core long = not_over_if (Some names.core) (Some texts.core) long.0 long.1 g.core long.2
  not_long names texts g kind.Time long = not_over_if names.time texts.time long.0 long.1 g.time long.2
  not_long names texts g kind.Stoch long = not_over_if names.stoch texts.stoch long.0 long.1 g.stoch long.2
  not_long names texts g kind.Edits long = not_over_if names.edits texts.edits long.0 long.1 g.edits long.2
  not_long names texts g kind.Report long = not_over_if names.report texts.report long.0 long.1 g.report long.2
  not_long names texts g kind.Basis long = not_over_if names.basis texts.basis long.0 long.1 g.basis long.2
  not_long names texts g kind.Measures long = not_over_if names.measures texts.measures long.0 long.1 g.measures long.2

-- ---- what the texts come to

-- nothing is refused
IsUnrefused : Texts → Type 0
IsUnrefused texts = (file : FileKind) (refusal : Refusal) (known : Option Core) → RefusesFiles texts file refusal known → ⊥

module _ (texts : Texts) (sound : IsUnrefused texts) where
  by_end : (prints : Status → List ℕ → Type 0) (status : Status) (output : List ℕ) → MayEnd prints (RefusesTexts texts) status output → AnswersOrWantsMemory status
  unfolding IsUnrefused
  by_end prints Done output may = inl refl
  by_end prints SomeOpen output may = inr (inl refl)
  by_end prints Words output may = absurd may
  by_end prints (Refused file line cause) output may = absurd (sound file (record { line = line; cause = cause }) may.known may.refused)
  by_end prints (TooLong file) output may = absurd may
  by_end prints (ReadFault file) output may = absurd may
  by_end prints WriteFault output may = absurd may
  by_end prints Memory output may = absurd may

  -- the program has no text
  no_text : (size : Extent) (status : Status) (output : List ℕ) (end : Result (List ℕ) FlatFault) → FlatComes end status output → EndsTask (task.Flat size) status
  no_text size status output (Ok text) h = inl (inl h.0)
  no_text size status output (Err flat.Limit) h = inr (inl h.0)
  no_text size status output (Err (flat.Passed p)) h = inr (inr (p, h.0))
  no_text size status output (Err flat.Memory) h = absurd h

  by_refusal : (size : Extent) (file : FileKind) (line : ℕ) (cause : Cause) (output : List ℕ) → RefusesFlat size texts file line cause output
      → EndsTask (task.Flat size) (Refused file line cause)
  unfolding IsUnrefused
  by_refusal size file line cause output (inl may) = absurd (sound file (record { line = line; cause = cause }) may.known may.refused)
  by_refusal size file line cause output (inr is) =
      no_text size (Refused file line cause) output (flat_end (limits_of size) (program_after is.program is.items)) is.comes

  by_flat : (size : Extent) (status : Status) (output : List ℕ) → MayBeFlat size texts status output → EndsTask (task.Flat size) status
  by_flat size Done output may = inl (inl refl)
  by_flat size SomeOpen output may = inl (inr (inl refl))
  by_flat size Words output may = absurd may
  by_flat size (Refused file line cause) output may = by_refusal size file line cause output may
  by_flat size (TooLong file) output may = absurd may
  by_flat size (ReadFault file) output may = absurd may
  by_flat size WriteFault output may = absurd may
  by_flat size Memory output may = absurd may

  -- there is a page, or the report isn't shown to hold, or it isn't there
  by_sheet : (sheet : Sheet) (status : Status) (output : List ℕ) (line : ℕ) (end : Result (List ℕ) NoSheet) → TableComes line end status output
      → EndsTask (task.Table sheet) status
  by_sheet sheet status output line (Ok page) h = inl (inl h.0)
  by_sheet sheet status output line (Err (no_sheet.Missing count)) h = inr (inl (line, h.0))
  by_sheet sheet status output line (Err (no_sheet.Unproved check)) h = inl (inr (inl h.0))
  by_sheet sheet status output line (Err no_sheet.Memory) h = absurd h

  by_lack : (sheet : Sheet) (file : FileKind) (line : ℕ) (cause : Cause) (output : List ℕ) → RefusesTable sheet texts file line cause output
      → EndsTask (task.Table sheet) (Refused file line cause)
  unfolding IsUnrefused
  by_lack sheet file line cause output (inl may) = absurd (sound file (record { line = line; cause = cause }) may.known may.refused)
  by_lack sheet file line cause output (inr (inl is)) =
      by_sheet sheet (Refused file line cause) output (line_after (or_empty texts.report)) is.end is.comes
  by_lack sheet file line cause output (inr (inr is)) = inr (inr (is.0, (is.1.0, is.1.1, is.1.2)))

  by_table : (sheet : Sheet) (status : Status) (output : List ℕ) → MayBeTable sheet texts status output → EndsTask (task.Table sheet) status
  by_table sheet Done output may = inl (inl refl)
  by_table sheet SomeOpen output may = inl (inr (inl refl))
  by_table sheet Words output may = absurd may
  by_table sheet (Refused file line cause) output may = by_lack sheet file line cause output may
  by_table sheet (TooLong file) output may = absurd may
  by_table sheet (ReadFault file) output may = absurd may
  by_table sheet WriteFault output may = absurd may
  by_table sheet Memory output may = absurd may

  -- there is a report, or there is no program of the risk measure
  by_unsolved : (m : RiskMeasure) (budget : Budget) (file : FileKind) (line : ℕ) (cause : Cause) (output : List ℕ)
      → RefusesRiskSolve m budget texts file line cause output → EndsTask (task.SolveRisk m budget) (Refused file line cause)
  unfolding IsUnrefused
  by_unsolved m budget file line cause output (inl may) = absurd (sound file (record { line = line; cause = cause }) may.known may.refused)
  by_unsolved m budget file line cause output (inr is) = solve_ends m budget texts (Refused file line cause) output is

  by_risk : (m : RiskMeasure) (budget : Budget) (status : Status) (output : List ℕ) → MayBeRiskSolved m budget texts status output
      → EndsTask (task.SolveRisk m budget) status
  by_risk m budget Done output may = inl (inl refl)
  by_risk m budget SomeOpen output may = inl (inr (inl refl))
  by_risk m budget Words output may = absurd may
  by_risk m budget (Refused file line cause) output may = by_unsolved m budget file line cause output may
  by_risk m budget (TooLong file) output may = absurd may
  by_risk m budget (ReadFault file) output may = absurd may
  by_risk m budget WriteFault output may = absurd may
  by_risk m budget Memory output may = absurd may

  -- there are checks, or there is no such program, or the report file isn't one of its names
  by_unchecked : (m : RiskMeasure) (file : FileKind) (line : ℕ) (cause : Cause) (output : List ℕ)
      → RefusesRiskCheck m texts file line cause output → EndsTask (task.CheckRisk m) (Refused file line cause)
  unfolding IsUnrefused
  by_unchecked m file line cause output (inl may) = absurd (sound file (record { line = line; cause = cause }) may.known may.refused)
  by_unchecked m file line cause output (inr is) = check_ends m texts (Refused file line cause) output is

  by_checks : (m : RiskMeasure) (status : Status) (output : List ℕ) → MayBeRiskChecked m texts status output → EndsTask (task.CheckRisk m) status
  by_checks m Done output may = inl (inl refl)
  by_checks m SomeOpen output may = inl (inr (inl refl))
  by_checks m Words output may = absurd may
  by_checks m (Refused file line cause) output may = by_unchecked m file line cause output may
  by_checks m (TooLong file) output may = absurd may
  by_checks m (ReadFault file) output may = absurd may
  by_checks m WriteFault output may = absurd may
  by_checks m Memory output may = absurd may

  -- there is a report, or a line of the basis file is refused
  by_unbased : (budget : Budget) (file : FileKind) (line : ℕ) (cause : Cause) (output : List ℕ) → RefusesBasis texts file line cause output
      → EndsTask (task.SolveBasis budget) (Refused file line cause)
  unfolding IsUnrefused
  by_unbased budget file line cause output (inl may) = absurd (sound file (record { line = line; cause = cause }) may.known may.refused)
  by_unbased budget file line cause output (inr may) = inr (line, λ i. Refused (may.file_is i) line (may.cause_is i))

  by_basis : (budget : Budget) (status : Status) (output : List ℕ) → MayBeBasisSolved budget texts status output
      → EndsTask (task.SolveBasis budget) status
  by_basis budget Done output may = inl (inl refl)
  by_basis budget SomeOpen output may = inl (inr (inl refl))
  by_basis budget Words output may = absurd may
  by_basis budget (Refused file line cause) output may = by_unbased budget file line cause output may
  by_basis budget (TooLong file) output may = absurd may
  by_basis budget (ReadFault file) output may = absurd may
  by_basis budget WriteFault output may = absurd may
  by_basis budget Memory output may = absurd may

  by_task : (asked : Task) (status : Status) (output : List ℕ) → MayCome asked texts status output → EndsTask asked status
  by_task (task.Solve budget) status output may = by_end (PrintsReports may.kept texts) status output may.came
  by_task task.Check status output may = by_end (PrintsChecks texts) status output may
  by_task (task.Table sheet) status output may = by_table sheet status output may
  by_task task.Show status output may = by_end (PrintsProgram texts) status output may
  by_task (task.Flat size) status output may = by_flat size status output may
  by_task (task.Value budget) status output may = by_end (PrintsMeasuresWithin budget texts) status output may
  by_task (task.SolveRisk m budget) status output may = by_risk m may.kept status output may.came
  by_task (task.CheckRisk m) status output may = by_checks m status output may
  by_task (task.SolveBasis budget) status output may = by_basis may.kept status output may.came

meant_unrefused : (texts : Texts) → AreMeant texts → IsUnrefused texts
unfolding IsUnrefused
meant_unrefused texts meant = texts_mean_one_program.none_refused texts meant

module _ (content : Option Files) (words : List (List ℕ)) (asks : AsksOfProgram content words) where
  by_command : (status : Status) (output : List ℕ) → ((file : FileKind) → status ≡ ReadFault file → ⊥)
      → MayAnswerFor (Some (OnFiles asks.names asks.task)) (Some asks.files) status output → EndsTask asks.task status
  by_command status output given (inl failed) = absurd (given failed.0 failed.2)
  by_command status output given (inr (inl long)) = absurd (not_long asks.files asks.names asks.texts asks.given long.0 long.1)
  by_command status output given (inr (inr came)) =
      let same : asks.texts ≡ came.0 = texts_are asks.files asks.names asks.texts came.0 asks.given came.1 in
      by_task came.0 (subst IsUnrefused same (meant_unrefused asks.texts asks.meant)) asks.task status output came.2

  pub comes_to_an_answer : (status : Status) (output : List ℕ) → ((file : FileKind) → status ≡ ReadFault file → ⊥) → MayAnswer content words status output → EndsTask asks.task status
  comes_to_an_answer status output given may =
      by_command status output given
      (subst (λ (told : Option Files). MayAnswerFor (Some (OnFiles asks.names asks.task)) told status output) asks.told
      (subst (λ (command : Option Asked). MayAnswerFor command content status output) asks.command may))

-- ---- workloads

made_unrefused : (plan : Plan) (program : Program) → MeansProgram (texts_of (workload plan)) program → IsUnrefused (texts_of (workload plan))
unfolding IsUnrefused
made_unrefused plan program means file refusal known (inl fault) = texts_mean_one_program.no_fault (texts_of (workload plan)) program means file refusal known fault
made_unrefused plan program means file refusal known (inr (inl fault)) = let e = fault.text_is in absurd (cc)
made_unrefused plan program means file refusal known (inr (inr fault)) = let e = fault.text_is in absurd (cc)

by_page : (plan : Plan) (page : Option Page) → IsPageOrMeant page plan → (status : Status) (output : List ℕ) → MayMake page plan status output → AnswersOrWantsMemory status
by_page plan (Some page) meant status output may = inl may.1
by_page plan None meant status output may = by_end (texts_of (workload plan)) (made_unrefused plan meant.0 meant.1) (PrintsSummary plan) status output may

pub comes_to_a_workload : (content : Option Files) (words : List (List ℕ)) → AsksForWorkload words → (status : Status) (output : List ℕ) → MayAnswer content words status output → AnswersOrWantsMemory status
comes_to_a_workload content words asks status output may =
    by_page asks.plan asks.plan.page asks.meant status output
    (subst (λ (command : Option Asked). MayAnswerFor command content status output) asks.command may)

-- want of memory ends each task
pub memory_ends : (t : Task) → EndsTask t Memory
memory_ends (task.Solve budget) = inr (inr refl)
memory_ends task.Check = inr (inr refl)
memory_ends (task.Table sheet) = inl (inr (inr refl))
memory_ends task.Show = inr (inr refl)
memory_ends (task.Flat size) = inl (inr (inr refl))
memory_ends (task.Value budget) = inr (inr refl)
memory_ends (task.SolveRisk m budget) = inl (inr (inr refl))
memory_ends (task.CheckRisk m) = inl (inr (inr refl))
memory_ends (task.SolveBasis budget) = inl (inr (inr refl))
