-- A run that is asked for a report, and whose shelf didn't fail, comes to one.
use Rattle.std.proofs.Common.{◌≡◌, ◌<◌, ℕ, List, length, Option, Some, None, inl, inr, refl, sym, ◌∙◌, subst, arith}
use Rattle.smps_io.specs.Files.{Files, bytes_of}
use Rattle.smps_words.specs.Line.{reading_of}
use Rattle.rationals.specs.Passes.{Operation}
use Rattle.refusals.specs.declared.cause.Cause.TheVariants.{Passes}
use Rattle.refusals.specs.declared.cause.Refusal.{Refusal}
use Rattle.core_defs.specs.Fault.{IsCoreFile}
use Rattle.core_defs.specs.declared.program.Core.{Core}
use Rattle.command_words.specs.declared.command.Budget.{Budget}
use Rattle.command_words.specs.declared.command.Task.TheVariants.{Solve}
use Rattle.command_words.specs.Commands.{Asked}
use Rattle.command_words.specs.Commands.Asked.{OnFiles}
use Rattle.input_files.specs.declared.kind.FileKind.{FileKind}
use Rattle.input_files.specs.declared.kind.FileKind.TheVariants as kind
use Rattle.input_files.specs.Fetched.{Texts, AreGiven, IsGivenIf, IsLong, file_limit}
use Rattle.program_files.specs.Edited.{RefusesFiles}
use Rattle.program_files.proofs.MeaningLemmas.{texts_mean_one_program}
use Rattle.exit_status.specs.declared.status.Status.{Status}
use Rattle.exit_status.specs.declared.status.Status.TheVariants.{Done, SomeOpen, Words, Refused, TooLong, ReadFault, WriteFault, Memory}
use Rattle.smps_cli.specs.Answers.{MayAnswer, MayAnswerFor}
use Rattle.smps_cli.specs.Completes.{AsksForReport, EndsOrWantsMemory, alone}
use Rattle.smps_cli.specs.Solved.{MayBeSolved}

module _ (content : Option Files) (words : List (List ℕ)) (asks : AsksForReport content words) where
  not_there : (text : Option (List ℕ)) → IsGivenIf (Some asks.files) None text → text ≡ None
  not_there None given = refl
  not_there (Some text) given = absurd given

  module _ (texts : Texts) (given : AreGiven (Some asks.files) (alone asks.name) texts) where
    read : IsCoreFile (reading_of 0 texts.core).lines
    read = subst (λ (bytes : List ℕ). IsCoreFile (reading_of 0 bytes).lines) (sym given.core.told) asks.read

    passing : (file : FileKind) (refusal : Refusal) → (file ≡ kind.Core) × ((p : Operation) × (refusal ≡ record { line = 0; cause = Passes p }))
        → EndsOrWantsMemory (Refused file refusal.line refusal.cause)
    passing file refusal h = inr (inr (inr (h.1.0, λ i. Refused (h.0 i) (h.1.1 i).line (h.1.1 i).cause)))

    refused : (file : FileKind) (refusal : Refusal) (known : Option Core) → RefusesFiles texts file refusal known → EndsOrWantsMemory (Refused file refusal.line refusal.cause)
    refused file refusal known (inl fault) =
        passing file refusal (texts_mean_one_program.alone texts (not_there texts.time given.time) (not_there texts.stoch given.stoch) read file refusal known fault)
    refused file refusal known (inr (inl fault)) = let e = sym (not_there texts.edits given.edits) ∙ fault.text_is in absurd (cc)
    refused file refusal known (inr (inr fault)) = let e = sym (not_there texts.report given.report) ∙ fault.text_is in absurd (cc)

    by_status : (kept : Budget) (status : Status) (output : List ℕ) → MayBeSolved kept texts status output → EndsOrWantsMemory status
    by_status kept Done output may = inl refl
    by_status kept SomeOpen output may = inr (inl refl)
    by_status kept Words output may = absurd may
    by_status kept (Refused file line cause) output may = refused file (record { line = line; cause = cause }) may.known may.refused
    by_status kept (TooLong file) output may = absurd may
    by_status kept (ReadFault file) output may = absurd may
    by_status kept WriteFault output may = absurd may
    by_status kept Memory output may = inr (inr (inl refl))

  not_long : (k : FileKind) → IsLong (Some asks.files) (alone asks.name) k → ⊥
  not_long kind.Core long =
      let named : asks.name ≡ long.0 = let e = long.1 in cc in
      let over : file_limit < length (bytes_of asks.files asks.name) = subst (λ (n : List ℕ). file_limit < length (bytes_of asks.files n)) (sym named) long.2 in
      let within = asks.within in
      absurd (omega (arith, over, within))
  not_long kind.Time long = let e = long.1 in absurd (cc)
  not_long kind.Stoch long = let e = long.1 in absurd (cc)
  not_long kind.Edits long = let e = long.1 in absurd (cc)
  not_long kind.Report long = let e = long.1 in absurd (cc)
  not_long kind.Basis long = let e = long.1 in absurd (cc)
  not_long kind.Measures long = let e = long.1 in absurd (cc)

  by_command : (status : Status) (output : List ℕ) → ((file : FileKind) → status ≡ ReadFault file → ⊥) → MayAnswerFor (Some (OnFiles (alone asks.name) (Solve asks.budget))) (Some asks.files) status output → EndsOrWantsMemory status
  by_command status output given (inl fault) = absurd (given fault.0 fault.2)
  by_command status output given (inr (inl long)) = absurd (not_long long.0 long.1)
  by_command status output given (inr (inr came)) = by_status came.0 came.1 came.2.kept status output came.2.came

  pub comes_to_a_report : (status : Status) (output : List ℕ) → ((file : FileKind) → status ≡ ReadFault file → ⊥) → MayAnswer content words status output → EndsOrWantsMemory status
  comes_to_a_report status output given may =
      by_command status output given
      (subst (λ (told : Option Files). MayAnswerFor (Some (OnFiles (alone asks.name) (Solve asks.budget))) told status output) asks.told
      (subst (λ (command : Option Asked). MayAnswerFor command content status output) asks.command may))
