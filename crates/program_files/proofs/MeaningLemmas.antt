-- Texts mean one program at most, and what is meant isn't refused.
use Rattle.std.proofs.Common.{◌≡◌, ◌∙◌, ap, sym, ℕ, false, List, [], ◌∷◌, length, replicate, Option, Some, None, Result, Ok, Err, inl, inr, subst}
use Rattle.smps_words.specs.Line.{reading_of}
use Rattle.refusals.specs.declared.cause.Cause.TheVariants.{Passes}
use Rattle.refusals.specs.declared.cause.Refusal.{Refusal}
use Rattle.core_defs.specs.Fault.{IsCoreFile}
use Rattle.core_defs.specs.declared.program.Core.{Core}
use Rattle.core_defs.specs.Laws.{AreSame}
use Rattle.core_defs.proofs.Texts.{core_file_laws}
use Rattle.time_defs.specs.Means.{Stages}
use Rattle.time_defs.specs.Laws.{IsTimeReading}
use Rattle.time_defs.specs.Step.{read_lines}
use Rattle.time_defs.proofs.Texts as time_texts
use Rattle.stoch_defs.specs.Random.{Random}
use Rattle.stoch_defs.specs.Random.Random.{Blocks}
use Rattle.stoch_defs.specs.File.{IsStochReading, read_random}
use Rattle.stoch_defs.proofs.Texts as stoch_texts
use Rattle.build_defs.specs.Built.{built, exceeds}
use Rattle.meaning_laws.proofs.Laws.{same_cores_mean_the_same as alike}
use Rattle.meaning_laws.proofs.Limits.{core_files_dont_exceed}
use Rattle.rationals.specs.Passes.{Operation}
use Rattle.scen_defs.specs.Program.{Program, content}
use Rattle.scen_defs.specs.declared.report.Report.{Report}
use Rattle.edit_defs.specs.declared.edit.Item.{Item}
use Rattle.edit_script.specs.Script.{script_of}
use Rattle.edit_script.specs.Solves.{solve_count}
use Rattle.input_files.specs.declared.kind.FileKind.{FileKind}
use Rattle.input_files.specs.declared.kind.FileKind.TheVariants as kind
use Rattle.input_files.specs.Fetched.{Texts}
use Rattle.program_files.specs.Meant.{MeansCore, MeansPeriods, MeansRandom, MeansProgram, single_stages}
use Rattle.program_files.specs.Refused.{RefusesProgram, IsUnbuilt, build_file}
use Rattle.program_files.specs.Edited.{AreMeant, MeansScript, RefusesEdits, RefusesReports, RefusesFiles, or_empty, reports_for}
use Rattle.program_files.specs.Laws.{TextsMeanOneProgram}

ok_same : {X E : Type 0} (x y : X) → ◌≡◌ {A = Result X E} (Ok x) (Ok y) → x ≡ y
ok_same x y e = cc

not_both : {X E : Type 0} (r : Result X E) (x : X) (y : E) → r ≡ Ok x → Err y ≡ r → ⊥
not_both r x y ok err = let e = err ∙ ok in absurd (cc)

-- ---- what is read of the time and of the stoch file

abbrev periods_read : Core → Option (List ℕ) → Result Stages Refusal
periods_read core None = Ok (single_stages core)
periods_read core (Some text) = read_lines core text

periods_are : (core : Core) (time : Option (List ℕ)) (p : Stages) → MeansPeriods core time p → periods_read core time ≡ Ok p
periods_are core None p is = ap Ok (sym is)
periods_are core (Some text) p mean = sym (time_texts.laws.one core text (Ok p) mean.0)

abbrev random_read : Core → Stages → Option (List ℕ) → Result Random Refusal
random_read core p None = Ok (Blocks [])
random_read core p (Some text) = read_random core p text

random_is : (core : Core) (p : Stages) (stoch : Option (List ℕ)) (random : Random) → MeansRandom core p stoch random → random_read core p stoch ≡ Ok random
random_is core p None random is = ap Ok (sym is)
random_is core p (Some text) random mean = sym (stoch_texts.laws.one core p text (Ok random) mean.0)

module _ (c d : Core) (same : AreSame c d) where
  single_same : single_stages c ≡ single_stages d
  single_same = λ i. record { names = (80 ∷ 49 ∷ []) ∷ []; columns = replicate (length (same.columns i)) 0; rows = replicate (length (same.rows i)) 0 }

  periods_same : (time : Option (List ℕ)) → periods_read c time ≡ periods_read d time
  periods_same None = ap Ok single_same
  periods_same (Some text) = alike.time c d same text

  random_same : (p : Stages) (stoch : Option (List ℕ)) → random_read c p stoch ≡ random_read d p stoch
  random_same p None = λ i. Ok (Blocks [])
  random_same p (Some text) = alike.stoch c d same p text

-- ---- texts that mean a program, whatever core is meant

module _ (texts : Texts) (program : Program) (m : MeansProgram texts program) (core : Core) (core_means : MeansCore texts.core core) where
  same : AreSame m.core core
  same = core_file_laws.one_meaning (reading_of 0 texts.core).lines m.core core m.core_means.means core_means.means

  periods : periods_read core texts.time ≡ Ok m.periods
  periods = sym (periods_same m.core core same texts.time) ∙ periods_are m.core texts.time m.periods m.periods_mean

  no_time_fault : (text : List ℕ) (refusal : Refusal) → texts.time ≡ Some text → IsTimeReading core text (Err refusal) → ⊥
  no_time_fault text refusal is fault =
      not_both (read_lines core text) m.periods refusal (ap (periods_read core) (sym is) ∙ periods) (time_texts.laws.one core text (Err refusal) fault)

  module _ (p : Stages) (periods_mean : MeansPeriods core texts.time p) where
    stages : p ≡ m.periods
    stages = ok_same p m.periods (sym (periods_are core texts.time p periods_mean) ∙ periods)

    random : random_read core p texts.stoch ≡ Ok m.random
    random = ap (λ q. random_read core q texts.stoch) stages ∙ sym (random_same m.core core same m.periods texts.stoch)
        ∙ random_is m.core m.periods texts.stoch m.random m.random_means

    no_stoch_fault : (text : List ℕ) (refusal : Refusal) → texts.stoch ≡ Some text → IsStochReading core p text (Err refusal) → ⊥
    no_stoch_fault text refusal is fault =
        not_both (read_random core p text) m.random refusal (ap (random_read core p) (sym is) ∙ random) (stoch_texts.laws.one core p text (Err refusal) fault)

    module _ (cases : Random) (cases_mean : MeansRandom core p texts.stoch cases) where
      parts : cases ≡ m.random
      parts = ok_same cases m.random (sym (random_is core p texts.stoch cases cases_mean) ∙ random)

      within : exceeds core p cases ≡ false
      within = ap (λ q. exceeds core q cases) stages ∙ ap (exceeds core m.periods) parts ∙ sym (alike.within_alike m.core core same m.periods m.random) ∙ m.within

      is_built : built core p cases ≡ Ok program
      is_built = ap (λ q. built core q cases) stages ∙ ap (built core m.periods) parts ∙ sym (alike.built_alike m.core core same m.periods m.random) ∙ m.built_is

      no_build_fault : (refusal : Refusal) → IsUnbuilt core p cases refusal → ⊥
      no_build_fault refusal (inl over) = let e = sym over.0 ∙ within in absurd (cc)
      no_build_fault refusal (inr passes) = not_both (built core p cases) program passes.1.0 is_built (sym passes.1.1)

one_program : (texts : Texts) (program other : Program) → MeansProgram texts program → MeansProgram texts other → program ≡ other
one_program texts program other m n =
    ok_same program other (sym (is_built texts program m n.core n.core_means n.periods n.periods_mean n.random n.random_means) ∙ n.built_is)

-- ---- a core file alone

module _ (texts : Texts) (time : texts.time ≡ None) (stoch : texts.stoch ≡ None) (read : IsCoreFile (reading_of 0 texts.core).lines) where
  abbrev IsPassing : FileKind → Refusal → Type 0
  IsPassing file refusal = (file ≡ kind.Core) × ((operation : Operation) × (refusal ≡ record { line = 0; cause = Passes operation }))

  module _ (core : Core) (means : MeansCore texts.core core) (p : Stages) (periods : MeansPeriods core texts.time p) (random : Random) (cases : MeansRandom core p texts.stoch random) where
    within_alone : exceeds core p random ≡ false
    within_alone =
        let stages : p ≡ single_stages core = subst (λ (t : Option (List ℕ)). MeansPeriods core t p) time periods in
        let none : random ≡ Blocks [] = subst (λ (s : Option (List ℕ)). MeansRandom core p s random) stoch cases in
        ap (λ (q : Stages). exceeds core q random) stages ∙ ap (exceeds core (single_stages core)) none
        ∙ core_files_dont_exceed (reading_of 0 texts.core).lines core read means.means

    unbuilt_alone : (refusal : Refusal) → IsUnbuilt core p random refusal → (operation : Operation) × (refusal ≡ record { line = 0; cause = Passes operation })
    unbuilt_alone refusal (inl over) = let e = sym over.0 ∙ within_alone in absurd (cc)
    unbuilt_alone refusal (inr passes) = (passes.1.0, passes.1.2)

  alone : (file : FileKind) (refusal : Refusal) (known : Option Core) → RefusesProgram texts file refusal known → IsPassing file refusal
  alone file refusal known (inl fault) = absurd (fault.not_read read)
  alone file refusal known (inr (inl fault)) = let e = sym time ∙ fault.text_is in absurd (cc)
  alone file refusal known (inr (inr (inl fault))) = let e = sym stoch ∙ fault.text_is in absurd (cc)
  alone file refusal known (inr (inr (inr fault))) = (
    fault.file_is ∙ ap build_file stoch,
    unbuilt_alone fault.core fault.core_means fault.periods fault.periods_mean fault.random fault.random_means refusal fault.fault,
  )

module _ (texts : Texts) (program : Program) (m : MeansProgram texts program) (file : FileKind) (refusal : Refusal) (known : Option Core) where
  no_fault : RefusesProgram texts file refusal known → ⊥
  no_fault (inl fault) = fault.not_read m.core_means.read
  no_fault (inr (inl fault)) = no_time_fault texts program m fault.core fault.core_means fault.text refusal fault.text_is fault.fault
  no_fault (inr (inr (inl fault))) =
      no_stoch_fault texts program m fault.core fault.core_means fault.periods fault.periods_mean fault.text refusal fault.text_is fault.fault
  no_fault (inr (inr (inr fault))) =
      no_build_fault texts program m fault.core fault.core_means fault.periods fault.periods_mean fault.random fault.random_means refusal fault.fault

  -- ---- the edit list and the report file

  module _ (items : List Item) (script : MeansScript texts program items) where
    no_edits_fault : RefusesEdits texts file refusal known → ⊥
    no_edits_fault fault =
        let one : fault.program ≡ program = one_program texts fault.program program fault.program_means m in
        not_both (script_of fault.text fault.program) items refusal
        (ap (script_of fault.text) one ∙ ap (λ text. script_of (or_empty text) program) (sym fault.text_is) ∙ script) (sym fault.fault)

    no_report_fault : (reports : List Report) → reports_for (solve_count items) program texts.report ≡ Ok reports → RefusesReports texts file refusal known → ⊥
    no_report_fault reports read fault =
        let one : content fault.program ≡ program = one_program texts (content fault.program) program fault.program_means m in
        let same_items : fault.items ≡ items = ok_same fault.items items (sym fault.script_means ∙ ap (script_of (or_empty texts.edits)) one ∙ script) in
        not_both (reports_for (solve_count fault.items) (content fault.program) (Some fault.text)) reports refusal
        (ap (λ q. reports_for (solve_count fault.items) q (Some fault.text)) one
        ∙ ap (λ known. reports_for (solve_count known) program (Some fault.text)) same_items
        ∙ ap (reports_for (solve_count items) program) (sym fault.text_is) ∙ read) (sym fault.fault)

none_refused : (texts : Texts) → AreMeant texts → (file : FileKind) (refusal : Refusal) (known : Option Core) → RefusesFiles texts file refusal known → ⊥
none_refused texts meant file refusal known (inl fault) = no_fault texts meant.program meant.means file refusal known fault
none_refused texts meant file refusal known (inr (inl fault)) = no_edits_fault texts meant.program meant.means file refusal known meant.items meant.script fault
none_refused texts meant file refusal known (inr (inr fault)) =
    no_report_fault texts meant.program meant.means file refusal known meant.items meant.script meant.reports meant.read fault

pub texts_mean_one_program : TextsMeanOneProgram
texts_mean_one_program = record { one = one_program; no_fault = no_fault; none_refused = none_refused; alone = alone }
