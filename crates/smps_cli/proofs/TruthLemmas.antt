-- A run of `solve` that ends with status 0 or 1 wrote truths: what is told of its reports says so, and more.
use Rattle.std.proofs.Common.{◌≡◌, ◌⊎◌, ◌+◌, ℕ, Bool, true, false, ◌||◌, List, [], ◌∷◌, ◌++◌, length, Option, Some, None, Result, Ok, Err, inl, inr, refl, sym, ap, ap₂, ◌∙◌, subst}
use Rattle.std.specs.List.{flat_map}
use Rattle.rationals.specs.Passes.{Operation, passes}
use Rattle.smps_io.specs.Files.{Files}
use Rattle.smps_io.specs.Faults.{RoseBy}
use Rattle.smps_io.specs.Puts.{Appends}
use Rattle.scen_defs.specs.Program.{Program, View, view_of}
use Rattle.scen_defs.specs.declared.report.Finding.{Finding}
use Rattle.scen_defs.specs.declared.report.Finding.TheVariants.{Optimal, Infeasible, Unbounded, OpenSolves, OpenPivots, OpenPassed}
use Rattle.scen_defs.specs.declared.report.Place.{Place}
use Rattle.scen_defs.specs.declared.report.Report.{Report}
use Rattle.edit_defs.specs.declared.edit.Act.{Act}
use Rattle.edit_defs.specs.declared.edit.Act.TheVariants.{Change, Solve}
use Rattle.edit_defs.specs.declared.edit.Item.{Item}
use Rattle.edit_defs.specs.After.{after}
use Rattle.edit_script.specs.Script.{report_item}
use Rattle.report_defs.specs.Truth.{IsTrue, Reasons, Explains}
use Rattle.command_words.specs.declared.command.Budget.{Budget}
use Rattle.command_words.specs.declared.command.RiskMeasure.{RiskMeasure}
use Rattle.command_words.specs.declared.command.Task.{Task}
use Rattle.command_words.specs.declared.command.Task.TheVariants as task
use Rattle.command_words.specs.Commands.{FileNames, Asked, command_of}
use Rattle.command_words.specs.Commands.Asked.{OnFiles, MakeThis}
use Rattle.refusals.specs.declared.cause.Cause.{Cause}
use Rattle.input_files.specs.declared.kind.FileKind.{FileKind}
use Rattle.input_files.specs.Fetched.{Texts}
use Rattle.tail_risk.specs.TailWalk.{tail_end}
use Rattle.tail_risk.specs.declared.fault.TailFault.{TailFault}
use Rattle.tail_risk.specs.declared.fault.TailFault.TheVariants as fault
use Rattle.nested_method.specs.declared.method.Method.{Method}
use Rattle.smps_session.specs.declared.told.Told.{Told}
use Rattle.smps_session.specs.declared.whole.StatedLimits.{StatedLimits}
use Rattle.smps_session.specs.Reasons.{told_reasons}
use Rattle.smps_session.specs.Whole.{isnt_open}
use Rattle.smps_session.proofs.WholeLemmas.{whole_is_closed}
use Rattle.smps_session.specs.Told.{IsTold, AreTold, IsScripted}
use Rattle.exit_status.specs.declared.status.Status.{Status}
use Rattle.exit_status.specs.declared.status.Status.TheVariants.{Done, SomeOpen, Words, Refused, TooLong, ReadFault, WriteFault, Memory}
use Rattle.exit_status.specs.Findings.{is_open_finding, open_status}
use Rattle.smps_cli.specs.Answers.{Answers, Written, MayAnswerFor, MayAnswerTask, MayCome}
use Rattle.smps_cli.specs.Ends.{MayEnd, RefusesTexts}
use Rattle.smps_cli.specs.Solved.{PrintsReports, stated_of, told_text, any_open}
use Rattle.smps_cli.specs.Risks.{PrintsRisk, IsRiskSolve, RefusesRiskSolve, RiskComes, RefusesRisk}
use Rattle.headline.specs.Headline.{Printed, printed_text, is_one_open, WritesTruths}
use Rattle.smps_cli.specs.Truths.{passing_reasons, IsTruth, AreTruths, TellsTruths}
use Rattle.smps_cli.specs.Truths.{PrintsTruths, PrintsRiskTruth, TruthsFor, RunTruths}
use Rattle.smps_cli.specs.Based.{PrintsShown, PrintsBasis, RefusesBasis}

-- ---- one report

-- a report that is true for some reasons, of which those of PASSED name operations that pass
module _ (v : View) (why : Reasons) (passing : (place : Place) (o : Operation) → why.passes place o → passes o.op o.a o.b ≡ true) (report : Report) where
  explained : (finding : Finding) → Explains v why report finding → Explains v passing_reasons report finding
  explained Optimal h = h
  explained Infeasible h = h
  explained Unbounded h = h
  explained (OpenSolves n) h = tt
  explained (OpenPivots k) h = tt
  explained (OpenPassed place o) h = passing place o h

  is_true : IsTrue v why report → IsTrue v passing_reasons report
  is_true h = record {
    lower = h.lower;
    upper = h.upper;
    finding = explained report.finding h.finding;
    direction = h.direction;
    ray = h.ray;
    extra = h.extra;
  }

-- ---- all reports

-- what is told is the text of truths, as far as these go
pub record Tells (truths : List Printed → Type 0) (tolds : List Told) : Type 0 where
  pub printed : List Printed
  pub are : truths printed
  pub text : flat_map told_text tolds ≡ flat_map printed_text printed
  pub open_is : any_open tolds ≡ is_one_open printed

module _ (solves pivots : ℕ) (stated : StatedLimits) (start : Program) where
  abbrev told_by : ℕ → ℕ → Program → Method → Told → Method → Type 0
  told_by came number p method told next = IsTold (record { solves = solves; pivots = pivots }) stated start came number p method told next

  abbrev are_told : ℕ → ℕ → Program → Method → List Item → List Told → Type 0
  are_told came number p method items tolds = AreTold (record { solves = solves; pivots = pivots }) stated start came number p method items tolds

  -- one of them is told first
  first_told : (came number : ℕ) (p : Program) (method : Method) (told : Told) (next : Method) (items : List Item) (tolds : List Told)
      → told_by came number p method told next → Tells (AreTruths (number + 1) p items) tolds
      → (work : ℕ) → Tells (AreTruths number p (record { work = work; act = Solve } ∷ items)) (told ∷ tolds)
  first_told came number p method told next items tolds h behind work =
      let one : Printed = record { program = h.program; report = h.report } in
      let truth : IsTruth number p one = record {
        content_is = h.content_is;
        number_is = h.number_is;
        counts = h.counts;
        truth = is_true (view_of p) (told_reasons h.program (record { solves = solves; pivots = pivots })) (λ place o k. k.0.holds) h.report h.truth;
        lists = h.lists;
      } in
      record {
        printed = one ∷ behind.printed;
        are = (one, behind.printed, refl, truth, behind.are);
        text = ap₂ (λ (x y : List ℕ). x ++ y) h.text behind.text;
        open_is = ap₂ (λ (x : Finding) (y : Bool). is_open_finding x || y) h.finding behind.open_is;
      }

  -- all behind an item are truths
  abbrev BehindAre : List Item → Type 0
  BehindAre items = (came number : ℕ) (p : Program) (method : Method) (tolds : List Told) → are_told came number p method items tolds
      → Tells (AreTruths number p items) tolds

  at_solve : (items : List Item) → BehindAre items → (work came number : ℕ) (p : Program) (method : Method) (tolds : List Told)
      → are_told came number p method (record { work = work; act = Solve } ∷ items) tolds
      → Tells (AreTruths number p (record { work = work; act = Solve } ∷ items)) tolds
  at_solve items behind work came number p method [] h = absurd h
  at_solve items behind work came number p method (told ∷ tolds) h =
      first_told came number p method told h.0 items tolds h.1.0 (behind (came + 1) (number + 1) p h.0 tolds h.1.1) work

  at_item : (items : List Item) → BehindAre items → (work : ℕ) (act : Act) (came number : ℕ) (p : Program) (method : Method) (tolds : List Told)
      → are_told came number p method (record { work = work; act = act } ∷ items) tolds
      → Tells (AreTruths number p (record { work = work; act = act } ∷ items)) tolds
  at_item items behind work (Change e) came number p method tolds h =
      let later = behind (came + 1) number (after p e) h.0 tolds h.1.1 in
      record { printed = later.printed; are = later.are; text = later.text; open_is = later.open_is }
  at_item items behind work Solve came number p method tolds h = at_solve items behind work came number p method tolds h

  all_are : (items : List Item) → BehindAre items
  all_are [] came number p method tolds h = record {
    printed = [];
    are = refl;
    text = ap (λ (x : List Told). flat_map told_text x) h;
    open_is = ap any_open h;
  }
  all_are (item ∷ items) came number p method tolds h = at_item items (all_are items) item.work item.act came number p method tolds h

-- the reports of a script
pub scripted_are_true : (solves pivots : ℕ) (stated : StatedLimits) (p : Program) (items : List Item) (tolds : List Told) (status : Status) (output : List ℕ)
    → IsScripted (record { solves = solves; pivots = pivots }) stated p items tolds → output ≡ flat_map told_text tolds
    → status ≡ open_status (any_open tolds) → TellsTruths p items status output
scripted_are_true solves pivots stated p items tolds status output h text ends =
    let tells = all_are solves pivots stated p items 0 1 p h.method tolds h.told in
    record {
      printed = tells.printed;
      truths = tells.are;
      text = text ∙ tells.text;
      status_is = ends ∙ ap open_status tells.open_is;
    }

-- ---- what `solve` prints

pub reports_are_true : (budget : Budget) (texts : Texts) (status : Status) (output : List ℕ) → PrintsReports budget texts status output
    → PrintsTruths texts status output
reports_are_true budget texts status output h = record {
  program = h.program;
  means = h.means;
  items = h.items;
  script = h.script;
  tells = scripted_are_true budget.solves budget.pivots (stated_of budget) h.program h.items h.tolds status output h.told h.text h.ends;
}

-- what isn't open leaves nothing open
not_open : (finding : Finding) → isnt_open finding ≡ true → is_open_finding finding ≡ false
not_open Optimal e = refl
not_open Infeasible e = refl
not_open Unbounded e = refl
not_open (OpenSolves n) e = absurd (cc)
not_open (OpenPivots k) e = absurd (cc)
not_open (OpenPassed place o) e = absurd (cc)

-- the report that a basis shows
pub shown_is_true : (budget : Budget) (texts : Texts) (status : Status) (output : List ℕ) → PrintsShown budget texts status output
    → PrintsTruths texts status output
shown_is_true budget texts status output h =
    let one : Printed = record { program = h.tells.program; report = h.tells.report } in
    let truth : IsTruth 1 h.program one = record {
      content_is = h.tells.content_is;
      number_is = h.tells.number_is;
      counts = h.tells.counts;
      truth = is_true (view_of h.program) (told_reasons h.tells.program (record { solves = budget.solves; pivots = budget.pivots })) (λ place o k. k.0.holds) h.tells.report h.tells.truth;
      lists = h.tells.lists;
    } in
    record {
      program = h.program;
      means = h.means;
      items = report_item ∷ [];
      script = h.script;
      tells = record {
        printed = one ∷ [];
        truths = (one, [], refl, truth, refl);
        text = h.text ∙ ap (λ (x : List ℕ). x ++ []) h.tells.text;
        status_is = h.ends ∙ ap (λ (b : Bool). open_status (b || false))
            (sym (not_open h.tells.report.finding (whole_is_closed h.tells.program h.tells.report h.tells.whole)));
      };
    }

pub based_is_true : (budget : Budget) (texts : Texts) (status : Status) (output : List ℕ) → PrintsBasis budget texts status output
    → PrintsTruths texts status output
based_is_true budget texts status output (inl h) = shown_is_true budget texts status output h
based_is_true budget texts status output (inr h) = reports_are_true budget texts status output h

-- the status is that of reports
abbrev pub HasReports : Status → Type 0
HasReports status = (status ≡ Done) ⊎ (status ≡ SomeOpen)

-- a refusal isn't
pub not_refused : (file : FileKind) (line : ℕ) (cause : Cause) (status : Status) → status ≡ Refused file line cause → HasReports status → ⊥
not_refused file line cause status e (inl d) = absurd (cc)
not_refused file line cause status e (inr d) = absurd (cc)

pub no_refusal : (f : TailFault) (status : Status) (output : List ℕ) → RefusesRisk f status output → HasReports status → ⊥
no_refusal fault.Name status output h done = not_refused _ _ _ status h.0 done
no_refusal fault.Limit status output h done = not_refused _ _ _ status h.0 done
no_refusal (fault.Passed o) status output h done = not_refused _ _ _ status h.0 done
no_refusal fault.Memory status output h done = h

pub risk_is_true : (m : RiskMeasure) (budget : Budget) (texts : Texts) (status : Status) (output : List ℕ) → HasReports status
    → IsRiskSolve m budget texts status output → PrintsRiskTruth m texts status output
risk_is_true m budget texts status output done h = go (tail_end h.read m.level m.weight) h.comes
  where
    go : (end : Result Program TailFault) → RiskComes (PrintsRisk m budget h.read) end status output → PrintsRiskTruth m texts status output
    go (Ok made) c = record {
      read = h.read;
      means = h.means;
      made = made;
      made_is = c.program.is;
      risks = c.program.risks;
      tells = scripted_are_true budget.solves budget.pivots (stated_of budget) made (report_item ∷ []) c.tolds status output c.told c.text c.ends;
    }
    go (Err f) c = absurd (no_refusal f status output c done)

-- ---- a run

-- such an end prints what is to be printed
pub prints : (is : Status → List ℕ → Type 0) (refuses : FileKind → ℕ → Cause → List ℕ → Type 0) (status : Status) (output : List ℕ) → HasReports status
    → MayEnd is refuses status output → is status output
prints is refuses Done output done h = h
prints is refuses SomeOpen output done h = h
prints is refuses Words output done h = absurd h
prints is refuses (Refused file line cause) output done h = absurd (not_refused file line cause (Refused file line cause) refl done)
prints is refuses (TooLong file) output done h = absurd h
prints is refuses (ReadFault file) output done h = absurd h
prints is refuses WriteFault output done h = absurd h
prints is refuses Memory output done h = absurd h

not_fault : (kind : FileKind) (status : Status) → status ≡ ReadFault kind → HasReports status → ⊥
not_fault kind status e (inl d) = absurd (cc)
not_fault kind status e (inr d) = absurd (cc)

not_long : (kind : FileKind) (status : Status) → status ≡ TooLong kind → HasReports status → ⊥
not_long kind status e (inl d) = absurd (cc)
not_long kind status e (inr d) = absurd (cc)

not_unwritten : (status : Status) → status ≡ WriteFault → HasReports status → ⊥
not_unwritten status e (inl d) = absurd (cc)
not_unwritten status e (inr d) = absurd (cc)

pub not_memory : (status : Status) → status ≡ Memory → HasReports status → ⊥
not_memory status e (inl d) = absurd (cc)
not_memory status e (inr d) = absurd (cc)

-- where memory was wanting, or the output failed, nothing is said
pub memory_tells_nothing : HasReports Memory → ⊥
memory_tells_nothing = not_memory Memory refl

pub failure_tells_nothing : HasReports WriteFault → ⊥
failure_tells_nothing = not_unwritten WriteFault refl

module _ (content : Option Files) (before after : Option (List ℕ)) (taken taken_after : ℕ) where
  module _ (words : List (List ℕ)) (status : Status) (w : Written content words before after taken taken_after status) (done : HasReports status) where
    -- what a task printed, by what it says
    pub writes : (names : FileNames) (task : Task) (truths : Texts → Status → List ℕ → Type 0)
        → ((texts : Texts) (s : Status) → HasReports s → MayCome task texts s w.output → truths texts s w.output)
        → MayAnswerTask content names task w.meant w.output → WritesTruths truths content names before after taken taken_after status
    writes names task truths so may = go w.ends may
      where
        go : ((status ≡ w.meant) × Appends before w.output after × RoseBy taken (length w.output) taken_after) ⊎ (status ≡ WriteFault) ⊎ (status ≡ Memory)
            → MayAnswerTask content names task w.meant w.output → WritesTruths truths content names before after taken taken_after status
        go (inl all) (inr (inr came)) = record {
          texts = came.0;
          given = came.1;
          output = w.output;
          tells = so came.0 status done (subst (λ (s : Status). MayCome task came.0 s w.output) (sym all.0) came.2);
          written = all.1;
          took = all.2;
        }
        go (inl all) (inl unread) = absurd (not_fault unread.0 status (all.0 ∙ unread.2) done)
        go (inl all) (inr (inl long)) = absurd (not_long long.0 status (all.0 ∙ long.2) done)
        go (inr (inl failed)) answered = absurd (not_unwritten status failed done)
        go (inr (inr wanting)) answered = absurd (not_memory status wanting done)

    by_words : (asked : Option Asked) → MayAnswerFor asked content w.meant w.output → TruthsFor asked content before after taken taken_after status
    by_words None may = tt
    by_words (Some (MakeThis plan)) may = tt
    by_words (Some (OnFiles names (task.Solve budget))) may =
        writes names (task.Solve budget) PrintsTruths
        (λ texts s d h. reports_are_true h.kept texts s w.output (prints (PrintsReports h.kept texts) (RefusesTexts texts) s w.output d h.came)) may
    by_words (Some (OnFiles names (task.SolveRisk m budget))) may =
        writes names (task.SolveRisk m budget) (PrintsRiskTruth m)
        (λ texts s d h. risk_is_true m h.kept texts s w.output d
        (prints (IsRiskSolve m h.kept texts) (RefusesRiskSolve m h.kept texts) s w.output d h.came)) may
    by_words (Some (OnFiles names (task.SolveBasis budget))) may =
        writes names (task.SolveBasis budget) PrintsTruths
        (λ texts s d h. based_is_true h.kept texts s w.output (prints (PrintsBasis h.kept texts) (RefusesBasis texts) s w.output d h.came)) may
    by_words (Some (OnFiles names task.Check)) may = tt
    by_words (Some (OnFiles names (task.Table sheet))) may = tt
    by_words (Some (OnFiles names task.Show)) may = tt
    by_words (Some (OnFiles names (task.Flat extent))) may = tt
    by_words (Some (OnFiles names (task.Value budget))) may = tt
    by_words (Some (OnFiles names (task.CheckRisk m))) may = tt

  pub runs_are_true : (words : List (List ℕ)) (status : Status) → Answers content words before after taken taken_after status
      → RunTruths (command_of words) content before after taken taken_after status
  runs_are_true words status (inl w) done = by_words words status w done (command_of words) w.may
  runs_are_true words status (inr wanting) done = absurd (not_memory status wanting.0 done)
