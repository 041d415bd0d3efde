-- A run of `solve` or `check` that ends with status 0 or 1 wrote what is so: by its truths, and by what its checks come to.
use Rattle.std.proofs.Common.{◌≡◌, ◌+◌, ◌∙◌, ℕ, false, List, [], ◌∷◌, ◌++◌, Option, Some, None, Result, Ok, Err, refl, inl, inr, sym, ap, subst}
use Rattle.std.specs.Prelude.{IfSome}
use Rattle.refusals.specs.declared.cause.Refusal.{Refusal}
use Rattle.smps_io.specs.Files.{Files}
use Rattle.scen_defs.specs.Values.{At, AreValues}
use Rattle.scen_defs.specs.Names.{column_names}
use Rattle.scen_defs.specs.Program.{Program, content, view_of}
use Rattle.scen_defs.specs.declared.program.Program.{Program as ProgramOf}
use Rattle.scen_defs.specs.declared.report.Report.{Report}
use Rattle.edit_defs.specs.declared.edit.Act.{Act}
use Rattle.edit_defs.specs.declared.edit.Act.TheVariants.{Change, Solve}
use Rattle.edit_defs.specs.declared.edit.Item.{Item}
use Rattle.edit_defs.specs.After.{after}
use Rattle.edit_script.specs.Script.{report_item}
use Rattle.command_words.specs.declared.command.RiskMeasure.{RiskMeasure}
use Rattle.command_words.specs.declared.command.Task.TheVariants as task
use Rattle.command_words.specs.Commands.{Asked, command_of}
use Rattle.command_words.specs.Commands.Asked.{OnFiles, MakeThis}
use Rattle.input_files.specs.declared.kind.FileKind.TheVariants as kind
use Rattle.input_files.specs.Fetched.{Texts}
use Rattle.script_checks.specs.declared.single.Checked.{Checked}
use Rattle.script_checks.specs.Checked.{AreChecked, IsCheck}
use Rattle.tail_risk.specs.TailRow.{h_column}
use Rattle.tail_risk.specs.TailNames.{h_name, u_name}
use Rattle.tail_risk.specs.TailProgram.{tail_of}
use Rattle.tail_risk.specs.TailWalk.{tail_end}
use Rattle.tail_risk.specs.declared.fault.TailFault.{TailFault}
use Rattle.smps_session.specs.Lists.{IsListOf}
use Rattle.exit_status.specs.declared.status.Status.{Status}
use Rattle.headline.specs.Headline.{expected_cost, weighted_risk, asked_programs, AskFor, AskForOne, Printed, IsSolved, AreSolved, PrintsSolved}
use Rattle.headline.specs.Headline.{IsJudged, AreJudged, PrintsJudged, Says, HeadlineFor, Headline}
use Rattle.headline.specs.Laws.{CostsBy}
use Rattle.headline.proofs.SoLemmas.{true_is_so, held_is_so}
use Rattle.headline.proofs.RunLemmas.{asks, nothing_behind, names_are, are_judged, risk_report, risk_names}
use Rattle.smps_cli.specs.Answers.{Answers, Written, MayAnswerFor}
use Rattle.smps_cli.specs.Ends.{RefusesTexts}
use Rattle.smps_cli.specs.Based.{PrintsBasis, RefusesBasis}
use Rattle.smps_cli.specs.Checks.{PrintsChecks}
use Rattle.smps_cli.specs.Risks.{CostsAreRisks, IsRiskSolve, RefusesRiskSolve, RiskComes, RiskChecksCome, ChecksRisk, IsRiskCheck, RefusesRiskCheck}
use Rattle.smps_cli.specs.Solved.{PrintsReports}
use Rattle.smps_cli.specs.Truths.{passing_reasons, IsTruth, AreTruths, PrintsTruths, PrintsRiskTruth}
use Rattle.smps_cli.proofs.TruthLemmas.{HasReports, reports_are_true, based_is_true, risk_is_true, prints, writes, not_refused, no_refusal, not_memory}

-- ---- solve

each_once : (p : Program) (policy : Option (List At)) → IfSome policy (IsListOf p false) → IfSome policy AreValues
each_once p None h = tt
each_once p (Some values) h = h.ordered

is_solved : (number : ℕ) (p : Program) (one : Printed) → IsTruth number p one → IsSolved expected_cost number p one
is_solved number p one h = record {
  number_is = h.number_is;
  names = ap (λ (x : Program). column_names x.columns) h.content_is ∙ nothing_behind (column_names p.columns);
  once = each_once p one.report.policy h.lists.policy;
  is_so = record { counts = h.counts; status = true_is_so (view_of p) passing_reasons one.report h.truth };
}

-- all behind an item are
abbrev BehindSolved : List Item → Type 0
BehindSolved items = (number : ℕ) (p : Program) (printed : List Printed) → AreTruths number p items printed
    → AreSolved expected_cost number (asked_programs p items) printed

solved_at : (items : List Item) → BehindSolved items → (number : ℕ) (p : Program) (printed : List Printed) (work : ℕ) (act : Act)
    → AreTruths number p (record { work = work; act = act } ∷ items) printed
    → AreSolved expected_cost number (asked_programs p (record { work = work; act = act } ∷ items)) printed
solved_at items behind number p printed work (Change e) k = behind number (after p e) printed k
solved_at items behind number p printed work Solve k =
    subst (λ (l : List Printed). AreSolved expected_cost number (p ∷ asked_programs p items) l) (sym k.2)
    (is_solved number p k.0 k.3, behind (number + 1) p k.1 k.4)

are_solved : (items : List Item) → BehindSolved items
are_solved [] number p printed h = h
are_solved (item ∷ items) number p printed h = solved_at items (are_solved items) number p printed item.work item.act h

solved_says : (texts : Texts) (status : Status) (output : List ℕ) → PrintsTruths texts status output
    → Says AskFor (PrintsSolved expected_cost) texts status output
solved_says texts status output h = record {
  programs = asked_programs h.program h.items;
  asked = asks texts h.program h.items h.means h.script;
  says = record {
    printed = h.tells.printed;
    are = are_solved h.items 1 h.program h.tells.printed h.tells.truths;
    text = h.tells.text;
    status_is = h.tells.status_is;
  };
}

-- ---- check

judged_says : (texts : Texts) (status : Status) (output : List ℕ) → PrintsChecks texts status output
    → Says AskFor (PrintsJudged expected_cost) texts status output
judged_says texts status output h = record {
  programs = asked_programs (content h.program) h.items;
  asked = asks texts (content h.program) h.items h.means h.script;
  says = record {
    named = h.program;
    names = names_are (column_names h.program.columns.items) (content h.program) h.items refl;
    reports = h.reports;
    stated = h.stated.stated;
    checks = h.checks;
    are = are_judged h.items (content h.program) h.reports h.checks h.checked;
    text = h.text;
    status_is = h.ends;
  };
}

-- ---- with a risk measure

module _ (m : RiskMeasure) (read made : Program) (is : made ≡ tail_of read m.level m.weight) (risks : CostsAreRisks m read made) where
  costs_by : CostsBy (view_of read) (view_of made) ((weighted_risk m).cost_of read)
  costs_by = record {
    attained = λ x f. let there = risks.attained x (x 0 (h_column read)) f in (there.0, there.2, there.3);
    least = risks.least;
  }

  names_behind : (named : ProgramOf) → content named ≡ made
      → column_names named.columns.items ≡ column_names read.columns ++ h_name ∷ u_name ∷ []
  names_behind named e =
      ap (λ (x : Program). column_names x.columns) e ∙ ap (λ (x : Program). column_names x.columns) is ∙ risk_names read m.level m.weight

  is_risk_solved : (number : ℕ) (one : Printed) → IsTruth number made one → IsSolved (weighted_risk m) number read one
  is_risk_solved number one h = record {
    number_is = h.number_is;
    names = names_behind one.program h.content_is;
    once = each_once made one.report.policy h.lists.policy;
    is_so = risk_report m read made is costs_by one.report h.counts (true_is_so (view_of made) passing_reasons one.report h.truth);
  }

  are_risk_solved : (printed : List Printed) → AreTruths 1 made (report_item ∷ []) printed → AreSolved (weighted_risk m) 1 (read ∷ []) printed
  are_risk_solved printed k = subst (λ (l : List Printed). AreSolved (weighted_risk m) 1 (read ∷ []) l) (sym k.2) (is_risk_solved 1 k.0 k.3, k.4)

  is_risk_judged : (report : Report) (check : Checked) → IsCheck made report check → IsJudged (weighted_risk m) read report check
  is_risk_judged report check h = record {
    number_is = h.number_is;
    is_so = λ e. risk_report m read made is costs_by report (h.shown e).counts (held_is_so (view_of made) report (h.shown e));
  }

  are_risk_judged : (reports : List Report) (checks : List Checked) → AreChecked made (report_item ∷ []) reports checks
      → AreJudged (weighted_risk m) (read ∷ []) reports checks
  are_risk_judged [] checks k = k
  are_risk_judged (report ∷ reports) [] k = absurd k
  are_risk_judged (report ∷ reports) (check ∷ checks) k = (is_risk_judged report check k.0, k.1)

risk_solved_says : (m : RiskMeasure) (texts : Texts) (status : Status) (output : List ℕ) → PrintsRiskTruth m texts status output
    → Says AskForOne (PrintsSolved (weighted_risk m)) texts status output
risk_solved_says m texts status output h = record {
  programs = h.read ∷ [];
  asked = (h.read, h.means, refl);
  says = record {
    printed = h.tells.printed;
    are = are_risk_solved m h.read h.made h.made_is h.risks h.tells.printed h.tells.truths;
    text = h.tells.text;
    status_is = h.tells.status_is;
  };
}

risk_judged_says : (m : RiskMeasure) (texts : Texts) (status : Status) (output : List ℕ) → HasReports status → IsRiskCheck m texts status output
    → Says AskForOne (PrintsJudged (weighted_risk m)) texts status output
risk_judged_says m texts status output done h = go (tail_end h.read m.level m.weight) h.comes
  where
    told : (made : Program) (c : ChecksRisk m texts h.read made status output) (reports : Result (List Report) Refusal)
        → RiskChecksCome texts c.program reports status output → Says AskForOne (PrintsJudged (weighted_risk m)) texts status output
    told made c (Ok reports) k = record {
      programs = h.read ∷ [];
      asked = (h.read, h.means, refl);
      says = record {
        named = c.program;
        names = (names_behind m h.read made c.is.is c.is.risks c.program c.content_is, tt);
        reports = reports;
        stated = k.stated;
        checks = k.checks;
        are = are_risk_judged m h.read made c.is.is c.is.risks reports k.checks
            (subst (λ (p : Program). AreChecked p (report_item ∷ []) reports k.checks) c.content_is k.checked);
        text = k.text;
        status_is = k.ends;
      };
    }
    told made c (Err refusal) k = absurd (not_refused kind.Report refusal.line refusal.cause status k.0 done)

    go : (end : Result Program TailFault) → RiskComes (ChecksRisk m texts h.read) end status output
        → Says AskForOne (PrintsJudged (weighted_risk m)) texts status output
    go (Ok made) c = told made c c.reports c.comes
    go (Err f) c = absurd (no_refusal f status output c done)

-- ---- a run

module _ (files : Option Files) (before after_it : Option (List ℕ)) (taken taken_after : ℕ) where
  module _ (words : List (List ℕ)) (status : Status) (w : Written files words before after_it taken taken_after status) (done : HasReports status) where
    by_words : (asked : Option Asked) → MayAnswerFor asked files w.meant w.output → HeadlineFor asked files before after_it taken taken_after status
    by_words None may = tt
    by_words (Some (MakeThis plan)) may = tt
    by_words (Some (OnFiles names (task.Solve budget))) may =
        writes files before after_it taken taken_after words status w done names (task.Solve budget) (Says AskFor (PrintsSolved expected_cost))
        (λ texts s d h. solved_says texts s w.output (reports_are_true h.kept texts s w.output
        (prints (PrintsReports h.kept texts) (RefusesTexts texts) s w.output d h.came))) may
    by_words (Some (OnFiles names (task.SolveBasis budget))) may =
        writes files before after_it taken taken_after words status w done names (task.SolveBasis budget) (Says AskFor (PrintsSolved expected_cost))
        (λ texts s d h. solved_says texts s w.output (based_is_true h.kept texts s w.output
        (prints (PrintsBasis h.kept texts) (RefusesBasis texts) s w.output d h.came))) may
    by_words (Some (OnFiles names (task.SolveRisk m budget))) may =
        writes files before after_it taken taken_after words status w done names (task.SolveRisk m budget)
        (Says AskForOne (PrintsSolved (weighted_risk m)))
        (λ texts s d h. risk_solved_says m texts s w.output (risk_is_true m h.kept texts s w.output d
        (prints (IsRiskSolve m h.kept texts) (RefusesRiskSolve m h.kept texts) s w.output d h.came))) may
    by_words (Some (OnFiles names task.Check)) may =
        writes files before after_it taken taken_after words status w done names task.Check (Says AskFor (PrintsJudged expected_cost))
        (λ texts s d h. judged_says texts s w.output (prints (PrintsChecks texts) (RefusesTexts texts) s w.output d h)) may
    by_words (Some (OnFiles names (task.CheckRisk m))) may =
        writes files before after_it taken taken_after words status w done names (task.CheckRisk m)
        (Says AskForOne (PrintsJudged (weighted_risk m)))
        (λ texts s d h. risk_judged_says m texts s w.output d (prints (IsRiskCheck m texts) (RefusesRiskCheck m texts) s w.output d h)) may
    by_words (Some (OnFiles names (task.Table sheet))) may = tt
    by_words (Some (OnFiles names task.Show)) may = tt
    by_words (Some (OnFiles names (task.Flat extent))) may = tt
    by_words (Some (OnFiles names (task.Value budget))) may = tt

  pub runs_are_so : (words : List (List ℕ)) (status : Status) → Answers files words before after_it taken taken_after status
      → Headline (command_of words) files before after_it taken taken_after status
  runs_are_so words status (inl w) done = by_words words status w done (command_of words) w.may
  runs_are_so words status (inr wanting) done = absurd (not_memory status wanting.0 done)
