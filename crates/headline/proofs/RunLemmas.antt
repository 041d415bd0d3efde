-- What runs print is so: what is read of their truths and of their checks, program by program.
use Rattle.std.proofs.Common.{◌≡◌, ◌∙◌, ℕ, suc, Bool, true, false, List, [], ◌∷◌, ◌++◌, length, Option, None, Ok, refl, sym, ap, subst}
use Rattle.rationals.specs.Rational.{ℚ}
use Rattle.scen_defs.specs.Lists.{Each, places, passes_at}
use Rattle.scen_defs.specs.Names.{column_names}
use Rattle.scen_defs.specs.Program.{Program, view_of, is_live}
use Rattle.scen_defs.specs.declared.program.Column.{Column}
use Rattle.scen_defs.specs.declared.report.Report.{Report}
use Rattle.command_words.specs.declared.command.RiskMeasure.{RiskMeasure}
use Rattle.scen_defs.specs.Flat.{cost}
use Rattle.edit_defs.specs.declared.edit.Act.{Act}
use Rattle.edit_defs.specs.declared.edit.Act.TheVariants.{Change, Solve}
use Rattle.edit_defs.specs.declared.edit.Item.{Item}
use Rattle.edit_defs.specs.After.{after}
use Rattle.edit_script.specs.Script.{script_of, report_item}
use Rattle.edit_script.proofs.StepLemmas.{columns-stay}
use Rattle.input_files.specs.Fetched.{Texts}
use Rattle.program_files.specs.Meant.{MeansProgram}
use Rattle.program_files.specs.Edited.{MeansScript, or_empty}
use Rattle.script_checks.specs.declared.single.Checked.{Checked}
use Rattle.script_checks.specs.Checked.{AreHeads, AreChecked, IsCheck}
use Rattle.report_defs.specs.Truth.{HasCounts}
use Rattle.tail_risk.specs.TailProgram.{tail_of, rates_of, h_added, u_added}
use Rattle.tail_risk.specs.TailNames.{h_name, u_name}
use Rattle.tail_risk.proofs.TailKeeps.{lives_here, lives_there}
use Rattle.headline.specs.Laws.{CostsBy}
use Rattle.headline.specs.Headline.{expected_cost, weighted_risk, ReportIsSo, StatusIsSo, asked_programs, AskFor, IsJudged, AreJudged}
use Rattle.headline.proofs.SoLemmas.{held_is_so, risk_is_so}

-- ---- which programs are asked for

-- an empty text means one report
no_text : (texts : Texts) (p : Program) (items : List Item) → MeansScript texts p items → texts.edits ≡ None → items ≡ report_item ∷ []
no_text texts p items h e =
    let means : script_of [] p ≡ Ok items = subst (λ (text : Option (List ℕ)). script_of (or_empty text) p ≡ Ok items) e h in
    let same : report_item ∷ [] ≡ items = cc in
    sym same

pub asks : (texts : Texts) (p : Program) (items : List Item) → MeansProgram texts p → MeansScript texts p items → AskFor texts (asked_programs p items)
asks texts p items means script = record {
  program = p;
  means = means;
  items = items;
  script = script;
  programs_are = refl;
  alone = λ e. ap (asked_programs p) (no_text texts p items script e);
}

-- all of them have the program's columns
abbrev AllHave : List Column → List Program → Type 0
AllHave columns programs = Each (λ (p : Program). p.columns ≡ columns) programs

at_act : (columns : List Column) (items : List Item) (p : Program) → p.columns ≡ columns
    → ((q : Program) → q.columns ≡ columns → AllHave columns (asked_programs q items)) → (work : ℕ) (act : Act)
    → AllHave columns (asked_programs p (record { work = work; act = act } ∷ items))
at_act columns items p e behind work (Change edit) = behind (after p edit) (columns-stay p edit ∙ e)
at_act columns items p e behind work Solve = (e, behind p e)

have_columns : (columns : List Column) (items : List Item) (p : Program) → p.columns ≡ columns → AllHave columns (asked_programs p items)
have_columns columns [] p e = tt
have_columns columns (item ∷ items) p e = at_act columns items p e (λ q d. have_columns columns items q d) item.work item.act

pub nothing_behind : (xs : List (List ℕ)) → xs ≡ xs ++ []
nothing_behind [] = refl
nothing_behind (x ∷ xs) = ap (λ (l : List (List ℕ)). x ∷ l) (nothing_behind xs)

named_by : (names : List (List ℕ)) (columns : List Column) (programs : List Program) → names ≡ column_names columns → AllHave columns programs
    → Each (λ (p : Program). names ≡ column_names p.columns ++ []) programs
named_by names columns [] e h = tt
named_by names columns (p ∷ programs) e h =
    (e ∙ ap column_names (sym h.0) ∙ nothing_behind (column_names p.columns), named_by names columns programs e h.1)

pub names_are : (names : List (List ℕ)) (p : Program) (items : List Item) → names ≡ column_names p.columns
    → Each (λ (q : Program). names ≡ column_names q.columns ++ []) (asked_programs p items)
names_are names p items e = named_by names p.columns (asked_programs p items) e (have_columns p.columns items p refl)

-- ---- checks

-- without a report there is no check
none_at : (items : List Item) (p : Program) (checks : List Checked) → ((q : Program) → AreChecked q items [] checks → checks ≡ []) → (work : ℕ) (act : Act)
    → AreChecked p (record { work = work; act = act } ∷ items) [] checks → checks ≡ []
none_at items p checks behind work (Change e) k = behind (after p e) k
none_at items p checks behind work Solve k = behind p k

no_checks : (items : List Item) (p : Program) (checks : List Checked) → AreChecked p items [] checks → checks ≡ []
no_checks [] p checks h = h
no_checks (item ∷ items) p checks h = none_at items p checks (λ q k. no_checks items q checks k) item.work item.act h

pub judged_by : (p : Program) (report : Report) (check : Checked) → IsCheck p report check → IsJudged expected_cost p report check
judged_by p report check h = record {
  number_is = h.number_is;
  is_so = λ e. record { counts = (h.shown e).counts; status = held_is_so (view_of p) report (h.shown e) };
}

-- all behind an item are
abbrev BehindJudged : List Item → Type 0
BehindJudged items = (p : Program) (reports : List Report) (checks : List Checked) → AreChecked p items reports checks
    → AreJudged expected_cost (asked_programs p items) reports checks

judged_heads : (items : List Item) (p : Program) → BehindJudged items → (reports : List Report) (checks : List Checked)
    → AreHeads (IsCheck p) (AreChecked p items) reports checks → AreJudged expected_cost (p ∷ asked_programs p items) reports checks
judged_heads items p behind [] checks k = no_checks items p checks k
judged_heads items p behind (report ∷ others) [] k = absurd k
judged_heads items p behind (report ∷ others) (check ∷ rest) k = (judged_by p report check k.0, behind p others rest k.1)

judged_at : (items : List Item) (p : Program) → BehindJudged items → (reports : List Report) (checks : List Checked) (work : ℕ) (act : Act)
    → AreChecked p (record { work = work; act = act } ∷ items) reports checks
    → AreJudged expected_cost (asked_programs p (record { work = work; act = act } ∷ items)) reports checks
judged_at items p behind reports checks work (Change e) k = behind (after p e) reports checks k
judged_at items p behind reports checks work Solve k = judged_heads items p behind reports checks k

pub are_judged : (items : List Item) → BehindJudged items
are_judged [] p reports checks h = h
are_judged (item ∷ items) p reports checks h = judged_at items p (are_judged items) reports checks item.work item.act h

-- ---- the program of a risk measure

module _ (p : Program) (level weight : ℚ) where
  abbrev q : Program
  q = tail_of p level weight

  either : (a b : Bool) → (a ≡ true → b ≡ true) → (b ≡ true → a ≡ true) → a ≡ b
  either true b f g = sym (f refl)
  either false true f g = absurd (let e : false ≡ true = g refl in cc)
  either false false f g = refl

  same_live : (n : ℕ) → passes_at is_live n q.nodes ≡ passes_at is_live n p.nodes
  same_live n =
      either (passes_at is_live n q.nodes) (passes_at is_live n p.nodes) (lives_here p (rates_of level weight) n) (lives_there p (rates_of level weight) n)

-- a place before others, if it passes
abbrev picked : ℕ → List ℕ → Bool → List ℕ
picked k rest b = elim b as (λ (x : Bool). List ℕ) [ true ↦ k ∷ rest | false ↦ rest ]

none_first : (k : ℕ) (rest : List ℕ) → rest ≡ [] → (b : Bool) → b ≡ false → picked k rest b ≡ []
none_first k rest s true e = absurd (cc)
none_first k rest s false e = s

none_pass : {A : Type 0} (test : A → Bool) (k : ℕ) (xs : List A) → ((n : ℕ) → passes_at test n xs ≡ false) → places test k xs ≡ []
none_pass test k [] h = refl
none_pass test k (x ∷ xs) h = none_first k (places test (suc k) xs) (none_pass test (suc k) xs (λ n. h (suc n))) (test x) (h 0)

same_first : (k : ℕ) (xs ys : List ℕ) → xs ≡ ys → (a b : Bool) → a ≡ b
    → picked k xs a ≡ picked k ys b
same_first k xs ys s true true e = ap (λ (l : List ℕ). k ∷ l) s
same_first k xs ys s true false e = absurd (cc)
same_first k xs ys s false true e = absurd (cc)
same_first k xs ys s false false e = s

same_places : {A : Type 0} (test : A → Bool) (k : ℕ) (xs ys : List A) → ((n : ℕ) → passes_at test n xs ≡ passes_at test n ys)
    → places test k xs ≡ places test k ys
same_places test k [] ys h = sym (none_pass test k ys (λ n. sym (h n)))
same_places test k (x ∷ xs) [] h = none_pass test k (x ∷ xs) h
same_places test k (x ∷ xs) (y ∷ ys) h =
    same_first k (places test (suc k) xs) (places test (suc k) ys) (same_places test (suc k) xs ys (λ n. h (suc n))) (test x) (test y) (h 0)

-- it has as many nodes and scenarios
pub same_counts : (p : Program) (level weight : ℚ) (report : Report) → HasCounts (view_of (tail_of p level weight)) report → HasCounts (view_of p) report
same_counts p level weight report h = record {
  nodes = h.nodes ∙ ap length (same_places is_live 0 (tail_of p level weight).nodes p.nodes (same_live p level weight));
  scenarios = h.scenarios;
}

-- what is so of it is so of the one that it is made of, with the risk for a cost
pub risk_report : (m : RiskMeasure) (p q : Program) → q ≡ tail_of p m.level m.weight
    → CostsBy (view_of p) (view_of q) ((weighted_risk m).cost_of p) → (report : Report) → HasCounts (view_of q) report
    → StatusIsSo (view_of q) (cost (view_of q)) report report.finding → ReportIsSo (weighted_risk m) p report
risk_report m p q e by report counts status = record {
  counts = same_counts p m.level m.weight report (subst (λ (x : Program). HasCounts (view_of x) report) e counts);
  status = risk_is_so (view_of p) (view_of q) ((weighted_risk m).cost_of p) report report.finding by status;
}

-- and the columns that are added stand behind its own
pub risk_names : (p : Program) (level weight : ℚ) → column_names (tail_of p level weight).columns ≡ column_names p.columns ++ h_name ∷ u_name ∷ []
risk_names p level weight = go p.columns
  where
    go : (columns : List Column) → column_names (columns ++ h_added ∷ u_added p ∷ []) ≡ column_names columns ++ h_name ∷ u_name ∷ []
    go [] = refl
    go (c ∷ columns) = ap (λ (l : List (List ℕ)). c.name ∷ l) (go columns)
