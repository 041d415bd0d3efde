-- Reports of the whole program: what they find, and why they are true.
use Rattle.std.proofs.Common.{◌≡◌, ℕ, true, false, Option, Some, None, Result, Ok, Err, IfOk, inl, inr, sym, refl, ap, subst, ◌∙◌}
use Rattle.std.specs.Prelude.{IfSome}
use Rattle.scen_defs.specs.Fits.{ListsHaveNames}
use Rattle.scen_defs.specs.Program.{View, content, view_of}
use Rattle.scen_defs.specs.declared.program.Program.{Program}
use Rattle.scen_defs.specs.declared.report.Place.{Place}
use Rattle.scen_defs.specs.declared.report.Place.TheVariants.{Ground}
use Rattle.scen_defs.specs.declared.report.Finding.{Finding}
use Rattle.scen_defs.specs.declared.report.Finding.TheVariants.{Optimal, Infeasible, Unbounded, OpenSolves, OpenPivots, OpenPassed}
use Rattle.scen_defs.specs.declared.report.Report.{Report}
use Rattle.report_defs.specs.Findings.{has_direction, has_ray, has_extra}
use Rattle.report_defs.specs.Truth.{Reasons, Explains, IsTrue, HasCounts}
use Rattle.proved_report.specs.declared.claim.Claim.{Claim}
use Rattle.proved_report.specs.declared.claim.Claim.TheVariants.{Ends, Nowhere, Endless}
use Rattle.proved_report.specs.declared.open.Open.{Open}
use Rattle.proved_report.specs.declared.open.Open.TheVariants.{Solves}
use Rattle.proved_report.specs.Open.{given}
use Rattle.proved_report.specs.Reports.{IsClaimed, EqualIsOptimal}
use Rattle.claim_laws.specs.Held.{finding_for}
use Rattle.claim_laws.specs.Tells.{IsFindingOf, TellsClaim}
use Rattle.claim_laws.proofs.Telling.{claims_are_told}
use Rattle.pass_core.specs.declared.budget.Budget.{Budget}
use Rattle.smps_session.specs.Reasons.{told_reasons}
use Rattle.smps_session.specs.Whole.{isnt_open, KeepsEnds, TellsWhole, IsTestedFor, AnswersWhole}
use Rattle.smps_session.proofs.ListLemmas.{HasOrder, lists_told}

asked_for : (program : Program) (place : Place) (why : Open) (solves : ℕ) (claim : Claim) (f : Finding) → isnt_open f ≡ true
    → IsFindingOf program place why solves claim f → f ≡ finding_for claim
asked_for program place why solves claim Optimal e h = sym h
asked_for program place why solves claim Infeasible e h = sym h
asked_for program place why solves claim Unbounded e h = sym h
asked_for program place why solves claim (OpenSolves n) e h = absurd (cc)
asked_for program place why solves claim (OpenPivots k) e h = absurd (cc)
asked_for program place why solves claim (OpenPassed told o) e h = absurd (cc)

told_whole : (program : Program) (place : Place) (why : Open) (solves : ℕ) (claim : Claim) (report : Report)
    → isnt_open report.finding ≡ true → TellsClaim program place why solves claim report → TellsWhole program report
told_whole program place why solves claim report e told = record {
  claim = claim;
  finds = asked_for program place why solves claim report.finding e told.finding;
  place = place;
  why = why;
  solves = solves;
  tells = told;
}

pub tells_whole : (program : Program) (number : ℕ) (place : Place) (why : Open) (solves : ℕ) (claim : Claim) (report : Report)
    → isnt_open report.finding ≡ true → IsClaimed program number place why solves claim report → TellsWhole program report
tells_whole program number place why solves claim report e c =
    told_whole program place why solves claim report e (claims_are_told program number place why solves claim report c)

-- what finds that isn't open
pub whole_is_closed : (program : Program) (report : Report) → TellsWhole program report → isnt_open report.finding ≡ true
whole_is_closed program report h = ap isnt_open h.finds ∙ go h.claim
  where
    go : (claim : Claim) → isnt_open (finding_for claim) ≡ true
    go (Ends policy dual) = refl
    go (Nowhere ray) = refl
    go (Endless policy direction) = refl

-- ---- the report of a claim
pub tested_of_claim : {E : Type 0} (program : Program) (solves : ℕ) (own : Report) (claim : Claim) (result : Result Report E)
    → IfOk result (λ report. report.number ≡ own.number) → IfOk result (HasCounts (view_of (content program)))
    → IfOk result (ListsHaveNames program) → IfOk result (IsTrue (view_of (content program)) (given (Solves solves) solves))
    → IfOk result (IsClaimed program own.number Ground (Solves solves) solves claim) → IfOk result EqualIsOptimal
    → IfOk result HasOrder → IfOk result (IsTestedFor program solves own)
tested_of_claim program solves own claim (Err e) number counts names shown claimed equal order = tt
tested_of_claim program solves own claim (Ok report) number counts names shown claimed equal order = record {
  number_is = number;
  counts = counts;
  names = names;
  lists = lists_told program own.number Ground (Solves solves) solves claim report claimed order;
  shown = shown;
  equal = equal;
  claim = claim;
  tells = claims_are_told program own.number Ground (Solves solves) solves claim report claimed;
}

-- ---- one that isn't open is true for any reasons
closed_explained : (v : View) (why why' : Reasons) (report : Report) (f : Finding) → isnt_open f ≡ true → Explains v why report f
    → Explains v why' report f
closed_explained v why why' report Optimal e h = h
closed_explained v why why' report Infeasible e h = h
closed_explained v why why' report Unbounded e h = h
closed_explained v why why' report (OpenSolves n) e h = absurd (cc)
closed_explained v why why' report (OpenPivots k) e h = absurd (cc)
closed_explained v why why' report (OpenPassed place o) e h = absurd (cc)

pub closed_answer : (program : Program) (budget : Budget) (own report : Report) → IsTestedFor program budget.solves own report
    → isnt_open report.finding ≡ true → AnswersWhole program budget own report
closed_answer program budget own report tested closed = record {
  number_is = tested.number_is;
  counts = tested.counts;
  names = tested.names;
  lists = tested.lists;
  truth = record {
    lower = tested.shown.lower;
    upper = tested.shown.upper;
    finding = closed_explained (view_of (content program)) (given (Solves budget.solves) budget.solves) (told_reasons program budget) report
        report.finding closed tested.shown.finding;
    direction = tested.shown.direction;
    ray = tested.shown.ray;
    extra = tested.shown.extra;
  };
  equal = tested.equal;
  whole = inl (told_whole program Ground (Solves budget.solves) budget.solves tested.claim report closed tested.tells);
}

pub closed_answers : (program : Program) (budget : Budget) (own : Report) (found : Option Report)
    → IfSome found (IsTestedFor program budget.solves own) → IfSome found (λ report. isnt_open report.finding ≡ true)
    → IfSome found (AnswersWhole program budget own)
closed_answers program budget own None tested closed = tt
closed_answers program budget own (Some report) tested closed = closed_answer program budget own report tested closed

-- ---- one that is open may be open for the reason of the method's own one
-- an open finding has no direction, no ray and no number beside them
no_direction : (f : Finding) → isnt_open f ≡ false → has_direction f ≡ false
no_direction Optimal e = absurd (cc)
no_direction Infeasible e = absurd (cc)
no_direction Unbounded e = absurd (cc)
no_direction (OpenSolves n) e = refl
no_direction (OpenPivots k) e = refl
no_direction (OpenPassed place o) e = refl

no_ray : (f : Finding) → isnt_open f ≡ false → has_ray f ≡ false
no_ray Optimal e = absurd (cc)
no_ray Infeasible e = absurd (cc)
no_ray Unbounded e = absurd (cc)
no_ray (OpenSolves n) e = refl
no_ray (OpenPivots k) e = refl
no_ray (OpenPassed place o) e = refl

no_extra : (f : Finding) → isnt_open f ≡ false → has_extra f ≡ false
no_extra Optimal e = absurd (cc)
no_extra Infeasible e = absurd (cc)
no_extra Unbounded e = absurd (cc)
no_extra (OpenSolves n) e = refl
no_extra (OpenPivots k) e = refl
no_extra (OpenPassed place o) e = refl

-- why a report is open doesn't rest on what it prints
open_explained : (v : View) (why : Reasons) (own report : Report) (f : Finding) → isnt_open f ≡ false → Explains v why own f
    → Explains v why report f
open_explained v why own report Optimal e h = absurd (cc)
open_explained v why own report Infeasible e h = absurd (cc)
open_explained v why own report Unbounded e h = absurd (cc)
open_explained v why own report (OpenSolves n) e h = h
open_explained v why own report (OpenPivots k) e h = h
open_explained v why own report (OpenPassed place o) e h = h

pub near_answer : (program : Program) (budget : Budget) (own tested report : Report)
    → IsTrue (view_of (content program)) (told_reasons program budget) own → IsTestedFor program budget.solves own tested
    → isnt_open tested.finding ≡ false → isnt_open own.finding ≡ false → KeepsEnds own tested
    → report ≡ record tested { finding = own.finding } → AnswersWhole program budget own report
near_answer program budget own tested report owns h left left_open keeps is =
    let near : Report = record tested { finding = own.finding } in
    let answer : AnswersWhole program budget own near = record {
      number_is = h.number_is;
      counts = record { nodes = h.counts.nodes; scenarios = h.counts.scenarios };
      names = record { policy = h.names.policy; direction = h.names.direction; dual = h.names.dual; ray = h.names.ray };
      lists = record { policy = h.lists.policy; direction = h.lists.direction; dual = h.lists.dual; ray = h.lists.ray };
      truth = record {
        lower = h.shown.lower;
        upper = h.shown.upper;
        finding = open_explained (view_of (content program)) (told_reasons program budget) own near own.finding left_open owns.finding;
        direction = h.shown.direction ∙ no_direction tested.finding left ∙ sym (no_direction own.finding left_open);
        ray = h.shown.ray ∙ no_ray tested.finding left ∙ sym (no_ray own.finding left_open);
        extra = h.shown.extra ∙ no_extra tested.finding left ∙ sym (no_extra own.finding left_open);
      };
      equal = λ lower upper l u same.
          let optimal : tested.finding ≡ Optimal = h.equal lower upper l u same in
          absurd (let no : true ≡ false = sym (ap isnt_open optimal) ∙ left in cc);
      whole = inr (record {
        left_open = left_open;
        tested = tested;
        claim = h.claim;
        place = Ground;
        why = Solves budget.solves;
        solves = budget.solves;
        tells = h.tells;
        same = refl;
        keeps = record { lower = keeps.lower; upper = keeps.upper };
      });
    } in
    subst (AnswersWhole program budget own) (sym is) answer
