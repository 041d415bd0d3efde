-- What a check gives, and how the checks of a script end.
use Rattle.std.proofs.Common.{◌≡◌, ◌⊎◌, inl, inr, ◌<◌, ◌∙◌, length, List, [], ◌∷◌, Bool, true, Result, Ok, Err, refl, sym, ap, arith}
use Rattle.rationals.specs.Passes.{Operation}
use Rattle.scen_defs.specs.Program.{content, view_of}
use Rattle.scen_defs.specs.declared.program.Program.{Program}
use Rattle.scen_defs.specs.declared.report.Report.{Report}
use Rattle.scen_defs.specs.declared.report.Halt.{Halt}
use Rattle.scen_defs.specs.declared.report.Halt.TheVariants.{Passed, Memory}
use Rattle.scen_defs.specs.declared.report.Place.{Place}
use Rattle.scen_defs.specs.declared.report.Place.TheVariants.{Solve, Cut, Cost, Ground, Dual, Check}
use Rattle.scen_model.specs.Answers.{HaltOf}
use Rattle.certificate_check.specs.declared.verdict.Verdict.{Verdict}
use Rattle.certificate_check.specs.declared.verdict.Verdict.TheVariants.{Holds, Fails}
use Rattle.certificate_check.specs.Verdicts.{verdict_of}
use Rattle.certificate_check.specs.Shown.{IsShown, IfHolds, JudgedBy}
use Rattle.script_checks.specs.declared.single.Checked.{Checked}
use Rattle.script_checks.specs.Checked.{is_holding, holds, IsCheck}

pub none_left : {A : Type 0} (xs : List A) → length xs < 1 → xs ≡ []
none_left [] h = refl
none_left (x ∷ xs) h = absurd (omega (arith, h))

-- the check that comes of what a verdict walk gives
pub checked : (program : Program) (report : Report) (check : Checked) → check.number ≡ report.number
    → ((check.outcome ≡ verdict_of program report) ⊎ ((check.outcome ≡ Ok Holds) × ((p : Operation) × (verdict_of program report ≡ Err p))))
    → (holds check.outcome ≡ true → IsShown (view_of (content program)) report)
    → IsCheck (content program) report check
checked program report check n v shown = record {
  program = program;
  content_is = refl;
  number_is = n;
  outcome_is = v;
  shown = shown;
}

-- a verdict that all claims hold shows the report
pub held_shown : (verdict : Verdict) (P : Type 0) → IfHolds (Ok verdict) P → is_holding verdict ≡ true → P
held_shown Holds P h e = h
held_shown (Fails claim) P h e = absurd (cc)

-- a check that ends early names the operation in which the walk ends
pub stopped_at : {X : Type 0} (walk : Result X Operation) (h : Halt) (p : Operation) → HaltOf walk h → (place : Place) × (h ≡ Passed place p) → walk ≡ Err p
stopped_at walk (Passed Check q) p h e = let same : q ≡ p = cc (e.1) in h ∙ ap Err same
stopped_at walk (Passed (Solve k) q) p h e = absurd h
stopped_at walk (Passed (Cut k) q) p h e = absurd h
stopped_at walk (Passed (Cost k) q) p h e = absurd h
stopped_at walk (Passed Ground q) p h e = absurd h
stopped_at walk (Passed Dual q) p h e = absurd h
stopped_at walk Memory p h e = absurd (cc (e.1))

-- what is judged is the verdict walk, or that all claims hold
pub judged_ok : (walk : Result Verdict Operation) (verdict : Verdict) → JudgedBy walk (Ok verdict)
    → (◌≡◌ {A = Result Verdict Operation} (Ok verdict) walk) ⊎ ((◌≡◌ {A = Result Verdict Operation} (Ok verdict) (Ok Holds)) × ((p : Operation) × (walk ≡ Err p)))
judged_ok walk verdict (inl e) = inl (sym e)
judged_ok walk verdict (inr h) = inr (let same : verdict ≡ Holds = cc (h.0) in ap (λ (v : Verdict). Ok v) same, h.1)

pub judged_err : (walk : Result Verdict Operation) (h : Halt) (p : Operation) → JudgedBy walk (Err h) → (place : Place) × (h ≡ Passed place p)
    → (◌≡◌ {A = Result Verdict Operation} (Err p) walk) ⊎ ((◌≡◌ {A = Result Verdict Operation} (Err p) (Ok Holds)) × ((q : Operation) × (walk ≡ Err q)))
judged_err walk h p (inl e) at = inl (sym (stopped_at walk h p e at))
judged_err walk h p (inr e) at = absurd (let no : ◌≡◌ {A = Result Verdict Halt} (Err h) (Ok Holds) = e.0 in cc)
