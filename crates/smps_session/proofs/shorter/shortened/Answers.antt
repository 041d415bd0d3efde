use Rattle.std.proofs.Common.{◌≡◌, ◌⊎◌, Option, inl, inr, refl, sym, subst}
use Rattle.std.specs.Prelude.{IfSome}
use Rattle.scen_defs.specs.Fits.{ListsHaveNames}
use Rattle.scen_defs.specs.Program.{content, view_of}
use Rattle.scen_defs.specs.declared.report.Report.{Report}
use Rattle.report_defs.specs.Findings.{IsInfeasible}
use Rattle.report_defs.specs.Truth.{IsTrue}
use Rattle.smps_session.specs.Lists.{ListsAreOf}
use Rattle.smps_session.specs.Reasons.{told_reasons}
use Rattle.smps_session.specs.Shorter.{IsShorter, HasShorterRay}
use Rattle.smps_session.proofs.ListLemmas.{ray_listed}
use Rattle.smps_session.proofs.ShorterLemmas.{ray_true, ray_named, has_shorter}
use Rattle.smps_session.proofs.shorter.shortened.Goals as goal

pub returns-in-Some-clause-names : goal.returns-in-Some-clause-names
returns-in-Some-clause-names c =
    let names = subst (λ (o : Option Report). IfSome o (ListsHaveNames c.args.program.now)) c.in-Some.is c.in_ok-tested.ensures.names in
    subst (ListsHaveNames c.args.program.now) (sym c.with_ray.ensures)
    (ray_named c.args.program.now c.args.found c.in-Some.tested c.requires.names names)

pub returns-in-Some-clause-lists : goal.returns-in-Some-clause-lists
returns-in-Some-clause-lists c =
    let p = content c.args.program.now in
    let lists = subst (λ (o : Option Report). IfSome o (ListsAreOf p)) c.in-Some.is c.in_ok-tested.ensures.lists in
    subst (ListsAreOf p) (sym c.with_ray.ensures) (ray_listed p c.args.found c.in-Some.tested c.requires.lists lists)

pub returns-in-Some-clause-truth : goal.returns-in-Some-clause-truth
returns-in-Some-clause-truth c =
    let v = view_of (content c.args.program.now) in
    let why = told_reasons c.args.program.now c.args.budget in
    let shorter = subst (λ (o : Option Report). IfSome o (IsShorter c.args.found)) c.in-Some.is c.in_ok-tested.ensures.shorter in
    let truth = subst (λ (o : Option Report). IfSome o (IsInfeasible v)) c.in-Some.is c.in_ok-tested.ensures.truth in
    subst (IsTrue v why) (sym c.with_ray.ensures) (ray_true v why c.args.found c.in-Some.tested shorter c.requires.truth truth)

pub returns-in-Some-clause-ray : goal.returns-in-Some-clause-ray
returns-in-Some-clause-ray c =
    let shorter = subst (λ (o : Option Report). IfSome o (IsShorter c.args.found)) c.in-Some.is c.in_ok-tested.ensures.shorter in
    subst (λ (report : Report). (report ≡ c.args.found) ⊎ HasShorterRay c.args.found report) (sym c.with_ray.ensures)
    (inr (has_shorter c.args.found c.in-Some.tested shorter))

pub returns-in-None-clause-ray : goal.returns-in-None-clause-ray
returns-in-None-clause-ray c = inl refl
