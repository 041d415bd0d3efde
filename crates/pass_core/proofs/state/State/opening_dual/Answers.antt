use Rattle.std.proofs.Common.{Option, IfOk, IfErr, IfSome, sym, subst}
use Rattle.scen_defs.specs.declared.report.Kind.{Kind}
use Rattle.scen_defs.specs.declared.report.Kind.TheVariants.{Recession}
use Rattle.cut_defs.specs.Stored.{Stored}
use Rattle.pass_core.specs.Explained.{IsCutOfSolve}
use Rattle.pass_core.specs.Grounds.{OpeningDual, FaultsDual}
use Rattle.pass_core.proofs.state.State.opening_dual.Goals as goal

pub returns-in-Recession-Some-clause-fails : goal.returns-in-Recession-Some-clause-fails
returns-in-Recession-Some-clause-fails c = λ p tree h.
    let s = c.args.self.now in
    c.dual_of.ensures.fails p s.frame tree s.budget.pivots
    (subst (λ (o : Option Stored). IfSome o (IsCutOfSolve p s.frame tree s.budget.pivots)) c.in-Recession-Some.is-1 h.2.root)

pub returns-in-Recession-Some-clause-dual : goal.returns-in-Recession-Some-clause-dual
returns-in-Recession-Some-clause-dual c =
    let s = c.args.self.now in
    subst (λ (k : Kind). IfOk c.dual_of.result (λ dual. OpeningDual k s.ends.root dual)) (sym c.in-Recession-Some.is-0)
    (subst (λ (o : Option Stored). IfOk c.dual_of.result (λ dual. OpeningDual Recession o dual)) (sym c.in-Recession-Some.is-1)
    c.dual_of.ensures.walk)

pub returns-in-Recession-Some-clause-faults : goal.returns-in-Recession-Some-clause-faults
returns-in-Recession-Some-clause-faults c =
    let s = c.args.self.now in
    subst (λ (k : Kind). IfErr c.dual_of.result (FaultsDual k s.ends.root)) (sym c.in-Recession-Some.is-0)
    (subst (λ (o : Option Stored). IfErr c.dual_of.result (FaultsDual Recession o)) (sym c.in-Recession-Some.is-1)
    c.dual_of.ensures.faults)
