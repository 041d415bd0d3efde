use Rattle.std.proofs.Common.{OnOk, sym, subst}
use Rattle.scen_defs.specs.Program.{Program, content}
use Rattle.nested_method.specs.declared.method.Method.{Method}
use Rattle.nested_method.specs.declared.method.Method.TheVariants.{Working as AtWork}
use Rattle.nested_method.specs.Stands.{StandsOn, WorksBySolves, WorksAsAsked}
use Rattle.nested_method.specs.Scripted.{IsInScript}
use Rattle.nested_method.proofs.method.Method.work.Goals as goal

pub returns-in-Working-clause-solves : goal.returns-in-Working-clause-solves
returns-in-Working-clause-solves g c = λ budget few s.
    let p : Program = content c.args.program.now in
    subst (λ (m : Method). OnOk c.run.result (WorksBySolves p m (AtWork c.run.new.self))) (sym c.in-Working.is)
    (c.run.ensures.solves budget few (subst (StandsOn p budget) c.in-Working.is s))

pub returns-in-Working-clause-amount : goal.returns-in-Working-clause-amount
returns-in-Working-clause-amount g c = λ budget few s.
    let p : Program = content c.args.program.now in
    subst (λ (m : Method). OnOk c.run.result (WorksAsAsked p c.args.work m (AtWork c.run.new.self))) (sym c.in-Working.is)
    (c.run.ensures.amount budget few (subst (StandsOn p budget) c.in-Working.is s))

pub returns-in-Working-clause-made : goal.returns-in-Working-clause-made
returns-in-Working-clause-made g c = λ budget first edits rest came s h.
    let p : Program = content c.args.program.now in
    c.run.ensures.made budget first edits rest came (subst (StandsOn p budget) c.in-Working.is s) (subst (IsInScript first edits came p rest) c.in-Working.is h)
