use Rattle.std.proofs.Common.{IfOk, sym, subst}
use Rattle.scen_defs.specs.Program.{Program, content}
use Rattle.nested_method.specs.declared.method.Method.{Method}
use Rattle.nested_method.specs.declared.method.Method.TheVariants.{Working as AtWork}
use Rattle.nested_method.specs.Stands.{StandsOn, FindsBySolves}
use Rattle.nested_method.specs.Scripted.{IsInScript, FindsInScript}
use Rattle.nested_method.proofs.method.Method.find.Goals as goal

pub returns-in-Working-clause-solves : goal.returns-in-Working-clause-solves
returns-in-Working-clause-solves g c = λ budget few s.
    let p : Program = content c.args.program.now in
    subst (λ (m : Method). IfOk c.find.result (FindsBySolves p m (AtWork c.find.new.self))) (sym c.in-Working.is)
    (c.find.ensures.solves budget few (subst (StandsOn p budget) c.in-Working.is s))

pub returns-in-Working-clause-claims : goal.returns-in-Working-clause-claims
returns-in-Working-clause-claims g c = λ budget first edits rest came s h.
    let p : Program = content c.args.program.now in
    subst (λ (m : Method). IfOk c.find.result (FindsInScript first edits came p rest m)) (sym c.in-Working.is)
    (c.find.ensures.claims budget first edits rest came (subst (StandsOn p budget) c.in-Working.is s) (subst (IsInScript first edits came p rest) c.in-Working.is h))

pub returns-in-Working-clause-ends : goal.returns-in-Working-clause-ends
returns-in-Working-clause-ends g c = λ budget few s.
    c.find.ensures.ends budget few (subst (StandsOn (content c.args.program.now) budget) c.in-Working.is s)

pub returns-in-Working-clause-made : goal.returns-in-Working-clause-made
returns-in-Working-clause-made g c = λ budget first edits rest came s h.
    let p : Program = content c.args.program.now in
    c.find.ensures.made budget first edits rest came (subst (StandsOn p budget) c.in-Working.is s) (subst (IsInScript first edits came p rest) c.in-Working.is h)
