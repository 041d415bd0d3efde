use Rattle.std.proofs.Common.{◌≡◌, false, OnOk, sym, subst}
use Rattle.std.proofs.lemmas.Bool.{leb-false}
use Rattle.scen_defs.specs.Program.{Program, content}
use Rattle.nested_method.specs.declared.method.Method.{Method}
use Rattle.nested_method.specs.declared.method.Method.TheVariants.{Working as AtWork}
use Rattle.nested_method.specs.Stands.{StandsOn, is_spent, WorksAnew}
use Rattle.nested_method.specs.Scripted.{IsInScript}
use Rattle.nested_method.proofs.StandLemmas.{on_ok_if}
use Rattle.nested_method.proofs.method.Method.start_over.Goals as goal

pub returns-in-Working-clause-stays : goal.returns-in-Working-clause-stays
returns-in-Working-clause-stays c = λ budget left s.
    c.start_over.ensures.stays budget (leb-false _ _ (subst (λ (m : Method). is_spent m ≡ false) c.in-Working.is left))
    (subst (StandsOn (content c.args.program.now) budget) c.in-Working.is s)

pub returns-in-Working-clause-solves : goal.returns-in-Working-clause-solves
returns-in-Working-clause-solves c = λ budget few s.
    let p : Program = content c.args.program.now in
    subst (λ (m : Method). OnOk c.start_over.result (WorksAnew p m (AtWork c.start_over.new.self))) (sym c.in-Working.is)
    (on_ok_if c.start_over.result _ _ (λ left. on_ok_if c.start_over.result _ _
    (λ ends. c.start_over.ensures.solves budget few left ends (subst (StandsOn p budget) c.in-Working.is s))))

pub returns-in-Working-clause-made : goal.returns-in-Working-clause-made
returns-in-Working-clause-made c = λ budget first edits rest came s h.
    let p = content c.args.program.now in
    c.start_over.ensures.made budget first edits rest came (subst (StandsOn p budget) c.in-Working.is s) (subst (IsInScript first edits came p rest) c.in-Working.is h)
