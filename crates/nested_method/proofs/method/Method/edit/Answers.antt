use Rattle.std.proofs.Common.{◌∷◌, suc, rules, sym, subst, inl, inr}
use Rattle.scen_defs.specs.Program.{content}
use Rattle.edit_script.proofs.StepLemmas.{edit_applies}
use Rattle.nested_method.specs.declared.method.Method.{Method}
use Rattle.nested_method.specs.declared.method.Method.TheVariants.{Working as AtWork}
use Rattle.edit_defs.specs.After.{after}
use Rattle.nested_method.specs.Edited.{is_grown, KeepsTabled, IsEdited}
use Rattle.nested_method.specs.Stands.{StandsOn, CarriesVersions}
use Rattle.nested_method.proofs.StandLemmas.{works_on, touches_carry}
use Rattle.scen_defs.specs.Program.{Program}
use Rattle.nested_method.specs.Scripted.{AreToCome, IsInHistory, IsInScript, GoesOnInScript}
use Rattle.nested_method.proofs.Histories.{history_goes_on, is_to_come, still_to_come}
use Rattle.nested_method.proofs.method.Method.edit.Goals as goal

pub returns-in_default-clause-stands : goal.returns-in_default-clause-stands
returns-in_default-clause-stands c =
    let edited : IsEdited (content c.args.program.now) c.args.edit.now c.in-Working.working c.edit.new.self = search rules in
    let tabled : KeepsTabled (after (content c.args.program.now) c.args.edit.now) (is_grown c.args.edit.now) c.in-Working.working.state c.edit.new.self.state =
    search rules in
    works_on (content c.args.program.now) (content c.edit.new.program) c.args.edit.now c.args.self.now c.in-Working.working c.edit.new.self
    c.args.program.now.keeps c.in-Working.is c.in_ok-why-in-Working.ensures.after edited tabled

pub returns-in_default-clause-touches : goal.returns-in_default-clause-touches
returns-in_default-clause-touches c = λ budget s.
    let p = content c.args.program.now in
    let e = c.args.edit.now in
    let edited : IsEdited p e c.in-Working.working c.edit.new.self = search rules in
    subst (λ (m : Method). CarriesVersions p e m (AtWork c.edit.new.self)) (sym c.in-Working.is)
    (touches_carry p e budget c.in-Working.working c.edit.new.self c.args.program.now.keeps (edit_applies p e c.requires.allowed)
    (subst (StandsOn p budget) c.in-Working.is s) edited)

pub returns-in_default-clause-made : goal.returns-in_default-clause-made
returns-in_default-clause-made c = λ budget first edits rest came s h.
    let p = content c.args.program.now in
    let e = c.args.edit.now in
    let edited : IsEdited p e c.in-Working.working c.edit.new.self = search rules in
    inl (subst (λ (q : Program). IsInHistory first edits (suc came) q rest c.edit.new.self.state) (sym c.in_ok-why-in-Working.ensures.after)
    (history_goes_on first edits came p e budget rest c.in-Working.working c.edit.new.self (subst (StandsOn p budget) c.in-Working.is s) edited
    (subst (IsInScript first edits came p (e ∷ rest)) c.in-Working.is h)))

pub returns-in-Some-clause-made : goal.returns-in-Some-clause-made
returns-in-Some-clause-made c = λ budget first edits rest came s h.
    let p = content c.args.program.now in
    let e = c.args.edit.now in
    subst (GoesOnInScript first edits came (content c.edit.new.program) rest) (sym c.turn_into.ensures)
    (inl (subst (λ (q : Program). AreToCome q rest) (sym c.in_ok-why-in-Working.ensures.after)
    (still_to_come p e rest (is_to_come first edits came p (e ∷ rest) c.in-Working.working.state (subst (IsInScript first edits came p (e ∷ rest)) c.in-Working.is h)))))

pub returns-in_ok-begun-in-Idle-clause-made : goal.returns-in_ok-begun-in-Idle-clause-made
returns-in_ok-begun-in-Idle-clause-made c = λ budget first edits rest came s h.
    let p = content c.args.program.now in
    let e = c.args.edit.now in
    subst (GoesOnInScript first edits came (content c.applied.new.program) rest) (sym c.turn_into-in-Idle.ensures)
    (inr (c.in_ok-begun-in-Idle.ensures.made rest
    (subst (λ (q : Program). AreToCome q rest) (sym c.in_ok-applied-in-Idle.ensures.after)
    (still_to_come p e rest (subst (IsInScript first edits came p (e ∷ rest)) c.in-Idle.is h)))))
