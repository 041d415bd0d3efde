use Rattle.std.proofs.Common.{◌≡◌, List, IfOk, sym, ap, subst, ◌∙◌}
use Rattle.scen_defs.specs.Program.{content}
use Rattle.cut_defs.specs.declared.versions.Due.{Due}
use Rattle.edit_defs.specs.Touches.{touches}
use Rattle.edit_retire.specs.Dues.{rows_version}
use Rattle.edit_script.proofs.StepLemmas.{edit_applies, no-passing}
use Rattle.nested_method.proofs.EditLemmas.{dues_are}
use Rattle.nested_method.proofs.method.Working.dues.Goals as goal

pub touches-requires : goal.touches-requires
touches-requires c = record { applies = edit_applies (content c.args.program.now) c.args.edit.now c.requires }

pub shift-moved-requires-clause-applies : goal.shift-moved-requires-clause-applies
shift-moved-requires-clause-applies c = edit_applies (content c.args.program.now) c.args.edit.now c.requires

pub shift-moved-requires-clause-passes : goal.shift-moved-requires-clause-passes
shift-moved-requires-clause-passes c = no-passing (content c.args.program.now) c.args.edit.now c.requires.no_cause

pub returns-clause-dues : goal.returns-clause-dues
returns-clause-dues c =
    let places : c.deref.result.now ≡ touches (content c.args.program.now) c.args.edit.now =
    c.deref.ensures.value ∙ c.in_ok-touched.ensures in
    let version : c.rows_version.result ≡ rows_version c.deref-3.result.now =
    c.rows_version.ensures ∙ ap rows_version (c.deref-2.ensures.value ∙ sym c.deref-3.ensures.value) in
    subst (λ (all : List Due). IfOk c.sweeps.result (λ dues. dues.items ≡ all))
    (dues_are (content c.args.program.now) c.args.edit.now c.args.self.now.state.versions c.deref.result.now c.deref-3.result.now
    c.rows_version.result c.shift-moved.result places (c.deref-3.ensures.value ∙ c.in_ok-raised.ensures.touches) version
    c.shift-moved.ensures)
    c.sweeps.ensures
