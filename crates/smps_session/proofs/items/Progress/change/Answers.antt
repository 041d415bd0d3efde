use Rattle.scen_defs.specs.Program.{content}
use Rattle.smps_session.proofs.ToldLemmas.{takes_edit, changed_cleared}
use Rattle.smps_session.proofs.EditedPrograms.{allowed_few, allowed_tree}
use Rattle.smps_session.proofs.WayLemmas.{changed_way}
use Rattle.smps_session.proofs.items.Progress.change.Goals as goal

pub returns-clause-stands : goal.returns-clause-stands
returns-clause-stands g c = λ budget stands. c.edit.ensures.stands budget (c.in_ok-work.ensures.stays budget stands)

pub returns-clause-takes : goal.returns-clause-takes
returns-clause-takes g c = λ budget stands.
    takes_edit c.edit.result (content c.args.program.now) c.args.work c.args.edit.now c.args.self.now.method c.work.new.self c.edit.new.self
    (λ few. c.in_ok-work.ensures.solves budget few stands)
    (λ few. c.in_ok-work.ensures.amount budget few stands) c.in_ok-work.ensures.steps c.edit.ensures.method
    (allowed_few (content c.args.program.now) c.args.edit.now c.args.program.now.keeps c.requires.allowed)
    (allowed_tree (content c.args.program.now) c.args.edit.now c.requires.allowed)

pub returns-clause-cleared : goal.returns-clause-cleared
returns-clause-cleared g c = λ few.
    changed_cleared c.edit.result (content c.args.program.now) (content c.edit.new.program) c.args.edit.now c.work.new.self c.edit.new.self
    c.edit.ensures.after c.edit.ensures.method few

pub returns-clause-way : goal.returns-clause-way
returns-clause-way g c = λ budget start came stands way.
    let works = c.in_ok-work.ensures.stays budget stands in
    changed_way c.edit.result budget start came (content c.args.program.now) (content c.edit.new.program) c.args.edit.now c.args.self.now.method
    c.work.new.self c.edit.new.self c.args.program.now.keeps c.requires.allowed c.edit.new.program.keeps stands works (c.edit.ensures.stands budget works)
    (λ few. c.in_ok-work.ensures.solves budget few stands) c.edit.ensures.after
    c.edit.ensures.method way
