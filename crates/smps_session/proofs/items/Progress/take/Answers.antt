use Rattle.std.proofs.Common.{◌+◌}
use Rattle.scen_defs.specs.Program.{content}
use Rattle.smps_session.specs.Courses.{course_at}
use Rattle.smps_session.proofs.ToldLemmas.{edit_allowed, is_behind_edit, is_behind_solve}
use Rattle.smps_session.proofs.items.Progress.take.Goals as goal

pub change-requires-clause-allowed : goal.change-requires-clause-allowed
change-requires-clause-allowed g c κs within =
    edit_allowed (content c.args.program.now) c.args.item.now c.in-Change.edit c.in-Change.is c.requires.allowed

pub returns-in-Change-clause-course : goal.returns-in-Change-clause-course
returns-in-Change-clause-course g c = λ start came way.
    is_behind_edit c.change.result c.args.budget c.args.stated start c.args.item.now.work c.args.item.now.act c.in-Change.edit
    (content c.args.program.now) (content c.change.new.program) c.args.self.now.method c.change.new.self.method
    came c.args.self.now.number c.change.new.self.number c.args.tolds.now.items
    c.in-Change.is c.change.ensures.after c.change.ensures.number (c.change.ensures.takes c.args.budget c.requires.stands)

pub returns-in-Solve-clause-course : goal.returns-in-Solve-clause-course
returns-in-Solve-clause-course g c = λ start came way.
    is_behind_solve c.tell.result c.args.budget c.args.stated start c.args.item.now.work c.args.item.now.act
    (course_at (content c.args.program.now) c.args.self.now.method came c.args.self.now.number c.args.tolds.now.items)
    (course_at (content c.args.program.now) c.tell.new.self.method (came + 1) c.tell.new.self.number c.tell.new.tolds.items)
    c.in-Solve.is (c.tell.ensures.told start came way)

pub returns-in-Change-clause-stands : goal.returns-in-Change-clause-stands
returns-in-Change-clause-stands g c = c.change.ensures.stands c.args.budget c.requires.stands

pub returns-in-Solve-clause-stands : goal.returns-in-Solve-clause-stands
returns-in-Solve-clause-stands g c = c.tell.ensures.stands

pub returns-in-Change-clause-way : goal.returns-in-Change-clause-way
returns-in-Change-clause-way g c = λ start came way. c.change.ensures.way c.args.budget start came c.requires.stands way

pub returns-in-Solve-clause-way : goal.returns-in-Solve-clause-way
returns-in-Solve-clause-way g c = c.tell.ensures.way
