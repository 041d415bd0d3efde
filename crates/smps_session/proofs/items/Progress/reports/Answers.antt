use Rattle.std.proofs.Common.{ℕ, ◌+◌, refl, sym, subst}
use Rattle.scen_defs.specs.Program.{content}
use Rattle.nested_method.proofs.Numbers.{first_cleared}
use Rattle.smps_session.specs.Courses.{course_at}
use Rattle.smps_session.proofs.ToldLemmas.{IsOnCourse, begins_course, item_allowed, stays_on_course, all_told}
use Rattle.smps_session.proofs.WayLemmas.{begins_way}
use Rattle.smps_session.proofs.items.Progress.reports.Goals as goal

pub loop-rest-init : goal.loop-rest-init
loop-rest-init g c =
    let p = content c.args.program.now in
    record {
      counted = c.requires.counted;
      stands = c.requires.stands;
      cleared = λ few. first_cleared p c.args.budget c.args.self.now.method (c.requires.begins few);
      come = record {
        first = c.args.self.now.method;
        begins = c.requires.begins;
        came = 0;
        way = begins_way c.args.budget 0 p c.args.self.now.method c.args.program.now.keeps c.requires.begins;
        course = subst (λ (n : ℕ). IsOnCourse c.args.budget c.args.stated p c.args.self.now.method c.args.items.now c.args.items.now
            (course_at p c.args.self.now.method 0 n c.new-tolds.result.items)) (sym c.requires.number)
            (begins_course c.args.budget c.args.stated p c.args.self.now.method c.args.items.now c.args.items.now c.new-tolds.result.items refl
            c.new-tolds.ensures.items c.requires.allowed);
      };
    }

pub take-requires-clause-allowed : goal.take-requires-clause-allowed
take-requires-clause-allowed g c κs within = item_allowed (content c.loop-rest.program) c.item-item.result c.loop-rest.rest.now
    c.in-len1-up.len_at_least c.item-item.is c.loop-rest.invariant.come.course.0

pub take-requires-clause-stands : goal.take-requires-clause-stands
take-requires-clause-stands g c κs within = c.loop-rest.invariant.stands

pub take-requires-clause-cleared : goal.take-requires-clause-cleared
take-requires-clause-cleared g c κs within = c.loop-rest.invariant.cleared

pub loop-rest-preserved : goal.loop-rest-preserved
loop-rest-preserved g c = record {
  counted = c.in_ok-take.ensures.counted;
  stands = c.in_ok-take.ensures.stands;
  cleared = c.in_ok-take.ensures.cleared;
  come = let h = c.loop-rest.invariant.come in record {
    first = h.first;
    begins = h.begins;
    came = h.came + 1;
    way = c.in_ok-take.ensures.way (content c.args.program.now) h.came h.way;
    course = stays_on_course c.args.budget c.args.stated (content c.args.program.now) h.first
        c.args.items.now c.loop-rest.rest.now c.item-item.result
        (course_at (content c.loop-rest.program) c.loop-rest.self.method h.came c.loop-rest.self.number c.loop-rest.tolds.items)
        (course_at (content c.take.new.program) c.take.new.self.method (h.came + 1) c.take.new.self.number c.take.new.tolds.items)
        c.in-len1-up.len_at_least c.item-item.is h.course (c.in_ok-take.ensures.course (content c.args.program.now) h.came h.way);
  };
}

pub returns : goal.returns
returns g c = record {
  method = c.loop-rest.invariant.come.first;
  begins = c.loop-rest.invariant.come.begins;
  told = all_told c.args.budget c.args.stated (content c.args.program.now) c.loop-rest.invariant.come.first
      c.args.items.now c.loop-rest.rest.now
      (course_at (content c.loop-rest.program) c.loop-rest.self.method c.loop-rest.invariant.come.came c.loop-rest.self.number
      c.loop-rest.tolds.items) c.in_default.len_below c.loop-rest.invariant.come.course;
}
