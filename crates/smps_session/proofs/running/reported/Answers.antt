use Rattle.std.proofs.Common.{◌≡◌, ◌<◌, ◌^◌, true, false, inl, inr, arith}
use Rattle.scen_defs.specs.Program.{content}
use Rattle.nested_method.specs.Stands.{is_spent}
use Rattle.smps_session.specs.Comes.{tells_solves}
use Rattle.smps_session.proofs.ComeLemmas.{first_counts, counts_fewer, left_over, round_counts, ended_by, comes_of, tells_cleared}
use Rattle.smps_session.proofs.WayLemmas.{many_items, way_told}
use Rattle.smps_session.proofs.running.reported.Goals as goal

pub loop-init : goal.loop-init
loop-init g c = record {
  number = c.in_ok-report.ensures.number;
  counts = c.in_ok-report.ensures.counts;
  names = c.in_ok-report.ensures.names;
  lists = c.in_ok-report.ensures.lists;
  truth = λ stands. c.in_ok-report.ensures.truth stands;
  equal = c.in_ok-report.ensures.equal;
  stands = λ stands. c.in_ok-report.ensures.stands stands;
  under_way = λ start came few stands way. (c.in_ok-report.ensures.shows start came few stands, first_counts c.found.new.method);
}

pub loop-preserved : goal.loop-preserved
loop-preserved g c =
    let p = content c.args.program.now in
    let budget = c.args.budget in
    let left : (tells_solves c.loop.report.finding ≡ true) × (is_spent c.loop.method ≡ false) =
    left_over c.loop.report.finding c.loop.method c.is_unfinished.result c.is_unfinished.ensures c.if-not-is_unfinished.false in
    let bits : budget.solves < 2 ^ 64 = omega (arith, c.ranges) in
    record {
      number = c.in_ok-report-2.ensures.number;
      counts = c.in_ok-report-2.ensures.counts;
      names = c.in_ok-report-2.ensures.names;
      lists = c.in_ok-report-2.ensures.lists;
      truth = λ stands.
          c.in_ok-report-2.ensures.truth (c.in_ok-start_over.ensures.stays budget left.1 (c.loop.invariant.stands stands));
      equal = c.in_ok-report-2.ensures.equal;
      stands = λ stands.
          c.in_ok-report-2.ensures.stands (c.in_ok-start_over.ensures.stays budget left.1 (c.loop.invariant.stands stands));
      under_way = λ start came few stands way.
          let mid = c.loop.invariant.stands stands in
          let before = c.loop.invariant.under_way start came few stands way in
          round_counts budget start came c.args.program.now c.loop.counter c.args.method.now c.loop.method c.start_over.new.self c.found-in-loop.new.method
          c.loop.report c.in_ok-report-2.report bits left.0 left.1 mid few way before.0 before.1 (c.in_ok-start_over.ensures.solves budget few mid)
          (c.in_ok-report-2.ensures.shows start came few (c.in_ok-start_over.ensures.stays budget left.1 mid));
    }

pub returns-clause-stands : goal.returns-clause-stands
returns-clause-stands g c = λ stands. c.close.ensures.stays (content c.args.program.now) c.args.budget (c.loop.invariant.stands stands)

pub returns-clause-comes : goal.returns-clause-comes
returns-clause-comes g c = λ start came few stands rests way.
    let p = content c.args.program.now in
    let under = c.loop.invariant.under_way start came few stands way in
    comes_of c.args.budget start came c.args.program.now c.args.method.now c.loop.method c.close.new.self c.loop.report few
    (c.loop.invariant.stands stands) rests (c.loop.invariant.truth stands) way under.0
    (elim c.loop-test.branch [
      | goal.else-loop-test w ↦ inr (counts_fewer c.loop.counter c.args.budget.solves c.loop.method (omega (arith, w.loop-test.false)) under.1)
      | goal.then-loop-test+then-not-is_unfinished w ↦
          inl (ended_by c.loop.report.finding c.loop.method w.is_unfinished.result w.is_unfinished.ensures w.if-not-is_unfinished.true)
    ]) c.close.ensures.after

pub returns-clause-cleared : goal.returns-clause-cleared
returns-clause-cleared g c = λ few stands rests.
    let p = content c.args.program.now in
    tells_cleared c.args.budget p (2 ^ 20) c.args.program.now c.args.method.now c.loop.method c.close.new.self c.loop.report rests
    (c.loop.invariant.under_way p (2 ^ 20) few stands (many_items c.args.budget p p c.args.method.now)).0 c.close.ensures.after

pub returns-clause-way : goal.returns-clause-way
returns-clause-way g c = λ start came few stands way.
    way_told c.args.budget start came c.args.program.now c.args.method.now c.loop.method c.close.new.self c.loop.report
    (c.loop.invariant.stands stands) (c.loop.invariant.under_way start came few stands way).0 c.close.ensures.after way
