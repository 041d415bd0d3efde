use Rattle.std.proofs.Common.{◌≡◌, ℕ, IfOk, subst}
use Rattle.scen_defs.specs.Program.{content}
use Rattle.nested_method.proofs.Numbers.{first_cleared}
use Rattle.smps_session.proofs.ComeLemmas.{comes_of_all}
use Rattle.smps_session.proofs.WayLemmas.{begins_way}
use Rattle.smps_session.proofs.running.session.Goals as goal

pub answer-requires-clause-truth : goal.answer-requires-clause-truth
answer-requires-clause-truth g c κs within = c.in_ok-own.ensures.truth c.in_ok-method.ensures.stands

pub returns-clause-number : goal.returns-clause-number
returns-clause-number g c =
    subst (λ (n : ℕ). IfOk c.answer.result (λ answered. answered.report.number ≡ n)) c.in_ok-own.ensures.number
    c.answer.ensures.number

pub returns-clause-comes : goal.returns-clause-comes
returns-clause-comes g c = λ few.
    let p = content c.args.program.now in
    let i = c.args.program.now.keeps in
    let begins = c.in_ok-method.ensures.begins few in
    comes_of_all _ c.args.stated c.args.program.now c.in_ok-method.method c.reported.new.method c.in_ok-own.own c.answer.result begins
    (c.in_ok-own.ensures.comes p 0 few c.in_ok-method.ensures.stands
    (first_cleared p (record { solves = c.args.solves; pivots = c.args.pivots }) c.in_ok-method.method begins)
    (begins_way (record { solves = c.args.solves; pivots = c.args.pivots }) 0 p c.in_ok-method.method i (λ small. begins)))
    c.answer.ensures.printed
