use Rattle.std.proofs.Common.{IfOk, rules}
use Rattle.scen_defs.specs.Program.{content}
use Rattle.nested_method.specs.Stands.{StandsOn}
use Rattle.smps_session.proofs.ComeLemmas.{shows_found}
use Rattle.smps_session.proofs.ListLemmas.{HasOrder, lists_found}
use Rattle.smps_session.proofs.ReasonLemmas.{true_told}
use Rattle.smps_session.proofs.ToldLemmas.{on_ok}
use Rattle.smps_session.proofs.running.found.Goals as goal

pub returns-clause-number : goal.returns-clause-number
returns-clause-number g c = c.report.ensures.number

pub returns-clause-counts : goal.returns-clause-counts
returns-clause-counts g c = c.report.ensures.counts

pub returns-clause-names : goal.returns-clause-names
returns-clause-names g c = c.report.ensures.names

pub returns-clause-lists : goal.returns-clause-lists
returns-clause-lists g c =
    let order : IfOk c.report.result HasOrder = search rules in
    lists_found c.args.program.now c.args.number c.in_ok-found.found.place c.in_ok-found.found.why c.args.budget.solves c.in_ok-found.found.claim
    c.report.result c.report.ensures.exact order

pub returns-clause-truth : goal.returns-clause-truth
returns-clause-truth g c = λ stands. true_told c.args.program.now c.args.budget c.in_ok-found.found c.args.number c.report.result
    (c.in_ok-found.ensures.why c.args.budget stands) c.report.ensures.exact c.report.ensures.truth

pub returns-clause-equal : goal.returns-clause-equal
returns-clause-equal g c = c.report.ensures.equal

pub returns-clause-stands : goal.returns-clause-stands
returns-clause-stands g c = λ stands. on_ok c.report.result (StandsOn (content c.args.program.now) c.args.budget c.find.new.self)
    (c.in_ok-found.ensures.stays c.args.budget stands)

pub returns-clause-shows : goal.returns-clause-shows
returns-clause-shows g c = λ start came few stands.
    shows_found c.args.budget start came c.args.program.now c.args.method.now c.find.new.self c.in_ok-found.found c.args.number c.report.result
    (c.in_ok-found.ensures.solves c.args.budget few stands) (c.in_ok-found.ensures.ends c.args.budget few stands)
    c.in_ok-found.ensures.steps c.report.ensures.exact c.report.ensures.truth stands
