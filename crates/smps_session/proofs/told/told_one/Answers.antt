use Rattle.std.proofs.Common.{◌∙◌}
use Rattle.smps_session.proofs.ToldLemmas.{tells, on_ok}
use Rattle.smps_session.proofs.told.told_one.Goals as goal

pub answer-requires-clause-truth : goal.answer-requires-clause-truth
answer-requires-clause-truth g c κs within = c.in_ok-own.ensures.truth c.requires.stands

pub returns-clause-told : goal.returns-clause-told
returns-clause-told g c = λ start came way.
    tells c.args.budget c.args.stated start came c.args.number c.args.program.now c.args.method.now c.reported.new.method c.in_ok-own.own
    c.in_ok-answered.answered c.printed.result
    (c.in_ok-answered.ensures.number ∙ c.in_ok-own.ensures.number)
    c.printed.ensures.text c.printed.ensures.finding c.printed.ensures.by_whole
    c.in_ok-answered.ensures.counts
    c.in_ok-answered.ensures.truth
    c.in_ok-answered.ensures.lists
    c.in_ok-answered.ensures.equal
    (λ few. c.in_ok-own.ensures.comes start came few c.requires.stands (c.requires.cleared few) way)
    c.in_ok-answered.ensures.printed

pub returns-clause-stands : goal.returns-clause-stands
returns-clause-stands g c = on_ok c.printed.result _ (c.in_ok-own.ensures.stands c.requires.stands)

pub returns-clause-cleared : goal.returns-clause-cleared
returns-clause-cleared g c = λ few. on_ok c.printed.result _ (c.in_ok-own.ensures.cleared few c.requires.stands (c.requires.cleared few))

pub returns-clause-way : goal.returns-clause-way
returns-clause-way g c = λ start came way.
    on_ok c.printed.result _ (λ few. c.in_ok-own.ensures.way start came few c.requires.stands way few)
