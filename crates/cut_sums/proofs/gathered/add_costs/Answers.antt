use Rattle.cut_sums.proofs.TallyLaws.{on_ok, bound_costs, ray_costs}
use Rattle.cut_sums.proofs.gathered.add_costs.Goals as goal

pub returns-in-Bound-clause-costs : goal.returns-in-Bound-clause-costs
returns-in-Bound-clause-costs c = on_ok c.add_form.result (bound_costs c.args.datum.now c.args.kind c.one.result c.cost.result.now c.args.tally.now c.add_form.new.tally c.in-Bound.is c.one.ensures c.cost.ensures c.requires) c.add_form.ensures.moved

pub returns-in-Ray-clause-costs : goal.returns-in-Ray-clause-costs
returns-in-Ray-clause-costs c = ray_costs c.args.datum.now c.args.kind c.args.tally.now c.in-Ray.is c.requires
