use Rattle.std.proofs.Common.{◌+◌}
use Rattle.simplex_core.proofs.Follows.{best_here, open_here, further_here, stops_here, stops_within}
use Rattle.simplex_core.proofs.tableau.Tableau.follow.Goals as goal

pub returns-in-Ok-Done-clause-reached : goal.returns-in-Ok-Done-clause-reached
returns-in-Ok-Done-clause-reached c = best_here c.args.columns c.args.pivots c.loop-before.before c.loop-before.self c.step.new.self _ c.in-Ok-Done.field-0 c.loop-before-test.true c.loop-before.invariant c.in-Ok-Done.field-0-is c.in-Ok-Done.ensures

pub returns-in-Ok-Open-clause-reached : goal.returns-in-Ok-Open-clause-reached
returns-in-Ok-Open-clause-reached c = open_here c.args.columns c.args.pivots c.loop-before.before c.in-Ok-Open.column c.loop-before.self c.step.new.self _ c.in-Ok-Open.field-0 c.loop-before-test.true c.loop-before.invariant c.in-Ok-Open.field-0-is c.in-Ok-Open.ensures

pub returns-in-Err-clause-reached : goal.returns-in-Err-clause-reached
returns-in-Err-clause-reached c = stops_here c.args.columns c.args.pivots c.loop-before.before c.loop-before.self c.step.new.self _ c.in-Err.fault c.stopped.result c.loop-before-test.true c.loop-before.invariant c.in-Err.ensures c.stopped.ensures

pub loop-before-preserved : goal.loop-before-preserved
loop-before-preserved c = further_here c.args.columns c.args.pivots c.loop-before.before c.loop-before.self c.step.new.self _ c.in-Ok-Pivoted.field-0 c.loop-before-test.true c.loop-before.invariant c.in-Ok-Pivoted.field-0-is c.in-Ok-Pivoted.ensures

pub returns-in-Err-clause-within : goal.returns-in-Err-clause-within
returns-in-Err-clause-within c = stops_within c.args.pivots c.in-Err.fault (c.loop-before.before + 1) c.stopped.result c.stopped.ensures
