use Rattle.std.proofs.Common.{map}
use Rattle.dual_assemble.specs.Values.{point_entries}
use Rattle.dual_assemble.proofs.Numbers.{values_are_numbers}
use Rattle.dual_assemble.proofs.values.join_policy.Goals as goal

pub returns-clause-numbers : goal.returns-clause-numbers
returns-clause-numbers c = values_are_numbers (map point_entries c.args.points.now) c.in_ok-values.values c.in_ok-values.ensures.values c.in_ok-values.ensures.forms
