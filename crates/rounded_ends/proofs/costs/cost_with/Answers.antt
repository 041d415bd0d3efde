use Rattle.std.proofs.Common.{subst}
use Rattle.rationals.specs.Rational.{ℚ}
use Rattle.scen_defs.specs.Program.{content, view_of}
use Rattle.scen_defs.specs.Values.{at}
use Rattle.scen_defs.specs.Flat.{cost}
use Rattle.rounded_sums.specs.Sides.{Beside}
use Rattle.rounded_ends.proofs.EndLemmas.{cost_is}
use Rattle.rounded_ends.proofs.RunLemmas.{sum_told}
use Rattle.rounded_ends.proofs.costs.cost_with.Goals as goal

pub returns-in-Some : goal.returns-in-Some
returns-in-Some c =
    let x = at c.args.values.now in
    sum_told c.args.side (cost (view_of (content c.args.program.now)) x) c.in-Some.cost c.told.result
    (subst (λ (z : ℚ). Beside c.args.side z c.in-Some.cost) (cost_is c.args.program.now c.args.totals.now c.requires.all_totals c.requires.totals x) c.in-Some.ensures) c.told.ensures
