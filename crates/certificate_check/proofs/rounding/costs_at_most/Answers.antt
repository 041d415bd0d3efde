use Rattle.std.proofs.Common.{Ok, sym, ap, ◌∙◌}
use Rattle.rationals.specs.Rational.{◌≤ℚ◌, le_trans_ℚ, at_most_true}
use Rattle.scen_defs.specs.Flat.{cost}
use Rattle.scen_defs.specs.Values.{at}
use Rattle.report_defs.specs.Seen.{seen}
use Rattle.certificate_check.proofs.HoldsLemmas.{of_some}
use Rattle.certificate_check.proofs.rounding.costs_at_most.Goals as goal

pub returns-in-Ok-Some : goal.returns-in-Ok-Some
returns-in-Ok-Some c = λ h. record {
  feasible = c.is_feasible.ensures c.if-not-is_feasible.false;
  costs = le_trans_ℚ (of_some c.cost_beside.result (λ q. cost (seen c.args.program.now) (at c.args.policy.now) ≤ℚ q) c.in-Ok-Some.cost (c.in-Ok-Some.is ∙ ap Ok c.in-Ok-Some.field-0-is) c.cost_beside.ensures) (at_most_true c.in-Ok-Some.cost c.args.upper (sym c.is_at_most.ensures ∙ h));
}
