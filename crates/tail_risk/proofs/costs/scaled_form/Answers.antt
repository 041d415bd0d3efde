use Rattle.std.proofs.Common.{subst, sym}
use Rattle.rationals.specs.Forms.{IsForm}
use Rattle.tail_risk.proofs.Scaled.{scaled_is_form}
use Rattle.tail_risk.proofs.costs.scaled_form.Goals as goal

pub from_terms-requires : goal.from_terms-requires
from_terms-requires c = scaled_is_form c.args.factor c.terms.result.now c.in_ok-terms.terms.items (subst IsForm (sym c.terms.ensures) c.keeps_order.ensures) c.in_ok-terms.ensures
