use Rattle.std.proofs.Common.{subst, sym, ap₂, ◌∙◌}
use Rattle.rationals.specs.Forms.{IsForm}
use Rattle.tail_risk.specs.TailRow.{merged}
use Rattle.tail_risk.proofs.Merges.{merged_is_form}
use Rattle.tail_risk.proofs.path.merged_form.Goals as goal

pub from_terms-requires : goal.from_terms-requires
from_terms-requires c = subst IsForm (sym (c.in_ok-terms.ensures ∙ ap₂ merged c.terms.ensures c.terms-2.ensures))
    (merged_is_form c.args.one.now c.args.other.now c.keeps_order.ensures c.keeps_order-2.ensures c.requires)
