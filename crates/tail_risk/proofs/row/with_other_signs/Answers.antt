use Rattle.std.proofs.Common.{subst, sym, ap, ◌∙◌}
use Rattle.rationals.specs.Forms.{IsForm}
use Rattle.tail_risk.specs.TailRow.{with_other_signs}
use Rattle.tail_risk.proofs.Merges.{turned_is_form}
use Rattle.tail_risk.proofs.row.with_other_signs.Goals as goal

pub from_terms-requires : goal.from_terms-requires
from_terms-requires c = subst IsForm (sym (c.in_ok-terms.ensures ∙ ap with_other_signs c.terms.ensures)) (turned_is_form c.args.form.now c.keeps_order.ensures)
