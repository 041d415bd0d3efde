use Rattle.std.proofs.Common.{sym, subst}
use Rattle.rationals.specs.Forms.{IsForm}
use Rattle.tree_build.proofs.TermLemmas.{set_form}
use Rattle.tree_build.proofs.terms.with_value.Goals as goal

pub from_terms-requires : goal.from_terms-requires
from_terms-requires c = subst IsForm (sym c.in_ok-set_term.ensures) (set_form c.args.column c.args.value c.into_terms-terms.result.items c.into_terms-terms.ensures.form)
