use Rattle.std.proofs.Common.{sym, ap, ◌∙◌, subst, List}
use Rattle.rationals.specs.Sparse.{Entry, coefficient}
use Rattle.rationals.specs.Forms.{IsForm}
use Rattle.lp_defs.proofs.Placed.{point_form_is, point_is_form}
use Rattle.simplex_core.proofs.point.point.Goals as goal

pub from_terms-requires : goal.from_terms-requires
from_terms-requires c = subst IsForm (sym c.in_ok-point_terms.ensures) (point_is_form c.args.rows.now c.requires)

pub returns : goal.returns
returns c = λ k. ap (λ (f : List Entry). coefficient f k) (c.from_terms.ensures ∙ c.in_ok-point_terms.ensures) ∙ point_form_is c.args.rows.now k
