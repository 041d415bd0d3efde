use Rattle.std.proofs.Common.{sym, ap, ◌∙◌, subst, List}
use Rattle.rationals.specs.Sparse.{Entry, coefficient}
use Rattle.rationals.specs.Forms.{IsForm}
use Rattle.lp_defs.proofs.Placed.{ray_form_is, ray_is_form}
use Rattle.simplex_core.proofs.point.ray.Goals as goal

pub from_terms-requires : goal.from_terms-requires
from_terms-requires c = subst IsForm (sym c.in_ok-ray_terms.ensures) (ray_is_form c.args.column c.args.rows.now c.requires.differ c.requires.apart)

pub returns : goal.returns
returns c = λ k. ap (λ (f : List Entry). coefficient f k) (c.from_terms.ensures ∙ c.in_ok-ray_terms.ensures) ∙ ray_form_is c.args.column c.args.rows.now k
