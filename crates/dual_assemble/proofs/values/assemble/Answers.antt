use Rattle.std.proofs.Common.{List, ap, subst, ◌∙◌}
use Rattle.rationals.specs.Sparse.{Entry}
use Rattle.rationals.specs.Forms.{IsForm}
use Rattle.scen_defs.specs.Lists.{Each}
use Rattle.dual_assemble.specs.Values.{numbers_by_node}
use Rattle.dual_assemble.proofs.Numbers.{numbers_are_flat}
use Rattle.dual_assemble.proofs.values.assemble.Goals as goal

pub returns-clause-numbers : goal.returns-clause-numbers
returns-clause-numbers c =
    numbers_are_flat c.args.cut.now c.in_ok-forms.forms.items c.in_ok-values.values c.in_ok-forms.ensures
    (c.in_ok-values.ensures.values ∙ ap (numbers_by_node 0) c.deref.ensures.value) (subst (λ (l : List (List Entry)). Each IsForm l) c.deref.ensures.value c.in_ok-values.ensures.forms)
