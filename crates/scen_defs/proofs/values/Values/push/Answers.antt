use Rattle.std.proofs.Common.{sym, subst}
use Rattle.scen_defs.specs.Values.{AreValues, EndsBefore}
use Rattle.scen_defs.proofs.ValueLaws.{values-push}
use Rattle.scen_defs.proofs.values.Values.push.Goals as goal

pub invariant_of-self-2 : goal.invariant_of-self-2
invariant_of-self-2 c = subst AreValues (sym c.in_ok-push.ensures.items)
    (values-push _ _ _ _ c.self.invariant (subst (λ values. EndsBefore values c.args.node c.args.index) (sym c.self.view_is) c.requires.rises) c.requires.nonzero)
