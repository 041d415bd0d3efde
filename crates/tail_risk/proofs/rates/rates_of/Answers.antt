use Rattle.std.proofs.Common.{◌∙◌, ap, sym}
use Rattle.rationals.specs.Passes.{sub_walk}
use Rattle.tail_risk.proofs.Steps.{rest_nonzero}
use Rattle.tail_risk.proofs.rates.rates_of.Goals as goal

pub div-requires : goal.div-requires
div-requires c = rest_nonzero c.args.level c.in_ok-rest.rest c.requires (sym (c.in_ok-rest.ensures ∙ ap (λ o. sub_walk o c.args.level) c.one.ensures))
