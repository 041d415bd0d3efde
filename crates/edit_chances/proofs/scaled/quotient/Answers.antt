use Rattle.std.proofs.Common.{◌∙◌, ap, sym, Ok}
use Rattle.rationals.specs.Passes.{div_walk}
use Rattle.scen_tree.proofs.SumLemmas.{quotient_by_zero}
use Rattle.edit_chances.proofs.scaled.quotient.Goals as goal

pub returns-then-is_zero : goal.returns-then-is_zero
returns-then-is_zero c =
    ap Ok c.zero.ensures ∙ sym (ap (λ b. div_walk c.args.number b) (c.is_zero.ensures.0 c.if-is_zero.true) ∙ quotient_by_zero c.args.number)
