use Rattle.std.proofs.Common.{◌≡◌, ◌*◌, ◌/◌, arith, ap, sym, ◌∙◌, rules, div-add-mod'}
use Rattle.edit_chances.proofs.PortionSums.{in_portions}
use Rattle.edit_chances.proofs.portions.portions_of.Goals as goal

pub returns : goal.returns
returns c =
    let den = c.denominator-den.result in
    let times = c.args.common / den in
    let divides : times * den ≡ c.args.common = omega (arith, c.if-common-den-ne0.false, div-add-mod' c.args.common den) in
    let product : c.in_ok-portions.portions ≡ c.in_ok-numerator.field-0 * times = search rules in
    in_portions c.args.probability c.in_ok-numerator.field-0 times c.in_ok-portions.portions c.args.common c.requires c.in_ok-numerator.ensures
    (ap (λ n. times * n) (sym c.denominator-den.ensures) ∙ divides) product
