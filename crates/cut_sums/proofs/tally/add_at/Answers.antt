use Rattle.std.proofs.Common.{◌<◌, length, refl, ap, ◌∙◌, arith}
use Rattle.rationals.specs.Rational.{◌+ℚ◌, ◌*ℚ◌}
use Rattle.rationals.specs.Sparse.{Entry}
use Rattle.cut_sums.proofs.TallyLaws.{sum_rises, sum_moves}
use Rattle.cut_sums.proofs.tally.add_at.Goals as goal

pub returns-clause-rises : goal.returns-clause-rises
returns-clause-rises c =
    let within : c.likely_place-place.result < length c.args.tally.now = omega (arith, c.if-place-tally.false) in
    let here = c.if-found-term.false ∙ ap (λ (e : Entry). e.column) c.term.view_is in
    sum_rises c.args.tally.now _ c.likely_place-place.result c.index-tally-place.result _ c.args.term c.args.weight c.in_ok-value.value c.requires within c.index-tally-place.is c.found.view_is here refl

pub returns-clause-moved : goal.returns-clause-moved
returns-clause-moved c =
    let within : c.likely_place-place.result < length c.args.tally.now = omega (arith, c.if-place-tally.false) in
    let here = c.if-found-term.false ∙ ap (λ (e : Entry). e.column) c.term.view_is in
    let sum = c.in_ok-value.ensures.sum ∙ ap (λ (e : Entry). c.found.inside.value +ℚ c.args.weight *ℚ e.value) c.term.view_is in
    sum_moves c.args.tally.now _ c.likely_place-place.result c.index-tally-place.result _ c.args.term c.args.weight c.in_ok-value.value c.requires within c.index-tally-place.is c.found.view_is here refl
    sum c.in_ok-value.ensures.fits
