use Rattle.std.proofs.Common.{◌≡◌, sym, ap, ◌∙◌}
use Rattle.rationals.specs.Rational.{ℚ, ◌+ℚ◌, ◌≤ℚ◌}
use Rattle.rationals.specs.Sparse.{coefficient, product}
use Rattle.cut_defs.specs.declared.kinds.CutKind.{CutKind}
use Rattle.cut_defs.specs.Stored.{constant_of, form_of}
use Rattle.cut_sums.proofs.TallyLaws.{on_ok}
use Rattle.node_lp.specs.Records.{limit_of}
use Rattle.node_lp.proofs.PointTests.{value_is, met}
use Rattle.node_lp.proofs.point_tests.test_cut.Goals as goal

pub returns-in-Bound : goal.returns-in-Bound
returns-in-Bound c =
    let value : c.in_ok-value.value ≡ constant_of c.args.cut.now +ℚ product (form_of c.args.cut.now) (coefficient c.args.at.now) =
    value_is (coefficient c.args.at.now) c.constant.result (constant_of c.args.cut.now) c.in_ok-value.value c.terms.result.now (form_of c.args.cut.now)
    c.constant.ensures (c.terms.ensures ∙ c.form.ensures) (sym c.in_ok-value.ensures) in
    on_ok c.at_most.result
    (λ (h : c.in_ok-value.value ≤ℚ c.child_cost.result). met c.args.at.now c.args.costs.now c.args.place c.args.cut.now c.in_ok-value.value c.child_cost.result value
    (c.child_cost.ensures ∙ sym (ap (λ (k : CutKind). limit_of k c.args.costs.now c.args.place) (sym c.kind.ensures ∙ c.in-Bound.is))) h) c.at_most.ensures

pub returns-in-Ray : goal.returns-in-Ray
returns-in-Ray c =
    let value : c.in_ok-value.value ≡ constant_of c.args.cut.now +ℚ product (form_of c.args.cut.now) (coefficient c.args.at.now) =
    value_is (coefficient c.args.at.now) c.constant.result (constant_of c.args.cut.now) c.in_ok-value.value c.terms.result.now (form_of c.args.cut.now)
    c.constant.ensures (c.terms.ensures ∙ c.form.ensures) (sym c.in_ok-value.ensures) in
    on_ok c.at_most-in-Ray.result
    (λ (h : c.in_ok-value.value ≤ℚ c.zero.result). met c.args.at.now c.args.costs.now c.args.place c.args.cut.now c.in_ok-value.value c.zero.result value
    (c.zero.ensures ∙ sym (ap (λ (k : CutKind). limit_of k c.args.costs.now c.args.place) (sym c.kind.ensures ∙ c.in-Ray.is))) h) c.at_most-in-Ray.ensures
