use Rattle.std.proofs.Common.{List, IfSome, sym, ap, subst, ◌∙◌}
use Rattle.rationals.specs.Rational.{zero_ℚ, ◌≤ℚ◌}
use Rattle.scen_defs.specs.Program.{Program, content}
use Rattle.pass_core.specs.declared.budget.Budget.{Budget}
use Rattle.value_measures.specs.Numbers.{numbers_told}
use Rattle.value_measures.specs.declared.numbers.ValueNumbers.{ValueNumbers}
use Rattle.value_measures.specs.declared.printed.ScenarioReport.{ScenarioReport}
use Rattle.value_measures.proofs.Worth.{information_nonneg, model_nonneg}
use Rattle.value_measures.proofs.measured.measure.Goals as goal

pub returns : goal.returns
returns g c =
    let p : Program = content c.args.program.now in
    let budget : Budget = record { solves = c.args.solves; pivots = c.args.pivots } in
    let made = c.of-numbers.ensures ∙ ap (λ (rs : List ScenarioReport). numbers_told c.in_ok-whole.whole rs c.in_ok-means.means c.in_ok-fixed.fixed) c.deref.ensures.value in
    record {
      whole = c.in_ok-whole.ensures;
      scenarios = c.in_ok-scenarios.ensures;
      means = c.in_ok-means.ensures;
      fixed = c.in_ok-fixed.ensures;
      numbers = made;
      information = subst (λ (n : ValueNumbers). IfSome n.information (λ v. zero_ℚ ≤ℚ v)) (sym made)
          (information_nonneg budget c.args.stated p c.in_ok-whole.whole c.in_ok-scenarios.scenarios.items c.args.program.now.keeps c.in_ok-whole.ensures c.in_ok-scenarios.ensures);
      model = subst (λ (n : ValueNumbers). IfSome n.model (λ v. zero_ℚ ≤ℚ v)) (sym made)
          (model_nonneg budget c.args.stated p c.in_ok-whole.whole c.in_ok-means.means c.in_ok-fixed.fixed c.in_ok-whole.ensures c.in_ok-means.ensures c.in_ok-fixed.ensures);
    }
