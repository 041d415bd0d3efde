use Rattle.std.proofs.Common.{◌≡◌, ◌∙◌, List, length, sym, ap, subst}
use Rattle.rationals.specs.Rational.{ℚ}
use Rattle.rationals.specs.Sparse.{Entry}
use Rattle.rationals.specs.Forms.{IsForm}
use Rattle.lp_defs.specs.Program.{NoneNegative}
use Rattle.scen_defs.specs.declared.program.NodeRow.{NodeRow}
use Rattle.cut_sums.proofs.TallyLaws.{on_ok}
use Rattle.node_lp.specs.Weighed.{Weighed}
use Rattle.node_lp.specs.Problem.{problem_of}
use Rattle.node_lp.specs.Places.{OfRows}
use Rattle.node_lp.specs.Records.{HasWeights}
use Rattle.node_lp.proofs.ShownLemmas.{count_is}
use Rattle.node_lp.proofs.shown.test_record.Goals as goal

pub returns : goal.returns
returns c =
    let rows : c.multipliers.inside.rows ≡ c.args.multipliers.now.rows = ap (λ (w : Weighed). w.rows) c.multipliers.view_is in
    let weights : c.multipliers.inside.weights.items ≡ c.args.multipliers.now.weights = ap (λ (w : Weighed). w.weights) c.multipliers.view_is in
    on_ok c.test_kind.result
    (λ (k : HasWeights (problem_of c.args.task.now) c.args.kind c.deref-2.result.now). record {
      one_each = ap length (sym (c.deref.ensures.value ∙ weights)) ∙ c.deref.ensures.len ∙ sym c.len.ensures ∙ c.if-len-cuts.false
          ∙ count_is c.args.task.now c.args.cuts.now c.requires.cuts;
      none_below = subst NoneNegative (c.deref.ensures.value ∙ weights) c.in_ok-test_signs.ensures;
      weights = subst (HasWeights (problem_of c.args.task.now) c.args.kind) (c.deref-2.ensures.value ∙ weights) k;
      places = subst (λ (rs : List NodeRow). OfRows rs c.args.multipliers.now.rows) c.rows.ensures
          (subst (λ (f : List Entry). OfRows c.rows.result.now f) (c.terms.ensures ∙ rows) c.in_ok-test_rows.ensures);
      rises = subst IsForm rows c.keeps_order.ensures;
    }) c.test_kind.ensures
