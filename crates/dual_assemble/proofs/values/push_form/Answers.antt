use Rattle.std.proofs.Common.{◌≡◌, sym, ap, subst, ◌∙◌, ◌++◌}
use Rattle.rationals.specs.Sparse.{Entry}
use Rattle.rationals.specs.Forms.{IsForm}
use Rattle.dual_assemble.specs.Values.{number_at}
use Rattle.dual_assemble.proofs.Pushing.{push_is_number, next_ready, next_ends, next_kept}
use Rattle.dual_assemble.proofs.values.push_form.Goals as goal

pub push_at-requires-clause-nonzero : goal.push_at-requires-clause-nonzero
push_at-requires-clause-nonzero c e =
    push_is_number c.args.place c.terms-term-items.result.now c.loop-term.term-index c.term-item.result c.loop-term-test.true c.term-item.is
    (subst IsForm (sym c.terms-term-items.ensures) c.keeps_order.ensures) (sym (ap (λ (t : Entry). t.value) c.term.view_is) ∙ e)

pub loop-term-preserved : goal.loop-term-preserved
loop-term-preserved c =
    let w : c.push_at.new.values ≡ c.loop-term.values ++ number_at c.args.place c.term-item.result.column c.term-item.result.value
    = c.in_ok-push_at.ensures ∙ ap (λ (t : Entry). c.loop-term.values ++ number_at c.args.place t.column t.value) c.term.view_is in
    record {
      ready = next_ready c.args.place c.terms-term-items.result.now c.loop-term.term-index c.term-item.result c.loop-term-test.true c.term-item.is c.loop-term.values c.push_at.new.values
          (subst IsForm (sym c.terms-term-items.ensures) c.keeps_order.ensures) c.loop-term.invariant.ready w;
      ends = next_ends c.args.place c.terms-term-items.result.now c.loop-term.term-index c.term-item.result c.loop-term-test.true c.term-item.is c.loop-term.values c.push_at.new.values c.loop-term.invariant.ends w;
      kept = next_kept c.args.place c.terms-term-items.result.now c.loop-term.term-index c.term-item.result c.loop-term-test.true c.term-item.is c.loop-term.values c.push_at.new.values _ w c.loop-term.invariant.kept;
    }
