use Rattle.std.proofs.Common.{◌≡◌, ◌+◌, ◌<◌, ◌∙◌, refl, sym, ap, subst, length, drop, drop_of_length-le, arith}
use Rattle.rationals.specs.Sparse.{Ascending}
use Rattle.frac128.proofs.FormLemmas.{term_read, rises_drop}
use Rattle.smps_build.specs.Gathered.{with_column}
use Rattle.smps_build.proofs.Gathering.{AreOpen, no_entries, other_rows, at_own_row, all_open, still_open}
use Rattle.smps_build.proofs.forms.add_column.Goals as goal
use Rattle.smps_build.proofs.forms.add_column.Goals.{then-row-len+in_ok-put, else-row-len}

pub loop-term-init : goal.loop-term-init
loop-term-init c = record { kept = refl; unfilled = all_open c.args.column c.args.entries.now c.args.forms.now.items c.requires.below }

pub loop-term-preserved : goal.loop-term-preserved
loop-term-preserved c =
    let read = term_read c.args.entries.now c.loop-term.term-index c.term-item.result _ c.loop-term-test.true c.term-item.is c.term.view_is in
    let rises = subst (Ascending 0) read (rises_drop c.loop-term.term-index c.args.entries.now c.requires.rises) in
    let kept = subst (λ es. with_column c.args.column es 0 c.loop-term.forms.items ≡ with_column c.args.column c.args.entries.now 0 c.args.forms.now.items) read c.loop-term.invariant.kept in
    let unfilled = subst (λ es. AreOpen c.args.column es c.loop-term.forms.items) read c.loop-term.invariant.unfilled in
    elim c.if-row-len.branch [
      | then-row-len+in_ok-put w ↦ (
          let forms = ap (λ forms. forms.items) w.forms-is in
          let below : c.term.inside.column < length c.loop-term.forms.items = omega arith in
          record {
            kept = ap (with_column c.args.column (drop (c.loop-term.term-index + 1) c.args.entries.now) 0) forms
                ∙ sym (at_own_row c.args.column _ _ w.index_mut.result.now w.put.new.form c.loop-term.forms.items below rises w.index_mut.ensures.value w.in_ok-put.ensures.ok) ∙ kept;
            unfilled = subst (AreOpen c.args.column (drop (c.loop-term.term-index + 1) c.args.entries.now)) (sym forms)
                (still_open c.args.column _ c.term.inside.column w.put.new.form _ c.loop-term.forms.items (omega arith) rises.1 unfilled.1);
          }
          )
      | else-row-len w ↦ (
          let forms = ap (λ forms. forms.items) w.forms-is in
          record {
            kept = ap (with_column c.args.column (drop (c.loop-term.term-index + 1) c.args.entries.now) 0) forms
                ∙ sym (other_rows c.args.column 0 _ (drop (c.loop-term.term-index + 1) c.args.entries.now) c.loop-term.forms.items (λ k b same. absurd (omega (arith, same)))) ∙ kept;
            unfilled = subst (AreOpen c.args.column (drop (c.loop-term.term-index + 1) c.args.entries.now)) (sym forms) unfilled.1;
          }
          )
    ]

pub returns : goal.returns
returns c =
    sym (no_entries c.args.column 0 c.loop-term.forms.items)
    ∙ subst (λ es. with_column c.args.column es 0 c.loop-term.forms.items ≡ with_column c.args.column c.args.entries.now 0 c.args.forms.now.items)
    (drop_of_length-le c.args.entries.now c.loop-term-test.false) c.loop-term.invariant.kept
