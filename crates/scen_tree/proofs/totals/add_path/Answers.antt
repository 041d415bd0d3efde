use Rattle.std.proofs.Common.{◌≡◌, ◌∙◌, ap, sym, subst, suc, take, [], ◌∷◌, length, get_or, set, arith}
use Rattle.std.proofs.lemmas.List.{take_more}
use Rattle.scen_tree.specs.Sums.{more, with_path}
use Rattle.scen_tree.proofs.SumLemmas.{path_past, path_known, path_new, with_no_path, with_path_length}
use Rattle.scen_tree.proofs.totals.add_path.Goals as goal
use Rattle.scen_tree.proofs.totals.add_path.Goals.{then-number-len+then-not-passes, else-number-len, else-number-len-via-then-number-len+else-not-passes, else-number-len-via-else-number-len}

pub loop-place-init : goal.loop-place-init
loop-place-init c = sym (with_no_path c.args.probability 0 c.args.sums.now.items)

pub loop-place-preserved : goal.loop-place-preserved
loop-place-preserved c =
    let place = c.loop-place.place in
    let path = c.args.path.now in
    let before = take place path in
    let node = get_or path place 0 in
    let start = c.args.sums.now.items in
    let p = c.args.probability in
    let next = sym (ap (λ nodes. with_path nodes p 0 start) (take_more path place 0 c.loop-place-test.true)) in
    let long : length c.loop-place.sums.items ≡ length start = ap length c.loop-place.invariant ∙ with_path_length before p 0 start in
    elim c.if-number-len.branch [
      | then-number-len+then-not-passes w ↦
          ap (λ v. v.items) w.sums-is
          ∙ ap (λ sum. set c.loop-place.sums.items node sum) (w.more.ensures ∙ ap (more p) w.index-sum.ensures)
          ∙ ap (λ sums. set sums node (more p (get_or sums node w.index-sum.result.now))) c.loop-place.invariant
          ∙ sym (path_new before node node p 0 start w.index-sum.result.now (omega arith) (omega (arith, w.if-number-len.true, c.len.ensures, long)) (sym w.passes.ensures ∙ w.if-not-passes.true))
          ∙ next
      | else-number-len w ↦ elim w.else-number-len.branch [
        | else-number-len-via-then-number-len+else-not-passes w' ↦
            ap (λ v. v.items) w.sums-is ∙ c.loop-place.invariant ∙ sym (path_known before node p 0 start (sym w'.passes.ensures ∙ w'.if-not-passes.false)) ∙ next
        | else-number-len-via-else-number-len w' ↦
            ap (λ v. v.items) w.sums-is ∙ c.loop-place.invariant ∙ sym (path_past before node p 0 start (λ k low high e. omega (arith, w'.if-number-len.false, c.len.ensures, long))) ∙ next
      ]
    ]
