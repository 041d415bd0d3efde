use Rattle.std.proofs.Common.{◌∙◌, ◌++◌, ap, inl, inr, drop, drop_of_length-le}
use Rattle.tail_risk.proofs.Steps.{merged_over, rest_taken}
use Rattle.tail_risk.proofs.path.merged_terms.Goals as goal
use Rattle.tail_risk.proofs.path.merged_terms.Goals.{then-both-test+else-j-ys, else-both-test}

pub returns : goal.returns
returns c = merged_over c.both.all.items c.extend_from_slice.new.self.items c.extend_from_slice-2.new.self.items (drop c.both.i c.args.xs.now) (drop c.both.j c.args.ys.now) _
    (c.in_ok-extend_from_slice.ensures.items ∙ ap (λ l. c.both.all.items ++ l) (rest_taken c.args.xs.now c.both.i)) (c.in_ok-extend_from_slice-2.ensures.items ∙ ap (λ l. c.extend_from_slice.new.self.items ++ l) (rest_taken c.args.ys.now c.both.j)) c.both.invariant.kept
    (elim c.both-test.branch [
      | then-both-test+else-j-ys w ↦ inl (drop_of_length-le c.args.ys.now w.if-j-ys.false)
      | else-both-test w ↦ inr (drop_of_length-le c.args.xs.now w.both-test.false)
    ])
