use Rattle.std.proofs.Common.{sym, ◌∙◌, arith}
use Rattle.std.proofs.lemmas.List.{same_lists}
use Rattle.pass_core.proofs.jobs.solve_all.Goals as goal

pub returns : goal.returns
returns g c = same_lists c.for_each_mut.new.s c.args.jobs.now c.for_each_mut.auto.s (λ k d less.
    let h = (c.for_each_mut.ensures k d (omega (arith, less, c.for_each_mut.auto.s))).1 in
    sym h.left ∙ h.call ∙ h.argument_is)
