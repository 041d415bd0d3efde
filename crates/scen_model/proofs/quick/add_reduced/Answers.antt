use Rattle.std.proofs.Common.{ℕ, List, Vec, ap₂, subst, ◌∙◌}
use Rattle.std.specs.declared.alloc.Global.{Global}
use Rattle.rationals.specs.Rational.{ℚ}
use Rattle.scen_defs.specs.Program.{content, view_of}
use Rattle.scen_defs.specs.Values.{at}
use Rattle.scen_model.specs.Walks.{fold_walk, costs_of}
use Rattle.scen_model.specs.Gathered.{lists_in, column_number, columns_with, Finishes}
use Rattle.scen_model.proofs.QuickLemmas.{all_are}
use Rattle.scen_model.proofs.quick.add_reduced.Goals as goal

pub returns : goal.returns
returns c =
    let p = c.args.program.now in
    let v = view_of (content p) in
    subst (λ walk. Finishes walk c.followed.result)
    (c.add_all_reduced.ensures
    ∙ ap₂ (λ (numbers : List (Vec ℚ Global)) (seats : List ℕ). fold_walk (λ s n. columns_with v (column_number (lists_in numbers) seats n) s n) c.args.start v.live) c.as_slice.ensures.value c.as_slice-seats.ensures.value
    ∙ all_are p (costs_of c.args.costs v) (at c.args.values.now) c.in_ok-seating.seating.seats.items (lists_in c.in_ok-numbers.numbers.items) c.in_ok-numbers.ensures c.args.start)
    c.followed.ensures
