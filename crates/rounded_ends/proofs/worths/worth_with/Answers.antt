use Rattle.std.proofs.Common.{ℕ, subst, List}
use Rattle.rationals.specs.Rational.{ℚ}
use Rattle.scen_defs.specs.Program.{content, view_of}
use Rattle.scen_defs.specs.Values.{at}
use Rattle.std.proofs.Common.{Vec}
use Rattle.std.specs.declared.alloc.Global.{Global}
use Rattle.scen_model.specs.Gathered.{lists_in, column_number}
use Rattle.rounded_ends.specs.Runs.{Ran, columns_good, columns_worth}
use Rattle.rounded_ends.proofs.EndLemmas.{worth_told}
use Rattle.rounded_ends.proofs.worths.worth_with.Goals as goal

pub returns-in-Some-add_all_columns : goal.returns-in-Some-add_all_columns
returns-in-Some-add_all_columns c =
    let p = c.args.program.now in
    let v = view_of (content p) in
    let y = at c.args.values.now in
    let columns = subst (λ (seats : List ℕ). let d = column_number (lists_in c.in_ok-numbers.numbers.items) seats in
    Ran c.args.side (columns_good v d) (columns_worth v d) c.in-Some.sum v.live c.in-Some-add_all_columns.worth) c.as_slice-seats.ensures.value
    (subst (λ (numbers : List (Vec ℚ Global)). let d = column_number (lists_in numbers) c.as_slice-seats.result.now in
    Ran c.args.side (columns_good v d) (columns_worth v d) c.in-Some.sum v.live c.in-Some-add_all_columns.worth) c.as_slice.ensures.value c.in-Some-add_all_columns.ensures) in
    worth_told p y c.in_ok-seating.seating.seats.items (lists_in c.in_ok-numbers.numbers.items) c.in_ok-numbers.ensures c.args.side c.in-Some.sum c.in-Some-add_all_columns.worth c.told.result
    c.in-Some.ensures columns c.told.ensures
