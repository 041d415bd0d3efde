use Rattle.std.proofs.Common.{◌≡◌, ℕ, List, Vec, length, sym, subst, arith}
use Rattle.std.specs.Vec.{with_items}
use Rattle.std.specs.declared.alloc.Global.{Global}
use Rattle.std.proofs.lemmas.List.{with_items_is}
use Rattle.rationals.specs.Rational.{ℚ}
use Rattle.scen_defs.specs.Program.{content, view_of}
use Rattle.scen_defs.specs.Values.{at}
use Rattle.scen_model.specs.Walks.{costs_of, less_all, reduced_walk}
use Rattle.scen_model.specs.Gathered.{lists_in, AreStages, AreApart, AllPriced, AllMove, AreAll}
use Rattle.scen_model.proofs.Homes.{reduced_all, seats_apart}
use Rattle.scen_model.proofs.reduced.reduced_costs.Goals as goal

pub less_all-requires : goal.less_all-requires
less_all-requires c = record {
  stages = subst (λ (stages : List ℕ). AreStages c.args.program.now.columns.items stages) (sym c.as_slice-stages.ensures.value) c.requires.stages;
  apart = subst (λ (seats : List ℕ). AreApart c.args.program.now.columns.items seats) (sym c.as_slice-seats.ensures.value)
      (seats_apart c.args.program.now.columns.items (lists_in c.args.seating.now.own.items) c.args.seating.now.seats.items c.requires.seated);
}

pub returns : goal.returns
returns c =
    let v = view_of (content c.args.program.now) in
    let costs = costs_of c.args.costs v in
    let y = at c.args.values.now in
    let columns = c.args.program.now.columns.items in
    let seats = c.args.seating.now.seats.items in
    let p = content c.args.program.now in
    let first = c.in_ok-numbers.numbers.items in
    let last = c.less_all.new.numbers in
    let back : (with_items c.in_ok-numbers.numbers last).items ≡ last = with_items_is c.in_ok-numbers.numbers last (omega arith) in
    subst (λ (numbers : List (Vec ℚ Global)). AreAll p seats (reduced_walk costs v y) (lists_in numbers)) (sym back)
    (reduced_all c.args.program.now costs y (lists_in c.args.seating.now.own.items) seats c.args.totals.now (lists_in first) (lists_in last) c.requires.totals c.requires.all_totals c.requires.seated
    (subst (λ (own : List (Vec ℕ Global)). AllPriced p costs c.args.totals.now (lists_in own) (length p.nodes) (lists_in first)) c.as_slice-own.ensures.value c.in_ok-numbers.ensures)
    (subst (λ (numbers : List (Vec ℚ Global)). AllMove v columns seats (λ k j s. less_all v y k j s) (lists_in numbers) (lists_in last)) c.as_mut_slice.ensures.value
    (subst (λ (all : List ℕ). AllMove v columns all (λ k j s. less_all v y k j s) (lists_in c.as_mut_slice.result.now) (lists_in last)) c.as_slice-seats.ensures.value c.in_ok-less_all.ensures)))
