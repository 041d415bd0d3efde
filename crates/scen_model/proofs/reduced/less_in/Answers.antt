use Rattle.std.proofs.Common.{get_or, arith}
use Rattle.std.specs.Vec.{with_items}
use Rattle.std.proofs.lemmas.List.{with_items_is}
use Rattle.scen_model.proofs.Homes.{in_list}
use Rattle.scen_model.proofs.reduced.less_in.Goals as goal

pub returns : goal.returns
returns c =
    let was = get_or c.args.numbers.now c.args.node c.index-numbers-place.result in
    in_list c.args.numbers.now c.args.node c.args.seat c.index-numbers-place.result (with_items was c.less_at.new.numbers) c.args.value c.args.multiplier c.as_mut_slice.result.now c.less_at.new.numbers
    c.if-place-numbers.false c.as_mut_slice.ensures.value (with_items_is was c.less_at.new.numbers (omega arith)) c.in_ok-less_at.ensures
