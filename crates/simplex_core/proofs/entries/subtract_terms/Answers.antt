use Rattle.std.proofs.Common.{◌≤◌, ◌-◌, ◌⊎◌, inl, inr, length, sym, ◌∙◌}
use Rattle.std.specs.Vec.{vec_len, vec_capacity}
use Rattle.std.proofs.lemmas.List.{take_rest}
use Rattle.simplex_core.proofs.Walks.{rest_is, room_left}
use Rattle.simplex_core.proofs.Merges.{read_as, pushed_as, row_next, pivot_next, both_next, right_next, right_ends, room_row, room_pivot, room_both, room_right, less_row_left, less_pivot_left, less_both_left, less_right_left, step_within}
use Rattle.simplex_core.proofs.entries.subtract_terms.Goals as goal
use Rattle.simplex_core.proofs.entries.subtract_terms.Goals.{then-both-test+else-j-pivot, else-both-test}

pub right-init : goal.right-init
right-init c =
    let over : (length c.args.pivot.now ≤ c.both.j) ⊎ (length c.args.row.now ≤ c.both.i) = elim c.both-test.branch [ then-both-test+else-j-pivot w ↦ inl w.if-j-pivot.false | else-both-test w ↦ inr w.both-test.false ] in
    record {
      room = room_left c.args.row.now c.both.i (vec_len c.extend_from_slice.new.self) (vec_len c.both.done) (vec_capacity c.both.done) (vec_capacity c.extend_from_slice.new.self) (length c.args.pivot.now - c.both.j) c.in_ok-extend_from_slice.ensures.len c.both.invariant.room c.in_ok-extend_from_slice.ensures.capacity;
      kept = rw (c.in_ok-extend_from_slice.ensures.items, take_rest c.args.row.now c.both.i) (rest_is c.args.factor c.args.row.now c.args.pivot.now c.both.done.items c.both.i c.both.j over ∙ c.both.invariant.kept);
    }

pub both-preserved-then-x-y : goal.both-preserved-then-x-y
both-preserved-then-x-y c = record {
  within = step_within (length c.args.row.now) c.both.i c.both-test.true;
  room = room_row (length c.args.row.now) (length c.args.pivot.now) c.both.i c.both.j (vec_len c.both.done) (vec_len c.push_reserved.new.self) (vec_capacity c.both.done) (vec_capacity c.push_reserved.new.self) c.both-test.true c.push_reserved.ensures.len c.push_reserved.ensures.capacity c.both.invariant.room;
  kept = row_next c.args.factor c.args.row.now c.args.pivot.now c.both.done.items c.push_reserved.new.self.items c.both.i c.both.j _ _ c.both-test.true c.if-j-pivot.true (read_as c.args.row.now c.both.i _ _ c.x.view_is c.index-row-i.is) (read_as c.args.pivot.now c.both.j _ _ c.y.view_is c.index-pivot-j.is) c.if-x-y.true (pushed_as c.both.done.items c.push_reserved.new.self.items _ _ c.x.view_is c.push_reserved.ensures.items) ∙ c.both.invariant.kept;
}

pub both-preserved-then-y-x : goal.both-preserved-then-y-x
both-preserved-then-y-x c = record {
  within = c.both.invariant.within;
  room = room_pivot (length c.args.row.now) (length c.args.pivot.now) c.both.i c.both.j (vec_len c.both.done) (vec_len c.push.new.done) (vec_capacity c.both.done) (vec_capacity c.push.new.done) c.if-j-pivot.true c.push.ensures.len c.push.ensures.capacity c.both.invariant.room;
  kept = pivot_next c.args.factor c.zero-zero.result c.in_ok-value.value c.args.row.now c.args.pivot.now c.both.done.items c.push.new.done.items c.both.i c.both.j _ _ c.both-test.true c.if-j-pivot.true (read_as c.args.row.now c.both.i _ _ c.x.view_is c.index-row-i.is) (read_as c.args.pivot.now c.both.j _ _ c.y.view_is c.index-pivot-j.is) c.if-y-x.true c.zero-zero.ensures c.in_ok-value.ensures c.push.ensures.items ∙ c.both.invariant.kept;
}

pub both-preserved : goal.both-preserved
both-preserved c = record {
  within = step_within (length c.args.row.now) c.both.i c.both-test.true;
  room = room_both (length c.args.row.now) (length c.args.pivot.now) c.both.i c.both.j (vec_len c.both.done) (vec_len c.push-else-y-x.new.done) (vec_capacity c.both.done) (vec_capacity c.push-else-y-x.new.done) c.both-test.true c.if-j-pivot.true c.push-else-y-x.ensures.len c.push-else-y-x.ensures.capacity c.both.invariant.room;
  kept = both_next c.args.factor c.in_ok-value-2.value c.args.row.now c.args.pivot.now c.both.done.items c.push-else-y-x.new.done.items c.both.i c.both.j _ _ c.both-test.true c.if-j-pivot.true (read_as c.args.row.now c.both.i _ _ c.x.view_is c.index-row-i.is) (read_as c.args.pivot.now c.both.j _ _ c.y.view_is c.index-pivot-j.is) c.if-x-y.false c.if-y-x.false c.in_ok-value-2.ensures c.push-else-y-x.ensures.items ∙ c.both.invariant.kept;
}

pub both-smaller-then-x-y : goal.both-smaller-then-x-y
both-smaller-then-x-y c = less_row_left (length c.args.row.now) (length c.args.pivot.now) c.both.i c.both.j c.both-test.true

pub both-smaller-then-y-x : goal.both-smaller-then-y-x
both-smaller-then-y-x c = less_pivot_left (length c.args.row.now) (length c.args.pivot.now) c.both.i c.both.j c.if-j-pivot.true

pub both-smaller : goal.both-smaller
both-smaller c = less_both_left (length c.args.row.now) (length c.args.pivot.now) c.both.i c.both.j c.both-test.true c.if-j-pivot.true

pub right-preserved : goal.right-preserved
right-preserved c = record {
  room = room_right (length c.args.pivot.now) c.right.j (vec_len c.right.done) (vec_len c.push-in-right.new.done) (vec_capacity c.right.done) (vec_capacity c.push-in-right.new.done) c.right-test.true c.push-in-right.ensures.len c.push-in-right.ensures.capacity c.right.invariant.room;
  kept = right_next c.args.factor c.zero-zero.result c.in_ok-value-3.value c.args.pivot.now c.right.done.items c.push-in-right.new.done.items c.right.j _ c.right-test.true (read_as c.args.pivot.now c.right.j _ _ c.y-in-right.view_is c.index-pivot-j-in-right.is) c.zero-zero.ensures c.in_ok-value-3.ensures c.push-in-right.ensures.items ∙ c.right.invariant.kept;
}

pub right-smaller : goal.right-smaller
right-smaller c = less_right_left (length c.args.pivot.now) c.right.j c.right-test.true

pub returns : goal.returns
returns c = sym c.right.invariant.kept ∙ right_ends c.args.factor c.args.pivot.now c.right.done.items c.right.j c.right-test.false
