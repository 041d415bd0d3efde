use Rattle.std.proofs.Common.{◌≡◌, ◌<◌, ◌≤◌, ◌+◌, ◌-◌, ◌/◌, length, sym, arith}
use Rattle.cut_sums.proofs.Halving.{passes_over, nothing_from, found_at, read_column}
use Rattle.cut_sums.proofs.own.is_own.Goals as goal

pub search-preserved-then-found-column : goal.search-preserved-then-found-column
search-preserved-then-found-column c =
    let in_range : c.search.low + (c.search.high - c.search.low) / 2 < length c.args.bounds.now = omega arith in
    record {
      order = omega arith;
      within = c.search.invariant.within;
      kept = passes_over c.args.column _ c.args.bounds.now c.index-bounds-middle.result c.requires in_range c.index-bounds-middle.is (read_column c.args.bounds.now _ c.index-bounds-middle.result (λ z. z < c.args.column) c.index-bounds-middle.is c.if-found-column.true);
      past = c.search.invariant.past;
    }

pub returns-then-found-column-2 : goal.returns-then-found-column-2
returns-then-found-column-2 c =
    let in_range : c.search.low + (c.search.high - c.search.low) / 2 < length c.args.bounds.now = omega arith in
    sym (found_at c.args.column _ c.args.bounds.now c.index-bounds-middle.result in_range c.index-bounds-middle.is (read_column c.args.bounds.now _ c.index-bounds-middle.result (λ z. z ≡ c.args.column) c.index-bounds-middle.is c.if-found-column-2.true))

pub search-preserved : goal.search-preserved
search-preserved c =
    let in_range : c.search.low + (c.search.high - c.search.low) / 2 < length c.args.bounds.now = omega arith in
    let above : c.args.column ≤ c.index-bounds-middle.result.column = read_column c.args.bounds.now _ c.index-bounds-middle.result (λ z. c.args.column ≤ z) c.index-bounds-middle.is c.if-found-column.false in
    let other : c.index-bounds-middle.result.column ≡ c.args.column → ⊥ = read_column c.args.bounds.now _ c.index-bounds-middle.result (λ z. z ≡ c.args.column → ⊥) c.index-bounds-middle.is c.if-found-column-2.false in
    record {
      order = omega arith;
      within = omega arith;
      kept = c.search.invariant.kept;
      past = nothing_from c.args.column _ c.args.bounds.now c.index-bounds-middle.result c.requires in_range c.index-bounds-middle.is (omega arith);
    }
