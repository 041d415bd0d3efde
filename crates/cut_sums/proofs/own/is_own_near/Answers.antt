use Rattle.std.proofs.Common.{◌≡◌, sym}
use Rattle.cut_sums.proofs.Halving.{nothing_before, found_at, read_column}
use Rattle.cut_sums.proofs.own.is_own_near.Goals as goal

pub returns-then-column-first : goal.returns-then-column-first
returns-then-column-first c = sym (nothing_before c.args.column c.args.bounds.now c.index-bounds-0.result c.requires c.if-column-first.true)

pub returns-then-found-column : goal.returns-then-found-column
returns-then-found-column c = sym (found_at c.args.column _ c.args.bounds.now c.index-bounds-place.result c.if-place-bounds.true c.index-bounds-place.is (read_column c.args.bounds.now _ c.index-bounds-place.result (λ z. z ≡ c.args.column) c.index-bounds-place.is c.if-found-column.true))
