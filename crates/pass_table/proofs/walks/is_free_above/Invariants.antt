use Rattle.std.proofs.Common.{◌≡◌, ◌≤◌, ◌⊎◌, ℕ, false, slice_index, slice_index_or}
use Rattle.pass_table.specs.Walks.{IsGoodAt}
use Rattle.pass_table.specs.Machine.{IsAbove}
use Rattle.pass_table.proofs.walks.is_free_above.Given as goal

abbrev pub invariant-up : goal.invariant-up
invariant-up l = (l.at ≤ l.node)
    × ((l.at ≡ l.node) ⊎ IsAbove (slice_index l.parents) l.at l.node)
    × ((a : ℕ) → IsAbove (slice_index l.parents) a l.node → IsAbove (slice_index l.parents) a l.at
    ⊎ (IsGoodAt l.parents l.solves a × (slice_index_or l.flying a false ≡ false)))

abbrev pub decreases-up : goal.decreases-up
decreases-up l = l.at
