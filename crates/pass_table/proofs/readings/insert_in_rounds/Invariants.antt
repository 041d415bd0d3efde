use Rattle.std.proofs.Common.{◌≡◌, ℕ, ◌<◌, ◌⊎◌}
use Rattle.pass_table.specs.Readings.{reading_at, Adds}
use Rattle.pass_table.proofs.readings.insert_in_rounds.Given as goal

abbrev pub invariant-loop-reading : goal.invariant-loop-reading
invariant-loop-reading l =
    let P : ℕ → Type 0 = λ n. (n ≡ l.node) ⊎ ((i : ℕ) × ((i < l.reading-index) × ((reading_at l.readings i).child ≡ n))) in
    Adds P l.fn.nodes.flags l.nodes.flags × Adds P l.fn.nodes.met l.nodes.met × (l.nodes.waits ≡ l.fn.nodes.waits)
