use Rattle.std.proofs.Common.{◌≡◌, ◌<◌, length, ap, arith}
use Rattle.rationals.specs.Sparse.{Entry}
use Rattle.simplex_core.proofs.Sweep.{within_at}
use Rattle.simplex_core.proofs.costs.subtract.Goals as goal

pub subtract_at-requires : goal.subtract_at-requires
subtract_at-requires c =
    let within : c.entry-item.result.column < length c.args.values.now =
    within_at (length c.args.values.now) c.loop-entry.entry-index c.args.entries.now c.entry-item.result c.requires c.loop-entry-test.true c.entry-item.is in
    let same : c.entry.inside.column ≡ c.entry-item.result.column = ap (λ (t : Entry). t.column) c.entry.view_is in
    omega (arith, within, same, c.loop-entry.auto.values)
