use Rattle.std.proofs.Common.{◌≡◌, drop}
use Rattle.flat_write.specs.Operations.{each_walk, row_span}
use Rattle.flat_write.proofs.operations.spans_of.Given as goal

abbrev pub invariant-loop-row : goal.invariant-loop-row
invariant-loop-row l =
    each_walk row_span (drop l.row-index l.rows) ≡ each_walk row_span l.rows
