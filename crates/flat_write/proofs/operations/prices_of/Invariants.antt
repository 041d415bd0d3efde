use Rattle.std.proofs.Common.{◌≡◌, drop}
use Rattle.scen_defs.specs.Program.{content, view_of}
use Rattle.flat_write.specs.Operations.{each_walk, price}
use Rattle.flat_write.proofs.operations.prices_of.Given as goal

abbrev pub invariant-loop-column : goal.invariant-loop-column
invariant-loop-column l =
    each_walk (price (view_of (content l.program)) l.total l.node) (drop l.column-index l.columns) ≡ each_walk (price (view_of (content l.program)) l.total l.node) l.columns
