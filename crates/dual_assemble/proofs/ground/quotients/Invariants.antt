use Rattle.std.proofs.Common.{◌≡◌, drop, []}
use Rattle.scen_defs.specs.Values.{at}
use Rattle.dual_assemble.specs.Ground.{quotients_from}
use Rattle.dual_assemble.proofs.Quotients.{Writable}
use Rattle.dual_assemble.proofs.ground.quotients.Given as goal

abbrev pub invariant-loop-row : goal.invariant-loop-row
invariant-loop-row l = record {
  below : Writable (drop l.row-index l.rows) l.form;
  kept : quotients_from l.total (at l.dual l.node) l.form (drop l.row-index l.rows) ≡ quotients_from l.total (at l.dual l.node) [] l.rows;
}
