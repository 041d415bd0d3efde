use Rattle.std.proofs.Common.{◌≡◌, ◌++◌, drop}
use Rattle.rationals.specs.Forms.{EndsBelow}
use Rattle.tree_build.specs.Base.{base_costs}
use Rattle.tree_build.proofs.base.costs.Given as goal

abbrev pub invariant-loop-place : goal.invariant-loop-place
invariant-loop-place l = record {
  kept : l.form ++ base_costs l.columns l.stage l.place (drop l.place l.stages) ≡ base_costs l.columns l.stage 0 l.stages;
  below : EndsBelow l.place l.form;
}
