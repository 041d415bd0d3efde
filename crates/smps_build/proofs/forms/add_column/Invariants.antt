use Rattle.std.proofs.Common.{◌≡◌, drop}
use Rattle.smps_build.specs.Gathered.{with_column}
use Rattle.smps_build.proofs.Gathering.{AreOpen}
use Rattle.smps_build.proofs.forms.add_column.Given as goal

abbrev pub invariant-loop-term : goal.invariant-loop-term
invariant-loop-term l = record {
  kept : with_column l.column (drop l.term-index l.entries) 0 l.forms.items ≡ with_column l.column l.entries 0 l.initial.forms.items;
  unfilled : AreOpen l.column (drop l.term-index l.entries) l.forms.items;
}
