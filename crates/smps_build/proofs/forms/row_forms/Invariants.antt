use Rattle.std.proofs.Common.{◌≡◌, drop}
use Rattle.rationals.specs.Forms.{EndsBelow}
use Rattle.scen_defs.specs.Lists.{Each}
use Rattle.smps_build.specs.Gathered.{forms_from}
use Rattle.smps_build.proofs.Gathering.{with_entries}
use Rattle.smps_build.proofs.forms.row_forms.Given as goal

abbrev pub invariant-loop-place : goal.invariant-loop-place
invariant-loop-place l = record {
  kept : with_entries l.place (drop l.place l.columns) 0 l.forms.items ≡ forms_from l.columns 0 l.rows;
  below : Each (EndsBelow l.place) l.forms.items;
}
