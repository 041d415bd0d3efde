use Rattle.std.proofs.Common.{◌≡◌, ◌++◌, drop}
use Rattle.pass_core.specs.Versions.{next_touches, next_versions}
use Rattle.pass_core.proofs.state.State.touch.Given as goal

abbrev pub invariant-loop-place : goal.invariant-loop-place
invariant-loop-place l = record {
  touches : l.touches.items ++ next_touches (drop l.place-index l.touched) l.self.versions
      ≡ next_touches l.touched l.initial.self.versions;
  versions : next_versions (drop l.place-index l.touched) l.self.versions ≡ next_versions l.touched l.initial.self.versions;
  others : l.self ≡ record l.initial.self { versions = l.self.versions };
}
