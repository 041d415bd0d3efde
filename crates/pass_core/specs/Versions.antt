-- The versions of nodes behind an edit that touches places, and the touches that carry them.
use Rattle.std.specs.Prelude.{ℕ, List, [], ◌∷◌}
use Rattle.cut_defs.specs.declared.kinds.Part.{Part}
use Rattle.cut_defs.specs.declared.kinds.Part.TheVariants.{Rows, Costs, Gone}
use Rattle.cut_defs.specs.declared.versions.Touch.{Touch}
use Rattle.edit_defs.specs.declared.edit.Touched.{Touched}
use Rattle.node_data.specs.declared.versions.Version.{Version}
use Rattle.node_data.specs.Counts.{raised, version_of, with_rows, with_costs}

-- the next version of a part of node n; what is gone has version 1
abbrev pub next_version : Part → ℕ → List Version → ℕ
next_version Rows n versions = raised (version_of versions n).rows
next_version Costs n versions = raised (version_of versions n).costs
next_version Gone n versions = 1

-- the versions with that one; those of a node that is gone stay
abbrev pub with_next : Part → ℕ → List Version → List Version
with_next Rows n versions = with_rows n versions
with_next Costs n versions = with_costs n versions
with_next Gone n versions = versions

-- the touch of a place, with its next version
abbrev pub next_touch : Touched → List Version → Touch
next_touch t versions = record { node = t.node; part = t.part; version = next_version t.part t.node versions }

-- the touches of all places, one behind the other
abbrev pub next_touches : List Touched → List Version → List Touch
next_touches [] versions = []
next_touches (t ∷ ts) versions = next_touch t versions ∷ next_touches ts (with_next t.part t.node versions)

-- the versions behind them
abbrev pub next_versions : List Touched → List Version → List Version
next_versions [] versions = versions
next_versions (t ∷ ts) versions = next_versions ts (with_next t.part t.node versions)
