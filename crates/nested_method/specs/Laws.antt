-- What the touches of an edit carry.
use Rattle.std.specs.Prelude.{◌≡◌, ℕ, ◌≤◌, length, List}
use Rattle.scen_defs.specs.Lists.{Each}
use Rattle.scen_defs.specs.Program.{Program}
use Rattle.scen_defs.specs.Valid.{IsProgram}
use Rattle.cut_defs.specs.declared.kinds.Part.{Part}
use Rattle.cut_defs.specs.declared.kinds.Part.TheVariants.{Rows, Costs, Gone}
use Rattle.edit_defs.specs.declared.edit.Edit.{Edit}
use Rattle.edit_defs.specs.Applies.{Applies}
use Rattle.node_data.specs.declared.versions.Version.{Version}
use Rattle.node_data.specs.Counts.{version_of}
use Rattle.nested_method.specs.Edited.{touches_of, raised_versions}

-- the version of a part of node n; what is gone has version 1
abbrev pub standing : Part → ℕ → List Version → ℕ
standing Rows n versions = (version_of versions n).rows
standing Costs n versions = (version_of versions n).costs
standing Gone n versions = 1

-- each touch of an edit carries the version that its part has among the new ones
abbrev pub TouchesCarry : Program → Edit → List Version → List Version → Type 0
TouchesCarry p e old new = Each (λ t. t.version ≡ standing t.part t.node new) (touches_of p e old)

-- Where an edit applies to a program, and there are versions of all its nodes, each touch of the edit carries the version that its part
-- has behind the edit.
abbrev pub TouchesStand : Type 0
TouchesStand = (p : Program) (e : Edit) (versions : List Version)
    → IsProgram p → Applies p e → length p.nodes ≤ length versions → TouchesCarry p e versions (raised_versions p e versions)
