-- Forms that meet along a path: no two have a column in common.
use Rattle.std.specs.Prelude.{◌≡◌, ℕ, zero, suc, List, Option}
use Rattle.rationals.specs.Sparse.{Entry}
use Rattle.scen_defs.specs.Lists.{Each}
use Rattle.scen_defs.specs.Program.{Node, node_at, or_root}
use Rattle.tail_risk.specs.TailRow.{merged}

abbrev pub HaveNoCommonColumn : List Entry → List Entry → Type 0
HaveNoCommonColumn f g = Each (λ (e : Entry). Each (λ (d : Entry). d.column ≡ e.column → ⊥) g) f

-- nor have a form and the costs of so many nodes from n upwards
abbrev pub MeetApart : List (Option Node) → List Entry → ℕ → ℕ → Type 0
MeetApart nodes f zero n = Unit {0}
MeetApart nodes f (suc count) n = HaveNoCommonColumn (node_at nodes n).cost f
    × MeetApart nodes (merged (node_at nodes n).cost f) count (or_root (node_at nodes n).parent)
