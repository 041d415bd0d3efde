-- What stays the same in all runs of a program: its frame.
use Rattle.std.specs.Prelude.{ℕ, zero, suc, List, [], ◌∷◌, ◌++◌, eqb, ltb, map, length, Option, Some, None, slice_get, slice_index_or}
use Rattle.rationals.specs.Choices.{pick}
use Rattle.scen_defs.specs.Program.{Node, Program, View, view_of, or_root}
use Rattle.scen_defs.specs.declared.program.Column.{Column}
use Rattle.scen_tree.specs.Trees.{position_of, children_from}
use Rattle.cut_defs.specs.declared.datum.ColumnBounds.{ColumnBounds}
use Rattle.cut_defs.specs.Data.{bounds_of}
use Rattle.node_data.specs.declared.frame.StageColumns.{StageColumns}

-- by the number of a node its parent, its children and its stage; by the number of a stage its columns with their bounds
pub record Frame : Type 0 where
  pub parents : List ℕ
  pub children : List (List ℕ)
  pub stages : List ℕ
  pub columns : List (List ColumnBounds)

-- the parent of the node at a place: 0 of the root, and where the node was dropped
abbrev pub parent_of : Option Node → ℕ
parent_of None = 0
parent_of (Some node) = or_root node.parent

-- its stage: 0 where the node was dropped
abbrev pub stage_of : Option Node → ℕ
stage_of None = 0
stage_of (Some node) = node.stage

-- the columns of so many stages with their bounds, each rising; the first stage is s
abbrev pub columns_from : View → ℕ → ℕ → List (List ColumnBounds)
columns_from v s zero = []
columns_from v s (suc count) = map (bounds_of v) (v.columns s) ∷ columns_from v (suc s) count

-- the frame of a program. The children are those of its tree
abbrev pub frame_of : Program → Frame
frame_of p = record {
  parents = map parent_of p.nodes;
  children = children_from (map position_of p.nodes) 0 (map position_of p.nodes);
  stages = map stage_of p.nodes;
  columns = columns_from (view_of p) 0 (length p.periods);
}

-- ---- what the frame says of node n
-- its parent: none of the root, and past the last node
abbrev pub parent_in : Frame → ℕ → Option ℕ
parent_in frame zero = None
parent_in frame (suc n) = slice_get frame.parents (suc n)

-- its children: none past the last node
abbrev pub children_in : Frame → ℕ → List ℕ
children_in frame n = slice_index_or frame.children n []

-- the columns of its stage: none past the last node, or past the last stage
abbrev pub columns_in : Frame → ℕ → List ColumnBounds
columns_in frame n = pick (ltb n (length frame.stages)) (slice_index_or frame.columns (slice_index_or frame.stages n 0) []) []

-- ---- the lists in the code
abbrev pub stage_lists : List StageColumns → List (List ColumnBounds)
stage_lists [] = []
stage_lists (stage ∷ stages) = stage.columns.items ∷ stage_lists stages

-- the columns by stage, the first of which is k, with column j at its stage
abbrev pub with_column : ℕ → Column → ℕ → List (List ColumnBounds) → List (List ColumnBounds)
with_column j c k [] = []
with_column j c k (stage ∷ stages) =
    pick (eqb c.stage k) (stage ++ record { column = j; lower = c.lower; upper = c.upper } ∷ []) stage ∷ with_column j c (suc k) stages
