-- The last solves of a run, node by node: of each the values of its own columns, and these along with those above; none where the
-- node has no point.
use Rattle.std.specs.Prelude.{ℕ, List, [], Option, Some, None, Result, Ok, map, slice_index_or, slice_set}
use Rattle.rationals.specs.Rational.{one_ℚ}
use Rattle.rationals.specs.Sparse.{Entry}
use Rattle.rationals.specs.Forms.{add_scaled_walk}
use Rattle.rationals.specs.Passes.{Operation, then_value}
use Rattle.frac128.specs.declared.fault.ArithmeticFault.{ArithmeticFault}
use Rattle.frac128.specs.Faults.{arithmetic_says}
use Rattle.rationals.specs.Replies.{IsReply, reply_by}
use Rattle.scen_defs.specs.Values.{At}
use Rattle.dual_assemble.specs.Values.{numbers_by_node, point_entries}
use Rattle.found_ends.specs.declared.last.Last.{Last}

-- node n's last solve
abbrev pub last_at : List (Option Last) → ℕ → Option Last
last_at lasts n = slice_index_or lasts n None

-- its own values
abbrev pub last_point : Option Last → Option (List Entry)
last_point None = None
last_point (Some last) = Some last.point

-- its own values and those above it
abbrev pub along_of : Option Last → List Entry
along_of None = []
along_of (Some last) = last.along

-- the values above a node with this parent: those along the parent's last solve, none above the root
abbrev pub trial_of : List (Option Last) → Option ℕ → List Entry
trial_of lasts None = []
trial_of lasts (Some parent) = along_of (last_at lasts parent)

-- with another last solve of node n, where that has a place
abbrev pub with_last : List (Option Last) → ℕ → Option Last → List (Option Last)
with_last lasts n last = slice_set lasts n last

-- a point of a node that was solved at this trial is kept: no column stands in both, so along it are the two together
abbrev pub kept : List (Option Last) → ℕ → List Entry → List Entry → Result (List (Option Last)) Operation
kept lasts n trial point =
    then_value (λ along. with_last lasts n (Some (record { point = point; along = along }))) (add_scaled_walk trial one_ℚ point)

-- what is left is the walk's value, or the walk ends in the operation, or memory is wanting
abbrev pub KeepsPoint : Result (List (Option Last)) Operation → Result (Unit {0}) ArithmeticFault → List (Option Last) → Type 0
KeepsPoint walk result new = IsReply walk (reply_by (λ _. new) arithmetic_says result)

-- the points of all nodes by node and column
abbrev pub joined_points : List (Option Last) → List At
joined_points lasts = numbers_by_node 0 (map point_entries (map last_point lasts))
