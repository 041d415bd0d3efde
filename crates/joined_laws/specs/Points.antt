-- The last solves of nodes: where their points meet the program, and where numbers cover what they cost.
use Rattle.std.specs.Prelude.{◌≡◌, ℕ, List, Option, Some}
use Rattle.rationals.specs.Rational.{ℚ, ◌+ℚ◌, ◌*ℚ◌, ◌≤ℚ◌}
use Rattle.rationals.specs.Sums.{sum_ℚ}
use Rattle.rationals.specs.Sparse.{Entry, product, coefficient}
use Rattle.rationals.specs.Forms.{IsForm}
use Rattle.scen_defs.specs.declared.program.NodeRow.{NodeRow}
use Rattle.scen_defs.specs.declared.report.Kind.{Kind}
use Rattle.scen_defs.specs.Lists.{Each, Once}
use Rattle.rationals.specs.Intervals.{Between}
use Rattle.scen_defs.specs.Program.{Program}
use Rattle.scen_defs.specs.Flat.{children, share}
use Rattle.scen_defs.specs.Valid.{Lives}
use Rattle.edit_defs.specs.Data.{view_in}
use Rattle.dual_assemble.specs.Values.{point_entries}
use Rattle.node_data.specs.Frames.{frame_of, parent_in}
use Rattle.found_ends.specs.declared.last.Last.{Last}
use Rattle.found_ends.specs.Lasts.{last_at, last_point, trial_of}

-- node n's last solve: its point is of the node's own columns, stands beside the values above it, and meets the node's rows and bounds
-- there
pub record MeetsAt (kind : Kind) (p : Program) (lasts : List (Option Last)) (n : ℕ) : Type 0 where
  pub last : Last
  pub there : last_at lasts n ≡ Some last
  pub form : IsForm last.point
  pub own : Each (λ (e : Entry). Once e.column ((view_in kind p).columns ((view_in kind p).stage n))) last.point
  pub along : (j : ℕ) → coefficient last.along j ≡ coefficient (trial_of lasts (parent_in (frame_of p) n)) j +ℚ coefficient last.point j
  pub rows : Each (λ (r : NodeRow). Between r.low r.high (product r.entries (coefficient last.along))) ((view_in kind p).rows n)
  pub bounds : Each (λ j. Between ((view_in kind p).lower j) ((view_in kind p).upper j) (coefficient last.point j))
      ((view_in kind p).columns ((view_in kind p).stage n))

-- so do the last solves of all live nodes
abbrev pub AllMeet : Kind → Program → List (Option Last) → Type 0
AllMeet kind p lasts = (n : ℕ) → Lives p n → MeetsAt kind p lasts n

-- the values of node n's own columns
abbrev pub point_at : List (Option Last) → ℕ → List Entry
point_at lasts n = point_entries (last_point (last_at lasts n))

-- the number of node n is what its point costs and, by their shares, numbers of its children that are no less than theirs
pub record CoversAt (kind : Kind) (p : Program) (lasts : List (Option Last)) (value_of : ℕ → ℚ) (n : ℕ) : Type 0 where
  pub child_cost : ℕ → ℚ
  pub value_is : value_of n ≡ product ((view_in kind p).cost n) (coefficient (point_at lasts n))
      +ℚ sum_ℚ (λ m. share (view_in kind p) m *ℚ child_cost m) (children (view_in kind p) n)
  pub below : Each (λ m. value_of m ≤ℚ child_cost m) (children (view_in kind p) n)

-- so do the numbers of all live nodes
abbrev pub AllCover : Kind → Program → List (Option Last) → (ℕ → ℚ) → Type 0
AllCover kind p lasts value_of = (n : ℕ) → Lives p n → CoversAt kind p lasts value_of n
