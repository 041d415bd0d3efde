-- What is tested of a guess at a node's program, part by part.
use Rattle.std.specs.Prelude.{◌≡◌, ℕ, ◌&&◌, true, eqb, List, [], ◌∷◌, Some, Ok, length, drop}
use Rattle.rationals.specs.Rational.{ℚ, zero_ℚ, ◌+ℚ◌, ◌≤ℚ◌, ◌<ℚ◌}
use Rattle.rationals.specs.Intervals.{Between}
use Rattle.rationals.specs.Passes.{IsNarrow}
use Rattle.rationals.specs.Sparse.{Entry, coefficient, product, value_if}
use Rattle.rationals.specs.Forms.{IsForm}
use Rattle.lp_defs.specs.Program.{NoneNegative}
use Rattle.scen_defs.specs.Lists.{Each}
use Rattle.scen_defs.specs.declared.program.NodeRow.{NodeRow}
use Rattle.cut_defs.specs.Data.{is_own}
use Rattle.cut_defs.specs.Cuts.{is_bound}
use Rattle.cut_defs.specs.Stored.{Stored, source_of, constant_of, form_of, IsMadeFrom}
use Rattle.cut_defs.specs.declared.datum.ColumnBounds.{ColumnBounds}
use Rattle.cut_defs.specs.declared.datum.Share.{Share}
use Rattle.cut_defs.specs.declared.kinds.CutKind.{CutKind}
use Rattle.cut_proof.specs.declared.child.ChildCuts.{ChildCuts}
use Rattle.node_lp.specs.declared.task.Task.{Task}
use Rattle.node_lp.specs.Weighed.{Weighed}
use Rattle.node_lp.specs.Problem.{PlacedCut, is_priced, problem_of}
use Rattle.node_lp.specs.Records.{limit_of, value_at, HasWeights, IsRecord}
use Rattle.node_lp.specs.Places.{OfRows}
use Rattle.node_lp.specs.Stored.{stored_uses}
use Rattle.node_lp.specs.Told.{stored_cuts, record_of, cut_made}
use Rattle.node_lp.specs.Answers.{value_at_trial}

-- ---- a point

-- the values of a point and of the trial together
abbrev pub point_and_trial : List Entry → List Entry → ℕ → ℚ
point_and_trial x trial j = coefficient x j +ℚ coefficient trial j

-- a value of an own column, as the code keeps it
pub record IsKeptValue (bs : List ColumnBounds) (e : Entry) : Type 0 where
  pub own : is_own bs e.column ≡ true
  pub fits : IsNarrow e.value

-- a row at these values, a column of the point, and a cut at these values where the children cost so much
pub record MeetsRow (at : List Entry) (r : NodeRow) : Type 0 where
  pub meets : Between r.low r.high (product r.entries (coefficient at))

pub record MeetsBounds (x : List Entry) (b : ColumnBounds) : Type 0 where
  pub meets : Between b.lower b.upper (coefficient x b.column)

pub record MeetsCut (at : List Entry) (costs : List ℚ) (c : PlacedCut) : Type 0 where
  pub meets : c.cut.constant +ℚ product c.cut.form (coefficient at) ≤ℚ limit_of c.cut.kind costs c.child

-- ---- multipliers

-- the weights of the Bound cuts about a node
abbrev pub stored_weight : ℕ → List Stored → List ℚ → ℚ
stored_weight m [] ws = zero_ℚ
stored_weight m (c ∷ cs) [] = zero_ℚ
stored_weight m (c ∷ cs) (w ∷ ws) = value_if (is_bound (source_of c).kind && eqb (source_of c).node m) w +ℚ stored_weight m cs ws

pub record IsCutAbout (n : ℕ) (c : Stored) : Type 0 where
  pub node : (source_of c).node ≡ n

-- the cuts about a child are so, and the first weights, those of its Bound cuts, add up to its share
pub record HasShare (s : Share) (cs : List Stored) (ws : List ℚ) : Type 0 where
  pub about : Each (IsCutAbout s.child) cs
  pub sum : stored_weight s.child cs ws ≡ s.share

-- child by child
abbrev pub HaveShares : List Share → List ChildCuts → List ℚ → Type 0
HaveShares [] [] ws = Unit {0}
HaveShares [] (c ∷ cs) ws = ⊥
HaveShares (s ∷ ss) [] ws = ⊥
HaveShares (s ∷ ss) (c ∷ cs) ws = HasShare s c.cuts.items ws × HaveShares ss cs (drop (length c.cuts.items) ws)

-- no Bound cut has a weight
abbrev pub StoredAlone : List Stored → List ℚ → Type 0
StoredAlone [] ws = Unit {0}
StoredAlone (c ∷ cs) [] = Unit {0}
StoredAlone (c ∷ cs) (w ∷ ws) = (is_bound (source_of c).kind ≡ true → w ≡ zero_ℚ) × StoredAlone cs ws

-- they may be those of a good record, if the ends that it uses are finite
pub record MayShow (t : Task) (kind : CutKind) (m : Weighed) : Type 0 where
  pub one_each : length m.weights ≡ length (problem_of t).cuts
  pub none_below : NoneNegative m.weights
  pub weights : HasWeights (problem_of t) kind m.weights
  pub places : OfRows t.datum.rows m.rows
  pub rises : IsForm m.rows

-- ---- the cut that multipliers and weights make, where their record is good
pub record ShowsCut (t : Task) (kind : CutKind) (m : Weighed) (cut : Stored) : Type 0 where
  pub good : IsRecord (problem_of t) kind m.rows m.weights
  pub places : OfRows t.datum.rows m.rows
  pub rises : IsForm m.rows
  pub made : cut_made t.datum kind (stored_cuts (is_priced t.kind) t.children.items) m ≡ Ok (Some cut)
  pub from : IsMadeFrom t.datum (record_of t.datum kind m)
      (stored_uses m.weights (stored_cuts (is_priced t.kind) t.children.items)) (constant_of cut) (form_of cut)
  pub value : value_at_trial cut t.trial ≡ value_at (problem_of t) kind m.rows m.weights
