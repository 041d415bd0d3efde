-- Multipliers of a node's rows and weights of the cuts about its children, as a record: when it is good, and the value of its cut
-- at the trial.
use Rattle.std.specs.Prelude.{◌≡◌, ℕ, zero, suc, true, ◌&&◌, eqb, List, [], ◌∷◌, length}
use Rattle.rationals.specs.Rational.{ℚ, zero_ℚ, ◌+ℚ◌, ◌-ℚ◌, ◌*ℚ◌, ◌≤ℚ◌, ◌<ℚ◌}
use Rattle.rationals.specs.Sums.{sum_ℚ}
use Rattle.rationals.specs.Sparse.{Entry, coefficient, product, value_if}
use Rattle.scen_defs.specs.Lists.{Each}
use Rattle.rationals.specs.Intervals.{Between}
use Rattle.scen_defs.specs.Ends.{IsGoodAt, worth}
use Rattle.scen_defs.specs.declared.program.NodeRow.{NodeRow}
use Rattle.cut_defs.specs.declared.datum.ColumnBounds.{ColumnBounds}
use Rattle.cut_defs.specs.declared.datum.Share.{Share}
use Rattle.cut_defs.specs.declared.kinds.CutKind.{CutKind}
use Rattle.cut_defs.specs.declared.kinds.CutKind.TheVariants as cut_kind
use Rattle.cut_defs.specs.Cuts.{is_bound}
use Rattle.lp_defs.specs.Program.{NoneNegative}
use Rattle.node_lp.specs.Problem.{PlacedCut, Problem}
use Rattle.node_lp.specs.Places.{OfColumns}

-- ---- sums over the cuts, one weight for each

-- weight times coefficient of column j
abbrev pub weighed_form : List ℚ → List PlacedCut → ℕ → ℚ
weighed_form ws [] j = zero_ℚ
weighed_form [] (c ∷ cs) j = zero_ℚ
weighed_form (w ∷ ws) (c ∷ cs) j = w *ℚ coefficient c.cut.form j +ℚ weighed_form ws cs j

-- weight times constant
abbrev pub weighed_constant : List ℚ → List PlacedCut → ℚ
weighed_constant ws [] = zero_ℚ
weighed_constant [] (c ∷ cs) = zero_ℚ
weighed_constant (w ∷ ws) (c ∷ cs) = w *ℚ c.cut.constant +ℚ weighed_constant ws cs

-- the weights of the Bound cuts about a node
abbrev pub weight_on : List ℚ → List PlacedCut → ℕ → ℚ
weight_on ws [] m = zero_ℚ
weight_on [] (c ∷ cs) m = zero_ℚ
weight_on (w ∷ ws) (c ∷ cs) m = value_if (is_bound c.cut.kind && eqb c.cut.node m) w +ℚ weight_on ws cs m

-- no Bound cut has a weight
abbrev pub RaysAlone : List ℚ → List PlacedCut → Type 0
RaysAlone ws [] = Unit {0}
RaysAlone [] (c ∷ cs) = Unit {0}
RaysAlone (w ∷ ws) (c ∷ cs) = (is_bound c.cut.kind ≡ true → w ≡ zero_ℚ) × RaysAlone ws cs

-- ---- the sums of the record's cut

-- the coefficient of column j: weight times the cuts' coefficients, less entry times multiplier
unfoldable pub slope : Problem → List Entry → List ℚ → ℕ → ℚ
slope p y ws j = weighed_form ws p.cuts j -ℚ sum_ℚ (λ (r : NodeRow). coefficient r.entries j *ℚ coefficient y r.row) p.rows

abbrev pub cost_in : Problem → CutKind → ℕ → ℚ
cost_in p cut_kind.Bound j = coefficient p.cost j
cost_in p cut_kind.Ray j = zero_ℚ

abbrev pub reduced : Problem → CutKind → List Entry → List ℚ → ℕ → ℚ
reduced p kind y ws j = cost_in p kind j +ℚ slope p y ws j

unfoldable pub constant : Problem → CutKind → List Entry → List ℚ → ℚ
constant p kind y ws = sum_ℚ (λ (r : NodeRow). worth r.low r.high (coefficient y r.row)) p.rows
    +ℚ sum_ℚ (λ (b : ColumnBounds). worth b.lower b.upper (reduced p kind y ws b.column)) p.bounds
    +ℚ weighed_constant ws p.cuts

-- the constant and, column by column of the trial, its value times the coefficient
abbrev pub value_at : Problem → CutKind → List Entry → List ℚ → ℚ
value_at p kind y ws = constant p kind y ws +ℚ product p.trial (slope p y ws)

-- ---- a good record

-- of a Bound record the weights on the Bound cuts of each child add up to its share; a Ray record uses none
abbrev pub HasWeights : Problem → CutKind → List ℚ → Type 0
HasWeights p cut_kind.Bound ws = Each (λ (s : Share). weight_on ws p.cuts s.child ≡ s.share) p.shares
HasWeights p cut_kind.Ray ws = RaysAlone ws p.cuts

pub record IsRecord (p : Problem) (kind : CutKind) (y : List Entry) (ws : List ℚ) : Type 0 where
  -- one weight for each cut, none below 0
  pub one_each : length ws ≡ length p.cuts
  pub none_below : NoneNegative ws
  -- every used end is finite
  pub rows : Each (λ (r : NodeRow). IsGoodAt r.low r.high (coefficient y r.row)) p.rows
  pub bounds : Each (λ (b : ColumnBounds). IsGoodAt b.lower b.upper (reduced p kind y ws b.column)) p.bounds
  pub weights : HasWeights p kind ws

-- ---- points of the node's program

-- the value of a form at the point and the trial together
abbrev pub form_at : Problem → List Entry → List Entry → ℚ
form_at p x f = product f (λ j. coefficient x j +ℚ coefficient p.trial j)

-- share times cost, by child
abbrev pub shared_cost : List Share → List ℚ → ℚ
shared_cost [] costs = zero_ℚ
shared_cost (s ∷ ss) [] = zero_ℚ
shared_cost (s ∷ ss) (c ∷ cs) = s.share *ℚ c +ℚ shared_cost ss cs

-- the cost at place k; past the last one, 0
abbrev pub place_cost : List ℚ → ℕ → ℚ
place_cost [] k = zero_ℚ
place_cost (c ∷ cs) zero = c
place_cost (c ∷ cs) (suc k) = place_cost cs k

-- a Bound cut is at most its child's cost, a Ray cut at most 0
abbrev pub limit_of : CutKind → List ℚ → ℕ → ℚ
limit_of cut_kind.Bound costs k = place_cost costs k
limit_of cut_kind.Ray costs k = zero_ℚ

-- the point's columns meet the rows and bounds at the trial, and the cuts lie below the children's costs
pub record Meets (p : Problem) (x : List Entry) (costs : List ℚ) : Type 0 where
  pub rows : Each (λ (r : NodeRow). Between r.low r.high (form_at p x r.entries)) p.rows
  pub bounds : Each (λ (b : ColumnBounds). Between b.lower b.upper (coefficient x b.column)) p.bounds
  pub cuts : Each (λ (c : PlacedCut). c.cut.constant +ℚ form_at p x c.cut.form ≤ℚ limit_of c.cut.kind costs c.child) p.cuts

-- what a point of the node's program costs
abbrev pub cost_at : Problem → List Entry → List ℚ → ℚ
cost_at p x costs = product p.cost (coefficient x) +ℚ shared_cost p.shares costs

-- ---- what the ends of the path show

-- a point, and a good record whose cut has the point's value at the trial
pub record IsPointOf (p : Problem) (x : List Entry) (value : ℚ) (y : List Entry) (ws : List ℚ) : Type 0 where
  pub costs : List ℚ
  pub meets : Meets p x costs
  pub value_is : value ≡ cost_at p x costs
  pub good : p.priced ≡ true → IsRecord p cut_kind.Bound y ws
  pub equal : p.priced ≡ true → value_at p cut_kind.Bound y ws ≡ value

-- a good record whose cut is above 0 at the trial
pub record ShowsNoPoint (p : Problem) (y : List Entry) (ws : List ℚ) : Type 0 where
  pub good : IsRecord p cut_kind.Ray y ws
  pub above : zero_ℚ <ℚ value_at p cut_kind.Ray y ws

-- points over the own columns below every limit
pub record HasNoLeast (p : Problem) : Type 0 where
  pub below : (limit : ℚ) → (x : List Entry) × (costs : List ℚ) × OfColumns p.bounds x × Meets p x costs × (cost_at p x costs ≤ℚ limit)
