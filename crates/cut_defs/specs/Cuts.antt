-- Cuts as trees: a record of multipliers at a node, and the cuts of its children that it uses.
use Rattle.std.proofs.Common.{◌≡◌, ℕ, zero, suc, Bool, true, false, ◌&&◌, eqb, List, [], ◌∷◌, ◌++◌}
use Rattle.rationals.specs.Rational.{ℚ, zero_ℚ, ◌+ℚ◌, ◌*ℚ◌, ◌-ℚ◌, ◌/ℚ◌, ◌≤ℚ◌}
use Rattle.rationals.specs.Sums.{sum_ℚ}
use Rattle.rationals.specs.Sparse.{Entry, coefficient, value_if}
use Rattle.cut_defs.specs.declared.kinds.CutKind.{CutKind}
use Rattle.cut_defs.specs.declared.kinds.CutKind.TheVariants.{Bound, Ray}
use Rattle.scen_defs.specs.Lists.{Each}
use Rattle.scen_defs.specs.Ends.{IsGoodAt, worth}
use Rattle.scen_defs.specs.Program.{View, IsLive, total}
use Rattle.scen_defs.specs.declared.program.NodeRow.{NodeRow}
use Rattle.scen_defs.specs.Flat.{subtree, along, node_cost, FeasibleAt, without_costs, is_child, children, share}

mutual
  -- node, kind, multipliers by row, used cuts
  pub data Cut : Type 0 where
    Cut_of : ℕ → CutKind → List Entry → Uses → Cut

  -- each used cut with its weight
  pub data Uses : Type 0 where
    No_use : Uses
    Use : ℚ → Cut → Uses → Uses

abbrev pub node_of : Cut → ℕ
node_of (Cut_of n kind y uses) = n

abbrev pub kind_of : Cut → CutKind
kind_of (Cut_of n kind y uses) = kind

abbrev pub is_bound : CutKind → Bool
is_bound Bound = true
is_bound Ray = false

-- ---- the sums of a cut
-- the coefficient of column j: less entry times multiplier by row, plus weight times the used cut's coefficient
unfoldable mutual
  pub slope : View → Cut → ℕ → ℚ
  slope v (Cut_of n kind y uses) j = slopes v uses j
      -ℚ sum_ℚ (λ (r : NodeRow). coefficient r.entries j *ℚ coefficient y r.row) (v.rows n)

  pub slopes : View → Uses → ℕ → ℚ
  slopes v No_use j = zero_ℚ
  slopes v (Use weight cut uses) j = weight *ℚ slope v cut j +ℚ slopes v uses j

-- what a column costs a cut of this kind at node n
abbrev pub cost_in : View → CutKind → ℕ → ℕ → ℚ
cost_in v Bound n j = coefficient (v.cost n) j
cost_in v Ray n j = zero_ℚ

-- the reduced cost of a column of the cut's node
abbrev pub reduced_in : View → Cut → ℕ → ℚ
reduced_in v cut j = cost_in v (kind_of cut) (node_of cut) j +ℚ slope v cut j

-- the rows' and the columns' terms, and weight times the used cut's constant
unfoldable mutual
  pub constant : View → Cut → ℚ
  constant v (Cut_of n kind y uses) = sum_ℚ (λ (r : NodeRow). worth r.low r.high (coefficient y r.row)) (v.rows n)
      +ℚ sum_ℚ (λ j. worth (v.lower j) (v.upper j) (cost_in v kind n j +ℚ slope v (Cut_of n kind y uses) j)) (v.columns (v.stage n))
      +ℚ constants v uses

  pub constants : View → Uses → ℚ
  constants v No_use = zero_ℚ
  constants v (Use weight cut uses) = weight *ℚ constant v cut +ℚ constants v uses

-- the columns of the stages before stage s
abbrev pub before : View → ℕ → List ℕ
before v zero = []
before v (suc s) = before v s ++ v.columns s

-- the constant and the form, at the values along the path to the cut's node
abbrev pub value_at : View → Cut → (ℕ → ℕ → ℚ) → ℚ
value_at v cut x = constant v cut +ℚ sum_ℚ (λ k. slope v cut k *ℚ along v x (node_of cut) k) (before v (v.stage (node_of cut)))

-- ---- which cuts are made
-- the weights on Bound cuts about node m
abbrev pub bound_weight : Uses → ℕ → ℚ
bound_weight No_use m = zero_ℚ
bound_weight (Use weight cut uses) m = value_if (is_bound (kind_of cut) && eqb (node_of cut) m) weight +ℚ bound_weight uses m

abbrev pub UsesRays : Uses → Type 0
UsesRays No_use = Unit {0}
UsesRays (Use weight cut uses) = (kind_of cut ≡ Ray) × UsesRays uses

-- of a Bound cut they add up to each child's share; a Ray cut uses no Bound cut
abbrev pub HasWeights : View → CutKind → ℕ → Uses → Type 0
HasWeights v Bound n uses = Each (λ m. bound_weight uses m ≡ share v m) (children v n)
HasWeights v Ray n uses = UsesRays uses

-- the node is live, every used end is finite, and the weights are right
pub record IsRecord (v : View) (n : ℕ) (kind : CutKind) (y : List Entry) (uses : Uses) : Type 0 where
  pub live : IsLive v n
  pub rows : Each (λ (r : NodeRow). IsGoodAt r.low r.high (coefficient y r.row)) (v.rows n)
  pub bounds : Each (λ j. IsGoodAt (v.lower j) (v.upper j) (cost_in v kind n j +ℚ slope v (Cut_of n kind y uses) j))
      (v.columns (v.stage n))
  pub weights : HasWeights v kind n uses

pub record IsUse (v : View) (n : ℕ) (w : ℚ) (m : ℕ) : Type 0 where
  pub weight : zero_ℚ ≤ℚ w
  pub child : is_child v n m ≡ true

abbrev mutual
  pub IsMade : View → Cut → Type 0
  IsMade v (Cut_of n kind y uses) = IsRecord v n kind y uses × AreMade v n uses

  -- the used cuts are made, and about children of n
  pub AreMade : View → ℕ → Uses → Type 0
  AreMade v n No_use = Unit {0}
  AreMade v n (Use weight cut uses) = IsUse v n weight (node_of cut) × IsMade v cut × AreMade v n uses

-- ---- sound cuts
-- the cost from m on, each node weighted by its total divided by that of m
unfoldable pub cost_from : View → (ℕ → ℕ → ℚ) → ℕ → ℚ
cost_from v x m = sum_ℚ (λ n. (total v n /ℚ total v m) *ℚ node_cost v x n) (subtree v m)

abbrev pub limit_of : View → (ℕ → ℕ → ℚ) → CutKind → ℕ → ℚ
limit_of v x Bound m = cost_from v x m
limit_of v x Ray m = zero_ℚ

-- at all values before the cut's node, and all values from it on that meet, with those, its rows and bounds and all below:
-- a Bound cut is at most the cost from its node on, and a Ray cut at most 0
abbrev pub IsSound : View → Cut → Type 0
IsSound v cut =
    (x : ℕ → ℕ → ℚ) → Each (FeasibleAt v x) (subtree v (node_of cut))
    → value_at v cut x ≤ℚ limit_of v x (kind_of cut) (node_of cut)

-- ---- the flat dual of a cut
-- at (m, i): the multipliers of row i in the records of m, each times the weights on the way down to it, over all ways
unfoldable mutual
  pub flat : Cut → ℕ → ℕ → ℚ
  flat (Cut_of n kind y uses) m i = value_if (eqb n m) (coefficient y i) +ℚ flats uses m i

  pub flats : Uses → ℕ → ℕ → ℚ
  flats No_use m i = zero_ℚ
  flats (Use weight cut uses) m i = weight *ℚ flat cut m i +ℚ flats uses m i

-- the program that a cut of this kind speaks of
abbrev pub priced : View → CutKind → View
priced v Bound = v
priced v Ray = without_costs v

-- ---- ground cuts: the multipliers of the node divided by its total, and each child's ground cut with its share as weight
abbrev mutual
  pub IsGround : View → (ℕ → ℕ → ℚ) → Cut → Type 0
  IsGround v y (Cut_of n kind m uses) =
      (kind ≡ Bound) × Each (λ (r : NodeRow). coefficient m r.row ≡ y n r.row /ℚ total v n) (v.rows n)
      × AreGround v y (children v n) uses

  pub AreGround : View → (ℕ → ℕ → ℚ) → List ℕ → Uses → Type 0
  AreGround v y [] No_use = Unit {0}
  AreGround v y (m ∷ ms) No_use = ⊥
  AreGround v y [] (Use weight cut uses) = ⊥
  AreGround v y (m ∷ ms) (Use weight cut uses) = (node_of cut ≡ m) × (weight ≡ share v m)
      × IsGround v y cut × AreGround v y ms uses

-- ---- the ways down from a cut, each with the product of the weights on it, depth first
pub record Way : Type 0 where
  pub weight : ℚ
  pub node : ℕ
  pub multipliers : List Entry

abbrev mutual
  pub ways : ℚ → Cut → List Way
  ways w (Cut_of n kind y uses) = record { weight = w; node = n; multipliers = y } ∷ ways_of w uses

  pub ways_of : ℚ → Uses → List Way
  ways_of w No_use = []
  ways_of w (Use weight cut uses) = ways (w *ℚ weight) cut ++ ways_of w uses
