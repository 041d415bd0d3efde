-- What the type of a program keeps.
use Rattle.std.proofs.Common.{◌≡◌, ℕ, zero, suc, ◌<◌, ◌≤◌, ◌^◌, is_some, Bool, true, false, ◌||◌, eqb, leb, List}
use Rattle.std.proofs.Common.{[], ◌∷◌, map, length}
use Rattle.std.proofs.Common.{Option, Some, None}
use Rattle.smps_words.specs.Field.{IsField}
use Rattle.smps_words.specs.declared.row_kind.RowKind.{RowKind}
use Rattle.smps_words.specs.declared.row_kind.RowKind.TheVariants.{Less, Greater, Equal}
use Rattle.rationals.specs.Rational.{ℚ, zero_ℚ, one_ℚ, ◌<ℚ◌}
use Rattle.rationals.specs.Sums.{sum_ℚ}
use Rattle.rationals.specs.Sparse.{Entry}
use Rattle.scen_defs.specs.Lists.{Each, is_in, places, passes_at}
use Rattle.rationals.specs.Intervals.{InOrder}
use Rattle.scen_defs.specs.Trees.{Node, Scenario, Program, is_live, node_at}
use Rattle.scen_defs.specs.Names.{column_names, row_names}
use Rattle.scen_defs.specs.declared.program.Column.{Column}
use Rattle.scen_defs.specs.declared.program.Row.{Row}
use Rattle.scen_defs.specs.declared.program.NodeRow.{NodeRow}

-- ---- names
-- no two of them are the same
abbrev pub Differ : List (List ℕ) → Type 0
Differ [] = Unit {0}
Differ (name ∷ names) = Each (λ other. other ≡ name → ⊥) names × Differ names

pub record AreNames (names : List (List ℕ)) : Type 0 where
  pub fields : Each IsField names
  pub differ : Differ names

-- ---- the ends of rows
-- row i; past the last one, one of kind L
abbrev pub row_at : List Row → ℕ → Row
row_at [] i = record { name = []; stage = 0; kind = Less; range = None }
row_at (row ∷ rows) zero = row
row_at (row ∷ rows) (suc i) = row_at rows i

-- whether a row of this kind and range has a low end: an L row only by its range
abbrev pub has_low : RowKind → Option ℚ → Bool
has_low Less range = is_some range
has_low Greater range = true
has_low Equal range = true

-- and a high end: a G row only by its range
abbrev pub has_high : RowKind → Option ℚ → Bool
has_high Less range = true
has_high Greater range = is_some range
has_high Equal range = true

pub record HasEnds (row : Row) (r : NodeRow) : Type 0 where
  pub low : is_some r.low ≡ has_low row.kind row.range
  pub high : is_some r.high ≡ has_high row.kind row.range

-- ---- nodes
-- node n is live
abbrev pub Lives : Program → ℕ → Type 0
Lives p n = passes_at is_live n p.nodes ≡ true

-- the parent of a node is live, one stage earlier and of a smaller number; node 0 alone has none, and is of stage 0
pub record IsChildOf (p : Program) (n stage m : ℕ) : Type 0 where
  pub live : Lives p m
  pub earlier : stage ≡ suc (node_at p.nodes m).stage
  pub smaller : m < n

abbrev pub HasParent : Program → ℕ → ℕ → Option ℕ → Type 0
HasParent p n stage None = (n ≡ 0) × (stage ≡ 0)
HasParent p n stage (Some m) = IsChildOf p n stage m

-- entries of columns of the node's or earlier stages, and ends in order
pub record FitsRow (p : Program) (stage : ℕ) (r : NodeRow) : Type 0 where
  pub entries : Each (λ (e : Entry). passes_at (λ (c : Column). leb c.stage stage) e.column p.columns ≡ true) r.entries
  pub in_order : InOrder r.low r.high
  -- it has the ends that its kind and its range give it
  pub ends : HasEnds (row_at p.rows r.row) r

pub record FitsNode (p : Program) (n : ℕ) (node : Node) : Type 0 where
  pub stage : node.stage < length p.periods
  pub parent : HasParent p n node.stage node.parent
  -- costs of its stage's columns, and exactly the rows of its stage, rising
  pub cost : Each (λ (e : Entry). passes_at (λ (c : Column). eqb c.stage node.stage) e.column p.columns ≡ true) node.cost
  pub numbers : map (λ (r : NodeRow). r.row) node.rows ≡ places (λ (r : Row). eqb r.stage node.stage) 0 p.rows
  pub rows : Each (FitsRow p node.stage) node.rows

-- from stage s on one live node for each stage, each the parent of the next
abbrev pub Follows : Program → ℕ → Option ℕ → List ℕ → Type 0
Follows p s above [] = s ≡ length p.periods
Follows p s above (n ∷ path) = Lives p n × ((node_at p.nodes n).stage ≡ s) × ((node_at p.nodes n).parent ≡ above)
    × Follows p (suc s) (Some n) path

pub record FitsScenario (p : Program) (s : Scenario) : Type 0 where
  pub positive : zero_ℚ <ℚ s.probability
  pub path : Follows p 0 None s.path

-- whether node n stands on a path
abbrev pub is_reached : ℕ → List Scenario → Bool
is_reached n [] = false
is_reached n (s ∷ scenarios) = is_in n s.path || is_reached n scenarios

pub record FitsColumn (p : Program) (c : Column) : Type 0 where
  pub stage : c.stage < length p.periods
  pub in_order : InOrder c.lower c.upper

-- the numbers of columns, rows and nodes have 32 bits
pub record IsSmall (p : Program) : Type 0 where
  pub columns : length p.columns < 2 ^ 32
  pub rows : length p.rows < 2 ^ 32
  pub nodes : length p.nodes < 2 ^ 32
  pub scenarios : length p.scenarios < 2 ^ 32

-- the names of periods, columns, rows and scenarios
pub record HasNames (p : Program) : Type 0 where
  pub periods : AreNames p.periods
  pub columns : AreNames (column_names p.columns)
  pub rows : AreNames (row_names p.rows)
  pub scenarios : AreNames (map (λ (s : Scenario). s.name) p.scenarios)

pub record IsProgram (p : Program) : Type 0 where
  pub small : IsSmall p
  pub names : HasNames p
  -- 1 to 16 periods, which are the stages
  pub periods : 0 < length p.periods
  pub few_periods : length p.periods ≤ 16
  pub row_stages : Each (λ (r : Row). r.stage < length p.periods) p.rows
  pub columns : Each (FitsColumn p) p.columns
  pub nodes : (n : ℕ) → Lives p n → FitsNode p n (node_at p.nodes n)
  pub scenarios : Each (FitsScenario p) p.scenarios
  pub reached : (n : ℕ) → Lives p n → is_reached n p.scenarios ≡ true
  pub certain : sum_ℚ (λ (s : Scenario). s.probability) p.scenarios ≡ one_ℚ
