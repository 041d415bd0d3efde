-- Points, multipliers and rays of a program with rows of three kinds, with no word of slack columns.
use Rattle.std.specs.Prelude.{◌≡◌, ℕ, ◌<◌, List, [], ◌∷◌, length}
use Rattle.rationals.specs.Rational.{ℚ, zero_ℚ, ◌-ℚ◌, ◌≤ℚ◌, ◌<ℚ◌}
use Rattle.rationals.specs.Sums.{dot}
use Rattle.rationals.specs.Sparse.{coefficient, product}
use Rattle.smps_words.specs.declared.row_kind.RowKind.{RowKind}
use Rattle.smps_words.specs.declared.row_kind.RowKind.TheVariants.{Less, Greater, Equal}
use Rattle.slack_form.specs.declared.limits.Limit.{Limit}
use Rattle.slack_form.specs.declared.limits.Limits.{Limits}
use Rattle.slack_form.specs.Limits.{rights, column_coefficients}

-- ---- points and rays

-- the value is at most, at least or equal to the right side
abbrev pub Keeps : RowKind → ℚ → ℚ → Type 0
Keeps Less value right = value ≤ℚ right
Keeps Greater value right = right ≤ℚ value
Keeps Equal value right = value ≡ right

-- each row keeps to its right side at x
abbrev pub AllKeep : List Limit → (ℕ → ℚ) → Type 0
AllKeep [] x = Unit {0}
AllKeep (row ∷ rows) x = Keeps row.kind (product row.entries x) row.right × AllKeep rows x

-- each row keeps to 0 at d
abbrev pub AllKeepZero : List Limit → (ℕ → ℚ) → Type 0
AllKeepZero [] d = Unit {0}
AllKeepZero (row ∷ rows) d = Keeps row.kind (product row.entries d) zero_ℚ × AllKeepZero rows d

-- nowhere below 0, and each row keeps to its right side
pub record IsPoint (limits : Limits) (x : ℕ → ℚ) : Type 0 where
  pub nonnegative : (j : ℕ) → zero_ℚ ≤ℚ x j
  pub keeps : AllKeep limits.rows.items x

-- a direction that leads from each point to points, in which the cost falls
pub record IsRay (limits : Limits) (d : ℕ → ℚ) : Type 0 where
  pub nonnegative : (j : ℕ) → zero_ℚ ≤ℚ d j
  pub stays : AllKeepZero limits.rows.items d
  pub falls : product limits.cost d <ℚ zero_ℚ

-- ---- multipliers

-- that of a row that is at most is at most 0, that of one that is at least is at least 0
abbrev pub HasSign : RowKind → ℚ → Type 0
HasSign Less dual = dual ≤ℚ zero_ℚ
HasSign Greater dual = zero_ℚ ≤ℚ dual
HasSign Equal dual = Unit {0}

abbrev pub HaveSigns : List Limit → List ℚ → Type 0
HaveSigns [] duals = Unit {0}
HaveSigns (row ∷ rows) [] = Unit {0}
HaveSigns (row ∷ rows) (dual ∷ duals) = HasSign row.kind dual × HaveSigns rows duals

-- the sum of column j's entries, each times its row's multiplier
abbrev pub column_sum : Limits → List ℚ → ℕ → ℚ
column_sum limits duals j = dot duals (column_coefficients j limits.rows.items)

-- the cost of column j less that sum
abbrev pub reduced_cost : Limits → List ℚ → ℕ → ℚ
reduced_cost limits duals j = coefficient limits.cost j -ℚ column_sum limits duals j

-- the sum of the right sides, each times its row's multiplier
abbrev pub worth : Limits → List ℚ → ℚ
worth limits duals = dot duals (rights limits.rows.items)

-- multipliers of the right signs with no reduced cost below 0
pub record IsDual (limits : Limits) (duals : List ℚ) : Type 0 where
  pub one_each : length duals ≡ length limits.rows.items
  pub signs : HaveSigns limits.rows.items duals
  pub reduced : (j : ℕ) → j < limits.columns → zero_ℚ ≤ℚ reduced_cost limits duals j

-- multipliers of the right signs with no column sum above 0, which are worth more than 0
pub record IsFarkas (limits : Limits) (duals : List ℚ) : Type 0 where
  pub one_each : length duals ≡ length limits.rows.items
  pub signs : HaveSigns limits.rows.items duals
  pub sums : (j : ℕ) → j < limits.columns → column_sum limits duals j ≤ℚ zero_ℚ
  pub above : zero_ℚ <ℚ worth limits duals
