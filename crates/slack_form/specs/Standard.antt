-- Rows of three kinds as equations: the slack columns come behind the columns, one for each row that isn't an equation.
use Rattle.std.specs.Prelude.{ℕ, suc, Bool, true, false, List, [], ◌∷◌, ◌++◌}
use Rattle.rationals.specs.Rational.{ℚ, one_ℚ, neg_ℚ}
use Rattle.rationals.specs.Sparse.{Entry}
use Rattle.lp_defs.specs.Program as lp
use Rattle.lp_defs.specs.Tests.{is_below_zero}
use Rattle.smps_words.specs.declared.row_kind.RowKind.{RowKind}
use Rattle.smps_words.specs.declared.row_kind.RowKind.TheVariants.{Less, Greater, Equal}
use Rattle.slack_form.specs.declared.limits.Limit.{Limit}
use Rattle.slack_form.specs.declared.limits.Limits.{Limits}

-- ---- slack columns

-- what stands in the slack column j of a row: 1 makes a row that is at most an equation, and -1 one that is at least
abbrev pub slack_at : ℕ → RowKind → List Entry
slack_at j Less = record { column = j; value = one_ℚ } ∷ []
slack_at j Greater = record { column = j; value = neg_ℚ one_ℚ } ∷ []
slack_at j Equal = []

-- the slack column of the next row, where that of this row is j
abbrev pub next_slack : ℕ → RowKind → ℕ
next_slack j Less = suc j
next_slack j Greater = suc j
next_slack j Equal = j

-- the column behind the slack columns of the rows, which begin at j
abbrev pub behind : ℕ → List Limit → ℕ
behind j [] = j
behind j (row ∷ rows) = behind (next_slack j row.kind) rows

-- ---- signs

-- multiplied by -1 where a row is turned
abbrev pub turned : Bool → ℚ → ℚ
turned true v = neg_ℚ v
turned false v = v

abbrev pub turned_form : Bool → List Entry → List Entry
turned_form b [] = []
turned_form b (e ∷ f) = record { column = e.column; value = turned b e.value } ∷ turned_form b f

-- a row is turned where its right side is below 0
abbrev pub is_turned : Limit → Bool
is_turned row = is_below_zero row.right

-- ---- the rows

-- the equation of a row whose slack column is j
abbrev pub equation : ℕ → Limit → List Entry
equation j row = turned_form (is_turned row) (row.entries ++ slack_at j row.kind)

-- the equations of rows whose slack columns begin at j
abbrev pub equations : ℕ → List Limit → List (List Entry)
equations j [] = []
equations j (row ∷ rows) = equation j row ∷ equations (next_slack j row.kind) rows

-- their right sides, none of them below 0
abbrev pub turned_rights : List Limit → List ℚ
turned_rights [] = []
turned_rights (row ∷ rows) = turned (is_turned row) row.right ∷ turned_rights rows

-- rows over the columns below n, with their cost
abbrev pub standard_from : ℕ → List Limit → List Entry → lp.Program
standard_from n rows cost = record { columns = behind n rows; rows = equations n rows; right = turned_rights rows; cost = cost }

abbrev pub standard_of : Limits → lp.Program
standard_of limits = standard_from limits.columns limits.rows.items limits.cost

-- ---- multipliers

-- the multipliers of the rows, from those of their equations
abbrev pub turned_back : List Limit → List ℚ → List ℚ
turned_back [] duals = []
turned_back (row ∷ rows) [] = []
turned_back (row ∷ rows) (dual ∷ duals) = turned (is_turned row) dual ∷ turned_back rows duals

abbrev pub signed : Limits → List ℚ → List ℚ
signed limits duals = turned_back limits.rows.items duals
