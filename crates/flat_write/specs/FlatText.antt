-- The text of a program as one core file: each column and each row once at each live node of its stage.
use Rattle.std.specs.Prelude.{ℕ, List, [], ◌∷◌, ◌++◌, Option, Some, None, codes, if◌then◌else◌}
use Rattle.std.specs.List.{flat_map}
use Rattle.std.specs.Fmt.{decimal}
use Rattle.frac128.specs.Text.{text_of}
use Rattle.rationals.specs.Rational.{ℚ, zero_ℚ, neg_ℚ}
use Rattle.rationals.specs.Order.{same}
use Rattle.rationals.specs.Sparse.{coefficient}
use Rattle.core_defs.specs.Bounds.{infinite, is_at_most}
use Rattle.scen_defs.specs.Program.{View}
use Rattle.scen_defs.specs.Flat.{subtree}
use Rattle.scen_defs.specs.declared.program.NodeRow.{NodeRow}
use Rattle.flat_write.specs.Operations.{or_zero, node_total, price, row_span}
use Rattle.flat_write.specs.declared.rows.RowPart.{RowPart}
use Rattle.flat_write.specs.declared.rows.RowPart.TheVariants.{Kind, Side, Range}

-- ---- names and lines

-- column j at node n is Cn_j, row i at node n is Rn_i
abbrev pub flat_name : List ℕ → ℕ → ℕ → List ℕ
flat_name letter n place = letter ++ decimal n ++ codes "_" ++ decimal place

abbrev pub word_line : List ℕ → List ℕ → List ℕ
word_line one two = codes " " ++ one ++ codes " " ++ two ++ codes "\n"

abbrev pub number_line : List ℕ → List ℕ → ℚ → List ℕ
number_line one two value = codes " " ++ one ++ codes " " ++ two ++ codes " " ++ text_of value ++ codes "\n"

-- a line for a number that isn't 0
abbrev pub nonzero_line : List ℕ → List ℕ → ℚ → List ℕ
nonzero_line one two value = if same value zero_ℚ then [] else number_line one two value

-- ---- rows

-- equal ends are of kind E, the high end alone of kind L, all others of kind G
abbrev pub kind_letter : Option ℚ → Option ℚ → List ℕ
kind_letter None high = codes "L"
kind_letter (Some low) None = codes "G"
kind_letter (Some low) (Some high) = if same low high then codes "E" else codes "G"

-- the low end, where there is one, else the high one
abbrev pub side_of : Option ℚ → Option ℚ → ℚ
side_of (Some low) high = low
side_of None (Some high) = high
side_of None None = zero_ℚ

-- what ROWS, RHS and RANGES say of a row at a node
abbrev pub row_text : RowPart → ℕ → NodeRow → List ℕ
row_text Kind n r = word_line (kind_letter r.low r.high) (flat_name (codes "R") n r.row)
row_text Side n r = nonzero_line (codes "RHS") (flat_name (codes "R") n r.row) (side_of r.low r.high)
row_text Range n r = nonzero_line (codes "RNG") (flat_name (codes "R") n r.row) (or_zero (row_span r))

abbrev pub rows_text : RowPart → View → List ℕ
rows_text part v = flat_map (λ n. flat_map (row_text part n) (v.rows n)) v.live

-- ---- columns

-- what a column of that name, which is column j of the program, has in a row at node m
abbrev pub entry_text : List ℕ → ℕ → ℕ → NodeRow → List ℕ
entry_text name j m r = nonzero_line name (flat_name (codes "R") m r.row) (coefficient r.entries j)

-- its entries, in the rows of the node and of those below it
abbrev pub entries_text : View → ℕ → ℕ → List ℕ
entries_text v n j = flat_map (λ m. flat_map (entry_text (flat_name (codes "C") n j) j m) (v.rows m)) (subtree v n)

abbrev pub column_text : View → ℕ → ℕ → List ℕ
column_text v n j = number_line (flat_name (codes "C") n j) (codes "COST") (or_zero (price v (or_zero (node_total v n)) n j))
    ++ entries_text v n j

abbrev pub columns_text : View → List ℕ
columns_text v = flat_map (λ n. flat_map (column_text v n) (v.columns (v.stage n))) v.live

-- ---- bounds: from ten to the thirtieth on LO and UP state no bound, which FX does

abbrev pub fixed_bound_line : List ℕ → ℚ → List ℕ
fixed_bound_line name value = number_line (codes "FX BND") name value

abbrev pub lower_bound_line : List ℕ → ℚ → List ℕ
lower_bound_line name value = number_line (codes "LO BND") name value

abbrev pub upper_bound_line : List ℕ → ℚ → List ℕ
upper_bound_line name value = number_line (codes "UP BND") name value

-- at least that, without an upper bound
abbrev pub from_text : List ℕ → ℚ → List ℕ
from_text name low =
    if is_at_most low (neg_ℚ infinite) then fixed_bound_line name low ++ word_line (codes "PL BND") name
    else nonzero_line (codes "LO BND") name low

-- at most that, without a lower bound
abbrev pub to_text : List ℕ → ℚ → List ℕ
to_text name high =
    if is_at_most infinite high then fixed_bound_line name high ++ word_line (codes "MI BND") name
    else word_line (codes "MI BND") name ++ upper_bound_line name high

-- between two bounds that differ
abbrev pub between_text : List ℕ → ℚ → ℚ → List ℕ
between_text name low high =
    if is_at_most infinite high then fixed_bound_line name high ++ lower_bound_line name low
    else (if is_at_most low (neg_ℚ infinite) then fixed_bound_line name low else lower_bound_line name low) ++ upper_bound_line name high

abbrev pub bounds_text : List ℕ → Option ℚ → Option ℚ → List ℕ
bounds_text name None None = word_line (codes "FR BND") name
bounds_text name (Some low) None = from_text name low
bounds_text name None (Some high) = to_text name high
bounds_text name (Some low) (Some high) = if same low high then fixed_bound_line name low else between_text name low high

abbrev pub bound_text : View → ℕ → ℕ → List ℕ
bound_text v n j = bounds_text (flat_name (codes "C") n j) (v.lower j) (v.upper j)

abbrev pub all_bounds_text : View → List ℕ
all_bounds_text v = flat_map (λ n. flat_map (bound_text v n) (v.columns (v.stage n))) v.live

-- ---- the whole text

-- a section that is there only where it has a line
abbrev pub section_text : List ℕ → List ℕ → List ℕ
section_text header [] = []
section_text header (byte ∷ bytes) = header ++ (byte ∷ bytes)

abbrev pub front_text : View → List ℕ
front_text v = codes "NAME FLAT\nROWS\n N COST\n" ++ rows_text Kind v ++ codes "COLUMNS\n" ++ columns_text v

abbrev pub flat_text : View → List ℕ
flat_text v = front_text v ++ section_text (codes "RHS\n") (rows_text Side v) ++ section_text (codes "RANGES\n") (rows_text Range v)
    ++ section_text (codes "BOUNDS\n") (all_bounds_text v) ++ codes "ENDATA\n"
