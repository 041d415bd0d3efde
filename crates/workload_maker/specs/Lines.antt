-- The lines of a workload's texts.
use Rattle.std.specs.Prelude.{ℕ, ◌+◌, ◌*◌, Bool, true, false, if◌then◌else◌, ltb, List, ◌++◌, codes}
use Rattle.std.specs.Fmt.{decimal}
use Rattle.workload_maker.specs.Page.{Page, put, draw, drawn, upto}

-- how many periods there are, how many cases each behind the first has, and how many items each has
pub record Shape : Type 0 where
  pub stages : ℕ
  pub branches : ℕ
  pub size : ℕ

-- a name of a period, as C1
abbrev pub staged : List ℕ → ℕ → List ℕ
staged letter t = letter ++ decimal t

-- a name of a period and an item, as Y2_1
abbrev pub name : List ℕ → ℕ → ℕ → List ℕ
name letter t i = letter ++ decimal t ++ codes "_" ++ decimal i

-- a line with two fields, and one with three
abbrev pub line_2 : List ℕ → List ℕ → List ℕ
line_2 one two = codes " " ++ one ++ codes " " ++ two ++ codes "\n"

abbrev pub line_3 : List ℕ → List ℕ → List ℕ → List ℕ
line_3 one two three = codes " " ++ one ++ codes " " ++ two ++ codes " " ++ three ++ codes "\n"

-- ---- rows: behind the first period an E row for each item, before the last an L row

abbrev pub demand_row : ℕ → ℕ → Page → Page
demand_row t i = put (line_2 (codes "E") (name (codes "D") t i))

abbrev pub rows_of : Shape → ℕ → Page → Page
rows_of shape t page =
    let demands = if ltb 1 t then upto (demand_row t) shape.size page else page in
    if ltb t shape.stages then put (line_2 (codes "L") (staged (codes "C") t)) demands else demands

-- ---- columns: behind the first period Y and Z, before the last X

-- Y costs 10 to 19 and covers demand
abbrev pub y_column : ℕ → ℕ → Page → Page
y_column t i page = put
    (line_3 (name (codes "Y") t i) (codes "COST") (decimal (10 + draw 10 page))
    ++ line_3 (name (codes "Y") t i) (name (codes "D") t i) (codes "1"))
    (drawn page)

-- Z costs 1 and goes from a period's demand to that of the next, where there is one
abbrev pub z_column : Shape → ℕ → ℕ → Page → Page
z_column shape t i page =
    let kept = put
    (line_3 (name (codes "Z") t i) (codes "COST") (codes "1")
    ++ line_3 (name (codes "Z") t i) (name (codes "D") t i) (codes "-1")) page in
    if ltb t shape.stages then put (line_3 (name (codes "Z") t i) (name (codes "D") (t + 1) i) (codes "1")) kept else kept

-- X costs 1 to 5, takes capacity and covers demand of the next period
abbrev pub x_column : ℕ → ℕ → Page → Page
x_column t i page = put
    (line_3 (name (codes "X") t i) (codes "COST") (decimal (1 + draw 5 page))
    ++ line_3 (name (codes "X") t i) (staged (codes "C") t) (codes "1")
    ++ line_3 (name (codes "X") t i) (name (codes "D") (t + 1) i) (codes "1"))
    (drawn page)

abbrev pub item_columns : Shape → ℕ → ℕ → Page → Page
item_columns shape t i page =
    let behind = if ltb 1 t then z_column shape t i (y_column t i page) else page in
    if ltb t shape.stages then x_column t i behind else behind

abbrev pub columns_of : Shape → ℕ → Page → Page
columns_of shape t = upto (item_columns shape t) shape.size

-- ---- the other lines

-- before the last period there is a capacity of 20 for each item
abbrev pub capacity_of : Shape → ℕ → Page → Page
capacity_of shape t page =
    if ltb t shape.stages then put (line_3 (codes "RHS") (staged (codes "C") t) (decimal (20 * shape.size))) page else page

-- a period begins with its first column and its first row
abbrev pub period_of : ℕ → Page → Page
period_of t =
    if ltb 1 t then put (line_3 (name (codes "Y") t 1) (name (codes "D") t 1) (staged (codes "P") t))
    else put (line_3 (codes "X1_1") (codes "COST") (codes "P1"))

-- a demand is 0 to 19
abbrev pub demand_of : ℕ → ℕ → Page → Page
demand_of t i page = put (line_3 (codes "RHS") (name (codes "D") t i) (decimal (draw 20 page))) (drawn page)

-- a case has the demand of each item
abbrev pub case_head : Shape → ℕ → List ℕ
case_head shape t = codes " BL" ++ line_3 (staged (codes "B") t) (staged (codes "P") t) (codes "1/" ++ decimal shape.branches)

abbrev pub case_of : Shape → ℕ → Page → Page
case_of shape t page = upto (demand_of t) shape.size (put (case_head shape t) page)

-- a period behind the first has a block of cases
abbrev pub block_of : Shape → ℕ → Page → Page
block_of shape t page = if ltb 1 t then upto (λ (b : ℕ). case_of shape t) shape.branches page else page
