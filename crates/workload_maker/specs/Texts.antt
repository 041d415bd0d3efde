-- The three texts of a workload.
use Rattle.std.specs.Prelude.{ℕ, List, [], codes}
use Rattle.workload_maker.specs.Page.{Page, put, upto}
use Rattle.workload_maker.specs.Lines.{Shape, rows_of, columns_of, capacity_of, period_of, block_of}
use Rattle.workload_maker.specs.declared.made.Made.{Made as MadeOf}

-- an empty page, from whose state numbers are drawn
abbrev pub empty : ℕ → Page
empty state = record { text = []; state = state }

-- the core: its costs are drawn from the start on
abbrev pub core_rows : Shape → ℕ → Page
core_rows shape start = upto (rows_of shape) shape.stages (put (codes "NAME MAKE\nROWS\n N COST\n") (empty start))

abbrev pub core_page : Shape → ℕ → Page
core_page shape start =
    let columns = upto (columns_of shape) shape.stages (put (codes "COLUMNS\n") (core_rows shape start)) in
    put (codes "ENDATA\n") (upto (capacity_of shape) shape.stages (put (codes "RHS\n") columns))

-- the periods: nothing is drawn
abbrev pub time_page : Shape → Page
time_page shape = put (codes "ENDATA\n") (upto period_of shape.stages (put (codes "TIME MAKE\nPERIODS\n") (empty 0)))

-- the cases: their demands are drawn on behind the costs
abbrev pub stoch_page : Shape → ℕ → Page
stoch_page shape state =
    put (codes "ENDATA\n") (upto (block_of shape) shape.stages (put (codes "STOCH MAKE\nBLOCKS DISCRETE\n") (empty state)))

-- the texts of a workload
pub record Made : Type 0 where
  pub core : List ℕ
  pub time : List ℕ
  pub stoch : List ℕ

abbrev pub made_of : Shape → ℕ → Made
made_of shape start =
    let core = core_page shape start in
    record { core = core.text; time = (time_page shape).text; stoch = (stoch_page shape core.state).text }

abbrev pub made_view : MadeOf → Made
made_view made = record { core = made.core.items; time = made.time.items; stoch = made.stoch.items }
