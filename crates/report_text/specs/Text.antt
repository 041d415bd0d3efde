-- The text of a report: its lines in order, each ended by a line feed (10), its fields separated by one space (32).
use Rattle.std.specs.Prelude.{ℕ, List, [], ◌∷◌, ◌++◌, Option, Some, None, length, codes, slice_index_or}
use Rattle.std.specs.List.{flat_map}
use Rattle.std.specs.Fmt.{decimal}
use Rattle.rationals.specs.Rational.{ℚ}
use Rattle.rationals.specs.Passes.{Operation}
use Rattle.rationals.specs.declared.Op.{Op}
use Rattle.rationals.specs.declared.Op.TheVariants.{Add, Sub, Mul, Div}
use Rattle.frac128.specs.Text.{text_of}
use Rattle.scen_defs.specs.Values.{At}
use Rattle.scen_defs.specs.Names.{column_names, row_names}
use Rattle.scen_defs.specs.declared.program.Program.{Program}
use Rattle.scen_defs.specs.declared.report.Place.{Place}
use Rattle.scen_defs.specs.declared.report.Place.TheVariants.{Solve, Cut, Cost, Ground, Dual, Check}
use Rattle.scen_defs.specs.declared.report.Finding.{Finding}
use Rattle.scen_defs.specs.declared.report.Finding.TheVariants.{Optimal, Infeasible, Unbounded, OpenSolves, OpenPivots, OpenPassed}
use Rattle.scen_defs.specs.declared.report.Report.{Report}

-- ---- the words of a finding

abbrev pub op_text : Op → List ℕ
op_text Add = codes "ADD"
op_text Sub = codes "SUB"
op_text Mul = codes "MUL"
op_text Div = codes "DIV"

abbrev pub place_text : Place → List ℕ
place_text (Solve k) = codes "SOLVE " ++ decimal k
place_text (Cut k) = codes "CUT " ++ decimal k
place_text (Cost k) = codes "COST " ++ decimal k
place_text Ground = codes "GROUND"
place_text Dual = codes "DUAL"
place_text Check = codes "CHECK"

-- the operation and its operands
abbrev pub operation_text : Operation → List ℕ
operation_text p = op_text p.op ++ 32 ∷ text_of p.a ++ 32 ∷ text_of p.b

abbrev pub finding_text : Finding → List ℕ
finding_text Optimal = codes "OPTIMAL"
finding_text Infeasible = codes "INFEASIBLE"
finding_text Unbounded = codes "UNBOUNDED"
finding_text (OpenSolves n) = codes "OPEN SOLVES " ++ decimal n
finding_text (OpenPivots k) = codes "OPEN PIVOTS " ++ decimal k
finding_text (OpenPassed place p) = codes "OPEN PASSED " ++ place_text place ++ 32 ∷ operation_text p

-- ---- numbers

-- an end: its number, or none
abbrev pub end_text : Option ℚ → List ℕ
end_text None = codes "none"
end_text (Some v) = text_of v

-- the line of the value that shows a finding: the ray's for Infeasible, the direction's for Unbounded
abbrev pub extra_text : Finding → Option ℚ → List ℕ
extra_text finding None = []
extra_text Infeasible (Some v) = codes "VALUE " ++ text_of v ++ 10 ∷ []
extra_text finding (Some v) = codes "SLOPE " ++ text_of v ++ 10 ∷ []

-- ---- lists

-- a number at a node, with the name of its column or row
abbrev pub value_text : List (List ℕ) → At → List ℕ
value_text names a = decimal a.node ++ 32 ∷ slice_index_or names a.index [] ++ 32 ∷ text_of a.value ++ 10 ∷ []

-- the word of a list, the count of its lines, and the lines; nothing where there is no list
abbrev pub list_text : List ℕ → List (List ℕ) → Option (List At) → List ℕ
list_text word names None = []
list_text word names (Some values) = word ++ decimal (length values) ++ 10 ∷ flat_map (value_text names) values

-- ---- the report

abbrev pub head_text : Report → List ℕ
head_text report =
    codes "REPORT " ++ decimal report.number ++ codes " NODES " ++ decimal report.nodes ++ codes " SCENARIOS " ++ decimal report.scenarios
    ++ 10 ∷ []

-- the finding and the ends, and what follows
abbrev pub outcome_then : Report → List ℕ → List ℕ
outcome_then report rest =
    codes "STATUS " ++ finding_text report.finding ++ codes "\nLOWER " ++ end_text report.lower ++ codes "\nUPPER "
    ++ end_text report.upper ++ 10 ∷ rest

-- the finding and the ends alone
abbrev pub outcome_text : Report → List ℕ
outcome_text report = outcome_then report []

abbrev pub ends_text : Report → List ℕ
ends_text report = outcome_then report (extra_text report.finding report.extra)

abbrev pub lists_text : Program → Report → List ℕ
lists_text program report =
    list_text (codes "POLICY ") (column_names program.columns.items) report.policy
    ++ list_text (codes "DIRECTION ") (column_names program.columns.items) report.direction
    ++ list_text (codes "DUAL ") (row_names program.rows.items) report.dual
    ++ list_text (codes "RAY ") (row_names program.rows.items) report.ray

abbrev pub report_text : Program → Report → List ℕ
report_text program report = head_text report ++ ends_text report ++ lists_text program report ++ codes "END\n"
