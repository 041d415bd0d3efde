-- What each line of a report says, and which line comes next.
use Rattle.std.specs.Prelude.{ℕ, Bool, true, not, ◌&&◌, ◌||◌, ◌-◌, ◌^◌, nat_eq, nat_lt, is_some}
use Rattle.std.specs.Prelude.{List, [], ◌∷◌, ◌++◌, Option, Some, None, Result, Ok, codes}
use Rattle.rationals.specs.Rational.{ℚ, zero_ℚ}
use Rattle.rationals.specs.Order.{same}
use Rattle.rationals.specs.Choices.{pick}
use Rattle.smps_words.specs.Names.{same_name, place_of}
use Rattle.scen_defs.specs.Values.{At}
use Rattle.scen_defs.specs.declared.report.Finding.{Finding}
use Rattle.scen_defs.specs.declared.report.Finding.TheVariants.{Optimal, Infeasible, Unbounded, OpenSolves, OpenPivots, OpenPassed}
use Rattle.scen_defs.specs.declared.report.Report.{Report}
use Rattle.report_defs.specs.Blank.{blank_report}
use Rattle.report_defs.specs.Findings.{has_direction, has_ray, has_extra}
use Rattle.refusals.specs.declared.cause.Cause.{Cause}
use Rattle.report_reader.specs.declared.draft.ListKind.{ListKind}
use Rattle.report_reader.specs.declared.draft.ListKind.TheVariants as lists
use Rattle.report_reader.specs.declared.draft.Next.{Next}
use Rattle.report_reader.specs.declared.draft.Next.TheVariants as next
use Rattle.report_reader.specs.declared.draft.Draft.{Draft}
use Rattle.report_reader.specs.declared.tables.Tables.{Tables}
use Rattle.report_reader.specs.Answers.{on_ok, bad}
use Rattle.report_reader.specs.Pieces.{after, field}
use Rattle.report_reader.specs.Numbers.{fraction, end_of, count, small}
use Rattle.report_reader.specs.Findings.{finding_of}

-- ---- what comes next

-- nothing is read of the report with this number
abbrev pub fresh : ℕ → Draft
fresh number = record { report = blank_report number 0 0 Optimal; list = []; next = next.Head }

-- the next line, where that of this list or of one behind it comes: each list stands there where the table has it
abbrev pub from_ray : Report → Next
from_ray report = pick (has_ray report.finding) (next.Count lists.Ray) next.End

abbrev pub from_dual : Report → Next
from_dual report = pick (is_some report.lower) (next.Count lists.Dual) (from_ray report)

abbrev pub from_direction : Report → Next
from_direction report = pick (has_direction report.finding) (next.Count lists.Direction) (from_dual report)

abbrev pub from_policy : Report → Next
from_policy report = pick (is_some report.upper) (next.Count lists.Policy) (from_direction report)

abbrev pub from_extra : Report → Next
from_extra report = pick (has_extra report.finding) next.Extra (from_policy report)

abbrev pub behind : ListKind → Report → Next
behind lists.Policy report = from_direction report
behind lists.Direction report = from_dual report
behind lists.Dual report = from_ray report
behind lists.Ray report = next.End

-- ---- the lines before the lists

abbrev pub head_line : Report → List ℕ → Result Draft Cause
head_line report line =
    on_ok (after (codes "REPORT ") line) (λ a. on_ok (field a) (λ i. on_ok (small i.0) (λ number.
    on_ok (after (codes "NODES ") i.1) (λ b. on_ok (field b) (λ n. on_ok (small n.0) (λ nodes.
    on_ok (after (codes "SCENARIOS ") n.1) (λ s. on_ok (small s) (λ scenarios.
    pick (nat_eq number report.number) (Ok
    (record { report = record report { nodes = nodes; scenarios = scenarios }; list = []; next = next.Status })) bad))))))))

abbrev pub status_line : Report → List ℕ → Result Draft Cause
status_line report line =
    on_ok (after (codes "STATUS ") line) (λ text. on_ok (finding_of text) (λ finding.
    Ok (record { report = record report { finding = finding }; list = []; next = next.Lower })))

abbrev pub lower_line : Report → List ℕ → Result Draft Cause
lower_line report line =
    on_ok (after (codes "LOWER ") line) (λ text. on_ok (end_of text) (λ lower.
    Ok (record { report = record report { lower = lower }; list = []; next = next.Upper })))

abbrev pub upper_line : Report → List ℕ → Result Draft Cause
upper_line report line =
    on_ok (after (codes "UPPER ") line) (λ text. on_ok (end_of text) (λ upper.
    let told : Report = record report { upper = upper } in
    Ok (record { report = told; list = []; next = from_extra told })))

-- the word before the value that shows a finding
abbrev pub extra_word : Finding → List ℕ
extra_word Infeasible = codes "VALUE "
extra_word Unbounded = codes "SLOPE "
extra_word Optimal = codes "SLOPE "
extra_word (OpenSolves n) = codes "SLOPE "
extra_word (OpenPivots k) = codes "SLOPE "
extra_word (OpenPassed place p) = codes "SLOPE "

abbrev pub extra_line : Report → List ℕ → Result Draft Cause
extra_line report line =
    on_ok (after (extra_word report.finding) line) (λ text. on_ok (fraction text) (λ value.
    Ok (record { report = record report { extra = Some value }; list = []; next = from_policy report })))

-- ---- lists

abbrev pub list_word : ListKind → List ℕ
list_word lists.Policy = codes "POLICY "
list_word lists.Direction = codes "DIRECTION "
list_word lists.Dual = codes "DUAL "
list_word lists.Ray = codes "RAY "

-- the report with a list
abbrev pub filed : ListKind → List At → Report → Report
filed lists.Policy list report = record report { policy = Some list }
filed lists.Direction list report = record report { direction = Some list }
filed lists.Dual list report = record report { dual = Some list }
filed lists.Ray list report = record report { ray = Some list }

-- a list of which so many lines are left
abbrev pub listed : ListKind → ℕ → List At → Report → Draft
listed kind left list report =
    pick (nat_eq left 0) (record { report = filed kind list report; list = []; next = behind kind report })
    (record { report = report; list = list; next = next.Value kind left })

abbrev pub count_line : ListKind → Report → List ℕ → Result Draft Cause
count_line kind report line = on_ok (after (list_word kind) line) (λ text. on_ok (count text) (λ left. Ok (listed kind left [] report)))

-- whether each stands before (n, i)
abbrev pub stands_before : ℕ → ℕ → At → Bool
stands_before n i a = nat_lt a.node n || nat_eq a.node n && nat_lt a.index i

abbrev pub all_before : ℕ → ℕ → List At → Bool
all_before n i [] = true
all_before n i (a ∷ values) = stands_before n i a && all_before n i values

-- one more number, behind all others and not 0
abbrev pub pushed : List At → ℕ → ℕ → ℚ → Result (List At) Cause
pushed list node index value =
    pick (all_before node index list && not (same value zero_ℚ)) (Ok
    (list ++ record { node = node; index = index; value = value } ∷ [])) bad

abbrev pub names_of : Tables → ListKind → List (List ℕ)
names_of tables lists.Policy = tables.columns
names_of tables lists.Direction = tables.columns
names_of tables lists.Dual = tables.rows
names_of tables lists.Ray = tables.rows

-- the number of a name, below 2 ^ 32
abbrev pub numbered : Option ℕ → Result ℕ Cause
numbered None = bad
numbered (Some index) = pick (nat_lt index (2 ^ 32)) (Ok index) bad

abbrev pub value_line : List (List ℕ) → List At → List ℕ → Result (List At) Cause
value_line names list line =
    on_ok (field line) (λ n. on_ok (small n.0) (λ node. on_ok (field n.1) (λ name. on_ok (numbered (place_of names name.0)) (λ index.
    on_ok (fraction name.1) (λ value. pushed list node index value)))))

-- ---- a line

abbrev pub end_line : Report → List ℕ → Result Draft Cause
end_line report line = pick (same_name line (codes "END")) (Ok (record { report = report; list = []; next = next.Head })) bad

-- a report is begun where its number isn't above that of all reports
abbrev pub admit : ℕ → Report → Result Draft Cause → Result Draft Cause
admit most report read = pick (nat_lt most report.number) bad read

-- what is read behind a line
abbrev pub line_at : Tables → Next → Report → List At → List ℕ → Result Draft Cause
line_at tables next.Head report list line = admit tables.most report (head_line report line)
line_at tables next.Status report list line = status_line report line
line_at tables next.Lower report list line = lower_line report line
line_at tables next.Upper report list line = upper_line report line
line_at tables next.Extra report list line = extra_line report line
line_at tables (next.Count kind) report list line = count_line kind report line
line_at tables (next.Value kind left) report list line =
    on_ok (value_line (names_of tables kind) list line) (λ more. Ok (listed kind (left - 1) more report))
line_at tables next.End report list line = end_line report line

abbrev pub step : Tables → Draft → List ℕ → Result Draft Cause
step tables draft line = line_at tables draft.next draft.report draft.list line
