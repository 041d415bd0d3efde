-- The findings of a report.
use Rattle.std.specs.Prelude.{ℕ, List, Result, Ok, codes, if◌then◌else◌}
use Rattle.rationals.specs.Passes.{Operation}
use Rattle.rationals.specs.declared.Op.{Op}
use Rattle.rationals.specs.declared.Op.TheVariants.{Add, Sub, Mul, Div}
use Rattle.smps_words.specs.Names.{same_name}
use Rattle.scen_defs.specs.declared.report.Place.{Place}
use Rattle.scen_defs.specs.declared.report.Place.TheVariants.{Solve, Cut, Cost, Ground, Dual}
use Rattle.scen_defs.specs.declared.report.Finding.{Finding}
use Rattle.scen_defs.specs.declared.report.Finding.TheVariants.{Optimal, Infeasible, Unbounded, OpenSolves, OpenPivots, OpenPassed}
use Rattle.refusals.specs.declared.cause.Cause.{Cause}
use Rattle.report_reader.specs.Answers.{on_ok, bad}
use Rattle.report_reader.specs.Pieces.{after, field}
use Rattle.report_reader.specs.Numbers.{fraction, count}

-- the word of an operation
abbrev pub op_of : List ℕ → Result Op Cause
op_of word =
    if same_name word (codes "ADD") then Ok Add
    else (if same_name word (codes "SUB") then Ok Sub
    else (if same_name word (codes "MUL") then Ok Mul
    else (if same_name word (codes "DIV") then Ok Div else bad)))

-- an operation and its operands
abbrev pub operation : List ℕ → Result Operation Cause
operation text =
    on_ok (field text) (λ op. on_ok (op_of op.0) (λ o. on_ok (field op.1) (λ a. on_ok (fraction a.0) (λ x. on_ok (fraction a.1) (λ y.
    Ok (record { op = o; a = x; b = y }))))))

-- the operation that passes at a place
abbrev pub passed_at : Place → List ℕ → Result Finding Cause
passed_at place text = on_ok (operation text) (λ p. Ok (OpenPassed place p))

-- the number of a commit, and what follows it
abbrev pub commit : List ℕ → Result (ℕ × List ℕ) Cause
commit text = on_ok (field text) (λ k. on_ok (count k.0) (λ n. Ok (n, k.1)))

abbrev pub passed_of : List ℕ → List ℕ → Result Finding Cause
passed_of word text =
    if same_name word (codes "SOLVE") then on_ok (commit text) (λ k. passed_at (Solve k.0) k.1)
    else (if same_name word (codes "CUT") then on_ok (commit text) (λ k. passed_at (Cut k.0) k.1)
    else (if same_name word (codes "COST") then on_ok (commit text) (λ k. passed_at (Cost k.0) k.1)
    else (if same_name word (codes "GROUND") then passed_at Ground text
    else (if same_name word (codes "DUAL") then passed_at Dual text else bad))))

abbrev pub open_of : List ℕ → List ℕ → Result Finding Cause
open_of word text =
    if same_name word (codes "SOLVES") then on_ok (count text) (λ n. Ok (OpenSolves n))
    else (if same_name word (codes "PIVOTS") then on_ok (count text) (λ k. Ok (OpenPivots k))
    else (if same_name word (codes "PASSED") then on_ok (field text) (λ place. passed_of place.0 place.1) else bad))

abbrev pub finding_of : List ℕ → Result Finding Cause
finding_of text =
    if same_name text (codes "OPTIMAL") then Ok Optimal
    else (if same_name text (codes "INFEASIBLE") then Ok Infeasible
    else (if same_name text (codes "UNBOUNDED") then Ok Unbounded
    else on_ok (after (codes "OPEN ") text) (λ why. on_ok (field why) (λ word. open_of word.0 word.1))))
