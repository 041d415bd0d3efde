-- Each finding is read as it is printed.
use Rattle.std.proofs.Common.{◌≡◌, ◌∙◌, ◌^◌, ◌<◌, ◌++◌, ℕ, true, List, ◌∷◌, Ok, refl, ap, append_assoc}
use Rattle.std.proofs.Common.{arith}
use Rattle.std.specs.Prelude.{codes}
use Rattle.std.specs.Fmt.{decimal}
use Rattle.rationals.specs.Passes.{Operation, IsNarrow}
use Rattle.rationals.specs.declared.Op.{Op}
use Rattle.rationals.specs.declared.Op.TheVariants.{Add, Sub, Mul, Div}
use Rattle.frac128.specs.Text.{text_of}
use Rattle.scen_defs.specs.declared.report.Place.{Place}
use Rattle.scen_defs.specs.declared.report.Place.TheVariants.{Solve, Cut, Cost, Ground, Dual, Check}
use Rattle.scen_defs.specs.declared.report.Finding.{Finding}
use Rattle.scen_defs.specs.declared.report.Finding.TheVariants.{Optimal, Infeasible, Unbounded, OpenSolves, OpenPivots, OpenPassed}
use Rattle.report_text.specs.Text.{op_text, place_text, operation_text, finding_text}
use Rattle.report_reader.specs.Findings.{op_of, operation, passed_at, commit, finding_of}
use Rattle.report_laws.specs.Printable.{IsInRun, PassesThere, IsSized}
use Rattle.report_laws.proofs.WordLemmas.{lacks, lacks-append, then_ok, field_word, count_lacks, text_lacks}
use Rattle.report_laws.proofs.NumberLemmas.{fraction_read, count_read}

-- ---- operations
op_read : (o : Op) → op_of (op_text o) ≡ Ok o
op_read Add = refl
op_read Sub = refl
op_read Mul = refl
op_read Div = refl

-- the word of an operation has no space and no line feed
op_lacks : (o : Op) → (lacks 32 (op_text o) ≡ true) × (lacks 10 (op_text o) ≡ true)
op_lacks Add = (refl, refl)
op_lacks Sub = (refl, refl)
op_lacks Mul = (refl, refl)
op_lacks Div = (refl, refl)

operation_read : (p : Operation) → IsNarrow p.a → IsNarrow p.b → operation (operation_text p) ≡ Ok p
operation_read p h k =
    ap operation (append_assoc (op_text p.op) (32 ∷ text_of p.a) (32 ∷ text_of p.b))
    ∙ then_ok (op_text p.op, text_of p.a ++ 32 ∷ text_of p.b) _
    (field_word (op_text p.op) (text_of p.a ++ 32 ∷ text_of p.b) (op_lacks p.op).0)
    (then_ok p.op _ (op_read p.op)
    (then_ok (text_of p.a, text_of p.b) _ (field_word (text_of p.a) (text_of p.b) (text_lacks 32 p.a (omega arith) h))
    (then_ok p.a _ (fraction_read p.a h) (then_ok p.b _ (fraction_read p.b k) refl))))

operation_lacks : (p : Operation) → IsNarrow p.a → IsNarrow p.b → lacks 10 (operation_text p) ≡ true
operation_lacks p h k =
    lacks-append 10 (op_text p.op ++ 32 ∷ text_of p.a) (32 ∷ text_of p.b)
    (lacks-append 10 (op_text p.op) (32 ∷ text_of p.a) (op_lacks p.op).1 (text_lacks 10 p.a (omega arith) h))
    (text_lacks 10 p.b (omega arith) k)

-- ---- places
commit_read : (k : ℕ) (rest : List ℕ) → k < 2 ^ 64 → commit (decimal k ++ 32 ∷ rest) ≡ Ok (k, rest)
commit_read k rest h =
    then_ok (decimal k, rest) _ (field_word (decimal k) rest (count_lacks 32 k (omega arith) h)) (then_ok k _ (count_read k h) refl)

passed_read : (place : Place) (p : Operation) → PassesThere place p → passed_at place (operation_text p) ≡ Ok (OpenPassed place p)
passed_read place p h = then_ok p (λ o. Ok (OpenPassed place o)) (operation_read p h.first h.second) refl

place_read : (place : Place) (p : Operation) → PassesThere place p
    → finding_of (finding_text (OpenPassed place p)) ≡ Ok (OpenPassed place p)
place_read (Solve k) p h =
    then_ok (k, operation_text p) (λ c. passed_at (Solve c.0) c.1) (commit_read k (operation_text p) h.in_run) (passed_read (Solve k) p h)
place_read (Cut k) p h =
    then_ok (k, operation_text p) (λ c. passed_at (Cut c.0) c.1) (commit_read k (operation_text p) h.in_run) (passed_read (Cut k) p h)
place_read (Cost k) p h =
    then_ok (k, operation_text p) (λ c. passed_at (Cost c.0) c.1) (commit_read k (operation_text p) h.in_run) (passed_read (Cost k) p h)
place_read Ground p h = passed_read Ground p h
place_read Dual p h = passed_read Dual p h
place_read Check p h = absurd h.in_run

place_lacks : (place : Place) → IsInRun place → lacks 10 (place_text place) ≡ true
place_lacks (Solve k) h = count_lacks 10 k (omega arith) h
place_lacks (Cut k) h = count_lacks 10 k (omega arith) h
place_lacks (Cost k) h = count_lacks 10 k (omega arith) h
place_lacks Ground h = refl
place_lacks Dual h = refl
place_lacks Check h = refl

-- ---- findings
pub finding_read : (f : Finding) → IsSized f → finding_of (finding_text f) ≡ Ok f
finding_read Optimal h = refl
finding_read Infeasible h = refl
finding_read Unbounded h = refl
finding_read (OpenSolves n) h = then_ok n (λ k. Ok (OpenSolves k)) (count_read n h) refl
finding_read (OpenPivots n) h = then_ok n (λ k. Ok (OpenPivots k)) (count_read n h) refl
finding_read (OpenPassed place p) h = place_read place p h

-- the text of a finding has no line feed
pub finding_lacks : (f : Finding) → IsSized f → lacks 10 (finding_text f) ≡ true
finding_lacks Optimal h = refl
finding_lacks Infeasible h = refl
finding_lacks Unbounded h = refl
finding_lacks (OpenSolves n) h = count_lacks 10 n (omega arith) h
finding_lacks (OpenPivots n) h = count_lacks 10 n (omega arith) h
finding_lacks (OpenPassed place p) h =
    lacks-append 10 (codes "OPEN PASSED " ++ place_text place) (32 ∷ operation_text p)
    (place_lacks place h.in_run) (operation_lacks p h.first h.second)
