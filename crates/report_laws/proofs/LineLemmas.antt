-- A line adds to a report what was printed of it.
use Rattle.std.proofs.Common.{◌≡◌, ◌∙◌, ◌+◌, ◌^◌, ◌<◌, ◌≤◌, ◌++◌, ℕ, Bool, true, false, List, []}
use Rattle.std.proofs.Common.{◌∷◌, Option, Some, None, Result, Ok, is_some, length, nat_eq, nat_lt, refl, sym, ap, subst}
use Rattle.std.proofs.Common.{append_assoc, arith}
use Rattle.std.specs.Prelude.{codes, IfSome}
use Rattle.std.specs.Fmt.{decimal}
use Rattle.std.proofs.lemmas.Bool.{eq-eqb}
use Rattle.std.proofs.lemmas.Bool.Decides.{nat_tests}
use Rattle.rationals.specs.Rational.{ℚ}
use Rattle.rationals.specs.Choices.{pick}
use Rattle.rationals.specs.Passes.{IsNarrow}
use Rattle.frac128.specs.Text.{text_of}
use Rattle.scen_defs.specs.declared.program.Program.{Program}
use Rattle.scen_defs.specs.declared.report.Finding.{Finding}
use Rattle.scen_defs.specs.declared.report.Finding.TheVariants.{Optimal, Infeasible, Unbounded, OpenSolves, OpenPivots, OpenPassed}
use Rattle.scen_defs.specs.declared.report.Report.{Report}
use Rattle.report_defs.specs.Findings.{has_direction, has_ray, has_extra}
use Rattle.report_defs.specs.Blank.{blank_report}
use Rattle.report_text.specs.Text.{finding_text, end_text, extra_text}
use Rattle.refusals.specs.declared.cause.Cause.{Cause}
use Rattle.refusals.specs.declared.cause.Refusal.{Refusal}
use Rattle.refusals.specs.Results.{on_line}
use Rattle.report_reader.specs.Answers.{bad}
use Rattle.report_reader.specs.Pieces.{Lines, lines_of}
use Rattle.report_reader.specs.Lines.{fresh, from_ray, from_dual, from_direction, from_policy, from_extra, head_line}
use Rattle.report_reader.specs.Lines.{status_line, lower_line, upper_line, extra_word, extra_line, line_at, step}
use Rattle.report_reader.specs.Reports.{tables_of, is_head, done_behind, draft_behind, reads}
use Rattle.report_laws.specs.Printable.{IsSized}
use Rattle.report_laws.proofs.WordLemmas.{lacks, lacks-append, then_ok, after_word, field_word, first_line, small_lacks, text_lacks}
use Rattle.report_laws.proofs.NumberLemmas.{fraction_read, end_read, small_read}
use Rattle.report_laws.proofs.FindingLemmas.{finding_read, finding_lacks}

-- ---- what is read of a report, by the functions that take it

-- what a function takes
abbrev taken : {A B : Type 0} → (A → B) → Type 0
taken {A} f = A

abbrev pub Draft : Type 0
Draft = taken (done_behind [])

abbrev pub Next : Type 0
Next = taken is_head

-- this was read of a report, and that line comes next
abbrev pub draft_at : Next → Report → Draft
draft_at next r = record { report = r; list = []; next = next }

-- the line END, which comes behind all lists
abbrev pub end_next : Next
end_next = from_ray (blank_report 0 0 0 Optimal)

-- ---- which line comes next: that of a report that goes on

goes_on : (b : Bool) (m n : Next) → is_head m ≡ false → is_head n ≡ false → is_head (pick b m n) ≡ false
goes_on true m n h k = h
goes_on false m n h k = k

pub ray_goes_on : (r : Report) → is_head (from_ray r) ≡ false
ray_goes_on r = goes_on (has_ray r.finding) _ _ refl refl

pub dual_goes_on : (r : Report) → is_head (from_dual r) ≡ false
dual_goes_on r = goes_on (is_some r.lower) _ (from_ray r) refl (ray_goes_on r)

pub direction_goes_on : (r : Report) → is_head (from_direction r) ≡ false
direction_goes_on r = goes_on (has_direction r.finding) _ (from_dual r) refl (dual_goes_on r)

policy_goes_on : (r : Report) → is_head (from_policy r) ≡ false
policy_goes_on r = goes_on (is_some r.upper) _ (from_direction r) refl (direction_goes_on r)

extra_goes_on : (r : Report) → is_head (from_extra r) ≡ false
extra_goes_on r = goes_on (has_extra r.finding) _ (from_policy r) refl (policy_goes_on r)

chosen : {X : Type 0} (b : Bool) (x y : X) → b ≡ true → pick b x y ≡ x
chosen b x y e = ap (λ (c : Bool). pick c x y) e

-- ---- what a text states
module _ (most : ℕ) (program : Program) (reports : List Report) where
  -- the text states these reports, from a draft on
  abbrev pub States : List Report → Draft → List ℕ → Type 0
  States done draft text =
      (number : ℕ) → reads (tables_of most program) done draft number (lines_of text).ended (lines_of text).rest ≡ Ok reports

  -- a line that comes next in a report is read so
  abbrev pub Takes : Next → (Report → List ℕ → Result Draft Cause) → Type 0
  Takes next read = (is_head next ≡ false)
      × ((r : Report) (line : List ℕ) → line_at (tables_of most program) next r [] line ≡ read r line)

  -- a line of a report that goes on
  pub line_read : (done : List Report) (draft more : Draft) (line text : List ℕ) → lacks 10 line ≡ true
      → step (tables_of most program) draft line ≡ Ok more
      → is_head more.next ≡ false → States done more text → States done draft (line ++ 10 ∷ text)
  line_read done draft more line text h e k later number =
      let tables = tables_of most program in
      let go_on : List Report → Draft → Result (List Report) Refusal =
      λ reports d. reads tables reports d (number + 1) (lines_of text).ended (lines_of text).rest in
      ap (λ (ls : Lines). reads tables done draft number ls.ended ls.rest) (first_line line text h)
      ∙ ap (λ (r : Result Draft Cause). on_line number r (λ d. go_on (done_behind done d) (draft_behind done d))) e
      ∙ ap (λ (b : Bool). go_on (pick b (done ++ more.report ∷ []) done) (pick b (fresh (length done + 2)) more)) k
      ∙ later (number + 1)

  -- the last line of a report
  pub last_read : (done : List Report) (r : Report) (text : List ℕ) → States (done ++ r ∷ []) (fresh (length done + 2)) text
      → States done (draft_at end_next r) (codes "END" ++ 10 ∷ text)
  last_read done r text later number =
      ap (λ (ls : Lines). reads (tables_of most program) done (draft_at end_next r) number ls.ended ls.rest)
      (first_line (codes "END") text refl) ∙ later (number + 1)

  module _ (done : List Report) where
    -- ---- the first line

    abbrev pub counts : List ℕ → List ℕ → List ℕ → List ℕ
    counts i n s = codes "REPORT " ++ (i ++ (codes " NODES " ++ (n ++ (codes " SCENARIOS " ++ s))))

    counts_lack : (i n s : ℕ) → i < 2 ^ 32 → n < 2 ^ 32 → s < 2 ^ 32
        → lacks 10 (counts (decimal i) (decimal n) (decimal s)) ≡ true
    counts_lack i n s h k l =
        lacks-append 10 (decimal i) (codes " NODES " ++ (decimal n ++ (codes " SCENARIOS " ++ decimal s)))
        (small_lacks 10 i (omega arith) h)
        (lacks-append 10 (decimal n) (codes " SCENARIOS " ++ decimal s)
        (small_lacks 10 n (omega arith) k) (small_lacks 10 s (omega arith) l))

    -- the text states them where what follows the counts does
    abbrev AfterCounts : Report → ℕ → ℕ → List ℕ → Type 0
    AfterCounts r n s text =
        (next : Next) → Takes next status_line → States done (draft_at next (record r { nodes = n; scenarios = s })) text

    pub head_read : (i n s : ℕ) (text : List ℕ) → i ≤ most → i < 2 ^ 32 → n < 2 ^ 32 → s < 2 ^ 32
        → AfterCounts (blank_report i 0 0 Optimal) n s text → States done (fresh i) (counts (decimal i) (decimal n) (decimal s) ++ 10 ∷ text)
    head_read i n s text m h k l later =
        let few : nat_lt most i ≡ false = grind (arith, nat_tests, m) in
        let own : nat_eq i i ≡ true = eq-eqb i i refl in
        let line : List ℕ = counts (decimal i) (decimal n) (decimal s) in
        let behind_i : List ℕ = codes "NODES " ++ (decimal n ++ (codes " SCENARIOS " ++ decimal s)) in
        let behind_n : List ℕ = codes "SCENARIOS " ++ decimal s in
        line_read done (fresh i) _ line text (counts_lack i n s h k l)
        (ap (λ (b : Bool). pick b bad (head_line (blank_report i 0 0 Optimal) line)) few
        ∙ then_ok (decimal i, behind_i) _ (field_word (decimal i) behind_i (small_lacks 32 i (omega arith) h))
        (then_ok i _ (small_read i h)
        (then_ok (decimal n, behind_n) _ (field_word (decimal n) behind_n (small_lacks 32 n (omega arith) k))
        (then_ok n _ (small_read n k) (then_ok s _ (small_read s l) (chosen (nat_eq i i) _ bad own))))))
        refl (later _ (refl, λ r line. refl))

    -- ---- the finding and the ends

    pub status_read : (next : Next) → Takes next status_line → (r : Report) (f : Finding) (text : List ℕ) → IsSized f
        → ((more : Next) → Takes more lower_line → States done (draft_at more (record r { finding = f })) text)
        → States done (draft_at next r) ((codes "STATUS " ++ finding_text f) ++ 10 ∷ text)
    status_read next t r f text h later =
        line_read done (draft_at next r) _ (codes "STATUS " ++ finding_text f) text (finding_lacks f h)
        (t.1 r (codes "STATUS " ++ finding_text f) ∙ then_ok f _ (finding_read f h) refl)
        refl (later _ (refl, λ r line. refl))

    end_lacks : (end : Option ℚ) → IfSome end IsNarrow → lacks 10 (end_text end) ≡ true
    end_lacks None h = refl
    end_lacks (Some v) h = text_lacks 10 v (omega arith) h

    pub lower_read : (next : Next) → Takes next lower_line → (r : Report) (end : Option ℚ) (text : List ℕ) → IfSome end IsNarrow
        → ((more : Next) → Takes more upper_line → States done (draft_at more (record r { lower = end })) text)
        → States done (draft_at next r) ((codes "LOWER " ++ end_text end) ++ 10 ∷ text)
    lower_read next t r end text h later =
        line_read done (draft_at next r) _ (codes "LOWER " ++ end_text end) text (end_lacks end h)
        (t.1 r (codes "LOWER " ++ end_text end) ∙ then_ok end _ (end_read end h) refl)
        refl (later _ (refl, λ r line. refl))

    pub upper_read : (next : Next) → Takes next upper_line → (r : Report) (end : Option ℚ) (text : List ℕ) → IfSome end IsNarrow
        → States done (draft_at (from_extra (record r { upper = end })) (record r { upper = end })) text
        → States done (draft_at next r) ((codes "UPPER " ++ end_text end) ++ 10 ∷ text)
    upper_read next t r end text h later =
        line_read done (draft_at next r) (draft_at (from_extra (record r { upper = end })) (record r { upper = end }))
        (codes "UPPER " ++ end_text end) text (end_lacks end h)
        (t.1 r (codes "UPPER " ++ end_text end) ∙ then_ok end _ (end_read end h) refl)
        (extra_goes_on (record r { upper = end })) later

    -- ---- the value that shows a finding

    value_shown : (next : Next) → Takes next extra_line → (r : Report) (v : ℚ) (text : List ℕ)
        → lacks 10 (extra_word r.finding) ≡ true → IsNarrow v
        → States done (draft_at (from_policy r) (record r { extra = Some v })) text
        → States done (draft_at next r) ((extra_word r.finding ++ text_of v ++ 10 ∷ []) ++ text)
    value_shown next t r v text w h later =
        let line : List ℕ = extra_word r.finding ++ text_of v in
        let draft : Draft = draft_at next r in
        subst (States done draft) (sym (append_assoc line (10 ∷ []) text))
        (line_read done draft (draft_at (from_policy r) (record r { extra = Some v })) line text
        (lacks-append 10 (extra_word r.finding) (text_of v) w (text_lacks 10 v (omega arith) h))
        (t.1 r line ∙ then_ok (text_of v) _ (after_word (extra_word r.finding) (text_of v)) (then_ok v _ (fraction_read v h) refl))
        (policy_goes_on r) later)

    pub extra_read : (f : Finding) (r : Report) (extra : Option ℚ) (text : List ℕ) → is_some extra ≡ has_extra f
        → IfSome extra IsNarrow
        → States done (draft_at (from_policy (record r { finding = f })) (record r { finding = f; extra = extra })) text
        → States done (draft_at (from_extra (record r { finding = f })) (record r { finding = f; extra = None }))
        (extra_text f extra ++ text)
    extra_read Infeasible r (Some v) text p h later =
        value_shown _ (refl, λ r line. refl) (record r { finding = Infeasible; extra = None }) v text refl h later
    extra_read Unbounded r (Some v) text p h later =
        value_shown _ (refl, λ r line. refl) (record r { finding = Unbounded; extra = None }) v text refl h later
    extra_read Optimal r None text p h later = later
    extra_read (OpenSolves n) r None text p h later = later
    extra_read (OpenPivots k) r None text p h later = later
    extra_read (OpenPassed place o) r None text p h later = later
    extra_read Infeasible r None text p h later = cc
    extra_read Unbounded r None text p h later = cc
    extra_read Optimal r (Some v) text p h later = cc
    extra_read (OpenSolves n) r (Some v) text p h later = cc
    extra_read (OpenPivots k) r (Some v) text p h later = cc
    extra_read (OpenPassed place o) r (Some v) text p h later = cc
