-- The text of a report is read as that report, and the text of reports as these reports.
use Rattle.std.proofs.Common.{◌≡◌, ◌∙◌, ◌+◌, ◌^◌, ◌<◌, ◌≤◌, ◌++◌, ℕ, List, [], ◌∷◌, Ok, is_some}
use Rattle.std.proofs.Common.{length, length-append, refl, sym, ap, subst, append_assoc, arith}
use Rattle.std.specs.Prelude.{codes}
use Rattle.std.specs.List.{flat_map}
use Rattle.std.specs.Fmt.{decimal}
use Rattle.std.proofs.lemmas.List.{append-nil}
use Rattle.scen_defs.specs.Valid.{AreNames}
use Rattle.scen_defs.specs.declared.program.Program.{Program}
use Rattle.scen_defs.specs.declared.report.Report.{Report}
use Rattle.scen_defs.specs.Names.{column_names, row_names}
use Rattle.report_defs.specs.Findings.{has_direction, has_ray}
use Rattle.scen_defs.specs.declared.report.Finding.TheVariants.{Optimal}
use Rattle.report_defs.specs.Blank.{blank_report}
use Rattle.report_text.specs.Text.{finding_text, end_text, extra_text, list_text, report_text}
use Rattle.report_reader.specs.Lines.{fresh, from_ray, from_dual, from_direction}
use Rattle.report_laws.specs.Printable.{IsPrintable, ArePrintable}
use Rattle.report_laws.specs.Law.{PrintedAreRead}
use Rattle.report_laws.proofs.LineLemmas.{Draft, end_next, States as Stated, head_read, status_read, lower_read, upper_read}
use Rattle.report_laws.proofs.LineLemmas.{extra_read, last_read}
use Rattle.report_laws.proofs.TableLemmas.{list_read, policy_list, direction_list, dual_list, ray_list}

-- the lines of a report, and the text behind it
lines_joined : (r x n y s z e st f lo l up u c p d v w en t : List ℕ)
    → ((r ++ x ++ n ++ y ++ s ++ z ++ e) ++ (st ++ f ++ lo ++ l ++ up ++ u ++ c) ++ (p ++ d ++ v ++ w) ++ en) ++ t
    ≡ (r ++ (x ++ (n ++ (y ++ (s ++ z)))))
    ++ (e ++ (st ++ (f ++ (lo ++ (l ++ (up ++ (u ++ (c ++ (p ++ (d ++ (v ++ (w ++ (en ++ t)))))))))))))
lines_joined r x n y s z e st f lo l up u c p d v w en t = simp append_assoc refl

module _ (most : ℕ) (program : Program) (columns : AreNames (column_names program.columns.items)) (rows : AreNames (row_names program.rows.items))
    (reports : List Report) where
  abbrev States : List Report → Draft → List ℕ → Type 0
  States = Stated most program reports

  report_read : (done : List Report) (r : Report) (text : List ℕ) → IsPrintable program r.number r → r.number ≤ most
      → r.number < 2 ^ 32
      → States (done ++ r ∷ []) (fresh (length done + 2)) text → States done (fresh r.number) (report_text program r ++ text)
  report_read done r text h few small later =
      let columns_of : List (List ℕ) = column_names program.columns.items in
      let rows_of : List (List ℕ) = row_names program.rows.items in
      let policy : List ℕ = list_text (codes "POLICY ") columns_of r.policy in
      let direction : List ℕ = list_text (codes "DIRECTION ") columns_of r.direction in
      let dual : List ℕ = list_text (codes "DUAL ") rows_of r.dual in
      let ray : List ℕ = list_text (codes "RAY ") rows_of r.ray in
      let extra : List ℕ = extra_text r.finding r.extra in
      -- the text from each part on
      let at_end : List ℕ = codes "END" ++ 10 ∷ text in
      let at_ray : List ℕ = ray ++ at_end in
      let at_dual : List ℕ = dual ++ at_ray in
      let at_direction : List ℕ = direction ++ at_dual in
      let at_policy : List ℕ = policy ++ at_direction in
      let at_extra : List ℕ = extra ++ at_policy in
      let at_upper : List ℕ = (codes "UPPER " ++ end_text r.upper) ++ 10 ∷ at_extra in
      let at_lower : List ℕ = (codes "LOWER " ++ end_text r.lower) ++ 10 ∷ at_upper in
      let at_status : List ℕ = (codes "STATUS " ++ finding_text r.finding) ++ 10 ∷ at_lower in
      -- the report with the parts before that
      let to_status : Report = record (blank_report r.number 0 0 Optimal) { nodes = r.nodes; scenarios = r.scenarios } in
      let to_lower : Report = record to_status { finding = r.finding } in
      let to_upper : Report = record to_lower { lower = r.lower } in
      let to_extra : Report = record to_upper { upper = r.upper } in
      let to_policy : Report = record to_extra { extra = r.extra } in
      let to_direction : Report = record to_policy { policy = r.policy } in
      let to_dual : Report = record to_direction { direction = r.direction } in
      let to_ray : Report = record to_dual { dual = r.dual } in
      subst (States done (fresh r.number))
      (sym (lines_joined (codes "REPORT ") (decimal r.number) (codes " NODES ") (decimal r.nodes) (codes " SCENARIOS ")
      (decimal r.scenarios) (10 ∷ []) (codes "STATUS ") (finding_text r.finding) (codes "\nLOWER ") (end_text r.lower)
      (codes "\nUPPER ") (end_text r.upper) (10 ∷ extra) policy direction dual ray (codes "END\n") text))
      (head_read most program reports done r.number r.nodes r.scenarios at_status few small h.nodes h.scenarios (λ status s.
      status_read most program reports done status s to_status r.finding at_lower h.finding (λ lower l.
      lower_read most program reports done lower l to_lower r.lower at_upper h.lower (λ upper u.
      upper_read most program reports done upper u to_upper r.upper at_extra h.upper
      (extra_read most program reports done r.finding to_extra r.extra at_policy h.parts.extra h.extra
      (list_read most program reports done (codes "POLICY ") columns_of columns _ _ from_direction (policy_list most program)
      (is_some r.upper) to_policy r.policy at_direction h.parts.policy refl h.policy
      (list_read most program reports done (codes "DIRECTION ") columns_of columns _ _ from_dual (direction_list most program)
      (has_direction r.finding) to_direction r.direction at_dual h.parts.direction refl h.direction
      (list_read most program reports done (codes "DUAL ") rows_of rows _ _ from_ray (dual_list most program)
      (is_some r.lower) to_dual r.dual at_ray h.parts.dual refl h.dual
      (list_read most program reports done (codes "RAY ") rows_of rows _ _ (λ report. end_next) (ray_list most program)
      (has_ray r.finding) to_ray r.ray at_end h.parts.ray refl h.ray
      (last_read most program reports done r text later))))))))))

  -- the reports that follow those that are done
  reports_read : (done left : List Report) → done ++ left ≡ reports → ArePrintable program (length done + 1) left
      → length done + length left ≤ most → length done + length left < 2 ^ 32
      → States done (fresh (length done + 1)) (flat_map (report_text program) left)
  reports_read done [] all h few small = λ number. ap Ok (sym (append-nil done) ∙ all)
  reports_read done (r ∷ left) all h few small =
      let own : r.number ≡ length done + 1 = h.0.numbered in
      let within : r.number ≤ most = omega (arith, own, few) in
      let narrow : r.number < 2 ^ 32 = omega (arith, own, small) in
      let count : length (done ++ r ∷ []) ≡ length done + 1 = length-append done (r ∷ []) in
      let following : length done + 1 + 1 ≡ length (done ++ r ∷ []) + 1 = omega (arith, count) in
      let second : length (done ++ r ∷ []) + 1 ≡ length done + 2 = omega (arith, count) in
      let rest : List ℕ = flat_map (report_text program) left in
      let rec : States (done ++ r ∷ []) (fresh (length (done ++ r ∷ []) + 1)) rest =
      reports_read (done ++ r ∷ []) left (append_assoc done (r ∷ []) left ∙ all)
      (subst (λ (n : ℕ). ArePrintable program n left) following h.1)
      (omega (arith, count, few)) (omega (arith, count, small)) in
      subst (λ (n : ℕ). States done (fresh n) (report_text program r ++ rest)) own
      (report_read done r rest (subst (λ (n : ℕ). IsPrintable program n r) (sym own) h.0) within narrow
      (subst (λ (n : ℕ). States (done ++ r ∷ []) (fresh n) rest) second rec))

pub printed_are_read : PrintedAreRead
printed_are_read most program reports columns rows h few small =
    reports_read most program columns rows reports [] reports refl h (omega (arith, few)) (omega (arith, small)) 1
