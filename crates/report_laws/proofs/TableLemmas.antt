-- The lines of a list add it to a report.
use Rattle.std.proofs.Common.{◌≡◌, ◌≢◌, ◌∙◌, ◌-◌, ◌++◌, ℕ, Bool, true, false, List, [], ◌∷◌, Option}
use Rattle.std.proofs.Common.{Some, None, Ok, is_some, length, get_or, nat_eq, refl, sym, ap, subst, append_assoc, arith}
use Rattle.std.specs.Prelude.{codes, IfSome}
use Rattle.std.specs.List.{flat_map}
use Rattle.std.specs.Fmt.{decimal}
use Rattle.std.proofs.lemmas.Bool.{ne_eqb}
use Rattle.std.proofs.lemmas.List.{append-nil}
use Rattle.report_defs.specs.Blank.{blank_report}
use Rattle.rationals.specs.Rational.{zero_ℚ}
use Rattle.rationals.specs.Choices.{pick}
use Rattle.frac128.specs.Text.{text_of}
use Rattle.scen_defs.specs.Lists.{Each}
use Rattle.scen_defs.specs.Valid.{AreNames}
use Rattle.scen_defs.specs.Values.{At, Rises}
use Rattle.scen_defs.specs.declared.program.Program.{Program}
use Rattle.scen_defs.specs.declared.report.Finding.TheVariants.{Optimal, Infeasible, Unbounded}
use Rattle.scen_defs.specs.declared.report.Report.{Report}
use Rattle.scen_defs.specs.Names.{column_names, row_names}
use Rattle.report_text.specs.Text.{value_text, list_text}
use Rattle.report_reader.specs.Answers.{on_ok}
use Rattle.report_reader.specs.Pieces.{after}
use Rattle.report_reader.specs.Numbers.{count}
use Rattle.report_reader.specs.Lines.{from_ray, from_dual, from_direction, from_policy, line_at, value_line}
use Rattle.report_reader.specs.Reports.{tables_of, is_head}
use Rattle.report_laws.specs.Printable.{IsOneOf, AreOver}
use Rattle.report_laws.proofs.WordLemmas.{lacks, lacks-append, then_ok, after_word, count_lacks}
use Rattle.report_laws.proofs.NumberLemmas.{count_read}
use Rattle.report_laws.proofs.ListLemmas.{rises_before, value_words, value_words_lack, value_read}
use Rattle.report_laws.proofs.LineLemmas.{Draft, Next, draft_at, end_next, ray_goes_on, dual_goes_on, direction_goes_on, States, line_read}

module _ (most : ℕ) (program : Program) where
  -- what is read behind a line of a list, of which so many are left
  abbrev read_behind : (Option (List At) → Report → Report) → (Report → Next) → (ℕ → Next)
      → ℕ → List At → Report → Draft
  read_behind store behind value left list r =
      pick (nat_eq left 0) (draft_at (behind r) (store (Some list) r)) (record { report = r; list = list; next = value left })

  -- The lines of a list with this word and these names, which is stored so in a report: the first of them, and what comes behind the last.
  pub record IsList (word : List ℕ) (names : List (List ℕ)) (store : Option (List At) → Report → Report)
      (first : Next) (behind : Report → Next) : Type 0 where
    pub value : ℕ → Next
    pub first_is : (r : Report) (line : List ℕ) → line_at (tables_of most program) first r [] line
        ≡ on_ok (after word line) (λ text. on_ok (count text) (λ left. Ok (read_behind store behind value left [] r)))
    pub value_is : (left : ℕ) (r : Report) (list : List At) (line : List ℕ)
        → line_at (tables_of most program) (value left) r list line
        ≡ on_ok (value_line names list line) (λ more. Ok (read_behind store behind value (left - 1) more r))
    pub unbroken : lacks 10 word ≡ true
    pub value_goes_on : (left : ℕ) → is_head (value left) ≡ false
    pub goes_on : (r : Report) → is_head (behind r) ≡ false

  pub policy_list : IsList (codes "POLICY ") (column_names program.columns.items) (λ list r. record r { policy = list })
      (from_policy (record (blank_report 0 0 0 Optimal) { upper = Some zero_ℚ })) from_direction
  policy_list = record {
    value = λ left. _;
    first_is = λ r line. refl;
    value_is = λ left r list line. refl;
    unbroken = refl;
    value_goes_on = λ left. refl;
    goes_on = direction_goes_on;
  }

  pub direction_list : IsList (codes "DIRECTION ") (column_names program.columns.items) (λ list r. record r { direction = list })
      (from_direction (record (blank_report 0 0 0 Optimal) { finding = Unbounded })) from_dual
  direction_list = record {
    value = λ left. _;
    first_is = λ r line. refl;
    value_is = λ left r list line. refl;
    unbroken = refl;
    value_goes_on = λ left. refl;
    goes_on = dual_goes_on;
  }

  pub dual_list : IsList (codes "DUAL ") (row_names program.rows.items) (λ list r. record r { dual = list })
      (from_dual (record (blank_report 0 0 0 Optimal) { lower = Some zero_ℚ })) from_ray
  dual_list = record {
    value = λ left. _;
    first_is = λ r line. refl;
    value_is = λ left r list line. refl;
    unbroken = refl;
    value_goes_on = λ left. refl;
    goes_on = ray_goes_on;
  }

  pub ray_list : IsList (codes "RAY ") (row_names program.rows.items) (λ list r. record r { ray = list })
      (from_ray (record (blank_report 0 0 0 Optimal) { finding = Infeasible })) (λ r. end_next)
  ray_list = record {
    value = λ left. _;
    first_is = λ r line. refl;
    value_is = λ left r list line. refl;
    unbroken = refl;
    value_goes_on = λ left. refl;
    goes_on = λ r. refl;
  }

  value_joined : (d n v e f t : List ℕ) → (d ++ n ++ v ++ e ++ f) ++ t ≡ (d ++ (n ++ v)) ++ (e ++ (f ++ t))
  value_joined d n v e f t = simp append_assoc refl

  module _ (reports done : List Report) (word : List ℕ) (names : List (List ℕ)) (named : AreNames names)
      (store : Option (List At) → Report → Report) (first : Next) (behind : Report → Next)
      (of : IsList word names store first behind) where
    abbrev GoOn : Draft → List ℕ → Type 0
    GoOn = States most program reports done

    abbrev draft_of : ℕ → List At → Report → Draft
    draft_of = read_behind store behind of.value

    draft_goes_on : (left : ℕ) (list : List At) (r : Report) → is_head (draft_of left list r).next ≡ false
    draft_goes_on left list r = go (nat_eq left 0)
      where
        go : (b : Bool) → is_head (pick {X = Draft} b (draft_at (behind r) (store (Some list) r))
            (record { report = r; list = list; next = of.value left })).next ≡ false
        go true = of.goes_on r
        go false = of.value_goes_on left

    values_read : (r : Report) (front left : List At) (text : List ℕ) → Each (IsOneOf (length names)) left → Rises (front ++ left)
        → Each (λ a. a.value ≢ zero_ℚ) left → GoOn (draft_of 0 (front ++ left) r) text
        → GoOn (draft_of (length left) front r) (flat_map (value_text names) left ++ text)
    values_read r front [] text e s z later = subst (λ (list : List At). GoOn (draft_of 0 list r) text) (append-nil front) later
    values_read r front (a ∷ left) text e s z later =
        let more : List At = front ++ a ∷ [] in
        let draft : Draft = record { report = r; list = front; next = of.value (length (a ∷ left)) } in
        let some : nat_eq (length (a ∷ left)) 0 ≡ false = ne_eqb (length (a ∷ left)) 0 (λ h. absurd (omega (arith, h))) in
        let is : draft_of (length (a ∷ left)) front r ≡ draft =
        ap (λ (b : Bool). pick b (draft_at (behind r) (store (Some front) r)) draft) some in
        let fewer : length (a ∷ left) - 1 ≡ length left = omega arith in
        let seam : more ++ left ≡ front ++ a ∷ left = append_assoc front (a ∷ []) left in
        let rest : List ℕ = flat_map (value_text names) left in
        let rec : GoOn (draft_of (length left) more r) (rest ++ text) =
        values_read r more left text e.1 (subst Rises (sym seam) s) z.1
        (subst (λ (list : List At). GoOn (draft_of 0 list r) text) (sym seam) later) in
        subst (λ (d : Draft). GoOn d (flat_map (value_text names) (a ∷ left) ++ text)) (sym is)
        (subst (GoOn draft)
        (sym (value_joined (decimal a.node) (32 ∷ get_or names a.index []) (32 ∷ text_of a.value) (10 ∷ []) rest text))
        (line_read most program reports done draft (draft_of (length left) more r) (value_words names a) (rest ++ text)
        (value_words_lack names a named.fields e.0)
        (of.value_is (length (a ∷ left)) r front (value_words names a)
        ∙ then_ok more _ (value_read names front a named e.0 (rises_before front a left s) z.0)
        (ap (λ (n : ℕ). Ok (draft_of n more r)) fewer))
        (draft_goes_on (length left) more r) rec))

    pub list_read : (b : Bool) (r : Report) (list : Option (List At)) (text : List ℕ) → is_some list ≡ b → store None r ≡ r
        → IfSome list (AreOver (length names))
        → GoOn (draft_at (behind r) (store list r)) text
        → GoOn (draft_at (pick b first (behind r)) r) (list_text word names list ++ text)
    list_read true r (Some list) text p c h later =
        let size : ℕ = length list in
        let line : List ℕ = word ++ decimal size in
        let rest : List ℕ = flat_map (value_text names) list in
        let draft : Draft = draft_at first r in
        subst (GoOn draft) (sym (append_assoc line (10 ∷ rest) text))
        (line_read most program reports done draft (draft_of size [] r) line (rest ++ text)
        (lacks-append 10 word (decimal size) of.unbroken (count_lacks 10 size (omega arith) h.few))
        (of.first_is r line ∙ then_ok (decimal size) _ (after_word word (decimal size)) (then_ok size _ (count_read size h.few) refl))
        (draft_goes_on size [] r) (values_read r [] list text h.each h.ordered.rises h.ordered.nonzero later))
    list_read false r None text p c h later =
        subst (λ (x : Report). GoOn (draft_at (behind r) x) text) c later
    list_read true r None text p c h later = cc
    list_read false r (Some list) text p c h later = cc
