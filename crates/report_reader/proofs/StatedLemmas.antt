-- What is read is what the text states: each line adds its own text.
use Rattle.std.proofs.Common.{◌≡◌, ◌∙◌, ◌++◌, ◌+◌, ◌-◌, ◌<◌, ◌^◌, ◌&&◌, ℕ, zero, Bool, true, false, List, [], ◌∷◌, Option, Some, None, Result, Ok, Err, length, length-append, get_or, is_some, nat_eq, nat_lt, ◌⊎◌, inl, inr, ⊎_elim, refl, sym, ap, subst, append_assoc, arith}
use Rattle.std.specs.Prelude.{codes, not, MatchResult, IfOk}
use Rattle.std.specs.List.{flat_map}
use Rattle.std.specs.Fmt.{decimal}
use Rattle.std.proofs.lemmas.Bool.{eqb-true, eqb-false}
use Rattle.std.proofs.lemmas.List.{append-nil}
use Rattle.std.proofs.lemmas.List.Concat.{flat_map-append}
use Rattle.rationals.specs.Rational.{ℚ, zero_ℚ}
use Rattle.rationals.specs.Order.{same as same_value}
use Rattle.rationals.specs.Choices.{pick}
use Rattle.frac128.specs.Text.{text_of}
use Rattle.smps_words.specs.Names.{same_name, place_of}
use Rattle.smps_words.proofs.NumberedNames.{place_of_right}
use Rattle.scen_defs.specs.Lists.{Each}
use Rattle.scen_defs.specs.Values.{At}
use Rattle.scen_defs.specs.declared.program.Program.{Program}
use Rattle.scen_defs.specs.declared.report.Finding.{Finding}
use Rattle.scen_defs.specs.declared.report.Finding.TheVariants.{Optimal, Infeasible, Unbounded, OpenSolves, OpenPivots, OpenPassed}
use Rattle.scen_defs.specs.declared.report.Report.{Report}
use Rattle.scen_defs.specs.Names.{column_names, row_names}
use Rattle.report_defs.specs.Findings.{has_direction, has_ray, has_extra}
use Rattle.report_text.specs.Text.{finding_text, end_text, extra_text, value_text, list_text, head_text, ends_text, lists_text, report_text}
use Rattle.refusals.specs.declared.cause.Cause.{Cause}
use Rattle.refusals.specs.declared.cause.Cause.TheVariants as cause
use Rattle.refusals.specs.declared.cause.Refusal.{Refusal}
use Rattle.refusals.specs.declared.cause.ReadFail.{ReadFail}
use Rattle.refusals.specs.Results.{on_line}
use Rattle.report_reader.specs.declared.draft.ListKind.{ListKind}
use Rattle.report_reader.specs.declared.draft.ListKind.TheVariants as lists
use Rattle.report_reader.specs.declared.draft.Next.{Next}
use Rattle.report_reader.specs.declared.draft.Next.TheVariants as next
use Rattle.report_reader.specs.declared.draft.Draft.{Draft}
use Rattle.report_reader.specs.Answers.{on_ok, bad}
use Rattle.report_reader.specs.Pieces.{lines_of, lines_with, after, field}
use Rattle.report_reader.specs.Numbers.{fraction, end_of, count, small}
use Rattle.report_reader.specs.Findings.{finding_of}
use Rattle.report_reader.specs.Lines.{fresh, from_ray, from_dual, from_direction, from_policy, from_extra, behind, head_line, status_line, lower_line, upper_line, extra_word, extra_line, count_line, line_at, step, list_word, filed, listed, names_of, all_before, numbered, value_line}
use Rattle.report_reader.specs.Reports.{tables_of, is_head, reads, reports_of, refusal, FailOf}
use Rattle.report_reader.specs.Stated.{HasParts, IsStated}
use Rattle.report_reader.proofs.TextLemmas.{from_ok, picked, same, after_is, field_is, fraction_is, end_is, count_is, small_is, finding_is}

-- ---- what the lines so far say

-- the lists before one are there as they are asked for, and none from that one on
abbrev Ready : ListKind → Report → Type 0
Ready lists.Policy r = (is_some r.extra ≡ has_extra r.finding) × (r.policy ≡ None) × (r.direction ≡ None) × (r.dual ≡ None) × (r.ray ≡ None)
Ready lists.Direction r = (is_some r.extra ≡ has_extra r.finding) × (is_some r.policy ≡ is_some r.upper) × (r.direction ≡ None) × (r.dual ≡ None) × (r.ray ≡ None)
Ready lists.Dual r = (is_some r.extra ≡ has_extra r.finding) × (is_some r.policy ≡ is_some r.upper) × (is_some r.direction ≡ has_direction r.finding) × (r.dual ≡ None) × (r.ray ≡ None)
Ready lists.Ray r = (is_some r.extra ≡ has_extra r.finding) × (is_some r.policy ≡ is_some r.upper) × (is_some r.direction ≡ has_direction r.finding) × (is_some r.dual ≡ is_some r.lower) × (r.ray ≡ None)

-- whether a list is asked for
abbrev wanted : ListKind → Report → Bool
wanted lists.Policy r = is_some r.upper
wanted lists.Direction r = has_direction r.finding
wanted lists.Dual r = is_some r.lower
wanted lists.Ray r = has_ray r.finding

abbrev Bare : Report → Type 0
Bare r = (r.extra ≡ None) × (r.policy ≡ None) × (r.direction ≡ None) × (r.dual ≡ None) × (r.ray ≡ None)

-- what is known of the report before a line
abbrev pub Fits : Next → Report → Type 0
Fits next.Head r = Bare r
Fits next.Status r = Bare r
Fits next.Lower r = Bare r
Fits next.Upper r = Bare r
Fits next.Extra r = Bare r × (has_extra r.finding ≡ true)
Fits (next.Count kind) r = Ready kind r × (wanted kind r ≡ true)
Fits (next.Value kind left) r = Ready kind r × (wanted kind r ≡ true) × (0 < left)
Fits next.End r = HasParts r

abbrev base : Program → Report → List ℕ
base program r = head_text r ++ ends_text r ++ lists_text program r

abbrev begun : ℕ → Program → ListKind → ℕ → List At → List ℕ
begun most program kind left list = list_word kind ++ decimal (length list + left) ++ 10 ∷ flat_map (value_text (names_of (tables_of most program) kind)) list

-- the text of the lines so far
abbrev pub said : ℕ → Program → Next → Report → List At → List ℕ
said most program next.Head r list = []
said most program next.Status r list = head_text r
said most program next.Lower r list = head_text r ++ (codes "STATUS " ++ finding_text r.finding ++ 10 ∷ [])
said most program next.Upper r list = head_text r ++ (codes "STATUS " ++ finding_text r.finding ++ codes "\nLOWER " ++ end_text r.lower ++ 10 ∷ [])
said most program next.Extra r list = base program r
said most program (next.Count kind) r list = base program r
said most program (next.Value kind left) r list = base program r ++ begun most program kind left list
said most program next.End r list = base program r

-- ---- texts put together

none_text : (word : List ℕ) (names : List (List ℕ)) {list : Option (List At)} → list ≡ None → list_text word names list ≡ []
none_text word names e = ap (list_text word names) e

in_policy : (b new p d u r : List ℕ) → p ≡ [] → d ≡ [] → u ≡ [] → r ≡ [] → b ++ (new ++ d ++ u ++ r) ≡ b ++ (p ++ d ++ u ++ r) ++ new
in_policy b new p d u r hp hd hu hr = rw (hp, hd, hu, hr) (simp (append-nil, append_assoc) refl)

in_direction : (b new p d u r : List ℕ) → d ≡ [] → u ≡ [] → r ≡ [] → b ++ (p ++ new ++ u ++ r) ≡ b ++ (p ++ d ++ u ++ r) ++ new
in_direction b new p d u r hd hu hr = rw (hd, hu, hr) (simp (append-nil, append_assoc) refl)

in_dual : (b new p d u r : List ℕ) → u ≡ [] → r ≡ [] → b ++ (p ++ d ++ new ++ r) ≡ b ++ (p ++ d ++ u ++ r) ++ new
in_dual b new p d u r hu hr = rw (hu, hr) (simp (append-nil, append_assoc) refl)

in_ray : (b new p d u r : List ℕ) → r ≡ [] → b ++ (p ++ d ++ u ++ new) ≡ b ++ (p ++ d ++ u ++ r) ++ new
in_ray b new p d u r hr = rw hr (simp (append-nil, append_assoc) refl)

seven : (r x n y s z t : List ℕ) → r ++ x ++ n ++ y ++ s ++ z ++ t ≡ (r ++ (x ++ (n ++ (y ++ (s ++ z))))) ++ t
seven r x n y s z t = simp append_assoc refl

eight : (h s f o l t w u : List ℕ) → h ++ (s ++ f ++ o ++ l ++ (t ++ w) ++ u ++ t) ++ [] ≡ h ++ (s ++ f ++ o ++ l ++ t) ++ (w ++ u ++ t)
eight h s f o l t w u = simp (append-nil, append_assoc) refl

head_joined : (line a b c d e s x y z : List ℕ) → line ≡ codes "REPORT " ++ a → a ≡ b ++ 32 ∷ c → b ≡ x → c ≡ codes "NODES " ++ d → d ≡ e ++ 32 ∷ s → e ≡ y → s ≡ codes "SCENARIOS " ++ z
    → codes "REPORT " ++ x ++ codes " NODES " ++ y ++ codes " SCENARIOS " ++ z ++ 10 ∷ [] ≡ line ++ 10 ∷ []
head_joined line a b c d e s x y z h1 h2 h3 h4 h5 h6 h7 = rw (h1, h2, h3, h4, h5, h6, h7) (seven (codes "REPORT ") x (codes " NODES ") y (codes " SCENARIOS ") z (10 ∷ []))

status_joined : (h line t f : List ℕ) → line ≡ codes "STATUS " ++ t → t ≡ f → h ++ (codes "STATUS " ++ f ++ 10 ∷ []) ≡ h ++ (line ++ 10 ∷ [])
status_joined h line t f e k = rw (e, k) refl

lower_joined : (h line t f l : List ℕ) → line ≡ codes "LOWER " ++ t → t ≡ l → h ++ (codes "STATUS " ++ f ++ codes "\nLOWER " ++ l ++ 10 ∷ []) ≡ h ++ (codes "STATUS " ++ f ++ 10 ∷ []) ++ (line ++ 10 ∷ [])
lower_joined h line t f l e k = rw (e, k) (simp append_assoc refl)

upper_joined : (h line t f l u x y : List ℕ) → line ≡ codes "UPPER " ++ t → t ≡ u → x ≡ [] → y ≡ []
    → h ++ (codes "STATUS " ++ f ++ codes "\nLOWER " ++ l ++ codes "\nUPPER " ++ u ++ 10 ∷ x) ++ y ≡ h ++ (codes "STATUS " ++ f ++ codes "\nLOWER " ++ l ++ 10 ∷ []) ++ (line ++ 10 ∷ [])
upper_joined h line t f l u x y e k i j = rw (e, k, i, j) (eight h (codes "STATUS ") f (codes "\nLOWER ") l (10 ∷ []) (codes "UPPER ") u)

extra_joined : (h line t m w v x z y : List ℕ) → line ≡ w ++ t → t ≡ v → x ≡ w ++ v ++ 10 ∷ [] → z ≡ [] → y ≡ [] → h ++ (m ++ 10 ∷ x) ++ y ≡ h ++ (m ++ 10 ∷ z) ++ y ++ (line ++ 10 ∷ [])
extra_joined h line t m w v x z y e k i j l = rw (e, k, i, j, l) (simp (append-nil, append_assoc) refl)

extra_none : (f : Finding) → extra_text f None ≡ []
extra_none Optimal = refl
extra_none Infeasible = refl
extra_none Unbounded = refl
extra_none (OpenSolves n) = refl
extra_none (OpenPivots k) = refl
extra_none (OpenPassed place p) = refl

extra_some : (f : Finding) (v : ℚ) → extra_text f (Some v) ≡ extra_word f ++ text_of v ++ 10 ∷ []
extra_some Optimal v = refl
extra_some Infeasible v = refl
extra_some Unbounded v = refl
extra_some (OpenSolves n) v = refl
extra_some (OpenPivots k) v = refl
extra_some (OpenPassed place p) v = refl

-- ---- the lines of a text are the text

with_byte : (byte : ℕ) (text : List ℕ) (b : Bool) (ended : List (List ℕ)) (rest : List ℕ) → nat_eq byte 10 ≡ b → flat_map (λ line. line ++ 10 ∷ []) ended ++ rest ≡ text
    → flat_map (λ line. line ++ 10 ∷ []) (lines_with b byte (record { ended = ended; rest = rest })).ended ++ (lines_with b byte (record { ended = ended; rest = rest })).rest ≡ byte ∷ text
with_byte byte text true ended rest e h = let is : byte ≡ 10 = eqb-true byte 10 e in rw is (ap (λ (t : List ℕ). 10 ∷ t) h)
with_byte byte text false [] rest e h = ap (λ (t : List ℕ). byte ∷ t) h
with_byte byte text false (line ∷ lines) rest e h = ap (λ (t : List ℕ). byte ∷ t) h

lines_join : (text : List ℕ) → flat_map (λ line. line ++ 10 ∷ []) (lines_of text).ended ++ (lines_of text).rest ≡ text
lines_join [] = refl
lines_join (byte ∷ text) = with_byte byte text (nat_eq byte 10) (lines_of text).ended (lines_of text).rest refl (lines_join text)

-- ---- which line comes next
module _ (most : ℕ) (program : Program) where
  abbrev Arrives : Next → Report → Type 0
  Arrives n r = Fits n r × (said most program n r [] ≡ base program r) × (is_head n ≡ false)

  by_ray : (r : Report) (b : Bool) → has_ray r.finding ≡ b → Ready lists.Ray r → Arrives (pick b (next.Count lists.Ray) next.End) r
  by_ray r true e h = ((h, e), refl, refl)
  by_ray r false e h = (record { extra = h.0; policy = h.1; direction = h.2; dual = h.3; ray = ap is_some h.4 ∙ sym e }, refl, refl)

  at_ray : (r : Report) → Ready lists.Ray r → Arrives (from_ray r) r
  at_ray r h = by_ray r (has_ray r.finding) refl h

  by_dual : (r : Report) (b : Bool) → is_some r.lower ≡ b → Ready lists.Dual r → Arrives (pick b (next.Count lists.Dual) (from_ray r)) r
  by_dual r true e h = ((h, e), refl, refl)
  by_dual r false e h = at_ray r (h.0, h.1, h.2, ap is_some h.3 ∙ sym e, h.4)

  at_dual : (r : Report) → Ready lists.Dual r → Arrives (from_dual r) r
  at_dual r h = by_dual r (is_some r.lower) refl h

  by_direction : (r : Report) (b : Bool) → has_direction r.finding ≡ b → Ready lists.Direction r → Arrives (pick b (next.Count lists.Direction) (from_dual r)) r
  by_direction r true e h = ((h, e), refl, refl)
  by_direction r false e h = at_dual r (h.0, h.1, ap is_some h.2 ∙ sym e, h.3, h.4)

  at_direction : (r : Report) → Ready lists.Direction r → Arrives (from_direction r) r
  at_direction r h = by_direction r (has_direction r.finding) refl h

  by_policy : (r : Report) (b : Bool) → is_some r.upper ≡ b → Ready lists.Policy r → Arrives (pick b (next.Count lists.Policy) (from_direction r)) r
  by_policy r true e h = ((h, e), refl, refl)
  by_policy r false e h = at_direction r (h.0, ap is_some h.1 ∙ sym e, h.2, h.3, h.4)

  at_policy : (r : Report) → Ready lists.Policy r → Arrives (from_policy r) r
  at_policy r h = by_policy r (is_some r.upper) refl h

  by_extra : (r : Report) (b : Bool) → has_extra r.finding ≡ b → Bare r → Arrives (pick b next.Extra (from_policy r)) r
  by_extra r true e h = ((h, e), refl, refl)
  by_extra r false e h = at_policy r (ap is_some h.0 ∙ sym e, h.1, h.2, h.3, h.4)

  at_extra : (r : Report) → Bare r → Arrives (from_extra r) r
  at_extra r h = by_extra r (has_extra r.finding) refl h

  -- a list that is filed stands behind those before it
  filed_text : (kind : ListKind) (list : List At) (r : Report) → Ready kind r → base program (filed kind list r) ≡ base program r ++ list_text (list_word kind) (names_of (tables_of most program) kind) (Some list)
  filed_text lists.Policy list r h =
      in_policy (head_text r ++ ends_text r) (list_text (codes "POLICY ") (column_names program.columns.items) (Some list))
      (list_text (codes "POLICY ") (column_names program.columns.items) r.policy) (list_text (codes "DIRECTION ") (column_names program.columns.items) r.direction)
      (list_text (codes "DUAL ") (row_names program.rows.items) r.dual) (list_text (codes "RAY ") (row_names program.rows.items) r.ray)
      (none_text (codes "POLICY ") (column_names program.columns.items) h.1) (none_text (codes "DIRECTION ") (column_names program.columns.items) h.2) (none_text (codes "DUAL ") (row_names program.rows.items) h.3) (none_text (codes "RAY ") (row_names program.rows.items) h.4)
  filed_text lists.Direction list r h =
      in_direction (head_text r ++ ends_text r) (list_text (codes "DIRECTION ") (column_names program.columns.items) (Some list))
      (list_text (codes "POLICY ") (column_names program.columns.items) r.policy) (list_text (codes "DIRECTION ") (column_names program.columns.items) r.direction)
      (list_text (codes "DUAL ") (row_names program.rows.items) r.dual) (list_text (codes "RAY ") (row_names program.rows.items) r.ray)
      (none_text (codes "DIRECTION ") (column_names program.columns.items) h.2) (none_text (codes "DUAL ") (row_names program.rows.items) h.3) (none_text (codes "RAY ") (row_names program.rows.items) h.4)
  filed_text lists.Dual list r h =
      in_dual (head_text r ++ ends_text r) (list_text (codes "DUAL ") (row_names program.rows.items) (Some list))
      (list_text (codes "POLICY ") (column_names program.columns.items) r.policy) (list_text (codes "DIRECTION ") (column_names program.columns.items) r.direction)
      (list_text (codes "DUAL ") (row_names program.rows.items) r.dual) (list_text (codes "RAY ") (row_names program.rows.items) r.ray)
      (none_text (codes "DUAL ") (row_names program.rows.items) h.3) (none_text (codes "RAY ") (row_names program.rows.items) h.4)
  filed_text lists.Ray list r h =
      in_ray (head_text r ++ ends_text r) (list_text (codes "RAY ") (row_names program.rows.items) (Some list))
      (list_text (codes "POLICY ") (column_names program.columns.items) r.policy) (list_text (codes "DIRECTION ") (column_names program.columns.items) r.direction)
      (list_text (codes "DUAL ") (row_names program.rows.items) r.dual) (list_text (codes "RAY ") (row_names program.rows.items) r.ray)
      (none_text (codes "RAY ") (row_names program.rows.items) h.4)

  filed_fits : (kind : ListKind) (list : List At) (r : Report) → Ready kind r → wanted kind r ≡ true → Arrives (behind kind r) (filed kind list r)
  filed_fits lists.Policy list r h w = at_direction (filed lists.Policy list r) (h.0, sym w, h.2, h.3, h.4)
  filed_fits lists.Direction list r h w = at_dual (filed lists.Direction list r) (h.0, h.1, sym w, h.3, h.4)
  filed_fits lists.Dual list r h w = at_ray (filed lists.Dual list r) (h.0, h.1, h.2, sym w, h.4)
  filed_fits lists.Ray list r h w = (record { extra = h.0; policy = h.1; direction = h.2; dual = h.3; ray = sym w }, refl, refl)

  -- a draft with this text
  abbrev pub Says : Draft → List ℕ → Type 0
  Says d text = Fits d.next d.report × (said most program d.next d.report d.list ≡ text) × (is_head d.next ≡ false)

  by_listed : (kind : ListKind) (left : ℕ) (list : List At) (r : Report) (b : Bool) → nat_eq left 0 ≡ b → Ready kind r → wanted kind r ≡ true
      → Says (pick b (record { report = filed kind list r; list = []; next = behind kind r }) (record { report = r; list = list; next = next.Value kind left })) (base program r ++ begun most program kind left list)
  by_listed kind left list r true e h w =
      let none : left ≡ 0 = eqb-true left 0 e in
      let all : length list + left ≡ length list = omega (arith, none) in
      let a = filed_fits kind list r h w in
      (a.0, a.1 ∙ filed_text kind list r h ∙ rw all refl, a.2)
  by_listed kind left list r false e h w =
      let some : left ≡ 0 → ⊥ = eqb-false left 0 e in
      ((h, w, omega arith), refl, refl)

  pub says_listed : (kind : ListKind) (left : ℕ) (list : List At) (r : Report) → Ready kind r → wanted kind r ≡ true → Says (listed kind left list r) (base program r ++ begun most program kind left list)
  says_listed kind left list r h w = by_listed kind left list r (nat_eq left 0) refl h w

  -- ---- what each line says

  no_lists : (r : Report) → Bare r → lists_text program r ≡ []
  no_lists r h = rw (h.1, h.2, h.3, h.4) refl

  admitted : (b : Bool) (x : Result Draft Cause) (d : Draft) → pick b bad x ≡ Ok d → x ≡ Ok d
  admitted true x d e = cc
  admitted false x d e = e

  head_says : (r : Report) (line : List ℕ) (d : Draft) → Bare r → head_line r line ≡ Ok d → Says d (line ++ 10 ∷ [])
  head_says r line d h e =
      let a = from_ok (after (codes "REPORT ") line) _ d e in
      let b = from_ok (field a.0) _ d a.2 in
      let i = from_ok (small b.0.0) _ d b.2 in
      let c = from_ok (after (codes "NODES ") b.0.1) _ d i.2 in
      let f = from_ok (field c.0) _ d c.2 in
      let n = from_ok (small f.0.0) _ d f.2 in
      let s = from_ok (after (codes "SCENARIOS ") f.0.1) _ d n.2 in
      let m = from_ok (small s.0) _ d s.2 in
      let p = picked (nat_eq i.0 r.number) _ d m.2 in
      let number : i.0 ≡ r.number = eqb-true i.0 r.number p.0 in
      subst (λ (x : Draft). Says x (line ++ 10 ∷ [])) p.1 (
        h,
        head_joined line a.0 b.0.0 b.0.1 c.0 f.0.0 f.0.1 (decimal r.number) (decimal n.0) (decimal m.0)
            (after_is (codes "REPORT ") line a.0 a.1) (field_is a.0 b.0 b.1) (small_is b.0.0 i.0 i.1 ∙ ap decimal number)
            (after_is (codes "NODES ") b.0.1 c.0 c.1) (field_is c.0 f.0 f.1) (small_is f.0.0 n.0 n.1)
            (after_is (codes "SCENARIOS ") f.0.1 s.0 s.1 ∙ ap (λ (t : List ℕ). codes "SCENARIOS " ++ t) (small_is s.0 m.0 m.1)),
        refl,
      )

  status_says : (r : Report) (line : List ℕ) (d : Draft) → Bare r → status_line r line ≡ Ok d → Says d (said most program next.Status r [] ++ (line ++ 10 ∷ []))
  status_says r line d h e =
      let a = from_ok (after (codes "STATUS ") line) _ d e in
      let b = from_ok (finding_of a.0) _ d a.2 in
      let is : record { report = record r { finding = b.0 }; list = []; next = next.Lower } ≡ d = cc (b.2) in
      subst (λ (x : Draft). Says x (said most program next.Status r [] ++ (line ++ 10 ∷ []))) is
      (h, status_joined (head_text r) line a.0 (finding_text b.0) (after_is (codes "STATUS ") line a.0 a.1) (finding_is a.0 b.0 b.1), refl)

  lower_says : (r : Report) (line : List ℕ) (d : Draft) → Bare r → lower_line r line ≡ Ok d → Says d (said most program next.Lower r [] ++ (line ++ 10 ∷ []))
  lower_says r line d h e =
      let a = from_ok (after (codes "LOWER ") line) _ d e in
      let b = from_ok (end_of a.0) _ d a.2 in
      let is : record { report = record r { lower = b.0 }; list = []; next = next.Upper } ≡ d = cc (b.2) in
      subst (λ (x : Draft). Says x (said most program next.Lower r [] ++ (line ++ 10 ∷ []))) is
      (h, lower_joined (head_text r) line a.0 (finding_text r.finding) (end_text b.0) (after_is (codes "LOWER ") line a.0 a.1) (end_is a.0 b.0 b.1), refl)

  upper_says : (r : Report) (line : List ℕ) (d : Draft) → Bare r → upper_line r line ≡ Ok d → Says d (said most program next.Upper r [] ++ (line ++ 10 ∷ []))
  upper_says r line d h e =
      let a = from_ok (after (codes "UPPER ") line) _ d e in
      let b = from_ok (end_of a.0) _ d a.2 in
      let told : Report = record r { upper = b.0 } in
      let is : record { report = told; list = []; next = from_extra told } ≡ d = cc (b.2) in
      let arrives : Arrives (from_extra told) told = at_extra told h in
      subst (λ (x : Draft). Says x (said most program next.Upper r [] ++ (line ++ 10 ∷ []))) is (
        arrives.0,
        arrives.1 ∙ upper_joined (head_text r) line a.0 (finding_text r.finding) (end_text r.lower) (end_text b.0) (extra_text r.finding r.extra) (lists_text program told)
            (after_is (codes "UPPER ") line a.0 a.1) (end_is a.0 b.0 b.1) (ap (extra_text r.finding) h.0 ∙ extra_none r.finding) (no_lists told h),
        arrives.2,
      )

  extra_says : (r : Report) (line : List ℕ) (d : Draft) → Bare r → has_extra r.finding ≡ true → extra_line r line ≡ Ok d → Says d (base program r ++ (line ++ 10 ∷ []))
  extra_says r line d h w e =
      let a = from_ok (after (extra_word r.finding) line) _ d e in
      let b = from_ok (fraction a.0) _ d a.2 in
      let told : Report = record r { extra = Some b.0 } in
      let is : record { report = told; list = []; next = from_policy r } ≡ d = cc (b.2) in
      let arrives : Arrives (from_policy told) told = at_policy told (sym w, h.1, h.2, h.3, h.4) in
      subst (λ (x : Draft). Says x (base program r ++ (line ++ 10 ∷ []))) is (
        arrives.0,
        arrives.1 ∙ extra_joined (head_text r) line a.0 (codes "STATUS " ++ finding_text r.finding ++ codes "\nLOWER " ++ end_text r.lower ++ codes "\nUPPER " ++ end_text r.upper)
            (extra_word r.finding) (text_of b.0) (extra_text r.finding (Some b.0)) (extra_text r.finding r.extra) (lists_text program r)
            (after_is (extra_word r.finding) line a.0 a.1) (fraction_is a.0 b.0 b.1) (extra_some r.finding b.0) (ap (extra_text r.finding) h.0 ∙ extra_none r.finding) (no_lists r h),
        arrives.2,
      )

  count_joined : (b line w t n z : List ℕ) → line ≡ w ++ t → t ≡ n → z ≡ [] → b ++ (w ++ n ++ 10 ∷ z) ≡ b ++ (line ++ 10 ∷ [])
  count_joined b line w t n z h k i = rw (h, k, i) refl

  count_says : (kind : ListKind) (r : Report) (line : List ℕ) (d : Draft) → Ready kind r → wanted kind r ≡ true → count_line kind r line ≡ Ok d → Says d (base program r ++ (line ++ 10 ∷ []))
  count_says kind r line d h w e =
      let a = from_ok (after (list_word kind) line) _ d e in
      let b = from_ok (count a.0) _ d a.2 in
      let is : listed kind b.0 [] r ≡ d = cc (b.2) in
      let all : zero + b.0 ≡ b.0 = omega arith in
      let s : Says (listed kind b.0 [] r) (base program r ++ begun most program kind b.0 []) = says_listed kind b.0 [] r h w in
      subst (λ (x : Draft). Says x (base program r ++ (line ++ 10 ∷ []))) is
      (s.0, s.1 ∙ count_joined (base program r) line (list_word kind) a.0 (decimal (zero + b.0)) [] (after_is (list_word kind) line a.0 a.1) (count_is a.0 b.0 b.1 ∙ ap decimal (sym all)) refl, s.2)

  -- a line of a list: one more number, and its text
  abbrev More : List (List ℕ) → List At → List ℕ → List At → Type 0
  More names list line more = (a : At) × (more ≡ list ++ a ∷ []) × (line ++ 10 ∷ [] ≡ value_text names a)

  value_joined : (line a b c d x y z : List ℕ) → line ≡ a ++ 32 ∷ b → a ≡ x → b ≡ c ++ 32 ∷ d → c ≡ y → d ≡ z → line ++ 10 ∷ [] ≡ x ++ 32 ∷ y ++ 32 ∷ z ++ 10 ∷ []
  value_joined line a b c d x y z h i j k l = rw (h, i, j, k, l) (simp append_assoc refl)

  numbered_is : (names : List (List ℕ)) (name : List ℕ) (o : Option ℕ) (i : ℕ) → place_of names name ≡ o → numbered o ≡ Ok i → name ≡ get_or names i []
  numbered_is names name None i e h = cc
  numbered_is names name (Some place) i e h =
      let p = picked (nat_lt place (2 ^ 32)) place i h in
      sym (place_of_right names name place e).1 ∙ ap (λ (j : ℕ). get_or names j []) p.1

  value_more : (names : List (List ℕ)) (list more : List At) (line : List ℕ) → value_line names list line ≡ Ok more → More names list line more
  value_more names list more line e =
      let a = from_ok (field line) _ more e in
      let n = from_ok (small a.0.0) _ more a.2 in
      let b = from_ok (field a.0.1) _ more n.2 in
      let i = from_ok (numbered (place_of names b.0.0)) _ more b.2 in
      let v = from_ok (fraction b.0.1) _ more i.2 in
      let p = picked (all_before n.0 i.0 list && not (same_value v.0 zero_ℚ)) _ more v.2 in (
        record { node = n.0; index = i.0; value = v.0 },
        sym p.1,
        value_joined line a.0.0 a.0.1 b.0.0 b.0.1 (decimal n.0) (get_or names i.0 []) (text_of v.0) (field_is line a.0 a.1) (small_is a.0.0 n.0 n.1) (field_is a.0.1 b.0 b.1)
            (numbered_is names b.0.0 (place_of names b.0.0) i.0 refl i.1) (fraction_is b.0.1 v.0 v.1),
      )

  more_joined : (b w t v l x : List ℕ) → x ≡ v → b ++ (w ++ t ++ 10 ∷ (l ++ (v ++ []))) ≡ b ++ (w ++ t ++ 10 ∷ l) ++ x
  more_joined b w t v l x h = rw h (simp (append-nil, append_assoc) refl)

  value_says : (kind : ListKind) (left : ℕ) (r : Report) (list : List At) (line : List ℕ) (d : Draft) → Ready kind r → wanted kind r ≡ true → 0 < left
      → on_ok (value_line (names_of (tables_of most program) kind) list line) (λ more. Ok (listed kind (left - 1) more r)) ≡ Ok d → Says d (base program r ++ begun most program kind left list ++ (line ++ 10 ∷ []))
  value_says kind left r list line d h w some e =
      let names : List (List ℕ) = names_of (tables_of most program) kind in
      let m = from_ok (value_line names list line) (λ more. Ok (listed kind (left - 1) more r)) d e in
      let is : listed kind (left - 1) m.0 r ≡ d = cc (m.2) in
      let a = value_more names list m.0 line m.1 in
      let s : Says (listed kind (left - 1) m.0 r) (base program r ++ begun most program kind (left - 1) m.0) = says_listed kind (left - 1) m.0 r h w in
      let all : length (list ++ a.0 ∷ []) + (left - 1) ≡ length list + left = omega (arith, length-append list (a.0 ∷ []), some) in
      let lines : flat_map (value_text names) (list ++ a.0 ∷ []) ≡ flat_map (value_text names) list ++ (value_text names a.0 ++ []) = flat_map-append (value_text names) list (a.0 ∷ []) in
      subst (λ (x : Draft). Says x (base program r ++ begun most program kind left list ++ (line ++ 10 ∷ []))) is (
        s.0,
        s.1 ∙ ap (λ (x : List At). base program r ++ begun most program kind (left - 1) x) a.1
            ∙ ap (λ (n : ℕ). base program r ++ (list_word kind ++ decimal n ++ 10 ∷ flat_map (value_text names) (list ++ a.0 ∷ []))) all
            ∙ ap (λ (t : List ℕ). base program r ++ (list_word kind ++ decimal (length list + left) ++ 10 ∷ t)) lines
            ∙ more_joined (base program r) (list_word kind) (decimal (length list + left)) (value_text names a.0) (flat_map (value_text names) list) (line ++ 10 ∷ []) a.2,
        s.2,
      )

  -- ---- a line, and the report that it may end

  -- what is read behind a line, where the text is this one
  abbrev Behind : Draft → List ℕ → Type 0
  Behind d text = Says d text ⊎ ((is_head d.next ≡ true) × HasParts d.report × (report_text program d.report ≡ text))

  step_says : (n : Next) (r : Report) (list : List At) (line : List ℕ) (d : Draft) → Fits n r → line_at (tables_of most program) n r list line ≡ Ok d → Behind d (said most program n r list ++ (line ++ 10 ∷ []))
  step_says next.Head r list line d h e = inl (head_says r line d h (admitted (nat_lt most r.number) (head_line r line) d e))
  step_says next.Status r list line d h e = inl (status_says r line d h e)
  step_says next.Lower r list line d h e = inl (lower_says r line d h e)
  step_says next.Upper r list line d h e = inl (upper_says r line d h e)
  step_says next.Extra r list line d h e = inl (extra_says r line d h.0 h.1 e)
  step_says (next.Count kind) r list line d h e = inl (count_says kind r line d h.0 h.1 e)
  step_says (next.Value kind left) r list line d h e = inl (value_says kind left r list line d h.0 h.1 h.2 e)
  step_says next.End r list line d h e =
      let p = picked (same_name line (codes "END")) (record { report = r; list = []; next = next.Head }) d e in
      let l : line ≡ codes "END" = same line (codes "END") p.0 in
      subst (λ (x : Draft). Behind x (base program r ++ (line ++ 10 ∷ []))) p.1 (inr (refl, h, ap (λ (t : List ℕ). base program r ++ (t ++ 10 ∷ [])) (sym l)))

  -- ---- all lines

  head_silent : (n : Next) (r : Report) (list : List At) → is_head n ≡ true → said most program n r list ≡ []
  head_silent next.Head r list e = refl
  head_silent next.Status r list e = cc
  head_silent next.Lower r list e = cc
  head_silent next.Upper r list e = cc
  head_silent next.Extra r list e = cc
  head_silent (next.Count kind) r list e = cc
  head_silent (next.Value kind left) r list e = cc
  head_silent next.End r list e = cc

  at_end : (b : Bool) (done reports : List Report) (number : ℕ) → pick b (Ok done) (refusal number cause.ReportBad) ≡ Ok reports → (b ≡ true) × (done ≡ reports)
  at_end true done reports number e = (refl, (let h : done ≡ reports = cc in h))
  at_end false done reports number e = cc

  from_line : (number : ℕ) (r : Result Draft Cause) (f : Draft → Result (List Report) Refusal) (reports : List Report) → on_line number r f ≡ Ok reports → (x : Draft) × (r ≡ Ok x) × (f x ≡ Ok reports)
  from_line number (Ok x) f reports e = (x, refl, e)
  from_line number (Err c) f reports e = cc

  each_more : (done : List Report) (report : Report) → Each HasParts done → HasParts report → Each HasParts (done ++ report ∷ [])
  each_more [] report h k = (k, tt)
  each_more (first ∷ done) report h k = (h.0, each_more done report h.1 k)

  goes_on : (f s x l j r : List ℕ) → x ≡ s ++ l → f ++ s ++ (l ++ j ++ r) ≡ f ++ x ++ (j ++ r)
  goes_on f s x l j r h = rw h (simp append_assoc refl)

  goes_over : (f s x l j r g : List ℕ) → g ≡ f ++ (x ++ []) → x ≡ s ++ l → f ++ s ++ (l ++ j ++ r) ≡ g ++ [] ++ (j ++ r)
  goes_over f s x l j r g h k = rw (h, k) (simp (append-nil, append_assoc) refl)

  reads_says : (done : List Report) (d : Draft) (number : ℕ) (lines : List (List ℕ)) (rest : List ℕ) (reports : List Report) → Each HasParts done → Fits d.next d.report
      → reads (tables_of most program) done d number lines rest ≡ Ok reports
      → (flat_map (report_text program) done ++ said most program d.next d.report d.list ++ (flat_map (λ line. line ++ 10 ∷ []) lines ++ rest) ≡ flat_map (report_text program) reports) × Each HasParts reports
  reads_says done d number [] [] reports h k e =
      let end = at_end (is_head d.next) done reports number e in
      let silent : said most program d.next d.report d.list ≡ [] = head_silent d.next d.report d.list end.0 in
      (ap (λ (t : List ℕ). flat_map (report_text program) done ++ t ++ []) silent ∙ simp append-nil (ap (flat_map (report_text program)) end.1), subst (Each HasParts) end.1 h)
  reads_says done d number [] (byte ∷ rest) reports h k e = cc
  reads_says done d number (line ∷ lines) rest reports h k e =
      let next_is = from_line number (step (tables_of most program) d line) _ reports e in
      let x : Draft = next_is.0 in
      let e1 = next_is.2 in
      let text : List ℕ = said most program d.next d.report d.list in
      let told : List Report → List ℕ = flat_map (report_text program) in
      let more : List ℕ = flat_map (λ line. line ++ 10 ∷ []) lines in
      ⊎_elim
      (λ (s : Says x (text ++ (line ++ 10 ∷ []))).
      let e2 : reads (tables_of most program) done x (number + 1) lines rest ≡ Ok reports = subst (λ (w : Bool). reads (tables_of most program) (pick w (done ++ x.report ∷ []) done) (pick w (fresh (length done + 2)) x) (number + 1) lines rest ≡ Ok reports) s.2 e1 in
      let rec = reads_says done x (number + 1) lines rest reports h s.0 e2 in
      (goes_on (told done) text (said most program x.next x.report x.list) (line ++ 10 ∷ []) more rest s.1 ∙ rec.0, rec.1))
      (λ (t : (is_head x.next ≡ true) × HasParts x.report × (report_text program x.report ≡ text ++ (line ++ 10 ∷ []))).
      let e2 : reads (tables_of most program) (done ++ x.report ∷ []) (fresh (length done + 2)) (number + 1) lines rest ≡ Ok reports = subst (λ (w : Bool). reads (tables_of most program) (pick w (done ++ x.report ∷ []) done) (pick w (fresh (length done + 2)) x) (number + 1) lines rest ≡ Ok reports) t.0 e1 in
      let rec = reads_says (done ++ x.report ∷ []) (fresh (length done + 2)) (number + 1) lines rest reports (each_more done x.report h t.1) (refl, refl, refl, refl, refl) e2 in
      (goes_over (told done) text (report_text program x.report) (line ++ 10 ∷ []) more rest (told (done ++ x.report ∷ [])) (flat_map-append (report_text program) done (x.report ∷ [])) t.2 ∙ rec.0, rec.1))
      (step_says d.next d.report d.list line x k next_is.1)

  pub stated : (text : List ℕ) (reports : List Report) → reports_of most program text ≡ Ok reports → IsStated program text reports
  stated text reports e =
      let all = reads_says [] (fresh 1) 1 (lines_of text).ended (lines_of text).rest reports tt (refl, refl, refl, refl, refl) e in
      record { text_is = sym (lines_join text) ∙ all.0; parts = all.1 }

  pub stated_by : {A : Type 0} (text : List ℕ) (r : Result A ReadFail) (items : A → List Report) → MatchResult r (λ v. reports_of most program text ≡ Ok (items v)) (FailOf (reports_of most program text))
      → IfOk r (λ v. IsStated program text (items v))
  stated_by text (Ok v) items e = stated text (items v) e
  stated_by text (Err f) items e = tt
