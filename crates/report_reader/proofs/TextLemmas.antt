-- What is read of a text is what the text says.
use Rattle.std.proofs.Common.{◌≡◌, ◌∙◌, ◌++◌, ◌^◌, ℕ, Bool, true, false, List, [], ◌∷◌, Option, Some, None, Result, Ok, Err, nat_eq, nat_lt, refl, sym, ap, subst, append_assoc, if◌then◌else◌}
use Rattle.std.specs.Prelude.{codes}
use Rattle.std.specs.Cmp.Lexicographic.{same_text}
use Rattle.std.specs.Fmt.{decimal}
use Rattle.std.proofs.lemmas.Bool.{eqb-true}
use Rattle.rationals.specs.Rational.{ℚ}
use Rattle.rationals.specs.Passes.{Operation}
use Rattle.rationals.specs.declared.Op.{Op}
use Rattle.rationals.specs.declared.Op.TheVariants.{Add, Sub, Mul, Div}
use Rattle.rationals.specs.Choices.{pick}
use Rattle.frac128.specs.Numbers.{read_number}
use Rattle.frac128.specs.Text.{text_of}
use Rattle.frac128.specs.declared.text.NumFault.{NumFault}
use Rattle.frac128.specs.declared.text.NumFault.TheVariants as faults
use Rattle.smps_words.specs.Names.{same_name}
use Rattle.scen_defs.specs.declared.report.Place.{Place}
use Rattle.scen_defs.specs.declared.report.Place.TheVariants.{Solve, Cut, Cost, Ground, Dual}
use Rattle.scen_defs.specs.declared.report.Finding.{Finding}
use Rattle.scen_defs.specs.declared.report.Finding.TheVariants.{Optimal, Infeasible, Unbounded, OpenSolves, OpenPivots, OpenPassed}
use Rattle.refusals.specs.declared.cause.Cause.{Cause}
use Rattle.report_text.specs.Text.{op_text, place_text, operation_text, finding_text, end_text}
use Rattle.report_reader.specs.Answers.{on_ok, bad}
use Rattle.report_reader.specs.Pieces.{after, grown, cut, cut_field, field}
use Rattle.report_reader.specs.Numbers.{printed, fraction, end_value, end_of, count_in, counted, count_by, count, small}
use Rattle.report_reader.specs.Findings.{op_of, operation, passed_at, commit, passed_of, open_of, finding_of}

-- what comes of what was read before
pub from_ok : {X Y : Type 0} (read : Result X Cause) (f : X → Result Y Cause) (y : Y) → on_ok read f ≡ Ok y → (x : X) × (read ≡ Ok x) × (f x ≡ Ok y)
from_ok (Ok x) f y e = (x, refl, e)
from_ok (Err c) f y e = cc

pub picked : {X : Type 0} (b : Bool) (x y : X) → pick b (Ok x) (bad {X = X}) ≡ Ok y → (b ≡ true) × (x ≡ y)
picked true x y e = (refl, (let h : x ≡ y = cc in h))
picked false x y e = cc

pub same : (a b : List ℕ) → same_name a b ≡ true → a ≡ b
same a b e = same_text a b (sym e)

-- ---- pieces

after_one : (byte first : ℕ) (word text rest : List ℕ) (b : Bool) → nat_eq first byte ≡ b → (after word text ≡ Ok rest → text ≡ word ++ rest) → pick b (after word text) bad ≡ Ok rest → (first ∷ text) ≡ (byte ∷ word) ++ rest
after_one byte first word text rest true e h r = let one : first ≡ byte = eqb-true first byte e in rw one (ap (λ (xs : List ℕ). byte ∷ xs) (h r))
after_one byte first word text rest false e h r = cc

pub after_is : (word text rest : List ℕ) → after word text ≡ Ok rest → text ≡ word ++ rest
after_is [] text rest e = let h : text ≡ rest = cc in h
after_is (byte ∷ word) [] rest e = cc
after_is (byte ∷ word) (first ∷ text) rest e = after_one byte first word text rest (nat_eq first byte) refl (after_is word text rest) e

cut_grown : (byte first : ℕ) (text : List ℕ) (o : Option (List ℕ × List ℕ)) (a b : List ℕ) → ((c d : List ℕ) → o ≡ Some (c, d) → text ≡ c ++ byte ∷ d) → grown first o ≡ Some (a, b) → (first ∷ text) ≡ a ++ byte ∷ b
cut_grown byte first text None a b h e = cc
cut_grown byte first text (Some p) a b h e =
    let q : (first ∷ p.0, p.1) ≡ (a, b) = cc in
    let x : (first ∷ p.0) ≡ a = ap (λ (r : List ℕ × List ℕ). r.0) q in
    let y : p.1 ≡ b = ap (λ (r : List ℕ × List ℕ). r.1) q in
    let t : text ≡ p.0 ++ byte ∷ p.1 = h p.0 p.1 refl in
    rw (sym x, sym y) (ap (λ (xs : List ℕ). first ∷ xs) t)

cut_one : (byte first : ℕ) (text a b : List ℕ) (w : Bool) → nat_eq first byte ≡ w → ((c d : List ℕ) → cut byte text ≡ Some (c, d) → text ≡ c ++ byte ∷ d) → pick w (Some ([], text)) (grown first (cut byte text)) ≡ Some (a, b) → (first ∷ text) ≡ a ++ byte ∷ b
cut_one byte first text a b true e h r =
    let one : first ≡ byte = eqb-true first byte e in
    let q : ([], text) ≡ (a, b) = cc in
    let x : [] ≡ a = ap (λ (r : List ℕ × List ℕ). r.0) q in
    let y : text ≡ b = ap (λ (r : List ℕ × List ℕ). r.1) q in
    rw (sym x, sym y, one) refl
cut_one byte first text a b false e h r = cut_grown byte first text (cut byte text) a b h r

pub cut_is : (byte : ℕ) (text a b : List ℕ) → cut byte text ≡ Some (a, b) → text ≡ a ++ byte ∷ b
cut_is byte [] a b e = cc
cut_is byte (first ∷ text) a b e = cut_one byte first text a b (nat_eq first byte) refl (cut_is byte text) e

field_by : (text : List ℕ) (o : Option (List ℕ × List ℕ)) (p : List ℕ × List ℕ) → ((c d : List ℕ) → o ≡ Some (c, d) → text ≡ c ++ 32 ∷ d) → cut_field o ≡ Ok p → text ≡ p.0 ++ 32 ∷ p.1
field_by text None p h e = cc
field_by text (Some q) p h e = let same : q ≡ p = cc in subst (λ (r : List ℕ × List ℕ). text ≡ r.0 ++ 32 ∷ r.1) same (h q.0 q.1 refl)

pub field_is : (text : List ℕ) (p : List ℕ × List ℕ) → field text ≡ Ok p → text ≡ p.0 ++ 32 ∷ p.1
field_is text p e = field_by text (cut 32 text) p (cut_is 32 text) e

-- ---- numbers
printed_is : (f : List ℕ) (r : Result ℚ NumFault) (v : ℚ) → printed f r ≡ Ok v → f ≡ text_of v
printed_is f (Ok value) v e =
    let h = picked (same_name (text_of value) f) value v e in
    sym (same (text_of value) f h.0) ∙ ap text_of h.1
printed_is f (Err faults.Bad) v e = cc
printed_is f (Err faults.Wide) v e = cc

pub fraction_is : (f : List ℕ) (v : ℚ) → fraction f ≡ Ok v → f ≡ text_of v
fraction_is f v e = printed_is f (read_number f) v e

end_by : (f : List ℕ) (b : Bool) (v : Option ℚ) → same_name f (codes "none") ≡ b → end_value b f ≡ Ok v → f ≡ end_text v
end_by f true None s e = same f (codes "none") s
end_by f true (Some v) s e = cc
end_by f false None s e = let h = from_ok (fraction f) (λ value. Ok (Some value)) None e in absurd (cc (h.2))
end_by f false (Some v) s e =
    let h = from_ok (fraction f) (λ value. Ok (Some value)) (Some v) e in
    let is : h.0 ≡ v = cc (h.2) in
    fraction_is f h.0 h.1 ∙ ap text_of is

pub end_is : (f : List ℕ) (v : Option ℚ) → end_of f ≡ Ok v → f ≡ end_text v
end_is f v e = end_by f (same_name f (codes "none")) v refl e

counted_is : (f : List ℕ) (o : Option ℕ) (n : ℕ) → counted f o ≡ Ok n → f ≡ decimal n
counted_is f None n e = cc
counted_is f (Some m) n e = let h = picked (same_name (decimal m) f) m n e in sym (same (decimal m) f h.0) ∙ ap decimal h.1

count_by_is : (f : List ℕ) (r : Result ℚ NumFault) (n : ℕ) → count_by f r ≡ Ok n → f ≡ decimal n
count_by_is f (Ok value) n e = counted_is f (count_in value.num) n e
count_by_is f (Err fault) n e = cc

pub count_is : (f : List ℕ) (n : ℕ) → count f ≡ Ok n → f ≡ decimal n
count_is f n e = count_by_is f (read_number f) n e

pub small_is : (f : List ℕ) (n : ℕ) → small f ≡ Ok n → f ≡ decimal n
small_is f n e =
    let h = from_ok (count f) (λ m. pick (nat_lt m (2 ^ 32)) (Ok m) bad) n e in
    let p = picked (nat_lt h.0 (2 ^ 32)) h.0 n h.2 in
    count_is f h.0 h.1 ∙ ap decimal p.1

-- ---- findings
word_or : {X : Type 0} (a b : List ℕ) (w : Bool) (x y : X) (r : Result X Cause) (P : X → Type 0) → same_name a b ≡ w → (a ≡ b → P x) → (r ≡ Ok y → P y) → (if w then Ok x else r) ≡ Ok y → P y
word_or a b true x y r P s h k e = let is : x ≡ y = cc in subst P is (h (same a b s))
word_or a b false x y r P s h k e = k e

pub op_is : (w : List ℕ) (o : Op) → op_of w ≡ Ok o → w ≡ op_text o
op_is w o e =
    let P : Op → Type 0 = λ p. w ≡ op_text p in
    word_or w (codes "ADD") _ Add o _ P refl (λ h. h)
    (word_or w (codes "SUB") _ Sub o _ P refl (λ h. h)
    (word_or w (codes "MUL") _ Mul o _ P refl (λ h. h)
    (word_or w (codes "DIV") _ Div o _ P refl (λ h. h) (λ f. cc)))) e

operation_joined : (text w r a b : List ℕ) (o : Op) (x y : ℚ) → text ≡ w ++ 32 ∷ r → r ≡ a ++ 32 ∷ b → w ≡ op_text o → a ≡ text_of x → b ≡ text_of y → text ≡ op_text o ++ 32 ∷ text_of x ++ 32 ∷ text_of y
operation_joined text w r a b o x y h k i j l = h ∙ rw (k, i, j, l) (sym (append_assoc (op_text o) (32 ∷ text_of x) (32 ∷ text_of y)))

pub operation_is : (text : List ℕ) (p : Operation) → operation text ≡ Ok p → text ≡ operation_text p
operation_is text p e =
    let a = from_ok (field text) _ p e in
    let b = from_ok (op_of a.0.0) _ p a.2 in
    let c = from_ok (field a.0.1) _ p b.2 in
    let d = from_ok (fraction c.0.0) _ p c.2 in
    let f = from_ok (fraction c.0.1) _ p d.2 in
    let made : record { op = b.0; a = d.0; b = f.0 } ≡ p = cc (f.2) in
    subst (λ (q : Operation). text ≡ operation_text q) made
    (operation_joined text a.0.0 a.0.1 c.0.0 c.0.1 b.0 d.0 f.0 (field_is text a.0 a.1) (field_is a.0.1 c.0 c.1) (op_is a.0.0 b.0 b.1) (fraction_is c.0.0 d.0 d.1) (fraction_is c.0.1 f.0 f.1))

passed_at_is : (place : Place) (text : List ℕ) (f : Finding) → passed_at place text ≡ Ok f → finding_text f ≡ codes "OPEN PASSED " ++ place_text place ++ 32 ∷ text
passed_at_is place text f e =
    let a = from_ok (operation text) _ f e in
    let is : OpenPassed place a.0 ≡ f = cc (a.2) in
    subst (λ (g : Finding). finding_text g ≡ codes "OPEN PASSED " ++ place_text place ++ 32 ∷ text) is
    (ap (λ (t : List ℕ). codes "OPEN PASSED " ++ place_text place ++ 32 ∷ t) (sym (operation_is text a.0 a.1)))

-- a place with the number of a commit
commit_joined : (text w r : List ℕ) (n m : ℕ) (q : List ℕ) → text ≡ w ++ 32 ∷ r → w ≡ decimal m → m ≡ n → r ≡ q → text ≡ decimal n ++ 32 ∷ q
commit_joined text w r n m q h k x y = h ∙ rw (k, x, y) refl

commit_is : (text : List ℕ) (p : ℕ × List ℕ) → commit text ≡ Ok p → text ≡ decimal p.0 ++ 32 ∷ p.1
commit_is text p e =
    let b = from_ok (field text) _ p e in
    let c = from_ok (count b.0.0) _ p b.2 in
    let made : ℕ × List ℕ = (c.0, b.0.1) in
    let is : made ≡ p = cc (c.2) in
    commit_joined text b.0.0 b.0.1 p.0 c.0 p.1 (field_is text b.0 b.1) (count_is b.0.0 c.0 c.1) (ap (λ (q : ℕ × List ℕ). q.0) is) (ap (λ (q : ℕ × List ℕ). q.1) is)

by_joined : (word text q : List ℕ) (n : ℕ) → text ≡ decimal n ++ 32 ∷ q → codes "OPEN PASSED " ++ (word ++ 32 ∷ decimal n) ++ 32 ∷ q ≡ codes "OPEN PASSED " ++ (word ++ 32 ∷ text)
by_joined word text q n h = rw h (ap (λ (w : List ℕ). codes "OPEN PASSED " ++ w) (append_assoc word (32 ∷ decimal n) (32 ∷ q)))

passed_by_is : (place : ℕ → Place) (word text : List ℕ) (f : Finding) → ((n : ℕ) → place_text (place n) ≡ word ++ 32 ∷ decimal n) → on_ok (commit text) (λ k. passed_at (place k.0) k.1) ≡ Ok f
    → finding_text f ≡ codes "OPEN PASSED " ++ (word ++ 32 ∷ text)
passed_by_is place word text f named e =
    let a = from_ok (commit text) _ f e in
    passed_at_is (place a.0.0) a.0.1 f a.2 ∙ ap (λ (w : List ℕ). codes "OPEN PASSED " ++ w ++ 32 ∷ a.0.1) (named a.0.0) ∙ by_joined word text a.0.1 a.0.0 (commit_is text a.0 a.1)

-- a word, or one of those behind it
chosen : (a b : List ℕ) (w : Bool) (r s : Result Finding Cause) (f : Finding) (P : Type 0) → (if w then r else s) ≡ Ok f → same_name a b ≡ w → (a ≡ b → r ≡ Ok f → P) → (s ≡ Ok f → P) → P
chosen a b true r s f P t e h k = h (same a b e) t
chosen a b false r s f P t e h k = k t

passed_of_is : (word text : List ℕ) (f : Finding) → passed_of word text ≡ Ok f → finding_text f ≡ codes "OPEN PASSED " ++ (word ++ 32 ∷ text)
passed_of_is word text f e =
    let P : Type 0 = finding_text f ≡ codes "OPEN PASSED " ++ (word ++ 32 ∷ text) in
    let by : (w : List ℕ) → word ≡ w → finding_text f ≡ codes "OPEN PASSED " ++ (w ++ 32 ∷ text) → P = λ w i h. subst (λ (v : List ℕ). finding_text f ≡ codes "OPEN PASSED " ++ (v ++ 32 ∷ text)) (sym i) h in
    chosen word (codes "SOLVE") _ _ _ f P e refl (λ i t. by _ i (passed_by_is Solve (codes "SOLVE") text f (λ n. refl) t)) (λ e1.
    chosen word (codes "CUT") _ _ _ f P e1 refl (λ i t. by _ i (passed_by_is Cut (codes "CUT") text f (λ n. refl) t)) (λ e2.
    chosen word (codes "COST") _ _ _ f P e2 refl (λ i t. by _ i (passed_by_is Cost (codes "COST") text f (λ n. refl) t)) (λ e3.
    chosen word (codes "GROUND") _ _ _ f P e3 refl (λ i t. by _ i (passed_at_is Ground text f t)) (λ e4.
    chosen word (codes "DUAL") _ _ _ f P e4 refl (λ i t. by _ i (passed_at_is Dual text f t)) (λ e5. cc)))))

solves_is : (text : List ℕ) (f : Finding) → on_ok (count text) (λ n. Ok (OpenSolves n)) ≡ Ok f → finding_text f ≡ codes "OPEN SOLVES " ++ text
solves_is text f e =
    let a = from_ok (count text) (λ n. Ok (OpenSolves n)) f e in
    let is : OpenSolves a.0 ≡ f = cc (a.2) in
    subst (λ (g : Finding). finding_text g ≡ codes "OPEN SOLVES " ++ text) is (ap (λ (t : List ℕ). codes "OPEN SOLVES " ++ t) (sym (count_is text a.0 a.1)))

pivots_is : (text : List ℕ) (f : Finding) → on_ok (count text) (λ n. Ok (OpenPivots n)) ≡ Ok f → finding_text f ≡ codes "OPEN PIVOTS " ++ text
pivots_is text f e =
    let a = from_ok (count text) (λ n. Ok (OpenPivots n)) f e in
    let is : OpenPivots a.0 ≡ f = cc (a.2) in
    subst (λ (g : Finding). finding_text g ≡ codes "OPEN PIVOTS " ++ text) is (ap (λ (t : List ℕ). codes "OPEN PIVOTS " ++ t) (sym (count_is text a.0 a.1)))

passed_is : (text : List ℕ) (f : Finding) → on_ok (field text) (λ place. passed_of place.0 place.1) ≡ Ok f → finding_text f ≡ codes "OPEN PASSED " ++ text
passed_is text f e =
    let a = from_ok (field text) (λ place. passed_of place.0 place.1) f e in
    passed_of_is a.0.0 a.0.1 f a.2 ∙ ap (λ (t : List ℕ). codes "OPEN PASSED " ++ t) (sym (field_is text a.0 a.1))

open_of_is : (word text : List ℕ) (f : Finding) → open_of word text ≡ Ok f → finding_text f ≡ codes "OPEN " ++ (word ++ 32 ∷ text)
open_of_is word text f e =
    let P : Type 0 = finding_text f ≡ codes "OPEN " ++ (word ++ 32 ∷ text) in
    let by : (w : List ℕ) → word ≡ w → finding_text f ≡ codes "OPEN " ++ (w ++ 32 ∷ text) → P = λ w i h. subst (λ (v : List ℕ). finding_text f ≡ codes "OPEN " ++ (v ++ 32 ∷ text)) (sym i) h in
    chosen word (codes "SOLVES") _ _ _ f P e refl (λ i t. by _ i (solves_is text f t)) (λ e1.
    chosen word (codes "PIVOTS") _ _ _ f P e1 refl (λ i t. by _ i (pivots_is text f t)) (λ e2.
    chosen word (codes "PASSED") _ _ _ f P e2 refl (λ i t. by _ i (passed_is text f t)) (λ e3. cc)))

open_is : (text : List ℕ) (f : Finding) → on_ok (after (codes "OPEN ") text) (λ why. on_ok (field why) (λ word. open_of word.0 word.1)) ≡ Ok f → text ≡ finding_text f
open_is text f e =
    let a = from_ok (after (codes "OPEN ") text) (λ why. on_ok (field why) (λ word. open_of word.0 word.1)) f e in
    let b = from_ok (field a.0) (λ word. open_of word.0 word.1) f a.2 in
    after_is (codes "OPEN ") text a.0 a.1 ∙ ap (λ (r : List ℕ). codes "OPEN " ++ r) (field_is a.0 b.0 b.1) ∙ sym (open_of_is b.0.0 b.0.1 f b.2)

pub finding_is : (text : List ℕ) (f : Finding) → finding_of text ≡ Ok f → text ≡ finding_text f
finding_is text f e =
    let P : Type 0 = text ≡ finding_text f in
    let by : (g : Finding) → text ≡ finding_text g → g ≡ f → P = λ g h i. subst (λ (k : Finding). text ≡ finding_text k) i h in
    chosen text (codes "OPTIMAL") _ _ _ f P e refl (λ i t. by Optimal i (cc (t))) (λ e1.
    chosen text (codes "INFEASIBLE") _ _ _ f P e1 refl (λ i t. by Infeasible i (cc (t))) (λ e2.
    chosen text (codes "UNBOUNDED") _ _ _ f P e2 refl (λ i t. by Unbounded i (cc (t))) (λ e3. open_is text f e3)))
