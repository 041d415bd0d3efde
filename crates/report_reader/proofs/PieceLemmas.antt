-- Where words and pieces end.
use Rattle.std.proofs.Common.{◌≡◌, ◌≢◌, ◌<◌, ℕ, zero, suc, Bool, true, false, List, [], ◌∷◌, length, get_or, take, drop, nat_eq, Option, Some, None, Err, MatchOption, refl, subst, arith}
use Rattle.std.proofs.lemmas.Bool.{eq-eqb, ne_eqb}
use Rattle.rationals.specs.Choices.{pick}
use Rattle.refusals.specs.declared.cause.Cause.TheVariants as cause
use Rattle.report_reader.specs.Pieces.{lines_of, after, grown, cut}

-- a word goes on where the text ends
pub none_left : (word : List ℕ) (k : ℕ) (text : List ℕ) → k < length word → length text < 1 → after (drop k word) text ≡ Err cause.ReportBad
none_left [] k text h l = absurd (omega arith)
none_left (byte ∷ word) zero [] h l = refl
none_left (byte ∷ word) zero (first ∷ text) h l = absurd (omega arith)
none_left (byte ∷ word) (suc k) text h l = none_left word k text (omega arith) l

-- the byte at n is the first such one
pub cut_at : (byte : ℕ) (text : List ℕ) (n : ℕ) → ((k : ℕ) → k < n → get_or text k 0 ≢ byte) → n < length text → get_or text n 0 ≡ byte → cut byte text ≡ Some (take n text, drop (suc n) text)
cut_at byte [] n none within here = absurd (omega arith)
cut_at byte (first ∷ text) zero none within here = let same : nat_eq first byte ≡ true = eq-eqb first byte here in rw same refl
cut_at byte (first ∷ text) (suc n) none within here =
    let rec : cut byte text ≡ Some (take n text, drop (suc n) text) = cut_at byte text n (λ k below. none (suc k) (omega arith)) (omega arith) here in
    let other : nat_eq first byte ≡ false = ne_eqb first byte (none 0 (omega arith)) in
    rw (other, rec) refl

-- there is no such byte
pub cut_none : (byte : ℕ) (text : List ℕ) → ((k : ℕ) → k < length text → get_or text k 0 ≢ byte) → cut byte text ≡ None
cut_none byte [] none = refl
cut_none byte (first ∷ text) none =
    let rec : cut byte text ≡ None = cut_none byte text (λ k below. none (suc k) (omega arith)) in
    let other : nat_eq first byte ≡ false = ne_eqb first byte (none 0 (omega arith)) in
    rw (other, rec) refl

-- ---- lines

-- the lines of a text, by what stands before the first line feed
abbrev pub LinesBy : List ℕ → Option (List ℕ × List ℕ) → Type 0
LinesBy text None = lines_of text ≡ record { ended = []; rest = text }
LinesBy text (Some p) = lines_of text ≡ record { ended = p.0 ∷ (lines_of p.1).ended; rest = (lines_of p.1).rest }

one_more : (first : ℕ) (text : List ℕ) (b : Bool) (o : Option (List ℕ × List ℕ)) → nat_eq first 10 ≡ b → LinesBy text o → LinesBy (first ∷ text) (pick b (Some ([], text)) (grown first o))
one_more first text true o e h = rw e refl
one_more first text false None e h = rw (e, h) refl
one_more first text false (Some p) e h = rw (e, h) refl

pub by_cut : (text : List ℕ) → LinesBy text (cut 10 text)
by_cut [] = refl
by_cut (first ∷ text) = one_more first text (nat_eq first 10) (cut 10 text) refl (by_cut text)

-- what a cut at a line feed says of the lines
pub lines_by : {A : Type 0} (text : List ℕ) (r : Option A) (line behind : A → List ℕ) → MatchOption r (cut 10 text ≡ None) (λ p. cut 10 text ≡ Some (line p, behind p))
    → MatchOption r (lines_of text ≡ record { ended = []; rest = text }) (λ p. lines_of text ≡ record { ended = line p ∷ (lines_of (behind p)).ended; rest = (lines_of (behind p)).rest })
lines_by text None line behind e = let h : LinesBy text None = subst (LinesBy text) e (by_cut text) in h
lines_by text (Some p) line behind e = let h : LinesBy text (Some (line p, behind p)) = subst (LinesBy text) e (by_cut text) in h
