-- A reader whose states are seen in those of another, line by line.
use Rattle.std.proofs.Common.{◌≡◌, ◌∙◌, ap, ℕ, Bool, true, false, List, [], ◌∷◌, Result, Ok, Err, refl, if◌then◌else◌}
use Rattle.smps_words.specs.Line.{TextLine}
use Rattle.refusals.specs.declared.cause.Cause.{Cause}
use Rattle.refusals.specs.Results.{on_line}
use Rattle.reader_defs.specs.Reader.{Reader, read_from}

-- the value is seen so; a failure stays
abbrev pub seen_by : {A B E : Type 0} → (A → B) → Result A E → Result B E
seen_by view (Ok x) = Ok (view x)
seen_by view (Err e) = Err e

-- Behind what is known of its lines each step and the end of the one are those of the other, seen so.
pub record Follows {S T X Y : Type 0} (r : Reader S X) (q : Reader T Y) (view : S → T) (value : X → Y) (Known : S → Type 0) : Type 0 where
  pub next : (s : S) (line : TextLine) → Known s → r.is_end s ≡ false → q.step (view s) line ≡ seen_by view (r.step s line)
  pub known : (s : S) (line : TextLine) (t : S) → Known s → r.is_end s ≡ false → r.step s line ≡ Ok t → Known t
  pub same_end : (s : S) → q.is_end (view s) ≡ r.is_end s
  pub same_finish : (end_line number : ℕ) (s : S) → q.finish end_line number (view s) ≡ seen_by value (r.finish end_line number s)

module _ {S T X Y : Type 0} (r : Reader S X) (q : Reader T Y) (view : S → T) (value : X → Y) (Known : S → Type 0) (by : Follows r q view value Known) (end_line : ℕ) where
  ends_or_not : (number : ℕ) (lines : List TextLine) (s : S) (b c : Bool) → b ≡ c → (c ≡ false → read_from q end_line (view s) lines ≡ seen_by value (read_from r end_line s lines)) →
      (if b then q.finish end_line number (view s) else read_from q end_line (view s) lines) ≡ seen_by value (if c then r.finish end_line number s else read_from r end_line s lines)
  ends_or_not number lines s true true e more = by.same_finish end_line number s
  ends_or_not number lines s false false e more = more refl
  ends_or_not number lines s true false e more = absurd (cc)
  ends_or_not number lines s false true e more = absurd (cc)

  line_read : (number : ℕ) (lines : List TextLine) (given : Result S Cause) → ((t : S) → given ≡ Ok t → r.is_end t ≡ false → read_from q end_line (view t) lines ≡ seen_by value (read_from r end_line t lines)) →
      on_line number (seen_by view given) (λ t. if q.is_end t then q.finish end_line number t else read_from q end_line t lines)
      ≡ seen_by value (on_line number given (λ t. if r.is_end t then r.finish end_line number t else read_from r end_line t lines))
  line_read number lines (Err cause) later = refl
  line_read number lines (Ok t) later = ends_or_not number lines t (q.is_end (view t)) (r.is_end t) (by.same_end t) (later t refl)

  -- so reading gives the same, seen so
  pub reads_same : (lines : List TextLine) (s : S) → Known s → r.is_end s ≡ false → read_from q end_line (view s) lines ≡ seen_by value (read_from r end_line s lines)
  reads_same [] s known open_ = refl
  reads_same (line ∷ lines) s known open_ =
      ap (λ given. on_line line.number given (λ t. if q.is_end t then q.finish end_line line.number t else read_from q end_line t lines)) (by.next s line known open_)
      ∙ line_read line.number lines (r.step s line) (λ t e still. reads_same lines t (by.known s line t known open_ e) still)
