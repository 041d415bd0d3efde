-- Results that go on where there is a value, and end with a cause where there is one.
use Rattle.std.specs.Prelude.{ℕ, Option, Some, None, Result, Ok, Err}
use Rattle.refusals.specs.declared.cause.Cause.{Cause}
use Rattle.refusals.specs.declared.cause.Refusal.{Refusal}

infixl 10 ◌>>=◌
abbrev pub ◌>>=◌ : {A B : Type 0} → Result A Cause → (A → Result B Cause) → Result B Cause
(Ok x) >>= f = f x
(Err e) >>= f = Err e

-- what has to be there
abbrev pub needs : {A : Type 0} → Cause → Option A → Result A Cause
needs cause None = Err cause
needs cause (Some x) = Ok x

-- the value, unless a cause refuses it
abbrev pub unless_refused : {A C : Type 0} → Option C → A → Result A C
unless_refused None x = Ok x
unless_refused (Some cause) x = Err cause

-- the line with this number is refused, or what it gives goes on
abbrev pub on_line : {S X : Type 0} → ℕ → Result S Cause → (S → Result X Refusal) → Result X Refusal
on_line number (Err cause) next = Err (record { line = number; cause = cause })
on_line number (Ok s) next = next s
