-- What a fault of one file says of all files that are named.
use Rattle.std.proofs.Common.{◌≡◌, ℕ, ◌≤◌, List, Option, Some, None, Result, Ok, Err, arith, sym, ap, ◌∙◌, subst}
use Rattle.smps_io.specs.Files.{Files}
use Rattle.command_words.specs.Commands.{FileNames}
use Rattle.smps_io.specs.Faults.{Rose}
use Rattle.input_files.specs.declared.kind.FileKind.{FileKind}
use Rattle.input_files.specs.declared.fetch.Unfetched.{Unfetched}
use Rattle.input_files.specs.declared.fetch.Unfetched.TheVariants.{Failed, TooLong, Memory}
use Rattle.input_files.specs.Fetched.{name_of, IsNamed, IsLong}
use Rattle.input_files.specs.Unfetched.{IsCause, IsCauseOf, IsCauseIf}

pub cause_of : (content : Option Files) (names : FileNames) (kind : FileKind) (name : List ℕ) → name_of names kind ≡ Some name → (fault : Unfetched) → IsCauseOf content name kind fault → IsCause content names fault
cause_of content names kind name e (Failed of) h = subst (IsNamed names) (sym h) (name, e)
cause_of content names kind name e (TooLong of) h = subst (IsLong content names) (sym h.0) (name, e, h.1)
cause_of content names kind name e Memory h = tt

pub cause_if : (content : Option Files) (names : FileNames) (kind : FileKind) (named : Option (List ℕ)) → name_of names kind ≡ named → (fault : Unfetched) → IsCauseIf content named kind fault → IsCause content names fault
cause_if content names kind None e fault h = absurd h
cause_if content names kind (Some name) e fault h = cause_of content names kind name e fault h

-- faults that are the same, and results that are
pub err_is : {T : Type 0} {a b : Unfetched} → ◌≡◌ {A = Result T Unfetched} (Err a) (Err b) → a ≡ b
err_is e = cc

pub err_same : {T : Type 0} {a b : Unfetched} → a ≡ b → ◌≡◌ {A = Result T Unfetched} (Err a) (Err b)
err_same e = cc

-- a result that is given is no fault
pub not_err : {T P : Type 0} {t : T} {a : Unfetched} → ◌≡◌ {A = Result T Unfetched} (Ok t) (Err a) → P
not_err e = absurd (cc)

-- a count that rose later rose
pub rose_later : (a b c : ℕ) → a ≤ b → Rose b c → Rose a c
rose_later a b c e h = omega arith

-- a fault of one file is of its kind
pub failed_of : (content : Option Files) (kind of : FileKind) (name : List ℕ) (fault : Unfetched) → fault ≡ Failed of → IsCauseOf content name kind fault → fault ≡ Failed kind
failed_of content kind of name fault e h = e ∙ ap Failed (subst (IsCauseOf content name kind) e h)

pub failed_if : (content : Option Files) (kind of : FileKind) (named : Option (List ℕ)) (fault : Unfetched) → fault ≡ Failed of → IsCauseIf content named kind fault → fault ≡ Failed kind
failed_if content kind of None fault e h = absurd h
failed_if content kind of (Some name) fault e h = failed_of content kind of name fault e h
