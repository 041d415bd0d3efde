-- Names that were fetched, some behind others.
use Rattle.std.proofs.Common.{◌≡◌, ◌≢◌, ℕ, ◌+◌, ◌≤◌, List, [], ◌∷◌, ◌++◌, take, length, min, Option, None, Some, sym, ap, ◌∙◌, subst, append_assoc, arith}
use Rattle.std.specs.Option.{option_to_list}
use Rattle.std.proofs.lemmas.List.{append-nil, take-append-le, take_min}
use Rattle.std.proofs.Math.Seq.{take-append-add}
use Rattle.smps_io.specs.Fetches.{FetchesPrefix}
use Rattle.smps_io.specs.Files.{Files}
use Rattle.command_words.specs.Commands.{FileNames}
use Rattle.input_files.specs.declared.kind.FileKind.{FileKind}
use Rattle.input_files.specs.declared.kind.FileKind.TheVariants as kind
use Rattle.input_files.specs.declared.fetch.Unfetched.{Unfetched}
use Rattle.input_files.specs.declared.fetch.Unfetched.TheVariants.{Failed, TooLong, Memory}
use Rattle.input_files.specs.Fetched.{StopsAt, names_in_order, names_before, name_of}
use Rattle.input_files.specs.Unfetched.{IsCauseOf, IsCauseIf, StopsBy}

-- none of them
pub none_fetched : (before names now : List (List ℕ)) → now ≡ before → FetchesPrefix before names now
none_fetched before names now e = (0, e ∙ sym (append-nil before))

-- names behind names
pub names_behind : (before first more mid now : List (List ℕ)) → mid ≡ before ++ first → now ≡ mid ++ more → now ≡ before ++ (first ++ more)
names_behind before first more mid now e h = h ∙ ap (λ (list : List (List ℕ)). list ++ more) e ∙ append_assoc before first more

-- all of the first names, and some of those behind them
fetched_behind : (before first more mid now : List (List ℕ)) → mid ≡ before ++ first → FetchesPrefix mid more now
    → FetchesPrefix before (first ++ more) now
fetched_behind before first more mid now e h = (
  length first + h.0,
  names_behind before first (take h.0 more) mid now e h.1
      ∙ sym (ap (λ (list : List (List ℕ)). before ++ list) (take-append-add first more h.0)),
)

-- some of the first names, and none of those behind them
with_more : (before first more now : List (List ℕ)) → FetchesPrefix before first now → FetchesPrefix before (first ++ more) now
with_more before first more now h =
    let short : min h.0 (length first) ≤ length first = omega arith in (
      min h.0 (length first),
      h.1 ∙ ap (λ (list : List (List ℕ)). before ++ list)
          (sym (take-append-le (min h.0 (length first)) first more short ∙ take_min h.0 first)),
    )

-- a prefix of the names up to a file is one of all names
module _ (names : FileNames) (before now : List (List ℕ)) where
  up_to_basis : FetchesPrefix before (names_before names kind.Measures) now → FetchesPrefix before (names_in_order names) now
  up_to_basis h = with_more before (names_before names kind.Measures) (option_to_list names.measures) now h

  up_to_report : FetchesPrefix before (names_before names kind.Basis) now → FetchesPrefix before (names_in_order names) now
  up_to_report h = up_to_basis (with_more before (names_before names kind.Basis) (option_to_list names.basis) now h)

  up_to_edits : FetchesPrefix before (names_before names kind.Report) now → FetchesPrefix before (names_in_order names) now
  up_to_edits h = up_to_report (with_more before (names_before names kind.Report) (option_to_list names.report) now h)

  up_to_stoch : FetchesPrefix before (names_before names kind.Edits) now → FetchesPrefix before (names_in_order names) now
  up_to_stoch h = up_to_edits (with_more before (names_before names kind.Edits) (option_to_list names.edits) now h)

  up_to_time : FetchesPrefix before (names_before names kind.Stoch) now → FetchesPrefix before (names_in_order names) now
  up_to_time h = up_to_stoch (with_more before (names_before names kind.Stoch) (option_to_list names.stoch) now h)

  up_to_core : FetchesPrefix before (names_before names kind.Time) now → FetchesPrefix before (names_in_order names) now
  up_to_core h = up_to_time (with_more before (names_before names kind.Time) (option_to_list names.time) now h)

  pub in_core : FetchesPrefix before (names.core ∷ []) now → FetchesPrefix before (names_in_order names) now
  in_core h = up_to_core h

  pub in_time : (mid : List (List ℕ)) → mid ≡ before ++ names_before names kind.Time → FetchesPrefix mid (option_to_list names.time) now
      → FetchesPrefix before (names_in_order names) now
  in_time mid e h = up_to_time (fetched_behind before (names_before names kind.Time) (option_to_list names.time) mid now e h)

  pub in_stoch : (mid : List (List ℕ)) → mid ≡ before ++ names_before names kind.Stoch → FetchesPrefix mid (option_to_list names.stoch) now
      → FetchesPrefix before (names_in_order names) now
  in_stoch mid e h = up_to_stoch (fetched_behind before (names_before names kind.Stoch) (option_to_list names.stoch) mid now e h)

  pub in_edits : (mid : List (List ℕ)) → mid ≡ before ++ names_before names kind.Edits → FetchesPrefix mid (option_to_list names.edits) now
      → FetchesPrefix before (names_in_order names) now
  in_edits mid e h = up_to_edits (fetched_behind before (names_before names kind.Edits) (option_to_list names.edits) mid now e h)

  pub in_report : (mid : List (List ℕ)) → mid ≡ before ++ names_before names kind.Report → FetchesPrefix mid (option_to_list names.report) now
      → FetchesPrefix before (names_in_order names) now
  in_report mid e h = up_to_report (fetched_behind before (names_before names kind.Report) (option_to_list names.report) mid now e h)

  pub in_basis : (mid : List (List ℕ)) → mid ≡ before ++ names_before names kind.Basis → FetchesPrefix mid (option_to_list names.basis) now
      → FetchesPrefix before (names_in_order names) now
  in_basis mid e h = up_to_basis (fetched_behind before (names_before names kind.Basis) (option_to_list names.basis) mid now e h)

  pub in_measures : (mid : List (List ℕ)) → mid ≡ before ++ names_before names kind.Measures → FetchesPrefix mid (option_to_list names.measures) now
      → FetchesPrefix before (names_in_order names) now
  in_measures mid e h = fetched_behind before (names_before names kind.Measures) (option_to_list names.measures) mid now e h

-- the names that were fetched up to a file
module _ (names : FileNames) (before one two : List (List ℕ)) where
  pub to_time : one ≡ before ++ names_before names kind.Time → two ≡ one ++ option_to_list names.time → two ≡ before ++ names_before names kind.Stoch
  to_time e f = names_behind before (names_before names kind.Time) (option_to_list names.time) one two e f

  pub to_stoch : one ≡ before ++ names_before names kind.Stoch → two ≡ one ++ option_to_list names.stoch → two ≡ before ++ names_before names kind.Edits
  to_stoch e f = names_behind before (names_before names kind.Stoch) (option_to_list names.stoch) one two e f

  pub to_edits : one ≡ before ++ names_before names kind.Edits → two ≡ one ++ option_to_list names.edits → two ≡ before ++ names_before names kind.Report
  to_edits e f = names_behind before (names_before names kind.Edits) (option_to_list names.edits) one two e f

  pub to_report : one ≡ before ++ names_before names kind.Report → two ≡ one ++ option_to_list names.report → two ≡ before ++ names_before names kind.Basis
  to_report e f = names_behind before (names_before names kind.Report) (option_to_list names.report) one two e f

  pub to_basis : one ≡ before ++ names_before names kind.Basis → two ≡ one ++ option_to_list names.basis → two ≡ before ++ names_before names kind.Measures
  to_basis e f = names_behind before (names_before names kind.Basis) (option_to_list names.basis) one two e f

  pub to_measures : one ≡ before ++ names_before names kind.Measures → two ≡ one ++ option_to_list names.measures → two ≡ before ++ names_in_order names
  to_measures e f = names_behind before (names_before names kind.Measures) (option_to_list names.measures) one two e f

-- a fault of a file stops the fetches at it
module _ (names : FileNames) (content : Option Files) (file : FileKind) (before mid now : List (List ℕ)) (e : mid ≡ before ++ names_before names file) where
  stops_at : (of : FileKind) (name : List ℕ) → name_of names file ≡ Some name → of ≡ file → now ≡ mid ++ name ∷ [] → StopsAt names of before now
  stops_at of name named same h =
      subst (λ (k : FileKind). StopsAt names k before now) (sym same)
      (name, named, names_behind before (names_before names file) (name ∷ []) mid now e h)

  pub stops_of : (name : List ℕ) → name_of names file ≡ Some name → (fault : Unfetched) → IsCauseOf content name file fault
      → (fault ≢ Memory → now ≡ mid ++ name ∷ []) → StopsBy names fault before now
  stops_of name named (Failed of) cause h = stops_at of name named cause (h (λ e. cc))
  stops_of name named (TooLong of) cause h = stops_at of name named cause.0 (h (λ e. cc))
  stops_of name named Memory cause h = tt

  pub stops_if : (named : Option (List ℕ)) → name_of names file ≡ named → (fault : Unfetched) → IsCauseIf content named file fault
      → (fault ≢ Memory → now ≡ mid ++ option_to_list named) → StopsBy names fault before now
  stops_if None is fault cause h = absurd cause
  stops_if (Some name) is fault cause h = stops_of name is fault cause h
