-- How `solve` ends with a basis.
use Rattle.std.proofs.Common.{◌≡◌, ◌<◌, ◌≤◌, ◌-◌, ◌^◌, ℕ, List, [], ◌∷◌, length, Option, Some, None, Ok, inl, inr, refl, sym, subst, arith}
use Rattle.std.specs.Prelude.{IfSome}
use Rattle.command_words.specs.declared.command.Budget.{Budget}
use Rattle.scen_defs.specs.Program.{Program}
use Rattle.edit_script.specs.Script.{report_item, script_of}
use Rattle.input_files.specs.Fetched.{Texts, file_limit}
use Rattle.program_files.specs.Edited.{MeansScript, or_empty}
use Rattle.program_files.specs.Meant.{AreWithin}
use Rattle.program_files.specs.declared.reading.Unread.{Unread}
use Rattle.program_files.specs.declared.reading.Unread.TheVariants as unread
use Rattle.exit_status.specs.declared.status.Status.{Status}
use Rattle.exit_status.specs.declared.status.Status.TheVariants.{Done, SomeOpen, Words, Refused, TooLong, ReadFault, WriteFault, Memory}
use Rattle.basis_file.specs.declared.fault.BasisFault.{BasisFault}
use Rattle.basis_file.specs.declared.fault.BasisFault.TheVariants as fault
use Rattle.smps_cli.specs.Ends.{AnswersUnread, RefusesUnread}
use Rattle.smps_cli.specs.Solved.{MayBeSolved}
use Rattle.smps_cli.specs.Based.{MayBeBasisSolved, PrintsShown, RefusesFault}

-- a basis file isn't too long
pub basis_short : (texts : Texts) → AreWithin texts → length (or_empty texts.basis) < 2 ^ 32 - 1
basis_short texts within = go texts.basis within.basis
  where
    go : (text : Option (List ℕ)) → IfSome text (λ bytes. length bytes ≤ file_limit) → length (or_empty text) < 2 ^ 32 - 1
    go None h = omega arith
    go (Some bytes) h = omega (arith, h)

-- no edit list means one report
pub unedited_means : (texts : Texts) (p : Program) → texts.edits ≡ None → MeansScript texts p (report_item ∷ [])
unedited_means texts p none = subst (λ (edits : Option (List ℕ)). script_of (or_empty edits) p ≡ Ok (report_item ∷ [])) (sym none) refl

module _ (budget : Budget) (texts : Texts) (output : List ℕ) where
  -- what comes without a basis may come with one
  pub without_may : (status : Status) → MayBeSolved budget texts status output → MayBeBasisSolved budget texts status output
  without_may Done h = inr h
  without_may SomeOpen h = inr h
  without_may Words h = absurd h
  without_may (Refused file line cause) h = inl h
  without_may (TooLong file) h = absurd h
  without_may (ReadFault file) h = absurd h
  without_may WriteFault h = absurd h
  without_may Memory h = absurd h

  pub shown_may : (status : Status) → PrintsShown budget texts status output → MayBeBasisSolved budget texts status output
  shown_may status h =
      subst (λ (s : Status). MayBeBasisSolved budget texts s output) (sym h.ends)
      (inl (subst (λ (s : Status). PrintsShown budget texts s output) h.ends h))

  pub refused_may : (f : BasisFault) (status : Status) → RefusesFault f status output → MayBeBasisSolved budget texts status output
  refused_may (fault.Line line) status h =
      subst (λ (s : Status). MayBeBasisSolved budget texts s output) (sym h.0) (inr (record { file_is = refl; cause_is = refl; text = h.1 }))
  refused_may fault.Memory status h = absurd h

  pub unread_may : (u : Unread) → RefusesUnread texts u → (status : Status) → AnswersUnread u status output → MayBeBasisSolved budget texts status output
  unread_may (unread.Refused file refusal known) refuses status h =
      subst (λ (s : Status). MayBeBasisSolved budget texts s output) (sym h.0) (inl (record { known = known; refused = refuses; text = h.1 }))
  unread_may unread.Memory refuses status h = absurd h
