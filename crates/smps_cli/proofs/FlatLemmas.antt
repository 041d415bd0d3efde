-- How `flat` ends.
use Rattle.std.proofs.Common.{ℕ, List, Result, Ok, Err, inl, inr, sym, subst}
use Rattle.refusals.specs.declared.cause.Cause.{Cause}
use Rattle.refusals.specs.declared.cause.Cause.TheVariants.{FlatLimit, Passes}
use Rattle.command_words.specs.declared.command.Extent.{Extent}
use Rattle.input_files.specs.Fetched.{Texts}
use Rattle.edit_script.specs.Allowed.{program_after}
use Rattle.flat_write.specs.declared.fault.FlatFault.{FlatFault}
use Rattle.flat_write.specs.declared.fault.FlatFault.TheVariants.{Limit, Passed, Memory}
use Rattle.program_files.specs.declared.reading.Unread.{Unread}
use Rattle.program_files.specs.declared.reading.Unread.TheVariants as unread
use Rattle.exit_status.specs.declared.status.Status.{Status}
use Rattle.smps_cli.specs.Ends.{AnswersUnread, RefusesUnread}
use Rattle.smps_cli.specs.Flat.{FlatComes, IsFlat, MayBeFlat, RefusesCore, flat_end, limits_of}

module _ (size : Extent) (texts : Texts) (status : Status) (output : List ℕ) where
  -- the core file as a whole is refused
  by_core : IsFlat size texts status output → (cause : Cause) → RefusesCore cause status output → MayBeFlat size texts status output
  by_core is cause h =
      subst (λ (s : Status). MayBeFlat size texts s output) (sym h.0) (inr (subst (λ (s : Status). IsFlat size texts s output) h.0 is))

  by_end : IsFlat size texts status output → (end : Result (List ℕ) FlatFault) → FlatComes end status output → MayBeFlat size texts status output
  by_end is (Ok text) h = subst (λ (s : Status). MayBeFlat size texts s output) (sym h.0) (subst (λ (s : Status). IsFlat size texts s output) h.0 is)
  by_end is (Err Limit) h = by_core is FlatLimit h
  by_end is (Err (Passed p)) h = by_core is (Passes p) h
  by_end is (Err Memory) h = absurd h

  pub flat_may : IsFlat size texts status output → MayBeFlat size texts status output
  flat_may is = by_end is (flat_end (limits_of size) (program_after is.program is.items)) is.comes

  pub flat_refused : (u : Unread) → RefusesUnread texts u → AnswersUnread u status output → MayBeFlat size texts status output
  flat_refused (unread.Refused file refusal known) refuses h =
      subst (λ (s : Status). MayBeFlat size texts s output) (sym h.0) (inl (record { known = known; refused = refuses; text = h.1 }))
  flat_refused unread.Memory refuses h = absurd h
