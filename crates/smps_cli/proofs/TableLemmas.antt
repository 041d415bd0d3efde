-- How `table` ends.
use Rattle.std.proofs.Common.{◌≡◌, ℕ, true, List, Result, Ok, Err, inl, inr, refl, sym, subst}
use Rattle.command_words.specs.declared.command.Sheet.{Sheet}
use Rattle.input_files.specs.Fetched.{Texts}
use Rattle.program_files.specs.Edited.{or_empty}
use Rattle.program_files.specs.declared.reading.Unread.{Unread}
use Rattle.program_files.specs.declared.reading.Unread.TheVariants as unread
use Rattle.report_sheets.specs.declared.sheet.NoSheet.{NoSheet}
use Rattle.report_sheets.specs.declared.sheet.NoSheet.TheVariants.{Missing, Unproved, Memory}
use Rattle.exit_status.specs.declared.status.Status.{Status}
use Rattle.smps_cli.specs.Ends.{AnswersUnread, RefusesUnread}
use Rattle.smps_cli.specs.Tables.{IsTable, MayBeTable, RefusesMeasures, TableComes, line_after}

module _ (sheet : Sheet) (texts : Texts) (status : Status) (output : List ℕ) where
  by_end : IsTable sheet.number texts status output → (line : ℕ) (end : Result (List ℕ) NoSheet) → TableComes line end status output → MayBeTable sheet texts status output
  by_end is line (Ok page) h = subst (λ (s : Status). MayBeTable sheet texts s output) (sym h.0) (subst (λ (s : Status). IsTable sheet.number texts s output) h.0 is)
  by_end is line (Err (Missing count)) h =
      subst (λ (s : Status). MayBeTable sheet texts s output) (sym h.0) (inr (inl (subst (λ (s : Status). IsTable sheet.number texts s output) h.0 is)))
  by_end is line (Err (Unproved check)) h =
      subst (λ (s : Status). MayBeTable sheet texts s output) (sym h.0) (subst (λ (s : Status). IsTable sheet.number texts s output) h.0 is)
  by_end is line (Err Memory) h = absurd h

  pub table_may : IsTable sheet.number texts status output → MayBeTable sheet texts status output
  table_may is = by_end is (line_after (or_empty texts.report)) is.end is.comes

  pub table_refused : (u : Unread) → RefusesUnread texts u → AnswersUnread u status output → MayBeTable sheet texts status output
  table_refused (unread.Refused file refusal known) refuses h =
      subst (λ (s : Status). MayBeTable sheet texts s output) (sym h.0) (inl (record { known = known; refused = refuses; text = h.1 }))
  table_refused unread.Memory refuses h = absurd h

  pub table_unmeasured : sheet.with_measures ≡ true → RefusesMeasures status output → MayBeTable sheet texts status output
  table_unmeasured asked h =
      subst (λ (s : Status). MayBeTable sheet texts s output) (sym h.2) (inr (inr (asked, (h.0, h.1, refl, h.3))))
