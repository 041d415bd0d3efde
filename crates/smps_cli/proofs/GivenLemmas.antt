-- Texts that the shelf gave aren't too long.
use Rattle.std.proofs.Common.{◌≤◌, ℕ, List, length, Option, Some, None}
use Rattle.std.specs.Prelude.{IfSome}
use Rattle.smps_io.specs.Files.{Files}
use Rattle.command_words.specs.Commands.{FileNames}
use Rattle.input_files.specs.Fetched.{Texts, AreGiven, IsGivenIf, file_limit}
use Rattle.program_files.specs.Meant.{AreWithin}

within_if : (content : Option Files) (name bytes : Option (List ℕ)) → IsGivenIf content name bytes → IfSome bytes (λ text. length text ≤ file_limit)
within_if content None None h = tt
within_if content None (Some bytes) h = absurd h
within_if content (Some name) None h = tt
within_if content (Some name) (Some bytes) h = h.within

pub given_within : (content : Option Files) (names : FileNames) (texts : Texts) → AreGiven content names texts → AreWithin texts
given_within content names texts h = record {
  core = h.core.within;
  time = within_if content names.time texts.time h.time;
  stoch = within_if content names.stoch texts.stoch h.stoch;
  edits = within_if content names.edits texts.edits h.edits;
  report = within_if content names.report texts.report h.report;
  basis = within_if content names.basis texts.basis h.basis;
  measures = within_if content names.measures texts.measures h.measures;
}
