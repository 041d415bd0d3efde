use Rattle.std.proofs.Common.{◌≡◌, drop}
use Rattle.clap.specs.Words.{app_of}
use Rattle.command_words.specs.Options.{with_options}
use Rattle.command_words.proofs.reader.with_options.Given as goal

abbrev pub invariant-loop-flag : goal.invariant-loop-flag
invariant-loop-flag l = with_options l.verb (app_of l.command) (drop l.flag-index l.flags) ≡ with_options l.verb (app_of l.fn.command) l.flags
