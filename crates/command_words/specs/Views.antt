-- What the types of commands say, by their bytes.
use Rattle.std.specs.Prelude.{ℕ, List, Option, map}
use Rattle.std.specs.Borrow.{Bor}
use Rattle.std.specs.Option.{option_map}
use Rattle.command_words.specs.declared.settings.Setting.{Setting}
use Rattle.command_words.specs.declared.command.Sources.{Sources}
use Rattle.command_words.specs.declared.command.Command.{Command}
use Rattle.command_words.specs.declared.command.Command.TheVariants as command
use Rattle.command_words.specs.Words.{Given}
use Rattle.command_words.specs.Commands.{FileNames, Asked}
use Rattle.command_words.specs.Commands.Asked.{OnFiles, MakeThis}

abbrev pub given : Setting → Given
given s = record { flag = s.flag; value = s.value.now }

abbrev pub all_given : List Setting → List Given
all_given = map given

-- a name that need not be there
abbrev pub name_given : Option (Bor (List ℕ)) → Option (List ℕ)
name_given = option_map (λ (name : Bor (List ℕ)). name.now)

abbrev pub sources_view : Sources → FileNames
sources_view s = record {
  core = s.core.now;
  time = name_given s.time;
  stoch = name_given s.stoch;
  edits = name_given s.edits;
  report = name_given s.report;
  basis = name_given s.basis;
  measures = name_given s.measures;
}

abbrev pub asked : Command → Asked
asked (command.OnFiles sources task) = OnFiles (sources_view sources) task
asked (command.Make plan) = MakeThis plan
