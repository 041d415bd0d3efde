-- What is known of a command that was read.
use Rattle.std.specs.Prelude.{⊤, ◌≤◌}
use Rattle.scen_defs.specs.Program.{Program}
use Rattle.edit_defs.specs.Causes.{Asks}
use Rattle.edit_script.specs.declared.command.Command.{Command}
use Rattle.edit_script.specs.declared.command.Command.TheVariants.{Change, Work, Report}

-- its edit has numbers of the program, and its count of solves is small
abbrev pub AsksOf : Program → Command → Type 0
AsksOf p (Change e) = Asks p e
AsksOf p (Work n) = n ≤ 1000000
AsksOf p Report = ⊤
