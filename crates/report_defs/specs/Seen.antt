-- A program of the code, as theorems see it.
use Rattle.scen_defs.specs.declared.program.Program.{Program}
use Rattle.scen_defs.specs.Program.{View, content, view_of}

abbrev pub seen : Program → View
seen program = view_of (content program)
