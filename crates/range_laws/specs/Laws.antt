-- Each row of a program that is read has the width of its range.
use Rattle.std.specs.Prelude.{◌≡◌, Ok}
use Rattle.core_defs.specs.declared.program.Core.{Core}
use Rattle.time_defs.specs.Means.{Stages}
use Rattle.stoch_defs.specs.Random.{Random}
use Rattle.scen_defs.specs.Program.{Program}
use Rattle.tree_build.specs.Walks.{build_walk}
use Rattle.edit_defs.specs.Shifts.{HasWidths}
use Rattle.input_files.specs.Fetched.{Texts}
use Rattle.program_files.specs.Meant.{MeansProgram}

-- In the program that is built each row with two finite ends has the width of its range.
abbrev pub BuiltHaveWidths : Type 0
BuiltHaveWidths = (core : Core) (p : Stages) (random : Random) (program : Program) → build_walk core p random ≡ Ok program
    → HasWidths program

-- So it is in the program that the texts of three files mean.
abbrev pub MeantHaveWidths : Type 0
MeantHaveWidths = (texts : Texts) (program : Program) → MeansProgram texts program → HasWidths program
