-- Texts mean one program at most, and what is meant isn't refused.
use Rattle.std.specs.Prelude.{◌≡◌, Option, None}
use Rattle.smps_words.specs.Line.{reading_of}
use Rattle.rationals.specs.Passes.{Operation}
use Rattle.refusals.specs.declared.cause.Cause.TheVariants.{Passes}
use Rattle.refusals.specs.declared.cause.Refusal.{Refusal}
use Rattle.core_defs.specs.Fault.{IsCoreFile}
use Rattle.core_defs.specs.declared.program.Core.{Core}
use Rattle.scen_defs.specs.Program.{Program}
use Rattle.input_files.specs.declared.kind.FileKind.{FileKind}
use Rattle.input_files.specs.declared.kind.FileKind.TheVariants as kind
use Rattle.input_files.specs.Fetched.{Texts}
use Rattle.program_files.specs.Meant.{MeansProgram}
use Rattle.program_files.specs.Refused.{RefusesProgram}
use Rattle.program_files.specs.Edited.{AreMeant, RefusesFiles}

pub record TextsMeanOneProgram : Type 0 where
  -- two programs that texts mean are the same
  pub one : (texts : Texts) (program other : Program) → MeansProgram texts program → MeansProgram texts other → program ≡ other
  -- texts that mean a program have no fault
  pub no_fault : (texts : Texts) (program : Program) → MeansProgram texts program
      → (file : FileKind) (refusal : Refusal) (known : Option Core) → RefusesProgram texts file refusal known → ⊥
  -- nor have an edit list and a report file that mean a script and reports for it
  pub none_refused : (texts : Texts) → AreMeant texts
      → (file : FileKind) (refusal : Refusal) (known : Option Core) → RefusesFiles texts file refusal known → ⊥
  -- a core file alone that is read is refused only in the core file, at line 0, for an operation that passes
  pub alone : (texts : Texts) → texts.time ≡ None → texts.stoch ≡ None → IsCoreFile (reading_of 0 texts.core).lines
      → (file : FileKind) (refusal : Refusal) (known : Option Core) → RefusesProgram texts file refusal known
      → (file ≡ kind.Core) × ((operation : Operation) × (refusal ≡ record { line = 0; cause = Passes operation }))
