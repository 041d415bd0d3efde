-- What is built of a core, its periods and its cases keeps what programs keep.
use Rattle.std.specs.Prelude.{◌≡◌, ℕ, ◌<◌, false, List, map, length, get_or, Ok}
use Rattle.rationals.specs.Rational.{zero_ℚ, one_ℚ, ◌<ℚ◌}
use Rattle.rationals.specs.Sums.{sum_ℚ}
use Rattle.smps_words.specs.Line.{reading_of}
use Rattle.core_defs.specs.declared.program.Core.{Core}
use Rattle.time_defs.specs.Means.{Stages, Means, column_entries, IsReached}
use Rattle.time_defs.specs.Periods.{ArePeriods}
use Rattle.stoch_defs.specs.Entries.{is_late}
use Rattle.stoch_defs.specs.Random.{Sets, Case, Block, Branch, Random}
use Rattle.stoch_defs.specs.Random.Random.{Blocks, Branches}
use Rattle.stoch_defs.specs.File.{read_random}
use Rattle.build_defs.specs.Laws.{AreAncestral, IsCertain}
use Rattle.scen_defs.specs.Lists.{Each}
use Rattle.scen_defs.specs.Program.{Program}
use Rattle.smps_words.specs.Field.{IsField}
use Rattle.scen_defs.specs.Valid.{AreNames, IsProgram}
use Rattle.tree_build.specs.Walks.{build_over, build_walk}

-- each row and each column of the core has its stage, and in a row only columns of its own and of earlier stages have entries
pub record IsStaged (core : Core) (p : Stages) : Type 0 where
  pub rows : length p.rows ≡ length core.rows.items
  pub columns : length p.columns ≡ length core.columns.items
  pub triangle : (j : ℕ) → j < length core.columns.items → IsReached p.rows (get_or p.columns j 0) (column_entries core.columns.items j)

-- no entry that is set is of a column of a later stage than its row
abbrev pub AreTimely : Stages → Sets → Type 0
AreTimely p sets = Each (λ pair. is_late p pair.0 ≡ false) sets

-- a case has a probability above 0, and sets entries within the triangle
pub record IsCase (p : Stages) (case : Case) : Type 0 where
  pub positive : zero_ℚ <ℚ case.probability
  pub timely : AreTimely p case.sets

-- a block is of a stage behind the first, and the probabilities of its cases add up to 1
pub record IsBlock (p : Stages) (block : Block) : Type 0 where
  pub later : 0 < block.stage
  pub cases : Each (IsCase p) block.cases
  pub certain : IsCertain block

-- a scenario branches behind the first stage
pub record IsBranch (p : Stages) (branch : Branch) : Type 0 where
  pub later : 0 < branch.stage
  pub positive : zero_ℚ <ℚ branch.probability
  pub timely : AreTimely p branch.sets

-- their parents come before them, their probabilities add up to 1, and their names are fields of which no two are the same
pub record AreBranches (p : Stages) (branches : List Branch) : Type 0 where
  pub all : Each (IsBranch p) branches
  pub ancestral : AreAncestral branches
  pub certain : sum_ℚ (λ (b : Branch). b.probability) branches ≡ one_ℚ
  pub names : AreNames (map (λ (b : Branch). b.name) branches)

-- what holds of all blocks, or of all scenarios
abbrev pub AreCases : Stages → Random → Type 0
AreCases p (Blocks blocks) = Each (IsBlock p) blocks
AreCases p (Branches branches) = AreBranches p branches

-- What is read of a stoch file keeps this.
abbrev pub ReadCasesHold : Type 0
ReadCasesHold = (core : Core) (p : Stages) (text : List ℕ) (random : Random)
    → read_random core p text ≡ Ok random → AreCases p random

-- The program that is built keeps all that programs keep.
abbrev pub BuiltArePrograms : Type 0
BuiltArePrograms = (core : Core) (p : Stages) (random : Random) (program : Program) →
    IsStaged core p → ArePeriods p → Each IsField p.names → AreCases p random →
    build_over core p random ≡ false → build_walk core p random ≡ Ok program → IsProgram program

-- The names of periods that are read are fields.
abbrev pub ReadPeriodsAreNamed : Type 0
ReadPeriodsAreNamed = (core : Core) (text : List ℕ) (p : Stages) → Means core (reading_of 0 text).lines p → Each IsField p.names
