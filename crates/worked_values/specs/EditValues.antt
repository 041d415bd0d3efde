-- Edit lists: what each command is, for the small program of the shop (scen_defs/specs/Cover.antt).
use Rattle.std.specs.Prelude.{◌≡◌, ℕ, true, pos, List, [], ◌∷◌, Option, Some, None, Result, Ok, Err, codes}
use Rattle.rationals.specs.Rational.{◌÷◌}
use Rattle.smps_words.specs.declared.entry.Entry.TheVariants.{Cost, Matrix, Rhs}
use Rattle.refusals.specs.declared.cause.Cause.{Cause}
use Rattle.refusals.specs.Cause.{number_of_cause}
use Rattle.scen_defs.specs.Cover.{cover}
use Rattle.edit_defs.specs.declared.edit.Edit.TheVariants as edit
use Rattle.edit_script.specs.Commands.{word_of, changing, command_of}
use Rattle.edit_script.specs.Script.{Stand, report_item, step, no_commands}
use Rattle.worked_values.specs.Told.{whole_ℚ}

abbrev pub cause_told : {A : Type 0} → Result A Cause → Option ℕ
cause_told (Ok _) = None
cause_told (Err cause) = Some (number_of_cause cause)

-- the number of the cause for which these fields are refused, where they are
abbrev pub refused_as : List (List ℕ) → Option ℕ
refused_as fields = cause_told (command_of cover fields)

-- what the fields of a first line leave
abbrev pub behind_first : List (List ℕ) → Result Stand Cause
behind_first fields = step (no_commands cover) fields

pub record CommandsAreAsDocumented : Type 0 where
  -- other words, and small letters
  pub other_word : word_of (codes "UNDO") ≡ None
  pub small_letters : word_of (codes "solve") ≡ None
  -- SET, scenario, column, row, value: a right-hand side, a cost, an entry of the matrix
  pub set_rhs : command_of cover (codes "SET" ∷ codes "S2" ∷ codes "RHS" ∷ codes "DEMAND" ∷ codes "10" ∷ [])
      ≡ changing (Ok (edit.Set (codes "S2") (Rhs 0) (whole_ℚ 10)))
  pub set_cost : command_of cover (codes "SET" ∷ codes "S1" ∷ codes "X" ∷ codes "COST" ∷ codes "2" ∷ [])
      ≡ changing (Ok (edit.Set (codes "S1") (Cost 0) (whole_ℚ 2)))
  pub set_entry : command_of cover (codes "SET" ∷ codes "S1" ∷ codes "Y" ∷ codes "DEMAND" ∷ codes "3" ∷ [])
      ≡ changing (Ok (edit.Set (codes "S1") (Matrix 0 1) (whole_ℚ 3)))
  -- PROB, scenario, probability
  pub prob : command_of cover (codes "PROB" ∷ codes "S1" ∷ codes "1/4" ∷ []) ≡ changing (Ok (edit.Prob (codes "S1") (pos 1 ÷ 4)))
  -- DROP, scenario
  pub drop : command_of cover (codes "DROP" ∷ codes "S1" ∷ []) ≡ changing (Ok (edit.Drop (codes "S1")))
  -- ADD, name, parent, probability, period
  pub add : command_of cover (codes "ADD" ∷ codes "S3" ∷ codes "S2" ∷ codes "1/2" ∷ codes "P2" ∷ [])
      ≡ changing (Ok (edit.Add (codes "S3") (codes "S2") (pos 1 ÷ 2) 1))
  -- WORK, so many solves; SOLVE, a report
  pub work : behind_first (codes "WORK" ∷ codes "3" ∷ []) ≡ Ok (record (no_commands cover) { commands = 1; work = 3 })
  pub solve : behind_first (codes "SOLVE" ∷ [])
      ≡ Ok (record (no_commands cover) { commands = 1; items = report_item ∷ []; reported = true })
  -- other words, and other numbers of fields
  pub unknown : refused_as (codes "UNDO" ∷ []) ≡ Some 50
  pub set_four : refused_as (codes "SET" ∷ codes "S2" ∷ codes "DEMAND" ∷ codes "10" ∷ []) ≡ Some 18
  pub prob_two : refused_as (codes "PROB" ∷ codes "S1" ∷ []) ≡ Some 18
  pub drop_one : refused_as (codes "DROP" ∷ []) ≡ Some 18
  pub add_four : refused_as (codes "ADD" ∷ codes "S3" ∷ codes "S2" ∷ codes "1/2" ∷ []) ≡ Some 18
  pub work_one : refused_as (codes "WORK" ∷ []) ≡ Some 18
  pub solve_two : refused_as (codes "SOLVE" ∷ codes "2" ∷ []) ≡ Some 18
  -- names that aren't there, or are taken
  pub scenario_unknown : refused_as (codes "DROP" ∷ codes "S3" ∷ []) ≡ Some 51
  pub parent_unknown : refused_as (codes "ADD" ∷ codes "S4" ∷ codes "S3" ∷ codes "1/2" ∷ codes "P2" ∷ []) ≡ Some 51
  pub name_taken : refused_as (codes "ADD" ∷ codes "S1" ∷ codes "S2" ∷ codes "1/2" ∷ codes "P2" ∷ []) ≡ Some 52
  pub entry_unknown : refused_as (codes "SET" ∷ codes "S1" ∷ codes "Z" ∷ codes "DEMAND" ∷ codes "1" ∷ []) ≡ Some 55
  -- a probability is above 0 and below 1, the period of ADD isn't the first, a number of solves is from 1 to 1,000,000
  pub prob_zero : refused_as (codes "PROB" ∷ codes "S1" ∷ codes "0" ∷ []) ≡ Some 53
  pub prob_certain : refused_as (codes "PROB" ∷ codes "S1" ∷ codes "1" ∷ []) ≡ Some 53
  pub first_period : refused_as (codes "ADD" ∷ codes "S3" ∷ codes "S2" ∷ codes "1/2" ∷ codes "P1" ∷ []) ≡ Some 46
  pub no_work : refused_as (codes "WORK" ∷ codes "0" ∷ []) ≡ Some 19
  pub most_work : behind_first (codes "WORK" ∷ codes "1000000" ∷ []) ≡ Ok (record (no_commands cover) { commands = 1; work = 1000000 })
  pub too_much_work : refused_as (codes "WORK" ∷ codes "1000001" ∷ []) ≡ Some 19
  pub no_number : refused_as (codes "SET" ∷ codes "S1" ∷ codes "X" ∷ codes "COST" ∷ codes "x" ∷ []) ≡ Some 19
