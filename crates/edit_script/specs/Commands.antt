-- What a command of an edit list means for a program, and why it is refused.
use Rattle.std.specs.Prelude.{⊤, ℕ, Bool, ◌||◌, List, [], ◌∷◌, codes, Option, Some, None, Result, Ok, Err}
use Rattle.std.specs.Prelude.{if◌then◌else◌}
use Rattle.smps_words.specs.Names.{same_name, place_of, if_later}
use Rattle.smps_words.specs.Entries.{matrix_at, rhs_at}
use Rattle.smps_words.specs.declared.entry.Entry.{Entry}
use Rattle.smps_words.specs.declared.entry.Entry.TheVariants.{Cost}
use Rattle.refusals.specs.declared.cause.Cause.{Cause}
use Rattle.refusals.specs.declared.cause.Cause.TheVariants as cause
use Rattle.refusals.specs.Results.{◌>>=◌, needs}
use Rattle.core_defs.specs.Number.{number_of}
use Rattle.scen_defs.specs.Names.{column_names, row_names}
use Rattle.scen_defs.specs.Program.{Program}
use Rattle.smps_words.specs.Field.{IsField}
use Rattle.edit_defs.specs.declared.edit.Edit.{Edit}
use Rattle.edit_defs.specs.declared.edit.Edit.TheVariants as edit
use Rattle.edit_defs.specs.After.{is_known}
use Rattle.edit_defs.specs.Causes.{is_late}
use Rattle.edit_script.specs.declared.command.Word.{Word}
use Rattle.edit_script.specs.declared.command.Word.TheVariants as word
use Rattle.edit_script.specs.declared.command.Command.{Command}
use Rattle.edit_script.specs.declared.command.Command.TheVariants.{Change, Work, Report}
use Rattle.edit_script.specs.Numbers.{count_of, inner_number}

-- ---- entries: a column and the objective, a column and a row, or the set of right-hand sides and a row
abbrev pub is_rhs_name : Program → List ℕ → Bool
is_rhs_name p name = same_name name p.rhs || same_name name (codes "RHS")

abbrev pub entry_by : Program → List ℕ → List ℕ → Option ℕ → Option Entry
entry_by p column row (Some j) = if same_name row p.objective then Some (Cost j) else matrix_at j (place_of (row_names p.rows) row)
entry_by p column row None = if is_rhs_name p column then rhs_at (place_of (row_names p.rows) row) else None

abbrev pub entry_of : Program → List ℕ → List ℕ → Option Entry
entry_of p column row = entry_by p column row (place_of (column_names p.columns) column)

-- the entry that two fields name, whose column isn't of a later period than its row
unfoldable pub known_entry : Program → List ℕ → List ℕ → Result Entry Cause
known_entry p column row = do
  entry ← needs cause.EditEntryUnknown (entry_of p column row)
  if is_late p entry then Err cause.EntryStage else Ok entry

-- ---- the fields of the commands, from the left
unfoldable pub set_edit : Program → List ℕ → List ℕ → List ℕ → List ℕ → Result Edit Cause
set_edit p name column row word =
    if is_known name p.scenarios
    then (known_entry p column row >>= λ entry. number_of word >>= λ value. Ok (edit.Set name entry value))
    else Err cause.ScenarioUnknown

unfoldable pub prob_edit : Program → List ℕ → List ℕ → Result Edit Cause
prob_edit p name word =
    if is_known name p.scenarios then (inner_number word >>= λ q. Ok (edit.Prob name q)) else Err cause.ScenarioUnknown

unfoldable pub drop_edit : Program → List ℕ → Result Edit Cause
drop_edit p name = if is_known name p.scenarios then Ok (edit.Drop name) else Err cause.ScenarioUnknown

unfoldable pub add_edit : Program → List ℕ → List ℕ → List ℕ → List ℕ → Result Edit Cause
add_edit p name parent word period =
    if is_known name p.scenarios then Err cause.NameTaken
    else (if is_known parent p.scenarios
    then (inner_number word >>= λ q. needs cause.BranchPeriod (if_later (place_of p.periods period))
    >>= λ t. Ok (edit.Add name parent q t))
    else Err cause.ScenarioUnknown)

-- ---- the lines of the commands: a word and its fields
-- SET, scenario, column, row, value
unfoldable pub set_line : Program → List (List ℕ) → Result Edit Cause
set_line p (_ ∷ name ∷ column ∷ row ∷ word ∷ []) = set_edit p name column row word
set_line p [] = Err cause.FieldCount
set_line p (_ ∷ []) = Err cause.FieldCount
set_line p (_ ∷ _ ∷ []) = Err cause.FieldCount
set_line p (_ ∷ _ ∷ _ ∷ []) = Err cause.FieldCount
set_line p (_ ∷ _ ∷ _ ∷ _ ∷ []) = Err cause.FieldCount
set_line p (_ ∷ _ ∷ _ ∷ _ ∷ _ ∷ _ ∷ _) = Err cause.FieldCount

-- PROB, scenario, probability
unfoldable pub prob_line : Program → List (List ℕ) → Result Edit Cause
prob_line p (_ ∷ name ∷ word ∷ []) = prob_edit p name word
prob_line p [] = Err cause.FieldCount
prob_line p (_ ∷ []) = Err cause.FieldCount
prob_line p (_ ∷ _ ∷ []) = Err cause.FieldCount
prob_line p (_ ∷ _ ∷ _ ∷ _ ∷ _) = Err cause.FieldCount

-- DROP, scenario
unfoldable pub drop_line : Program → List (List ℕ) → Result Edit Cause
drop_line p (_ ∷ name ∷ []) = drop_edit p name
drop_line p [] = Err cause.FieldCount
drop_line p (_ ∷ []) = Err cause.FieldCount
drop_line p (_ ∷ _ ∷ _ ∷ _) = Err cause.FieldCount

-- ADD, new scenario, parent, probability, period
unfoldable pub add_line : Program → List (List ℕ) → Result Edit Cause
add_line p (_ ∷ name ∷ parent ∷ word ∷ period ∷ []) = add_edit p name parent word period
add_line p [] = Err cause.FieldCount
add_line p (_ ∷ []) = Err cause.FieldCount
add_line p (_ ∷ _ ∷ []) = Err cause.FieldCount
add_line p (_ ∷ _ ∷ _ ∷ []) = Err cause.FieldCount
add_line p (_ ∷ _ ∷ _ ∷ _ ∷ []) = Err cause.FieldCount
add_line p (_ ∷ _ ∷ _ ∷ _ ∷ _ ∷ _ ∷ _) = Err cause.FieldCount

-- WORK, so many solves
unfoldable pub work_line : List (List ℕ) → Result ℕ Cause
work_line (_ ∷ word ∷ []) = count_of word
work_line [] = Err cause.FieldCount
work_line (_ ∷ []) = Err cause.FieldCount
work_line (_ ∷ _ ∷ _ ∷ _) = Err cause.FieldCount

-- SOLVE alone
unfoldable pub solve_line : List (List ℕ) → Result Command Cause
solve_line (_ ∷ []) = Ok Report
solve_line [] = Err cause.FieldCount
solve_line (_ ∷ _ ∷ _) = Err cause.FieldCount

-- ---- commands
abbrev pub word_of : List ℕ → Option Word
word_of first =
    if same_name first (codes "SET") then Some word.Set
    else (if same_name first (codes "PROB") then Some word.Prob
    else (if same_name first (codes "DROP") then Some word.Drop
    else (if same_name first (codes "ADD") then Some word.Add
    else (if same_name first (codes "WORK") then Some word.Work
    else (if same_name first (codes "SOLVE") then Some word.Solve else None)))))

abbrev pub first_word : List (List ℕ) → Option Word
first_word [] = None
first_word (first ∷ _) = word_of first

abbrev pub changing : Result Edit Cause → Result Command Cause
changing edit = edit >>= λ e. Ok (Change e)

abbrev pub worded : Program → List (List ℕ) → Word → Result Command Cause
worded p fields word.Set = changing (set_line p fields)
worded p fields word.Prob = changing (prob_line p fields)
worded p fields word.Drop = changing (drop_line p fields)
worded p fields word.Add = changing (add_line p fields)
worded p fields word.Work = work_line fields >>= λ n. Ok (Work n)
worded p fields word.Solve = solve_line fields

-- the command that the fields of a line are
unfoldable pub command_of : Program → List (List ℕ) → Result Command Cause
command_of p fields = needs cause.CommandUnknown (first_word fields) >>= worded p fields

-- the second field is one, where it is there
abbrev pub HasName : List (List ℕ) → Type 0
HasName [] = ⊤
HasName (_ ∷ []) = ⊤
HasName (_ ∷ name ∷ _) = IsField name
