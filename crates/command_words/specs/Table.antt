-- The table of commands and options.
use Rattle.std.specs.Prelude.{ℕ, List, [], ◌∷◌, Option, Some, None, codes}
use Rattle.command_words.specs.declared.command.Verb.{Verb}
use Rattle.command_words.specs.declared.command.Verb.TheVariants.{Solve, Check, Table, Show, Flat, Value, Make}
use Rattle.command_words.specs.declared.flag.Flag.{Flag}
use Rattle.command_words.specs.declared.flag.Flag.TheVariants.{Core, Time, Stoch, Edits, Report, Whole, Number, Form}
use Rattle.command_words.specs.declared.flag.Flag.TheVariants.{Solves, Pivots, Workers, Quiet}
use Rattle.command_words.specs.declared.flag.Flag.TheVariants.{Start, Stages, Branches, Size, Text, Tail, Weight, Basis, Measures}
use Rattle.command_words.specs.declared.table.TheConstants.{MOST_WORKERS}
use Rattle.command_words.specs.declared.table.ValueKind.{ValueKind}
use Rattle.command_words.specs.declared.table.ValueKind.TheVariants as kind

-- ---- options

abbrev pub all_flags : List Flag
all_flags =
    Core ∷ Time ∷ Stoch ∷ Edits ∷ Report ∷ Whole ∷ Number ∷ Form ∷ Solves ∷ Pivots ∷ Workers ∷ Quiet
    ∷ Start ∷ Stages ∷ Branches ∷ Size ∷ Text ∷ Tail ∷ Weight ∷ Basis ∷ Measures ∷ []

-- the name of an option, without its two minuses
abbrev pub flag_text : Flag → List ℕ
flag_text Core = codes "core"
flag_text Time = codes "time"
flag_text Stoch = codes "stoch"
flag_text Edits = codes "edits"
flag_text Report = codes "report"
flag_text Whole = codes "whole"
flag_text Number = codes "number"
flag_text Form = codes "form"
flag_text Solves = codes "solves"
flag_text Pivots = codes "pivots"
flag_text Workers = codes "workers"
flag_text Quiet = codes "quiet"
flag_text Start = codes "start"
flag_text Stages = codes "stages"
flag_text Branches = codes "branches"
flag_text Size = codes "size"
flag_text Text = codes "text"
flag_text Tail = codes "tail"
flag_text Weight = codes "weight"
flag_text Basis = codes "basis"
flag_text Measures = codes "value"

-- what its value is: of numbers also the range
abbrev pub value_kind : Flag → ValueKind
value_kind Core = kind.File
value_kind Time = kind.File
value_kind Stoch = kind.File
value_kind Edits = kind.File
value_kind Report = kind.File
value_kind Whole = kind.Yes
value_kind Number = kind.Number 1 10001
value_kind Form = kind.Form
value_kind Solves = kind.Number 1 1000000000
value_kind Pivots = kind.Number 1 1000000000
value_kind Workers = kind.Number 1 MOST_WORKERS
value_kind Quiet = kind.Yes
value_kind Start = kind.Number 0 65536
value_kind Stages = kind.Number 2 6
value_kind Branches = kind.Number 2 4
value_kind Size = kind.Number 1 20
value_kind Text = kind.Page
value_kind Tail = kind.Level
value_kind Weight = kind.Weight
value_kind Basis = kind.File
value_kind Measures = kind.File

-- the option without which it isn't taken
abbrev pub goes_with : Flag → Option Flag
goes_with Stoch = Some Time
goes_with Tail = Some Weight
goes_with Weight = Some Tail
goes_with flag = None

-- the options beside which it isn't taken
abbrev pub excludes : Flag → List Flag
excludes Tail = Edits ∷ []
excludes Basis = Edits ∷ Tail ∷ []
excludes flag = []

-- ---- commands

abbrev pub all_verbs : List Verb
all_verbs = Solve ∷ Check ∷ Table ∷ Show ∷ Flat ∷ Value ∷ Make ∷ []

abbrev pub verb_text : Verb → List ℕ
verb_text Solve = codes "solve"
verb_text Check = codes "check"
verb_text Table = codes "table"
verb_text Show = codes "show"
verb_text Flat = codes "flat"
verb_text Value = codes "value"
verb_text Make = codes "make"

-- the options that a command needs
abbrev pub needed_flags : Verb → List Flag
needed_flags Solve = Core ∷ []
needed_flags Check = Core ∷ Report ∷ []
needed_flags Table = Core ∷ Report ∷ []
needed_flags Show = Core ∷ []
needed_flags Flat = Core ∷ []
needed_flags Value = Core ∷ Time ∷ []
needed_flags Make = Start ∷ Stages ∷ Branches ∷ Size ∷ []

-- those that it takes beside them
abbrev pub further_flags : Verb → List Flag
further_flags Solve = Time ∷ Stoch ∷ Edits ∷ Basis ∷ Tail ∷ Weight ∷ Solves ∷ Pivots ∷ Workers ∷ Quiet ∷ []
further_flags Check = Time ∷ Stoch ∷ Edits ∷ Tail ∷ Weight ∷ []
further_flags Table = Time ∷ Stoch ∷ Edits ∷ Number ∷ Form ∷ Measures ∷ []
further_flags Show = Time ∷ Stoch ∷ Edits ∷ []
further_flags Flat = Time ∷ Stoch ∷ Edits ∷ Whole ∷ []
further_flags Value = Stoch ∷ Solves ∷ Pivots ∷ Workers ∷ Quiet ∷ []
further_flags Make = Text ∷ Quiet ∷ []
