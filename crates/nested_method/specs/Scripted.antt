-- The method in a script: the history of the script's programs, for the books of which all cuts are made.
use Rattle.std.specs.Prelude.{◌≡◌, ◌⊎◌, ℕ, suc, ◌<◌, ◌^◌, length, List, drop}
use Rattle.scen_defs.specs.Lists.{Each}
use Rattle.scen_defs.specs.Program.{Program}
use Rattle.scen_defs.specs.Valid.{IsProgram}
use Rattle.scen_defs.specs.declared.report.Kind.TheVariants.{Recession, Cost}
use Rattle.cut_defs.specs.Current.{IsSoundFor}
use Rattle.edit_defs.specs.declared.edit.Edit.{Edit}
use Rattle.edit_defs.specs.After.{after_edits}
use Rattle.edit_defs.specs.Applies.{AllApply}
use Rattle.edit_defs.specs.Touches.{touches_rows, touches_costs}
use Rattle.edit_defs.specs.Data.{version, history}
use Rattle.edit_defs.specs.Shifts.{HasWidths}
use Rattle.node_data.specs.declared.versions.Version.{Version}
use Rattle.node_data.specs.Counts.{version_of}
use Rattle.pass_core.specs.declared.state.State.{State}
use Rattle.pass_core.specs.Made.{script_books, CutsAreMade}
use Rattle.nested_method.specs.declared.found.Found.{Found}
use Rattle.nested_method.specs.declared.method.Method.{Method}
use Rattle.nested_method.specs.declared.method.Method.TheVariants.{Working as AtWork, Idle}
use Rattle.nested_method.specs.Stands.{closing}

-- these edits are to come to a program: each applies to the program after those before it, 32 bits count them, and where there are any,
-- rows with two finite ends have the widths of their ranges
pub record AreToCome (p : Program) (es : List Edit) : Type 0 where
  pub program : IsProgram p
  pub apply : AllApply p es
  pub few : length es < 2 ^ 32
  pub widths : 0 < length es → HasWidths p

-- the versions of nodes are how many of the first k edits touched their parts
abbrev pub CountTouches : ℕ → Program → List Edit → List Version → Type 0
CountTouches k p es versions =
    (n : ℕ) → version_of versions n ≡ record { rows = version touches_rows k p es n; costs = version touches_costs k p es n }

-- A state of the method on program p, while the edits of `rest` are to come, is in the history of a first program with its edits, so many
-- of which came: p is the program after them, and the others are to come. The versions are those of the history, and all cuts are made for
-- its books.
pub record IsInHistory (first : Program) (edits : List Edit) (came : ℕ) (p : Program) (rest : List Edit) (s : State) : Type 0 where
  pub to_come : AreToCome first edits
  pub program : p ≡ after_edits came first edits
  pub left : rest ≡ drop came edits
  pub versions : CountTouches came first edits s.versions
  pub made : CutsAreMade (script_books first edits) s

-- so is a method at work; to one that can't go on the edits are to come
abbrev pub IsInScript : Program → List Edit → ℕ → Program → List Edit → Method → Type 0
IsInScript first edits came p rest (AtWork w) = IsInHistory first edits came p rest w.state
IsInScript first edits came p rest (Idle why own) = AreToCome p rest

-- behind one more edit, of which program q comes, the method goes on in its history, or begins a new one
abbrev pub GoesOnInScript : Program → List Edit → ℕ → Program → List Edit → Method → Type 0
GoesOnInScript first edits came q rest m = IsInScript first edits (suc came) q rest m ⊎ IsInScript q rest 0 q rest m

-- begun anew, it stays in its history, or begins a new one
abbrev pub StaysInScript : Program → List Edit → ℕ → Program → List Edit → Method → Type 0
StaysInScript first edits came p rest m = IsInScript first edits came p rest m ⊎ IsInScript p rest 0 p rest m

-- what is found is what the closing claims of a state in the history
pub record IsFoundInHistory (first : Program) (edits : List Edit) (came : ℕ) (p : Program) (rest : List Edit) (found : Found) : Type 0 where
  pub before : State
  pub history : IsInHistory first edits came p rest before
  pub claim : found.claim ≡ (closing before).claim

-- so it is of a method at work
abbrev pub FindsInScript : Program → List Edit → ℕ → Program → List Edit → Method → Found → Type 0
FindsInScript first edits came p rest (AtWork w) found = IsFoundInHistory first edits came p rest found
FindsInScript first edits came p rest (Idle why own) found = Unit {0}

-- ---- what follows
-- each cut of the pools is sound for the history of a program and its edits, in the form of its bank's runs
pub record PoolsAreSound (p : Program) (es : List Edit) (s : State) : Type 0 where
  pub plain : Each (λ pool. Each (IsSoundFor (history Cost p es)) pool.cuts) s.banks.plain
  pub cone : Each (λ pool. Each (IsSoundFor (history Recession p es)) pool.cuts) s.banks.cone

-- the pools of a state in a history are sound for it
abbrev pub HistoriesMakeSound : Type 0
HistoriesMakeSound = (first : Program) (edits : List Edit) (came : ℕ) (p : Program) (rest : List Edit) (s : State)
    → IsInHistory first edits came p rest s → PoolsAreSound first edits s
