-- Within which budget the reports of a command are found.
use Rattle.std.specs.Prelude.{◌≡◌, ◌≢◌, ◌⊎◌, ◌&&◌, ℕ, Bool, true, false, not, List}
use Rattle.command_words.specs.declared.command.Budget.{Budget}
use Rattle.exit_status.specs.declared.status.Status.{Status}
use Rattle.exit_status.specs.declared.status.Status.TheVariants.{SomeOpen}

-- the words state no number of solves, and none of pivots
abbrev pub states_none : Budget → Bool
states_none budget = not budget.solves_stated && not budget.pivots_stated

-- a budget of no solves, with which all nodes are solved together
abbrev pub without_solves : Budget → Budget
without_solves budget = record { solves = 0; solves_stated = false; pivots = budget.pivots; pivots_stated = false }

-- The budget of the words; or, where they state no number and nothing is left open, the one of no solves.
abbrev pub MayBeKept : Budget → Budget → Status → Type 0
MayBeKept budget kept status =
    (kept ≡ budget) ⊎ ((states_none budget ≡ true) × (kept ≡ without_solves budget) × (status ≢ SomeOpen))

-- A command comes to this within such a budget.
pub record ComesWithin (comes : Budget → Status → List ℕ → Type 0) (budget : Budget) (status : Status) (output : List ℕ) : Type 0 where
  pub kept : Budget
  pub may : MayBeKept budget kept status
  pub came : comes kept status output
