-- Within which budget a command comes to what it answers.
use Rattle.std.proofs.Common.{◌≡◌, ◌≢◌, ℕ, List, true, inl, inr, refl}
use Rattle.command_words.specs.declared.command.Budget.{Budget}
use Rattle.exit_status.specs.declared.status.Status.{Status}
use Rattle.exit_status.specs.declared.status.Status.TheVariants.{SomeOpen}
use Rattle.smps_cli.specs.Within.{ComesWithin, states_none, without_solves}

module _ (comes : Budget → Status → List ℕ → Type 0) (budget : Budget) (status : Status) (output : List ℕ) where
  pub within_words : comes budget status output → ComesWithin comes budget status output
  within_words h = record { kept = budget; may = inl refl; came = h }

  pub within_none : states_none budget ≡ true → status ≢ SomeOpen → comes (without_solves budget) status output → ComesWithin comes budget status output
  within_none none closed h = record { kept = without_solves budget; may = inr (none, refl, closed); came = h }

-- what comes within a budget comes to more
module _ (from to : Budget → Status → List ℕ → Type 0) (budget : Budget) (status : Status) (output : List ℕ) where
  pub within_more : ((kept : Budget) → from kept status output → to kept status output) → ComesWithin from budget status output → ComesWithin to budget status output
  within_more so h = record { kept = h.kept; may = h.may; came = so h.kept h.came }
