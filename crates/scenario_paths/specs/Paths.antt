-- The values on a path, by entry, as the code has them at hand.
use Rattle.std.specs.Prelude.{◌≡◌, ℕ, Bool, true, List, All, length, Option, Some, None, nat_lt, if◌then◌else◌}
use Rattle.rationals.specs.Rational.{ℚ}
use Rattle.smps_words.specs.declared.entry.Entry.{Entry}
use Rattle.stoch_defs.specs.Random.{Sets}
use Rattle.stoch_defs.specs.Stated.{Node, value_set, path_among, paths_of}
use Rattle.scenario_paths.specs.declared.hand.Scenario.{Scenario}
use Rattle.scenario_paths.specs.declared.hand.Hand.{Hand}
use Rattle.scenario_paths.specs.declared.hands.Hands.{Hands}

abbrev pub node_stated : Scenario → Node
node_stated s = record { parent = s.parent; sets = s.sets.items }

abbrev pub set_first : Option ℚ → Option ℚ → Option ℚ
set_first (Some value) other = Some value
set_first None other = other

-- the parent, where its number is the smaller one
abbrev pub earlier : Option ℕ → ℕ → Option ℕ
earlier None number = None
earlier (Some above) number = if nat_lt above number then Some above else None

-- the path's last scenario is one of so many
abbrev pub is_among : Option ℕ → ℕ → Bool
is_among None count = true
is_among (Some number) count = nat_lt number count

-- the values are those that are set
abbrev pub SetsTheSame : Sets → Sets → Type 0
SetsTheSame values path = (entry : Entry) → value_set values entry ≡ value_set path entry

-- the values at hand are those of a path of these scenarios
pub record IsAtHand (nodes : List Node) (hand : Hand) : Type 0 where
  pub among : is_among hand.at (length nodes) ≡ true
  pub values : SetsTheSame hand.values.entries (path_among (paths_of nodes) hand.at)

-- the same of several paths
pub record AreAtHand (nodes : List Node) (hands : Hands) : Type 0 where
  pub present : IsAtHand nodes hands.present
  pub others : All (IsAtHand nodes) hands.others.items

-- what is at hand stays so, whatever the scenarios are
abbrev pub StaysAtHand : Hands → Hands → Type 0
StaysAtHand old new = (nodes : List Node) → AreAtHand nodes old → AreAtHand nodes new
