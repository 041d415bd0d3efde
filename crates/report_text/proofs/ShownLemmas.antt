-- Programs by their lists.
use Rattle.std.proofs.Common.{◌≡◌, ℕ, suc, List, [], ◌∷◌, length, refl, ap}
use Rattle.scen_defs.specs.Program.{scenarios_content}
use Rattle.scen_defs.specs.declared.program.Scenario.{Scenario}

pub scenario_count : (scenarios : List Scenario) → length (scenarios_content scenarios) ≡ length scenarios
scenario_count [] = refl
scenario_count (s ∷ scenarios) = ap suc (scenario_count scenarios)
