-- What is tested of a SET behind its scenario and its stage, and of an ADD behind its fields.
use Rattle.std.specs.Prelude.{◌≡◌, ℕ, ◌+◌, List, ◌++◌, length, Option, None, Ok}
use Rattle.rationals.specs.Rational.{ℚ}
use Rattle.smps_words.specs.declared.entry.Entry.{Entry}
use Rattle.refusals.specs.declared.cause.Cause.{Cause}
use Rattle.refusals.specs.declared.cause.Cause.TheVariants.{ScenarioLimit}
use Rattle.scen_defs.specs.Program.{Node, Scenario, Program}
use Rattle.scen_defs.specs.Valid.{IsProgram}
use Rattle.edit_defs.specs.declared.edit.Edit.{Edit}
use Rattle.edit_defs.specs.declared.edit.Edit.TheVariants.{Set}
use Rattle.edit_defs.specs.After.{after}
use Rattle.edit_defs.specs.Causes.{refused_if, adds_too_many, passing}
use Rattle.edit_defs.specs.Limits.{counts, is_above, is_above_limits, plus}
use Rattle.edit_defs.specs.Operations.{ended_by, first_passed, set_passed}
use Rattle.edit_apply.specs.Told.{add_told}

abbrev pub set_rest : Program → List ℕ → Entry → ℚ → Option Cause
set_rest p name entry v =
    refused_if (adds_too_many (after p (Set name entry v)) entry) ScenarioLimit (passing (set_passed p entry v))

-- the limits, and then the operations
abbrev pub add_rest : Program → Scenario → List (Option Node) → Option Cause
add_rest p new nodes =
    refused_if (is_above (length p.scenarios + 1) (plus (counts p.nodes) (counts nodes))) ScenarioLimit
    (passing (ended_by (add_told p new nodes)))

-- where these are passed, the program with the nodes and the scenarios that come of it is one
abbrev pub KeepsWith : Program → Scenario → List (Option Node) → Type 0
KeepsWith p new nodes = (ss : List Scenario) → add_rest p new nodes ≡ None → add_told p new nodes ≡ Ok ss
    → IsProgram (record p { nodes = p.nodes ++ nodes; scenarios = ss })

-- the tests of add_rest in the words of the program after it
abbrev pub add_left : Program → Edit → Option Cause
add_left p e = refused_if (is_above_limits (after p e)) ScenarioLimit (passing (first_passed p e))
