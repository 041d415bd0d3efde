-- The tests of lists, operation by operation.
use Rattle.std.specs.Prelude.{Bool, true, false, List, Option, Some, None, Result, Ok, Err}
use Rattle.rationals.specs.Rational.{ℚ, zero_ℚ, at_most}
use Rattle.rationals.specs.Passes.{Operation}
use Rattle.rationals.specs.Replies.{Reply, IsReply}
use Rattle.rationals.specs.Replies.Reply.{Says, Silent}
use Rattle.rationals.specs.Choices.{pick}
use Rattle.scen_defs.specs.Values.{At, at}
use Rattle.scen_defs.specs.Program.{content}
use Rattle.scen_defs.specs.Flat.{without_costs}
use Rattle.scen_defs.specs.declared.program.Program.{Program}
use Rattle.scen_defs.specs.declared.report.Halt.{Halt}
use Rattle.scen_defs.specs.declared.report.Halt.TheVariants as halt
use Rattle.scen_defs.specs.declared.report.Place.{Place}
use Rattle.scen_model.specs.declared.stop.Stop.{Stop}
use Rattle.scen_model.specs.declared.stop.Stop.TheVariants.{Decided, Passed as PassedStop}
use Rattle.scen_model.specs.Derived.{all_fit}
use Rattle.scen_model.specs.Walks.{cost_walk, dual_walk, feasible_walk, direction_walk}
use Rattle.report_defs.specs.Seen.{seen}
use Rattle.proved_report.specs.declared.open.Open.{Open}
use Rattle.proved_report.specs.declared.open.Open.TheVariants.{Passed as PassedAt}
use Rattle.proved_report.specs.declared.tested.Tested.{Tested}
use Rattle.proved_report.specs.declared.tested.Tested.TheVariants.{Shows, Fails, Passes}

-- a list that doesn't fit shows nothing
abbrev pub where_fits : Bool → Tested → Tested
where_fits true tested = tested
where_fits false tested = Fails

-- the same behind a test that comes first
abbrev pub where_meets : Result (Unit {0}) Stop → Tested → Tested
where_meets (Ok done) tested = tested
where_meets (Err Decided) tested = Fails
where_meets (Err (PassedStop p)) tested = Passes p

-- a number at most 0 shows nothing
abbrev pub where_above : Tested → Tested
where_above (Shows number values) = pick (at_most number zero_ℚ) Fails (Shows number values)
where_above Fails = Fails
where_above (Passes p) = Passes p

-- the list with its cost, or the operation in which that ends
abbrev pub by_cost : List At → Result ℚ Operation → Tested
by_cost values (Ok cost) = Shows cost values
by_cost values (Err p) = Passes p

-- the list with its value
abbrev pub by_value : List At → Result ℚ Stop → Tested
by_value values (Ok value) = Shows value values
by_value values (Err Decided) = Fails
by_value values (Err (PassedStop p)) = Passes p

-- a policy that fits and is feasible shows its cost
abbrev pub policy_test : Program → List At → Tested
policy_test program policy = where_fits (all_fit (content program) false policy)
    (where_meets (feasible_walk (seen program) (at policy)) (by_cost policy (cost_walk (seen program) (at policy))))

-- a dual that fits and is good shows its value
abbrev pub dual_test : Program → List At → Tested
dual_test program dual = where_fits (all_fit (content program) true dual) (by_value dual (dual_walk (seen program) (at dual)))

-- a direction that fits and is one shows its cost
abbrev pub direction_test : Program → List At → Tested
direction_test program direction = where_fits (all_fit (content program) false direction)
    (where_meets (direction_walk (seen program) (at direction)) (by_cost direction (cost_walk (seen program) (at direction))))

-- a ray that fits, is good with all costs 0 and worth more than 0 shows its value
abbrev pub ray_test : Program → List At → Tested
ray_test program ray = where_fits (all_fit (content program) true ray)
    (where_above (by_value ray (dual_walk (without_costs (seen program)) (at ray))))

-- a list that is wanting shows nothing
abbrev pub some_policy_test : Program → Option (List At) → Tested
some_policy_test program None = Fails
some_policy_test program (Some policy) = policy_test program policy

abbrev pub some_dual_test : Program → Option (List At) → Tested
some_dual_test program None = Fails
some_dual_test program (Some dual) = dual_test program dual

-- what is computed for a list: its number, or none, or the operation that passes
abbrev pub number_says : List At → Result (Option ℚ) Halt → Reply Tested
number_says values (Ok (Some number)) = Says (Shows number values)
number_says values (Ok None) = Says Fails
number_says values (Err (halt.Passed place p)) = Says (Passes p)
number_says values (Err halt.Memory) = Silent

-- the test comes to what is said so, or memory was wanting
abbrev pub Gives : List At → Tested → Result (Option ℚ) Halt → Type 0
Gives values tested result = IsReply tested (number_says values result)

-- the number that is shown
abbrev pub shown_number : Tested → Option ℚ
shown_number (Shows number values) = Some number
shown_number Fails = None
shown_number (Passes p) = None

-- why a report is left open where this test comes first
abbrev pub or_before : Tested → Place → Open → Open
or_before (Passes p) place why = PassedAt place p
or_before (Shows number values) place why = why
or_before Fails place why = why
