-- What the claims of a report come to, in their order.
use Rattle.std.specs.Prelude.{Bool, true, false, not, ◌&&◌, eqb, is_some, length, List, Option, Some, None, Result, Ok, Err}
use Rattle.rationals.specs.Rational.{ℚ, zero_ℚ, at_most}
use Rattle.rationals.specs.Order.{same}
use Rattle.rationals.specs.Passes.{Operation}
use Rattle.rationals.specs.Choices.{pick}
use Rattle.scen_defs.specs.Values.{At, at}
use Rattle.scen_defs.specs.Program.{content}
use Rattle.scen_defs.specs.Flat.{without_costs}
use Rattle.scen_defs.specs.declared.program.Program.{Program}
use Rattle.scen_defs.specs.declared.report.Finding.{Finding}
use Rattle.scen_defs.specs.declared.report.Finding.TheVariants.{Optimal, Infeasible, Unbounded, OpenSolves, OpenPivots, OpenPassed}
use Rattle.scen_defs.specs.declared.report.Report.{Report}
use Rattle.scen_model.specs.declared.stop.Stop.{Stop}
use Rattle.scen_model.specs.declared.stop.Stop.TheVariants.{Decided, Passed as PassedStop}
use Rattle.scen_model.specs.Derived.{all_fit}
use Rattle.scen_model.specs.Walks.{cost_walk, dual_walk, feasible_walk, direction_walk}
use Rattle.report_defs.specs.Seen.{seen}
use Rattle.report_defs.specs.Findings.{has_direction, has_ray, has_extra}
use Rattle.certificate_check.specs.declared.verdict.Claim.{Claim}
use Rattle.certificate_check.specs.declared.verdict.Claim.TheVariants as claim
use Rattle.certificate_check.specs.declared.verdict.Verdict.{Verdict}
use Rattle.certificate_check.specs.declared.verdict.Verdict.TheVariants.{Holds, Fails}

-- ---- verdicts

-- a claim that holds or fails
abbrev pub decided : Claim → Bool → Result Verdict Operation
decided c true = Ok Holds
decided c false = Ok (Fails c)

-- the claims behind others: the first verdict that isn't Holds, or operation that passes
abbrev pub and_then : Result Verdict Operation → Result Verdict Operation → Result Verdict Operation
and_then (Ok Holds) rest = rest
and_then (Ok (Fails c)) rest = Ok (Fails c)
and_then (Err p) rest = Err p

-- a claim that a walk tests
abbrev pub tested : Claim → Result (Unit {0}) Stop → Result Verdict Operation
tested c (Ok done) = Ok Holds
tested c (Err Decided) = Ok (Fails c)
tested c (Err (PassedStop p)) = Err p

-- a claim that a sum is this number
abbrev pub summed : Claim → ℚ → Result ℚ Operation → Result Verdict Operation
summed c number (Ok sum) = decided c (same sum number)
summed c number (Err p) = Err p

-- a claim that a sum is at most this number
abbrev pub at_most_summed : Claim → ℚ → Result ℚ Operation → Result Verdict Operation
at_most_summed c number (Ok sum) = decided c (at_most sum number)
at_most_summed c number (Err p) = Err p

-- ---- SHAPE

-- both hold, or neither
abbrev pub agree : Bool → Bool → Bool
agree a b = pick a b (not b)

abbrev pub has_counts : Program → Report → Bool
has_counts program report = eqb report.nodes (length (seen program).live) && eqb report.scenarios (length (seen program).scenarios)

-- each part stands there exactly where it is asked for
abbrev pub has_parts : Report → Bool
has_parts report = agree (is_some report.policy) (is_some report.upper) && agree (is_some report.dual) (is_some report.lower)
    && agree (is_some report.direction) (has_direction report.finding) && agree (is_some report.ray) (has_ray report.finding)
    && agree (is_some report.extra) (has_extra report.finding)

-- a list that is there fits
abbrev pub list_fits : Program → Bool → Option (List At) → Bool
list_fits program of_rows None = true
list_fits program of_rows (Some values) = all_fit (content program) of_rows values

abbrev pub lists_fit : Program → Report → Bool
lists_fit program report = list_fits program false report.policy && list_fits program false report.direction
    && list_fits program true report.dual && list_fits program true report.ray

abbrev pub has_shape : Program → Report → Bool
has_shape program report = has_counts program report && has_parts report && lists_fit program report

-- ---- the claims of lists; of a list that isn't there they hold

-- POLICY: it is feasible; COST: it costs at most the upper end
abbrev pub policy_verdict : Program → Option (List At) → Option ℚ → Result Verdict Operation
policy_verdict program None upper = Ok Holds
policy_verdict program (Some policy) None = Ok Holds
policy_verdict program (Some policy) (Some upper) =
    and_then (tested claim.Policy (feasible_walk (seen program) (at policy))) (at_most_summed claim.Cost upper (cost_walk
    (seen program) (at policy)))

-- DUAL: the ends that are used are finite; LOWER: it is worth at least the lower end
abbrev pub worth_verdict : ℚ → Result ℚ Stop → Result Verdict Operation
worth_verdict lower (Ok worth) = decided claim.Lower (at_most lower worth)
worth_verdict lower (Err Decided) = Ok (Fails claim.Dual)
worth_verdict lower (Err (PassedStop p)) = Err p

abbrev pub dual_verdict : Program → Option (List At) → Option ℚ → Result Verdict Operation
dual_verdict program None lower = Ok Holds
dual_verdict program (Some dual) None = Ok Holds
dual_verdict program (Some dual) (Some lower) = worth_verdict lower (dual_walk (seen program) (at dual))

-- RAY: the ends that are used are finite; VALUE: with all costs 0 it is worth its value, and that is above 0
abbrev pub above_verdict : ℚ → Result ℚ Stop → Result Verdict Operation
above_verdict number (Ok worth) = decided claim.Value (same worth number && not (at_most number zero_ℚ))
above_verdict number (Err Decided) = Ok (Fails claim.Ray)
above_verdict number (Err (PassedStop p)) = Err p

abbrev pub ray_verdict : Program → Option (List At) → Option ℚ → Result Verdict Operation
ray_verdict program None number = Ok Holds
ray_verdict program (Some ray) None = Ok Holds
ray_verdict program (Some ray) (Some number) = above_verdict number (dual_walk (without_costs (seen program)) (at ray))

-- DIRECTION: it is one; SLOPE: it costs its slope
abbrev pub direction_verdict : Program → Option (List At) → Option ℚ → Result Verdict Operation
direction_verdict program None slope = Ok Holds
direction_verdict program (Some direction) None = Ok Holds
direction_verdict program (Some direction) (Some slope) =
    and_then (tested claim.Direction (direction_walk (seen program) (at direction))) (summed claim.Slope slope
    (cost_walk (seen program) (at direction)))

-- ---- ENDS

-- both are there, and equal
abbrev pub ends_meet : Option ℚ → Option ℚ → Bool
ends_meet None upper = false
ends_meet (Some lower) None = false
ends_meet (Some lower) (Some upper) = same lower upper

-- OPTIMAL has equal ends, UNBOUNDED an upper one
abbrev pub has_ends : Finding → Option ℚ → Option ℚ → Bool
has_ends Optimal lower upper = ends_meet lower upper
has_ends Unbounded lower upper = is_some upper
has_ends Infeasible lower upper = true
has_ends (OpenSolves n) lower upper = true
has_ends (OpenPivots k) lower upper = true
has_ends (OpenPassed place p) lower upper = true

-- ---- the report

-- the claims of the ray and of the direction
abbrev pub late_verdict : Program → Report → Result Verdict Operation
late_verdict program report =
    and_then (ray_verdict program report.ray report.extra) (direction_verdict program report.direction report.extra)

-- ENDS, and the claims behind it
abbrev pub end_verdict : Program → Report → Result Verdict Operation
end_verdict program report = and_then (decided claim.Ends (has_ends report.finding report.lower report.upper)) (late_verdict program report)

-- the claims behind those of the policy, and those behind SHAPE
abbrev pub bound_verdict : Program → Report → Result Verdict Operation
bound_verdict program report = and_then (dual_verdict program report.dual report.lower) (end_verdict program report)

abbrev pub list_verdict : Program → Report → Result Verdict Operation
list_verdict program report = and_then (policy_verdict program report.policy report.upper) (bound_verdict program report)

-- The first claim that fails, or the operation that passes before it.
abbrev pub verdict_of : Program → Report → Result Verdict Operation
verdict_of program report = and_then (decided claim.Shape (has_shape program report)) (list_verdict program report)
