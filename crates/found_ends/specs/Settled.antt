-- Whether nothing is left to find in a run, and why.
use Rattle.std.specs.Prelude.{ℕ, leb, Bool, ◌&&◌, is_some, Option, Some, None}
use Rattle.rationals.specs.Choices.{pick}
use Rattle.scen_defs.specs.declared.report.Kind.{Kind}
use Rattle.scen_defs.specs.declared.report.Kind.TheVariants.{Feasible, Recession, Cost}
use Rattle.proved_report.specs.declared.open.Open.{Open}
use Rattle.proved_report.specs.declared.open.Open.TheVariants.{Solves}
use Rattle.found_ends.specs.declared.ends.Ends.{Ends}
use Rattle.found_ends.specs.declared.settled.Settled.{Settled}
use Rattle.found_ends.specs.declared.settled.Settled.TheVariants.{Infeasible, Unbounded, Optimal, Stopped, Spent}
use Rattle.found_ends.specs.Ends.{meet, falls}

-- the case, where it holds
abbrev pub where_so : Bool → Settled → Option Settled
where_so holds case = pick holds (Some case) None

-- what a run shows: a Feasible run that there is no point, a Recession run that is closed that the cost falls for ever, a Cost run
-- that both ends are equal
abbrev pub shown : Kind → Bool → Ends → Option Settled
shown Feasible is_closed e = where_so (is_some e.nowhere) Infeasible
shown Recession is_closed e = where_so (is_closed && falls e.direction) Unbounded
shown Cost is_closed e = where_so (meet e.lower e.upper) Optimal

-- the method can't go on, or as many solves were counted as are allowed
abbrev pub ended : Option Open → ℕ → ℕ → Option Settled
ended (Some why) counted allowed = Some Stopped
ended None counted allowed = where_so (leb allowed counted) Spent

abbrev pub or_case : Option Settled → Option Settled → Option Settled
or_case (Some case) other = Some case
or_case None other = other

-- the first case that holds: what the run shows, then what ends it
abbrev pub settled : Kind → Bool → Ends → Option Open → ℕ → ℕ → Option Settled
settled kind is_closed e stop counted allowed = or_case (shown kind is_closed e) (ended stop counted allowed)

-- why a report is open, if it is: the method's stop, or that so many solves were allowed
abbrev pub why_open : Option Open → ℕ → Open
why_open (Some why) allowed = why
why_open None allowed = Solves allowed
