-- The ends of the least cost that are known, what they are after a root value and after a policy, and what they show.
use Rattle.std.specs.Prelude.{Bool, true, false, Option, Some, None}
use Rattle.std.specs.Ordering.{is_lt}
use Rattle.rationals.specs.Rational.{ℚ, zero_ℚ}
use Rattle.rationals.specs.Order.{compare, same}
use Rattle.rationals.specs.Choices.{pick}
use Rattle.scen_defs.specs.declared.report.Kind.{Kind}
use Rattle.scen_defs.specs.declared.report.Kind.TheVariants.{Feasible, Recession, Cost}
use Rattle.cut_defs.specs.Stored.{Stored}
use Rattle.found_ends.specs.declared.ends.Priced.{Priced}
use Rattle.found_ends.specs.declared.ends.Bounded.{Bounded}
use Rattle.found_ends.specs.declared.ends.Ends.{Ends}

-- nothing is known
abbrev pub no_ends : Ends
no_ends = record { upper = None; lower = None; direction = None; root = None; nowhere = None }

-- whether a is less than b
abbrev pub below : ℚ → ℚ → Bool
below a b = is_lt (compare a b)

-- whether a policy of this cost would be the upper end: it is the first, or costs less
abbrev pub wants : Option Priced → ℚ → Bool
wants None cost = true
wants (Some best) cost = below cost best.cost

-- the cheaper of the upper end and a policy, the earlier where they cost the same
abbrev pub cheaper : Option Priced → Priced → Option Priced
cheaper best found = pick (wants best found.cost) (Some found) best

-- whether a root value would be the lower end: it is the first, or greater
abbrev pub raises : Option Bounded → ℚ → Bool
raises None value = true
raises (Some best) value = below best.value value

-- the greater of the lower end and a root value, the earlier where they are equal
abbrev pub greater_end : Option Bounded → Bounded → Option Bounded
greater_end best found = pick (raises best found.value) (Some found) best

abbrev pub with_lower : Ends → Bounded → Ends
with_lower e found = record e { lower = greater_end e.lower found }

-- after a root value: the cut is the root's last one; of a Cost run the value may be the lower end
abbrev pub after_root : Kind → Ends → ℚ → Stored → Ends
after_root Feasible e value cut = record e { root = Some cut }
after_root Recession e value cut = record e { root = Some cut }
after_root Cost e value cut = record e { root = Some cut; lower = greater_end e.lower (record { value = value; cut = cut }) }

-- after the joined policy of a complete state: of a Recession run it is the direction, else it may be the upper end
abbrev pub after_policy : Kind → Ends → Priced → Ends
after_policy Feasible e found = record e { upper = cheaper e.upper found }
after_policy Recession e found = record e { direction = Some found }
after_policy Cost e found = record e { upper = cheaper e.upper found }

-- whether both ends are there and equal
abbrev pub meet : Option Bounded → Option Priced → Bool
meet None upper = false
meet (Some lower) None = false
meet (Some lower) (Some upper) = same lower.value upper.cost

-- whether the direction is there and costs less than 0
abbrev pub falls : Option Priced → Bool
falls None = false
falls (Some direction) = below direction.cost zero_ℚ
