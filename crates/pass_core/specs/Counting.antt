-- How many solves there were, and the first reason why the method can't go on.
use Rattle.std.specs.Prelude.{ℕ, ◌+◌, ◌-◌, ◌^◌, min, Bool, true, false, Option, Some, None}
use Rattle.proved_report.specs.declared.open.Open.{Open}
use Rattle.proved_report.specs.declared.open.Open.TheVariants.{Solves, Passed as PassedAt}
use Rattle.scen_defs.specs.declared.report.Place.TheVariants.{Cut}
use Rattle.cut_pool.specs.declared.offer.Offer.{Offer}
use Rattle.cut_pool.specs.declared.offer.Offer.TheVariants.{Added, NotNeeded, Stale, Passed as PassedOffer}
use Rattle.pass_core.specs.declared.state.Counts.{Counts}
use Rattle.pass_core.specs.declared.state.State.{State}

abbrev pub no_commits : Counts
no_commits = record { all = 0; since_report = 0; since_item = 0 }

-- one more, up to the largest number of 64 bits
abbrev pub one_solve_more : ℕ → ℕ
one_solve_more n = min (n + 1) (2 ^ 64 - 1)

-- one more solve
abbrev pub with_commit : Counts → Counts
with_commit c = record {
  all = one_solve_more c.all;
  since_report = one_solve_more c.since_report;
  since_item = one_solve_more c.since_item;
}

-- the counts after a report
abbrev pub after_report : Counts → Counts
after_report c = record c { since_report = 0; since_item = 0 }

-- the counts after an edit
abbrev pub after_edit : Counts → Counts
after_edit c = record c { since_item = 0 }

-- the first of two reasons
abbrev pub first_stop : Option Open → Open → Option Open
first_stop None why = Some why
first_stop (Some first) why = Some first

-- the first of two reasons, either of which may be wanting
abbrev pub first_or : Option Open → Option Open → Option Open
first_or None other = other
first_or (Some first) other = Some first

-- so many solves are told where the method is stuck, which never comes
abbrev pub stopped_by : State → Open → State
stopped_by s why = record s { stop = first_stop s.stop why }

-- a reason that lasts for the present run
abbrev pub stopped_for_run : State → Open → State
stopped_for_run s why = record s { stop = first_or s.stop (first_stop s.lasting why); lasting = first_stop s.lasting why }

-- whether the pool took the cut
abbrev pub is_added : Offer → Bool
is_added Added = true
is_added (NotNeeded value) = false
is_added (Stale node part seen known) = false
is_added (PassedOffer p) = false

-- the state after a pool's answer: an operation that passes stops the run, a stale cut the method
abbrev pub after_answer : Offer → State → State
after_answer Added s = s
after_answer (NotNeeded value) s = s
after_answer (Stale node part seen known) s = stopped_by s (Solves s.budget.solves)
after_answer (PassedOffer p) s = stopped_for_run s (PassedAt (Cut s.counts.all) p)
