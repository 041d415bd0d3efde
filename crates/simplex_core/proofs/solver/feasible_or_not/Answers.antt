use Rattle.std.proofs.Common.{ℕ, List, ap₂, ◌∙◌}
use Rattle.lp_defs.specs.Path.{Row}
use Rattle.lp_defs.specs.Phases.{has_artificial_above}
use Rattle.simplex_core.proofs.Solves.{renamed, driving_ready, feasible_is}
use Rattle.simplex_core.proofs.solver.feasible_or_not.Goals as goal

pub drive_out-requires-clause-ready : goal.drive_out-requires-clause-ready
drive_out-requires-clause-ready c =
    driving_ready c.args.program.now c.args.tableau c.has_artificial_above.result c.requires.ready
    (c.has_artificial_above.ensures ∙ ap₂ (λ (n : ℕ) (rows : List Row). has_artificial_above n rows) c.columns-columns.ensures.same c.rows.ensures) c.if-not-has_artificial_above.true

pub returns-then-not-has_artificial_above : goal.returns-then-not-has_artificial_above
returns-then-not-has_artificial_above c =
    renamed _ _ c.drive_out.result
    (feasible_is c.args.program.now c.args.pivots c.args.made c.args.tableau c.has_artificial_above.result
    (c.has_artificial_above.ensures ∙ ap₂ (λ (n : ℕ) (rows : List Row). has_artificial_above n rows) c.columns-columns.ensures.same c.rows.ensures) c.if-not-has_artificial_above.true)
    c.drive_out.ensures
