use Rattle.std.proofs.Common.{◌≡◌, ◌-◌}
use Rattle.lp_defs.specs.Path.{path}
use Rattle.simplex_core.proofs.tableau.Tableau.follow.Given as goal

abbrev pub invariant-loop-before : goal.invariant-loop-before
invariant-loop-before l = path l.columns (l.pivots - l.before) l.before l.self ≡ path l.columns (l.pivots - l.made) l.made l.fn.self
