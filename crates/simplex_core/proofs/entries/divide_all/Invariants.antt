use Rattle.std.proofs.Common.{◌≡◌, drop, take, []}
use Rattle.rationals.specs.Sparse.{Ascending}
use Rattle.lp_defs.specs.Lines.{divided_entries}
use Rattle.simplex_core.proofs.entries.divide_all.Given as goal

abbrev pub invariant-loop-i : goal.invariant-loop-i
invariant-loop-i l = record { gives : divided_entries l.by (drop l.i l.terms) (take l.i l.terms) ≡ divided_entries l.by l.initial.terms []; rise : Ascending 0 l.terms }
