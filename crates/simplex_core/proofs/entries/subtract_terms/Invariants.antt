use Rattle.std.proofs.Common.{◌≡◌, length, ◌+◌, ◌-◌, ◌≤◌, drop}
use Rattle.std.specs.Vec.{vec_len, vec_capacity}
use Rattle.lp_defs.specs.Lines.{less_entries, less_right}
use Rattle.simplex_core.proofs.entries.subtract_terms.Given as goal

abbrev pub invariant-both : goal.invariant-both
invariant-both l = record { within : l.i ≤ length l.row; room : vec_len l.done + (length l.row - l.i) + (length l.pivot - l.j) ≤ vec_capacity l.done; kept : less_entries l.factor (drop l.i l.row) (drop l.j l.pivot) l.done.items ≡ less_entries l.factor l.row l.pivot l.fn.done.items }

abbrev pub decreases-both : goal.decreases-both
decreases-both l = (length l.row - l.i) + (length l.pivot - l.j)

abbrev pub invariant-right : goal.invariant-right
invariant-right l = record { room : vec_len l.done + (length l.pivot - l.j) ≤ vec_capacity l.done; kept : less_right l.factor (drop l.j l.pivot) l.done.items ≡ less_entries l.factor l.row l.pivot l.fn.done.items }

abbrev pub decreases-right : goal.decreases-right
decreases-right l = length l.pivot - l.j
