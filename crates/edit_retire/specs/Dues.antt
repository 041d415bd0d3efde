-- The sweeps that follow the touches of an edit.
use Rattle.std.specs.Prelude.{ℕ, zero, suc, Bool, false, not, ◌&&◌, ◌||◌, eqb, List, [], ◌∷◌, ◌++◌, Option, Some, None}
use Rattle.rationals.specs.Rational.{zero_ℚ}
use Rattle.rationals.specs.Choices.{pick}
use Rattle.scen_defs.specs.Program.{View}
use Rattle.edit_defs.specs.Touches.{is_rows, is_gone}
use Rattle.cut_defs.specs.declared.kinds.Bank.{Bank}
use Rattle.cut_defs.specs.declared.kinds.Bank.TheVariants.{Plain, Cone}
use Rattle.cut_defs.specs.declared.versions.Touch.{Touch}
use Rattle.cut_defs.specs.declared.versions.Shift.{Shift}
use Rattle.cut_defs.specs.declared.versions.Due.{Due}

-- the version of the rows that were touched, 0 where none were
abbrev pub rows_version : List Touch → ℕ
rows_version [] = 0
rows_version (t ∷ ts) = pick (is_rows t.part) t.version (rows_version ts)

-- whether a touch says that the node is gone
abbrev pub is_gone_in : ℕ → List Touch → Bool
is_gone_in n [] = false
is_gone_in n (t ∷ ts) = eqb t.node n && is_gone t.part || is_gone_in n ts

-- the shift for a bank's pools: where all finite ends are 0 nothing moves
abbrev pub in_bank : Bank → Shift → Shift
in_bank Plain s = s
in_bank Cone s = record s { by = zero_ℚ }

-- the shift that a touch carries: that of its node's rows and its version
abbrev pub carried : Bank → Touch → Option Shift → Option Shift
carried bank t None = None
carried bank t (Some s) = pick (is_rows t.part && (eqb t.node s.node && eqb t.version s.version)) (Some (in_bank bank s)) None

-- the pool of node n, which the root and a gone node don't have
abbrev pub due_at : List Touch → Bank → Touch → Option Shift → ℕ → List Due
due_at all bank t s n = pick (not (eqb n 0) && not (is_gone_in n all))
    (record { bank = bank; pool = n; touch = t; shift = carried bank t s } ∷ []) []

-- the pools of so many nodes from n on upwards
abbrev pub dues_up : View → List Touch → Bank → Touch → Option Shift → ℕ → ℕ → List Due
dues_up v all bank t s zero n = []
dues_up v all bank t s (suc k) n = due_at all bank t s n ++ dues_up v all bank t s k (v.parent n)

-- the pools of the touch's node and of all nodes above it
abbrev pub dues_in : View → List Touch → Bank → Touch → Option Shift → List Due
dues_in v all bank t s = dues_up v all bank t s (suc (v.stage t.node)) t.node

abbrev pub dues_from : View → List Touch → Option Shift → List Touch → List Due
dues_from v all s [] = []
dues_from v all s (t ∷ ts) = (dues_in v all Plain t s ++ dues_in v all Cone t s) ++ dues_from v all s ts

abbrev pub dues : View → List Touch → Option Shift → List Due
dues v all s = dues_from v all s all
