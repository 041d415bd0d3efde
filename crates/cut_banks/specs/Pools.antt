-- The pools of all nodes for one kind of runs: a list, in which the pool of a node stands at the place of its number.
use Rattle.std.specs.Prelude.{◌≡◌, ℕ, zero, suc, Bool, true, false, not, ◌&&◌, eqb, ltb, is_none, List, [], ◌∷◌, ◌++◌}
use Rattle.std.specs.Prelude.{map, length, slice_get, slice_set, Option, Some, None}
use Rattle.std.specs.Option.{option_map, option_to_list}
use Rattle.rationals.specs.Choices.{pick}
use Rattle.scen_defs.specs.Lists.{Each}
use Rattle.scen_defs.specs.Program.{Node, is_live}
use Rattle.cut_defs.specs.declared.kinds.Bank.{Bank}
use Rattle.cut_defs.specs.declared.kinds.Bank.TheVariants.{Plain, Cone}
use Rattle.cut_defs.specs.declared.versions.Touch.{Touch}
use Rattle.cut_defs.specs.declared.versions.Shift.{Shift}
use Rattle.cut_defs.specs.declared.versions.Due.{Due}
use Rattle.cut_defs.specs.Stored.{Stored, source_of}
use Rattle.cut_defs.specs.Support.{support, first_stale}
use Rattle.cut_pool.specs.Held.{Held}
use Rattle.cut_pool.specs.Pool.{fits_shift, swept}
use Rattle.cut_proof.specs.declared.child.ChildCuts.{ChildCuts}
use Rattle.pass_table.specs.declared.table.Reading.{Reading}

-- ---- the pools of nodes
-- a node's pool that has no cut and knows no touch
abbrev pub no_cuts : ℕ → Held
no_cuts node = record { node = node; known = []; cuts = []; number = 0 }

-- so many pools without cuts, of the nodes from n on
abbrev pub all_empty : ℕ → ℕ → List Held
all_empty n zero = []
all_empty n (suc count) = no_cuts n ∷ all_empty (suc n) count

-- the number of each pool
abbrev pub numbers_of : List Held → List ℕ
numbers_of pools = map (λ p. p.number) pools

-- a pool of this node: each of its cuts is about it
pub record IsOfNode (n : ℕ) (p : Held) : Type 0 where
  pub node : p.node ≡ n
  pub cuts : Each (λ c. (source_of c).node ≡ n) p.cuts

-- the pools of the nodes from n on
abbrev pub AreOfNodes : ℕ → List Held → Type 0
AreOfNodes n [] = Unit {0}
AreOfNodes n (p ∷ pools) = IsOfNode n p × AreOfNodes (suc n) pools

-- pools of the nodes from 0 on, with their numbers beside them
pub record IsBank (numbers : List ℕ) (pools : List Held) : Type 0 where
  pub numbers_are : numbers ≡ numbers_of pools
  pub of_nodes : AreOfNodes 0 pools

-- the pools of these nodes, the nodes from n on: an empty one where there was none, and where the node isn't live
abbrev pub fit_pools : ℕ → List (Option Node) → List Held → List Held
fit_pools n [] pools = pools
fit_pools n (place ∷ places) [] = no_cuts n ∷ fit_pools (suc n) places []
fit_pools n (place ∷ places) (p ∷ pools) = pick (is_live place) p (no_cuts n) ∷ fit_pools (suc n) places pools

-- the same for one node, where those before it have pools
abbrev pub fit_pool : ℕ → Bool → List Held → List Held
fit_pool n live pools =
    pick (ltb n (length pools)) (pick live pools (slice_set pools n (no_cuts n))) (pools ++ no_cuts n ∷ [])

-- ---- what a solve reads: of each child that has a pool its cuts, and its number
abbrev pub cuts_of : ChildCuts → ℕ × List Stored
cuts_of c = (c.child, c.cuts.items)

abbrev pub cuts_at : List Held → ℕ → List (ℕ × List Stored)
cuts_at pools child = option_to_list (option_map (λ p. (child, p.cuts)) (slice_get pools child))

abbrev pub cuts_read : List Held → List ℕ → List (ℕ × List Stored)
cuts_read pools [] = []
cuts_read pools (child ∷ nodes) = cuts_at pools child ++ cuts_read pools nodes

abbrev pub reading : ℕ → Held → Reading
reading child p = record { child = child; number = p.number }

abbrev pub numbers_at : List Held → ℕ → List Reading
numbers_at pools child = option_to_list (option_map (reading child) (slice_get pools child))

abbrev pub numbers_read : List Held → List ℕ → List Reading
numbers_read pools [] = []
numbers_read pools (child ∷ nodes) = numbers_at pools child ++ numbers_read pools nodes

-- ---- a cut for one pool
-- a pool may change while its number is below the greatest one of 64 bits
abbrev pub may_change : Held → Bool
may_change p = ltb p.number 18446744073709551615

-- a pool takes cuts of its node
abbrev pub may_take : Stored → Held → Bool
may_take cut p = eqb p.node (source_of cut).node && may_change p

-- and without a test only those that rest on no touch that it knows
abbrev pub may_put : Stored → Held → Bool
may_put cut p = may_take cut p && is_none (first_stale p.known (support cut))

-- the pool of node n, where there is one that passes the test
abbrev pub pool_if : (Held → Bool) → ℕ → List Held → Option Held
pool_if test n [] = None
pool_if test zero (p ∷ pools) = pick (test p) (Some p) None
pool_if test (suc n) (p ∷ pools) = pool_if test n pools

-- with that pool changed, and all others as they were
abbrev pub with_pool : (Held → Bool) → (Held → Held) → ℕ → List Held → List Held
with_pool test change n [] = []
with_pool test change zero (p ∷ pools) = pick (test p) (change p) p ∷ pools
with_pool test change (suc n) (p ∷ pools) = p ∷ with_pool test change n pools

-- ---- sweeps
-- the shift by which cuts may be repaired: its version is above 0, and the touch is of the rows of its node with that version
abbrev pub fitting : Touch → Option Shift → Option Shift
fitting t None = None
fitting t (Some s) = pick (ltb 0 s.version && fits_shift t s) (Some s) None

-- a pool swept for a due: each cut that rests on its touch is repaired or goes, all others stay
abbrev pub swept_for : Due → Held → Held
swept_for due p = pick (may_change p) (swept p due.touch (fitting due.touch due.shift)) p

abbrev pub is_plain : Bank → Bool
is_plain Plain = true
is_plain Cone = false

abbrev pub same_bank : Bank → Bank → Bool
same_bank Plain b = is_plain b
same_bank Cone b = not (is_plain b)

-- whether a due is one of the pool of node n in the bank
abbrev pub is_due : Bank → ℕ → Due → Bool
is_due bank n due = same_bank bank due.bank && eqb due.pool n

-- the pool of node n in the bank behind all dues: swept for each that is one of its own, in their order
abbrev pub pool_after : Bank → ℕ → List Due → Held → Held
pool_after bank n [] p = p
pool_after bank n (due ∷ dues) p = pool_after bank n dues (pick (is_due bank n due) (swept_for due p) p)

-- each of the pools of the nodes from n on
abbrev pub pools_after : Bank → ℕ → List Due → List Held → List Held
pools_after bank n dues [] = []
pools_after bank n dues (p ∷ pools) = pool_after bank n dues p ∷ pools_after bank (suc n) dues pools
