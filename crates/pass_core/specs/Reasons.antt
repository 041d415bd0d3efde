-- Which solve a reason that a state keeps is told of, and where the method is stuck behind a solve.
use Rattle.std.specs.Prelude.{◌≡◌, ◌⊎◌, ℕ, zero, suc, true, false, List, Option, Some, None, Result, Ok, Err}
use Rattle.rationals.specs.Rational.{ℚ, one_ℚ}
use Rattle.rationals.specs.Passes.{Operation}
use Rattle.rationals.specs.Forms.{add_scaled_walk}
use Rattle.rationals.specs.Sparse.{Entry}
use Rattle.scen_defs.specs.Program.{Program}
use Rattle.scen_defs.specs.declared.report.Kind.{Kind}
use Rattle.scen_defs.specs.declared.report.Place.{Place}
use Rattle.scen_defs.specs.declared.report.Place.TheVariants.{Solve, Cut, Cost, Ground, Dual, Check}
use Rattle.scen_tree.specs.Trees.{Tree}
use Rattle.cut_defs.specs.Stored.{Stored, source_of}
use Rattle.cut_pool.specs.declared.offer.Offer.{Offer}
use Rattle.cut_pool.specs.declared.offer.Offer.TheVariants.{Added, NotNeeded, Stale, Passed as PassedOffer}
use Rattle.cut_pool.specs.Held.{Held}
use Rattle.cut_pool.specs.Pool.{offer_of}
use Rattle.cut_banks.specs.declared.banks.Banks.{Banks}
use Rattle.cut_banks.specs.Banks.{pools_of}
use Rattle.cut_banks.specs.Pools.{may_take, pool_if}
use Rattle.node_lp.specs.declared.solved.Solved.{Solved}
use Rattle.node_lp.specs.declared.solved.Solved.TheVariants as solved
use Rattle.found_ends.specs.declared.last.Last.{Last}
use Rattle.found_ends.specs.Lasts.{kept}
use Rattle.found_ends.specs.Costs.{joined_cost}
use Rattle.proved_report.specs.declared.open.Open.{Open}
use Rattle.proved_report.specs.declared.open.Open.TheVariants as reason
use Rattle.pass_core.specs.Explained.{cut_given}
use Rattle.pass_core.specs.declared.state.State.{State}

-- a reason that a state keeps stops the method, or lasts for the present run
abbrev pub HasReason : State → Open → Type 0
HasReason s why = (s.stop ≡ Some why) ⊎ (s.lasting ≡ Some why)

-- ---- where the method is stuck behind a solve
-- the point can't be kept beside the values of the columns before it, since an operation passes
abbrev pub PassesInJoin : List Entry → List Entry → Type 0
PassesInJoin trial point = (o : Operation) × (add_scaled_walk trial one_ℚ point ≡ Err o)

-- the pool knows a later version of what the cut rests on
abbrev pub IsStale : Offer → Type 0
IsStale Added = ⊥
IsStale (NotNeeded value) = ⊥
IsStale (Stale node part seen known) = Unit {0}
IsStale (PassedOffer p) = ⊥

-- no pool may take the cut; or the one that may finds it stale
pub data IsRefused (pools : List Held) (trial : List Entry) (cut : Stored) : Type 0 where
  by_none : pool_if (may_take cut) (source_of cut).node pools ≡ None → IsRefused pools trial cut
  by_pool : (pool : Held) → pool_if (may_take cut) (source_of cut).node pools ≡ Some pool → IsStale (offer_of pool cut trial)
      → IsRefused pools trial cut

-- the cut of a node is offered and refused; the root's is offered to none
abbrev pub RefusesCut : Kind → Banks → ℕ → List Entry → Option Stored → Type 0
RefusesCut kind banks zero trial cut = ⊥
RefusesCut kind banks (suc n) trial None = ⊥
RefusesCut kind banks (suc n) trial (Some cut) = IsRefused (pools_of kind banks) trial cut

-- the method is stuck behind a solve of node n at this trial that came to this: to nothing that could be used; to a point that can't be
-- kept; or to a cut that is refused
abbrev pub IsStuck : Kind → Banks → ℕ → List Entry → Solved → Type 0
IsStuck kind banks n trial (solved.Point x value cut) = PassesInJoin trial x ⊎ RefusesCut kind banks n trial cut
IsStuck kind banks n trial (solved.NoPoint cut) = RefusesCut kind banks n trial (Some cut)
IsStuck kind banks n trial solved.Loose = Unit {0}
IsStuck kind banks n trial solved.PivotsEnded = ⊥
IsStuck kind banks n trial (solved.Passed in_cut o) = ⊥
IsStuck kind banks n trial solved.NotGood = Unit {0}

-- ---- operations that pass behind a solve
-- in the answer to the cut of the pool that may take it
pub record PassesInPool (pools : List Held) (trial : List Entry) (cut : Stored) (o : Operation) : Type 0 where
  pub pool : Held
  pub there : pool_if (may_take cut) (source_of cut).node pools ≡ Some pool
  pub passes : offer_of pool cut trial ≡ PassedOffer o

-- so where the cut of a node is offered; the root's is offered to none
abbrev pub PassesAtOffer : Kind → Banks → ℕ → List Entry → Option Stored → Operation → Type 0
PassesAtOffer kind banks zero trial cut o = ⊥
PassesAtOffer kind banks (suc n) trial None o = ⊥
PassesAtOffer kind banks (suc n) trial (Some cut) o = PassesInPool (pools_of kind banks) trial cut o

-- the last solves behind a point of node n: with it; or as they were, where it can't be kept
abbrev pub AreBehind : List (Option Last) → ℕ → List Entry → List Entry → List (Option Last) → Type 0
AreBehind lasts n trial point new = (kept lasts n trial point ≡ Ok new) ⊎ (PassesInJoin trial point × (new ≡ lasts))

-- in what the points of all nodes cost together behind it
pub record PassesInCosts (p : Program) (tree : Tree) (lasts : List (Option Last)) (n : ℕ) (trial point : List Entry) (o : Operation)
    : Type 0 where
  pub new : List (Option Last)
  pub behind : AreBehind lasts n trial point new
  pub passes : joined_cost p.nodes tree.chances.totals new ≡ Err o

-- so where the solve found a point
abbrev pub PassesAtCost : Program → Tree → List (Option Last) → ℕ → List Entry → Solved → Operation → Type 0
PassesAtCost p tree lasts n trial (solved.Point x value cut) o = PassesInCosts p tree lasts n trial x o
PassesAtCost p tree lasts n trial (solved.NoPoint cut) o = ⊥
PassesAtCost p tree lasts n trial solved.Loose o = ⊥
PassesAtCost p tree lasts n trial solved.PivotsEnded o = ⊥
PassesAtCost p tree lasts n trial (solved.Passed in_cut passed) o = ⊥
PassesAtCost p tree lasts n trial solved.NotGood o = ⊥

-- ---- what a reason is told of
-- what halts the method behind what a solve came to: it is stuck, or an operation passes in an offer or in a cost
pub record Halts : Type 1 where
  pub stuck : Type 0
  pub in_offer : Operation → Type 0
  pub in_cost : Operation → Type 0

-- behind the offer of a cut to these pools
abbrev pub pool_halts : List Held → List Entry → Stored → Halts
pool_halts pools trial cut =
    record { stuck = IsRefused pools trial cut; in_offer = PassesInPool pools trial cut; in_cost = λ (o : Operation). ⊥ }

-- where the cut of node n is offered, if it is
abbrev pub cut_halts : Kind → Banks → ℕ → List Entry → Option Stored → Halts
cut_halts kind banks n trial cut = record {
  stuck = RefusesCut kind banks n trial cut;
  in_offer = PassesAtOffer kind banks n trial cut;
  in_cost = λ (o : Operation). ⊥;
}

-- where a point is kept
abbrev pub point_halts : List Entry → List Entry → Halts
point_halts trial point =
    record { stuck = PassesInJoin trial point; in_offer = λ (o : Operation). ⊥; in_cost = λ (o : Operation). ⊥ }

-- where points cost this together
abbrev pub cost_halts : Result ℚ Operation → Halts
cost_halts cost = record { stuck = ⊥; in_offer = λ (o : Operation). ⊥; in_cost = λ (o : Operation). cost ≡ Err o }

-- behind the solve of node n, where this is what passes in a cost
abbrev pub solve_halts : Kind → Banks → ℕ → List Entry → Solved → (Operation → Type 0) → Halts
solve_halts kind banks n trial all InCost = record {
  stuck = IsStuck kind banks n trial all;
  in_offer = PassesAtOffer kind banks n trial (cut_given all);
  in_cost = InCost;
}

-- told of an operation of the solve that is counted as number k and comes to this, of its cut, or of the cost behind it
abbrev pub IsAtSolve : ℕ → Solved → Halts → Operation → Place → Type 0
IsAtSolve k all halts o (Solve j) = (j ≡ k) × (all ≡ solved.Passed false o)
IsAtSolve k all halts o (Cut j) = (j ≡ k) × ((all ≡ solved.Passed true o) ⊎ halts.in_offer o)
IsAtSolve k all halts o (Cost j) = (j ≡ k) × halts.in_cost o
IsAtSolve k all halts o Ground = ⊥
IsAtSolve k all halts o Dual = ⊥
IsAtSolve k all halts o Check = ⊥

-- told of that solve; or the method is stuck, and so many solves are told as are allowed
abbrev pub IsOfSolve : ℕ → ℕ → Solved → Halts → Open → Type 0
IsOfSolve k allowed all halts (reason.Solves n) = (n ≡ allowed) × halts.stuck
IsOfSolve k allowed all halts (reason.Pivots j) = (j ≡ k) × (all ≡ solved.PivotsEnded)
IsOfSolve k allowed all halts (reason.Passed place o) = IsAtSolve k all halts o place

-- told where a run doesn't open: of an operation that passes so; or this is where the method is stuck, and so many solves are told as are
-- allowed
abbrev pub IsOfOpening : ℕ → Type 0 → (Operation → Type 0) → Open → Type 0
IsOfOpening allowed Stuck Passes (reason.Solves n) = (n ≡ allowed) × Stuck
IsOfOpening allowed Stuck Passes (reason.Pivots j) = ⊥
IsOfOpening allowed Stuck Passes (reason.Passed place o) = (place ≡ Ground) × Passes o

-- one that lasts for a run is told of a cut or of a cost
abbrev pub IsLasting : Open → Type 0
IsLasting (reason.Solves n) = ⊥
IsLasting (reason.Pivots j) = ⊥
IsLasting (reason.Passed place o) = ((k : ℕ) × (place ≡ Cut k)) ⊎ ((k : ℕ) × (place ≡ Cost k))

-- from one state to another the counts stay, a reason is gained only where this holds of it, and one that lasts only where it is of the
-- kind that does
pub record GainsReasons (Is : Open → Type 0) (old new : State) : Type 0 where
  pub counts : new.counts ≡ old.counts
  pub stop : (why : Open) → new.stop ≡ Some why → HasReason old why ⊎ Is why
  pub lasting : (why : Open) → new.lasting ≡ Some why → (old.lasting ≡ Some why) ⊎ (Is why × IsLasting why)
