-- What a solve leaves of the last solves, the pools and the ends, where nothing stops the method behind it; and what the opening of a run
-- leaves.
use Rattle.std.specs.Prelude.{◌≡◌, ◌⊎◌, ℕ, zero, suc, ◌-◌, ◌^◌, min, Bool, true, false, List, length, replicate}
use Rattle.std.specs.Prelude.{Option, Some, None, Ok}
use Rattle.rationals.specs.Rational.{ℚ}
use Rattle.rationals.specs.Sparse.{Entry}
use Rattle.scen_defs.specs.Program.{Program}
use Rattle.scen_defs.specs.declared.report.Kind.{Kind}
use Rattle.scen_defs.specs.declared.report.Kind.TheVariants.{Feasible, Recession, Cost}
use Rattle.scen_tree.specs.Trees.{Tree}
use Rattle.cut_defs.specs.Stored.{Stored, source_of}
use Rattle.cut_pool.specs.declared.offer.Offer.{Offer}
use Rattle.cut_pool.specs.declared.offer.Offer.TheVariants.{Added, NotNeeded, Stale, Passed as PassedOffer}
use Rattle.cut_pool.specs.Held.{Held}
use Rattle.cut_pool.specs.Pool.{offer_of, after_offer}
use Rattle.cut_banks.specs.declared.banks.Banks.{Banks}
use Rattle.cut_banks.specs.Banks.{pools_of, with_pools}
use Rattle.cut_banks.specs.Pools.{may_take, pool_if, with_pool}
use Rattle.node_lp.specs.declared.solved.Solved.{Solved}
use Rattle.node_lp.specs.declared.solved.Solved.TheVariants as solved
use Rattle.node_data.specs.Frames.{Frame}
use Rattle.found_ends.specs.declared.last.Last.{Last}
use Rattle.found_ends.specs.declared.ends.Ends.{Ends}
use Rattle.found_ends.specs.Lasts.{with_last, kept, joined_points}
use Rattle.found_ends.specs.Costs.{joined_cost}
use Rattle.found_ends.specs.Ends.{after_root, after_policy}
use Rattle.proved_report.specs.declared.open.Open.{Open}
use Rattle.proved_report.specs.declared.open.Open.TheVariants.{Solves}
use Rattle.pass_core.specs.Counting.{first_stop}
use Rattle.pass_core.specs.Explained.{cut_given}
use Rattle.pass_core.specs.declared.state.State.{State}

-- ---- the run
-- from one state to another the kind of the run, the frame, the budget and the versions stay
pub record StaysInRun (old new : State) : Type 0 where
  pub kind : new.kind ≡ old.kind
  pub frame : new.frame ≡ old.frame
  pub budget : new.budget ≡ old.budget
  pub versions : new.versions ≡ old.versions

-- ---- the pools
-- the pool takes the cut, or needs none
abbrev pub IsTaken : Offer → Type 0
IsTaken Added = Unit {0}
IsTaken (NotNeeded value) = Unit {0}
IsTaken (Stale node part seen known) = ⊥
IsTaken (PassedOffer p) = ⊥

-- the pool of the cut's node in a run of this kind took the cut or needs none, and no other pool changed
pub record IsOffered (kind : Kind) (cut : Stored) (trial : List Entry) (old new : Banks) : Type 0 where
  pub pool : Held
  pub there : pool_if (may_take cut) (source_of cut).node (pools_of kind old) ≡ Some pool
  pub taken : IsTaken (offer_of pool cut trial)
  pub banks : new ≡ with_pools kind
      (with_pool (may_take cut) (λ p. after_offer p cut (offer_of p cut trial)) (source_of cut).node (pools_of kind old)) old

-- the cut of a node is offered, where there is one; the root has no pool
abbrev pub OffersCut : Kind → ℕ → Option Stored → List Entry → Banks → Banks → Type 0
OffersCut kind zero cut trial old new = new ≡ old
OffersCut kind (suc n) None trial old new = new ≡ old
OffersCut kind (suc n) (Some cut) trial old new = IsOffered kind cut trial old new

-- ---- the ends
-- the ends behind a point of node n with this value and cut: the root's cut is kept, and its value may be the lower end
abbrev pub ends_behind : Kind → ℕ → ℚ → Option Stored → Ends → Ends
ends_behind kind zero value None e = e
ends_behind kind zero value (Some cut) e = after_root kind e value cut
ends_behind kind (suc n) value cut e = e

-- the ends behind a node that has no point: the root's cut shows that there is none
abbrev pub ends_without : ℕ → Stored → Ends → Ends
ends_without zero cut e = record e { nowhere = Some cut }
ends_without (suc n) cut e = e

-- the points of all nodes make a policy; what it costs is known, and it may be an end
pub record TakesPolicy (p : Program) (tree : Tree) (kind : Kind) (lasts : List (Option Last)) (old new : Ends) : Type 0 where
  pub cost : ℚ
  pub costs : joined_cost p.nodes tree.chances.totals lasts ≡ Ok cost
  pub ends : new ≡ after_policy kind old (record { cost = cost; policy = joined_points lasts })

-- so they do where the run is complete; where it isn't the ends stay
abbrev pub TakesComplete : Bool → Program → Tree → Kind → List (Option Last) → Ends → Ends → Type 0
TakesComplete true p tree kind lasts old new = TakesPolicy p tree kind lasts old new
TakesComplete false p tree kind lasts old new = new ≡ old

-- ---- a solve
-- a point of node n that was solved at this trial is its last solve, its cut is offered, and the ends are those behind it, before
-- any policy
pub record TakesPoint (n : ℕ) (trial x : List Entry) (value : ℚ) (cut : Option Stored) (old new : State) : Type 0 where
  pub lasts : kept old.lasts.nodes.items n trial x ≡ Ok new.lasts.nodes.items
  pub banks : OffersCut old.kind n cut trial old.banks new.banks
  pub ends : new.ends ≡ ends_behind old.kind n value cut old.ends

-- what a point of node n leaves, with this value and cut: where the run is complete, the points of all nodes are a policy
pub record LeavesPoint (p : Program) (tree : Tree) (n : ℕ) (trial x : List Entry) (value : ℚ) (cut : Option Stored) (old new : State)
    : Type 0 where
  pub lasts : kept old.lasts.nodes.items n trial x ≡ Ok new.lasts.nodes.items
  pub banks : OffersCut old.kind n cut trial old.banks new.banks
  pub ends : TakesComplete new.table.complete p tree old.kind new.lasts.nodes.items (ends_behind old.kind n value cut old.ends) new.ends

-- what it leaves that node n has no point, as this cut shows
pub record LeavesNone (n : ℕ) (trial : List Entry) (cut : Stored) (old new : State) : Type 0 where
  pub lasts : new.lasts.nodes.items ≡ with_last old.lasts.nodes.items n None
  pub banks : OffersCut old.kind n (Some cut) trial old.banks new.banks
  pub ends : new.ends ≡ ends_without n cut old.ends

-- what a solve of node n at this trial leaves that came to this; where it came to nothing else, something stops the method
abbrev pub LeavesBy : Program → Tree → ℕ → List Entry → Solved → State → State → Type 0
LeavesBy p tree n trial (solved.Point x value cut) old new = LeavesPoint p tree n trial x value cut old new
LeavesBy p tree n trial (solved.NoPoint cut) old new = LeavesNone n trial cut old new
LeavesBy p tree n trial solved.Loose old new = ⊥
LeavesBy p tree n trial solved.PivotsEnded old new = ⊥
LeavesBy p tree n trial (solved.Passed in_cut o) old new = ⊥
LeavesBy p tree n trial solved.NotGood old new = ⊥

-- ---- what stops the method or not
-- the pools of a run of this kind behind an offer of this cut, whatever its pool answers
abbrev pub with_offered : Kind → Stored → List Entry → Banks → Banks
with_offered kind cut trial b = with_pools kind
    (with_pool (may_take cut) (λ p. after_offer p cut (offer_of p cut trial)) (source_of cut).node (pools_of kind b)) b

-- those behind the cut of node n; the root has no pool
abbrev pub offered_banks : Kind → ℕ → Option Stored → List Entry → Banks → Banks
offered_banks kind zero cut trial b = b
offered_banks kind (suc n) None trial b = b
offered_banks kind (suc n) (Some cut) trial b = with_offered kind cut trial b

-- the last solves, the pools and the ends stay, and so does the reason that lasts
pub record KeepsKnown (old new : State) : Type 0 where
  pub lasts : new.lasts.nodes.items ≡ old.lasts.nodes.items
  pub banks : new.banks ≡ old.banks
  pub ends : new.ends ≡ old.ends
  pub lasting : new.lasting ≡ old.lasting

-- nothing stops the method, or it is told as stuck by the number of solves
abbrev pub IsOpenOrStuck : State → State → Type 0
IsOpenOrStuck old new = (new.stop ≡ None) ⊎ (new.stop ≡ Some (Solves old.budget.solves))

-- what stops the method is as it was; or it is told as stuck so, where nothing stopped it
abbrev pub StopsAsStuck : State → State → Type 0
StopsAsStuck old new = (new.stop ≡ old.stop) ⊎ (new.stop ≡ first_stop old.stop (Solves old.budget.solves))

-- a reason that stops the method stays, and so does one that lasts, which is gained only where one stops the method; and where none stopped
-- it, and none lasts, nothing stops it, or it is told as stuck
pub record KeepsStops (old new : State) : Type 0 where
  pub stop : (why : Open) → old.stop ≡ Some why → new.stop ≡ Some why
  pub lasting : new.lasting ≡ None → old.lasting ≡ None
  pub gains : new.stop ≡ None → new.lasting ≡ old.lasting
  pub halts : old.stop ≡ None → new.lasting ≡ None → IsOpenOrStuck old new

-- where no reason stopped the method, and none lasts behind a point or where there is none; what came to nothing leaves all that is known
abbrev pub HaltsBy : Solved → State → State → Type 0
HaltsBy (solved.Point x value cut) old new = old.stop ≡ None → new.lasting ≡ None → IsOpenOrStuck old new
HaltsBy (solved.NoPoint cut) old new = old.stop ≡ None → new.lasting ≡ None → IsOpenOrStuck old new
HaltsBy solved.Loose old new = KeepsKnown old new
HaltsBy solved.PivotsEnded old new = KeepsKnown old new
HaltsBy (solved.Passed in_cut o) old new = KeepsKnown old new
HaltsBy solved.NotGood old new = KeepsKnown old new

-- what a solve of node n at this trial leaves that came to this, whatever stops the method behind it: the pools as they were, or with its
-- cut offered; and a reason that lasts is gained only where one stops the method
pub record LeavesAnyhow (n : ℕ) (trial : List Entry) (all : Solved) (old new : State) : Type 0 where
  pub banks : (new.banks ≡ old.banks) ⊎ (new.banks ≡ offered_banks old.kind n (cut_given all) trial old.banks)
  pub lasting : new.stop ≡ None → new.lasting ≡ old.lasting
  pub halts : HaltsBy all old new

-- ---- the opening of a run
-- the kind of the run behind a closed one
abbrev pub next_kind : Kind → Kind
next_kind Feasible = Recession
next_kind Recession = Cost
next_kind Cost = Cost

-- how many places there are for nodes: their numbers have 32 bits
abbrev pub places_in : Frame → ℕ
places_in frame = min (length frame.parents) (2 ^ 32 - 1)

-- the next run is open: no node has a last solve, of the ends all but the root's cut stay, and no reason lasts
pub record OpensRun (old new : State) : Type 0 where
  pub kind : new.kind ≡ next_kind old.kind
  pub lasts : new.lasts.nodes.items ≡ replicate (places_in new.frame) None
  pub ends : new.ends ≡ record old.ends { root = None }
  pub lasting : new.lasting ≡ None
  pub frame : new.frame ≡ old.frame
  pub budget : new.budget ≡ old.budget
  pub versions : new.versions ≡ old.versions
