-- What a run begins with: the dual whose cuts its pools get, and the pools with these cuts.
use Rattle.std.specs.Prelude.{◌≡◌, ◌⊎◌, ℕ, zero, suc, true, false, List, [], ◌∷◌, Option, Some, None, IsSomeAnd, Ok, Err}
use Rattle.rationals.specs.Passes.{Operation}
use Rattle.scen_defs.specs.Lists.{passes_at}
use Rattle.scen_defs.specs.Values.{At}
use Rattle.scen_defs.specs.declared.report.Kind.{Kind}
use Rattle.scen_defs.specs.declared.report.Kind.TheVariants.{Feasible, Recession, Cost}
use Rattle.cut_defs.specs.Stored.{Stored, source_of}
use Rattle.cut_proof.specs.declared.fault.CutFault.{CutFault}
use Rattle.cut_proof.specs.declared.fault.CutFault.TheVariants as fault
use Rattle.cut_pool.specs.Pool.{with_cut}
use Rattle.cut_banks.specs.declared.banks.Banks.{Banks}
use Rattle.cut_banks.specs.Banks.{pools_of, with_pools}
use Rattle.cut_banks.specs.Pools.{may_put, with_pool}
use Rattle.dual_assemble.specs.Values.{assembled}

-- ---- the dual
-- the dual that the run behind a closed one of this kind begins with: behind a Recession run that of the root's cut, where it has one,
-- else the one that is 0 everywhere
abbrev pub OpeningDual : Kind → Option Stored → List At → Type 0
OpeningDual Feasible root dual = dual ≡ []
OpeningDual Recession None dual = dual ≡ []
OpeningDual Recession (Some cut) dual = assembled cut ≡ Ok dual
OpeningDual Cost root dual = dual ≡ []

-- an operation passes where that of the root's cut is assembled
abbrev pub PassesInDual : Kind → Option Stored → Operation → Type 0
PassesInDual Feasible root o = ⊥
PassesInDual Recession None o = ⊥
PassesInDual Recession (Some cut) o = assembled cut ≡ Err o
PassesInDual Cost root o = ⊥

-- where there is no dual for this fault, it is so
abbrev pub FaultsDual : Kind → Option Stored → CutFault → Type 0
FaultsDual kind root fault.NotGood = ⊥
FaultsDual kind root (fault.Passed o) = PassesInDual kind root o
FaultsDual kind root fault.Memory = Unit {0}

-- ---- the pools
-- the pools of a run of this kind with a cut in that of node n; the root has none
abbrev pub put_in_pool : Kind → ℕ → Stored → Banks → Banks
put_in_pool kind zero cut b = b
put_in_pool kind (suc n) cut b = with_pools kind (with_pool (may_put cut) (λ p. with_cut p cut) (suc n) (pools_of kind b)) b

-- that of its node, where there is a cut
abbrev pub put_cut : Kind → Option Stored → Banks → Banks
put_cut kind None b = b
put_cut kind (Some cut) b = put_in_pool kind (source_of cut).node cut b

-- the pools with all of these cuts, one after the other
abbrev pub put_cuts : Kind → List (Option Stored) → Banks → Banks
put_cuts kind [] b = b
put_cuts kind (place ∷ places) b = put_cuts kind places (put_cut kind place b)

-- the pool of node n takes the cut without a test
abbrev pub CanPutInPool : Kind → ℕ → Stored → Banks → Type 0
CanPutInPool kind zero cut b = Unit {0}
CanPutInPool kind (suc n) cut b = passes_at (may_put cut) (suc n) (pools_of kind b) ≡ true

abbrev pub CanPutCut : Kind → Option Stored → Banks → Type 0
CanPutCut kind None b = Unit {0}
CanPutCut kind (Some cut) b = CanPutInPool kind (source_of cut).node cut b

-- each of these cuts is taken so by the pools as they are then
abbrev pub CanPutCuts : Kind → List (Option Stored) → Banks → Type 0
CanPutCuts kind [] b = Unit {0}
CanPutCuts kind (place ∷ places) b = CanPutCut kind place b × CanPutCuts kind places (put_cut kind place b)

-- the cut of a node above the root can't be put into its pool
pub record IsNotPut (kind : Kind) (banks : Banks) (cut : Stored) : Type 0 where
  pub above : (source_of cut).node ≡ 0 → ⊥
  pub refused : passes_at (may_put cut) (source_of cut).node (pools_of kind banks) ≡ false

-- one of these cuts can't be put into its pool as the pools are then
abbrev pub OneIsNotPut : Kind → List (Option Stored) → Banks → Type 0
OneIsNotPut kind [] b = ⊥
OneIsNotPut kind (place ∷ places) b = IsSomeAnd place (IsNotPut kind b) ⊎ OneIsNotPut kind places (put_cut kind place b)

-- the pools took a cut, where there is one; and all of these cuts
pub record PutsCut (kind : Kind) (place : Option Stored) (old new : Banks) : Type 0 where
  pub can : CanPutCut kind place old
  pub banks : new ≡ put_cut kind place old

pub record PutsCuts (kind : Kind) (places : List (Option Stored)) (old new : Banks) : Type 0 where
  pub can : CanPutCuts kind places old
  pub banks : new ≡ put_cuts kind places old
