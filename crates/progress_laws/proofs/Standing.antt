-- What a run that nothing stops keeps of the last solves of its nodes, of its pools and of its ends.
use Rattle.std.specs.Prelude.{◌≡◌, ℕ, ◌<◌, false, List, map, slice_index_or, Option, Some, None, Ok, IfSome, slice_get}
use Rattle.std.specs.List.{Contains}
use Rattle.rationals.specs.Rational.{ℚ, zero_ℚ, one_ℚ, ◌≤ℚ◌, ◌<ℚ◌}
use Rattle.rationals.specs.Forms.{add_scaled_walk}
use Rattle.rationals.specs.Sparse.{Entry}
use Rattle.scen_defs.specs.Program.{Program, view_of}
use Rattle.scen_defs.specs.Flat.{Feasible, cost}
use Rattle.scen_defs.specs.Values.{At, at}
use Rattle.scen_defs.specs.declared.report.Kind.{Kind}
use Rattle.scen_defs.specs.declared.report.Kind.TheVariants.{Feasible as FeasibleRun, Recession, Cost}
use Rattle.scen_tree.specs.Trees.{Tree}
use Rattle.cut_defs.specs.Stored.{Stored, source_of, constant_of}
use Rattle.cut_defs.specs.declared.kinds.CutKind.TheVariants.{Bound, Ray}
use Rattle.cut_pool.specs.Held.{Held}
use Rattle.cut_banks.specs.declared.banks.Banks.{Banks}
use Rattle.cut_banks.specs.Banks.{pools_of}
use Rattle.cut_banks.specs.Pools.{cuts_of, cuts_read}
use Rattle.node_lp.specs.declared.task.Task.{Task}
use Rattle.node_lp.specs.Answers.{value_at_trial, PointAnswer}
use Rattle.node_lp.specs.Problem.{IsProblem, problem_of}
use Rattle.pass_table.specs.Machine.{Machine, IsLive, IsMade, HasPoint, IsComplete}
use Rattle.pass_table.specs.Fits.{AreRead}
use Rattle.node_data.specs.declared.versions.Version.{Version}
use Rattle.node_data.specs.Counts.{version_of}
use Rattle.node_data.specs.Frames.{Frame, parent_in, children_in}
use Rattle.found_ends.specs.declared.last.Last.{Last}
use Rattle.found_ends.specs.declared.ends.Priced.{Priced}
use Rattle.found_ends.specs.declared.ends.Bounded.{Bounded}
use Rattle.found_ends.specs.declared.ends.Ends.{Ends}
use Rattle.found_ends.specs.Costs.{joined_cost}
use Rattle.found_ends.specs.Lasts.{last_at, trial_of}
use Rattle.pass_core.specs.declared.state.State.{State}
use Rattle.kept_cut_laws.specs.Kept.{IsKeptAt}
use Rattle.pass_core.specs.Turns.{datum_in, AreFirstCuts}

-- what a state knows in its run
pub record Known : Type 0 where
  pub kind : Kind
  pub frame : Frame
  pub versions : List Version
  pub lasts : List (Option Last)
  pub banks : Banks
  pub ends : Ends

abbrev pub known_of : State → Known
known_of s = record {
  kind = s.kind;
  frame = s.frame;
  versions = s.versions;
  lasts = s.lasts.nodes.items;
  banks = s.banks;
  ends = s.ends;
}

-- the pools of the run
abbrev pub pools_in : Known → List Held
pools_in w = pools_of w.kind w.banks

-- the pool of node n has a cut of which this holds
pub record HasMember (pools : List Held) (n : ℕ) (Holds : Stored → Type 0) : Type 0 where
  pub pool : Held
  pub there : slice_get pools n ≡ Some pool
  pub cut : Stored
  pub member : Contains pool.cuts cut
  pub holds : Holds cut

-- node n has a pool, which is kept so
pub record PoolStands (p : Program) (versions : List Version) (most : ℕ) (pools : List Held) (n : ℕ) : Type 0 where
  pub pool : Held
  pub there : slice_get pools n ≡ Some pool
  pub kept : IsKeptAt p versions most n pool

-- a Bound cut whose value at the trial is at least this
abbrev pub IsAtLeast : List Entry → ℚ → Stored → Type 0
IsAtLeast trial value cut = ((source_of cut).kind ≡ Bound) × (value ≤ℚ value_at_trial cut trial)

-- a Ray cut whose value at the trial is above 0
abbrev pub IsAbove : List Entry → Stored → Type 0
IsAbove trial cut = ((source_of cut).kind ≡ Ray) × (zero_ℚ <ℚ value_at_trial cut trial)

-- node n's last solve found a point: the program that was solved, and its answer. Where it was made at the values above it as they are,
-- they are its trial; where the children's pools are as they were read, it has their cuts; its own cut was offered, or one of at least the
-- value stands there; of the root in a Cost run the lower end is at least the value, and in a Recession run its cut is kept
pub record HasLast (p : Program) (w : Known) (m : Machine) (n : ℕ) : Type 0 where
  pub last : Last
  pub there : last_at w.lasts n ≡ Some last
  pub task : Task
  pub value : ℚ
  pub cut : Option Stored
  pub answer : PointAnswer task last.point value cut
  pub fits : IsProblem (problem_of task)
  pub kind : task.kind ≡ w.kind
  pub datum : task.datum ≡ datum_in w.kind p n (version_of w.versions n)
  pub along : add_scaled_walk task.trial one_ℚ last.point ≡ Ok last.along
  pub trial : IsMade m n → task.trial ≡ trial_of w.lasts (parent_in w.frame n)
  pub cuts : AreRead m n → map cuts_of task.children.items ≡ cuts_read (pools_in w) (children_in w.frame n)
  pub offered : 0 < n → (c : Stored) → cut ≡ Some c → HasMember (pools_in w) n (IsAtLeast task.trial value)
  pub lower : w.kind ≡ Cost → n ≡ 0 → (b : Bounded) × ((w.ends.lower ≡ Some b) × (value ≤ℚ b.value))
  pub root : w.kind ≡ Recession → n ≡ 0 → (c : Stored) × ((w.ends.root ≡ Some c) × (value ≡ constant_of c) × ((source_of c).kind ≡ Bound))

-- a Ray cut about the root that is above 0
abbrev pub ShowsNone : Stored → Type 0
ShowsNone cut = ((source_of cut).kind ≡ Ray) × (zero_ℚ <ℚ constant_of cut)

-- node n's last solve showed that there is no point: so does a Ray cut of its pool; and of the root a cut is kept
pub record HasNone (p : Program) (w : Known) (m : Machine) (n : ℕ) : Type 0 where
  pub trial : List Entry
  pub made : IsMade m n → trial ≡ trial_of w.lasts (parent_in w.frame n)
  pub offered : 0 < n → HasMember (pools_in w) n (IsAbove trial)
  pub root : n ≡ 0 → (cut : Stored) × ((w.ends.nowhere ≡ Some cut) × ShowsNone cut)

-- the upper end is that of a policy that is feasible and costs so much; the lower end is the constant of its cut, a Bound one
pub record EndsHold (p : Program) (e : Ends) : Type 0 where
  pub upper : IfSome e.upper (λ u. Feasible (view_of p) (at u.policy) × (cost (view_of p) (at u.policy) ≡ u.cost))
  pub lower : IfSome e.lower (λ l. (l.value ≡ constant_of l.cut) × ((source_of l.cut).kind ≡ Bound))

-- what the points of all nodes cost is known, and the upper end is at most that; a Recession run has none of its own, but a direction
pub record HasCost (p : Program) (tree : Tree) (w : Known) : Type 0 where
  pub cost : ℚ
  pub costs : joined_cost p.nodes tree.chances.totals w.lasts ≡ Ok cost
  pub upper : (w.kind ≡ Recession → ⊥) → (u : Priced) × ((w.ends.upper ≡ Some u) × (u.cost ≤ℚ cost))
  pub direction : w.kind ≡ Recession → (u : Priced) × ((w.ends.direction ≡ Some u) × (u.cost ≡ cost))

-- how many runs were opened before one of this kind
abbrev pub runs_before : Kind → ℕ
runs_before FeasibleRun = 0
runs_before Recession = 1
runs_before Cost = 2

-- the pools of the run have its first cuts
pub record HasFirstCuts (p : Program) (tree : Tree) (w : Known) : Type 0 where
  pub dual : List At
  pub cuts : List (Option Stored)
  pub are : AreFirstCuts w.kind p tree w.versions dual cuts
  pub placed : (n : ℕ) (cut : Stored) → slice_index_or cuts n None ≡ Some cut → 0 < n → HasMember (pools_in w) n (λ c. c ≡ cut)

-- the run stands on its last solves
pub record StandsBy (p : Program) (tree : Tree) (w : Known) (m : Machine) : Type 0 where
  pub lasts : (n : ℕ) → IsLive m n → 0 < (m.last n).commit → HasPoint m n → HasLast p w m n
  pub nones : (n : ℕ) → IsLive m n → 0 < (m.last n).commit → ((m.last n).point ≡ false) → HasNone p w m n
  pub ends : EndsHold p w.ends
  pub complete : IsComplete m → HasCost p tree w
  -- behind a Feasible run there is a policy
  pub policy : (w.kind ≡ FeasibleRun → ⊥) → (u : Priced) × (w.ends.upper ≡ Some u)
  pub grounds : (w.kind ≡ FeasibleRun → ⊥) → HasFirstCuts p tree w
