-- What a turn solves: the program of its node in the present run; and how the turn ends by what is told of it.
use Rattle.std.specs.Prelude.{◌≡◌, ◌⊎◌, ℕ, ◌+◌, ◌≤◌, Bool, true, false, leb, List, map, replicate, get_or, slice_index_or}
use Rattle.std.specs.Prelude.{Option, Some, None, Result, Ok, Err, IfSome, IsSome, ⊤}
use Rattle.rationals.specs.Rational.{zero_ℚ}
use Rattle.rationals.specs.Passes.{Operation}
use Rattle.rationals.specs.Sparse.{Entry}
use Rattle.scen_defs.specs.Lists.{Each, passes_at}
use Rattle.scen_defs.specs.Program.{Program, View, node_at}
use Rattle.scen_defs.specs.Flat.{children}
use Rattle.scen_defs.specs.Valid.{Lives}
use Rattle.scen_defs.specs.Values.{At}
use Rattle.scen_defs.specs.declared.program.Column.{Column}
use Rattle.scen_defs.specs.declared.report.Kind.{Kind}
use Rattle.scen_defs.specs.declared.report.Kind.TheVariants.{Cost}
use Rattle.scen_tree.specs.Trees.{Tree, tree_walk}
use Rattle.cut_defs.specs.Data.{Datum, bounds_of, share_of}
use Rattle.cut_defs.specs.Stored.{Stored}
use Rattle.edit_defs.specs.Data.{view_in}
use Rattle.cut_proof.specs.declared.fault.CutFault.{CutFault}
use Rattle.cut_proof.specs.declared.fault.CutFault.TheVariants as fault
use Rattle.cut_banks.specs.Banks.{pools_of}
use Rattle.cut_banks.specs.Pools.{cuts_of, cuts_read, numbers_read}
use Rattle.dual_assemble.specs.Ground.{ground_walk}
use Rattle.node_lp.specs.declared.task.Task.{Task}
use Rattle.node_lp.specs.declared.solved.Solved.{Solved}
use Rattle.node_lp.specs.declared.solved.Solved.TheVariants as solved
use Rattle.node_lp.specs.Problem.{IsProblem, problem_of}
use Rattle.node_lp.specs.Tested.{IsToldOf}
use Rattle.node_lp.specs.Answers.{IsAnswer}
use Rattle.pass_table.specs.declared.table.Table.{Table}
use Rattle.pass_table.specs.Machine.{Flight, Machine, IsClosed, MayBegin, IsNext, dropped}
use Rattle.pass_table.specs.Fits.{Fits}
use Rattle.crew_turns.specs.Besides.{FitsBesides}
use Rattle.proved_report.specs.declared.open.Open.{Open}
use Rattle.node_data.specs.declared.versions.Version.{Version}
use Rattle.node_data.specs.Counts.{version_of}
use Rattle.node_data.specs.Frames.{parent_in, children_in, frame_of}
use Rattle.found_ends.specs.declared.last.Last.{Last}
use Rattle.found_ends.specs.declared.last.Lasts.{Lasts}
use Rattle.found_ends.specs.Lasts.{last_at, trial_of}
use Rattle.pass_core.specs.declared.state.Begun.{Begun}
use Rattle.pass_core.specs.declared.state.Counts.{Counts}
use Rattle.pass_core.specs.declared.state.State.{State}
use Rattle.pass_core.specs.Counting.{with_commit}
use Rattle.pass_core.specs.Explained.{IsTask}
use Rattle.pass_core.specs.Reasons.{PassesInJoin, PassesAtCost, Halts, solve_halts, IsOfSolve, IsOfOpening, GainsReasons}
use Rattle.pass_core.specs.Tabled.{HasRoom, IsTabledIn, committed_by, EndsBegunIn, Opens}
use Rattle.pass_core.specs.Desks.{IsDesk, HasFlying, BeginsOn, IsBegunBy, EndsOn}
use Rattle.pass_core.specs.Left.{StaysInRun, LeavesBy, IsOpenOrStuck, LeavesAnyhow, places_in, next_kind, OpensRun}
use Rattle.pass_core.specs.Grounds.{OpeningDual, PassesInDual, put_cuts, CanPutCuts, OneIsNotPut}
use Rattle.pass_core.specs.Made.{cuts_there}

-- ---- points
-- each value is of a column of this stage or of an earlier one
abbrev pub AreUpTo : Program → ℕ → List Entry → Type 0
AreUpTo p s f = Each (λ (e : Entry). passes_at (λ (c : Column). leb c.stage s) e.column p.columns ≡ true) f

-- along the last solve of each node stand values of columns of its stage and of earlier ones
abbrev pub PointsStand : Program → List (Option Last) → Type 0
PointsStand p lasts = (n : ℕ) → IfSome (last_at lasts n) (λ last. AreUpTo p (node_at p.nodes n).stage last.along)

-- where they do so, they do so afterwards
abbrev pub KeepsPoints : Program → State → State → Type 0
KeepsPoints p old new = PointsStand p old.lasts.nodes.items → PointsStand p new.lasts.nodes.items

-- ---- tasks
-- the datum of a node in a run of this kind, of this version, by the program
abbrev pub datum_in : Kind → Program → ℕ → Version → Datum
datum_in kind p n version = let v : View = view_in kind p in record {
  node = n;
  rows_version = version.rows;
  costs_version = version.costs;
  cost = v.cost n;
  rows = v.rows n;
  bounds = map (bounds_of v) (v.columns (v.stage n));
  shares = map (share_of v) (children v n);
}

-- the program of node n in the present run: its datum of the present version, the values along the last solve of its parent, and the
-- cuts of the pools of its children, for the pivots of the budget
pub record IsTaskOf (p : Program) (s : State) (n : ℕ) (t : Task) : Type 0 where
  pub kind : t.kind ≡ s.kind
  pub datum : t.datum ≡ datum_in s.kind p n (version_of s.versions n)
  pub trial : t.trial ≡ trial_of s.lasts.nodes.items (parent_in s.frame n)
  pub cuts : map cuts_of t.children.items ≡ cuts_read (pools_of s.kind s.banks) (children_in s.frame n)
  pub pivots : t.pivots ≡ s.budget.pivots

-- a solve that was begun can end in this state: its program is one of its node by the program and its tree, and the numbers that it read
-- are those of the pools of the node's children
pub record CanEnd (p : Program) (tree : Tree) (s : State) (b : Begun) : Type 0 where
  pub node : b.task.datum.node ≡ b.node
  pub task : IsTask p s.frame tree s.budget.pivots b.task
  pub readings : b.readings.items ≡ numbers_read (pools_of s.kind s.banks) (children_in s.frame b.node)

-- a solve is begun in this state: it can end so, and its program is the node's in the present run
pub record IsSetOut (p : Program) (tree : Tree) (s : State) (b : Begun) : Type 0 where
  pub can : CanEnd p tree s b
  pub stated : tree_walk p ≡ Ok tree → s.frame ≡ frame_of p → IsTaskOf p s b.node b.task

-- ---- first cuts
-- what the numbers of the dual at node n, over its total, make with the cuts of its children: in a run of this kind its first cut
abbrev pub first_walk : Kind → Program → Tree → List Version → List At → List (Option Stored) → ℕ → Result (Option Stored) Operation
first_walk kind p tree versions dual cuts n =
    ground_walk (datum_in kind p n (version_of versions n)) (get_or tree.chances.totals n zero_ℚ) dual
    (cuts_there cuts (children_in (frame_of p) n))

-- the cut of node n that a run of this kind begins with
abbrev pub IsFirstCut : Kind → Program → Tree → List Version → List At → List (Option Stored) → ℕ → Stored → Type 0
IsFirstCut kind p tree versions dual cuts n cut = first_walk kind p tree versions dual cuts n ≡ Ok (Some cut)

-- those of the live nodes from n on are made, and each is of a live node
pub record AreFirstFrom (kind : Kind) (p : Program) (tree : Tree) (versions : List Version) (dual : List At) (n : ℕ)
    (cuts : List (Option Stored)) : Type 0 where
  pub there : (m : ℕ) → n ≤ m → Lives p m
      → (cut : Stored) × ((slice_index_or cuts m None ≡ Some cut) × IsFirstCut kind p tree versions dual cuts m cut)
  pub only : (m : ℕ) (cut : Stored) → slice_index_or cuts m None ≡ Some cut → Lives p m

-- the cuts that it begins with, by number: each live node has one, and no other place
pub record AreFirstCuts (kind : Kind) (p : Program) (tree : Tree) (versions : List Version) (dual : List At) (cuts : List (Option Stored))
    : Type 0 where
  pub there : (n : ℕ) → Lives p n
      → (cut : Stored) × ((slice_index_or cuts n None ≡ Some cut) × IsFirstCut kind p tree versions dual cuts n cut)
  pub only : (n : ℕ) (cut : Stored) → slice_index_or cuts n None ≡ Some cut → Lives p n

-- they are made from the greatest number on until, at a live node, this comes of the dual in place of a cut
pub record FirstCutsEnd (kind : Kind) (p : Program) (tree : Tree) (versions : List Version) (dual : List At)
    (comes : Result (Option Stored) Operation) : Type 0 where
  pub node : ℕ
  pub lives : Lives p node
  pub cuts : List (Option Stored)
  pub behind : AreFirstFrom kind p tree versions dual (node + 1) cuts
  pub walk : first_walk kind p tree versions dual cuts node ≡ comes

-- at what fault they end so
abbrev pub FaultsFirst : Kind → Program → Tree → List Version → List At → CutFault → Type 0
FaultsFirst kind p tree versions dual fault.NotGood = FirstCutsEnd kind p tree versions dual (Ok None)
FaultsFirst kind p tree versions dual (fault.Passed o) = FirstCutsEnd kind p tree versions dual (Err o)
FaultsFirst kind p tree versions dual fault.Memory = ⊤

-- the pools of the run that opens behind a closed one have its first cuts
pub record PutsFirstCuts (p : Program) (tree : Tree) (old new : State) : Type 0 where
  pub dual : List At
  pub opening : OpeningDual old.kind old.ends.root dual
  pub cuts : List (Option Stored)
  pub are : AreFirstCuts (next_kind old.kind) p tree old.versions dual cuts
  pub can : CanPutCuts (next_kind old.kind) cuts old.banks
  pub banks : new.banks ≡ put_cuts (next_kind old.kind) cuts old.banks

-- ---- where no run opens
-- the method is stuck before the run behind a closed one: a first cut isn't made, since an end that it uses isn't finite; or one can't be
-- put into its pool
pub data IsStuckBefore (p : Program) (tree : Tree) (s : State) : Type 0 where
  not_made : (dual : List At) → OpeningDual s.kind s.ends.root dual
      → FirstCutsEnd (next_kind s.kind) p tree s.versions dual (Ok None) → IsStuckBefore p tree s
  not_put : (dual : List At) (cuts : List (Option Stored)) → OpeningDual s.kind s.ends.root dual
      → AreFirstCuts (next_kind s.kind) p tree s.versions dual cuts → OneIsNotPut (next_kind s.kind) cuts s.banks → IsStuckBefore p tree s

-- an operation passes before it: where the dual of the root's cut is assembled, or where a first cut is made
pub data PassesBefore (p : Program) (tree : Tree) (s : State) (o : Operation) : Type 0 where
  by_dual : PassesInDual s.kind s.ends.root o → PassesBefore p tree s o
  by_first : (dual : List At) → OpeningDual s.kind s.ends.root dual
      → FirstCutsEnd (next_kind s.kind) p tree s.versions dual (Err o) → PassesBefore p tree s o

-- where there are no first cuts for this fault, it is so
abbrev pub FaultsBefore : Program → Tree → State → CutFault → Type 0
FaultsBefore p tree s fault.NotGood = IsStuckBefore p tree s
FaultsBefore p tree s (fault.Passed o) = PassesBefore p tree s o
FaultsBefore p tree s fault.Memory = ⊤

-- ---- ends
-- no last solve is left, and no pool changes
abbrev pub EndsWithout : ℕ → Machine → Flight → Bool → Machine → Type 0
EndsWithout worker m f added k = (added ≡ false) × (k ≡ dropped m worker)

-- how the turn ends by what is told of its solve: a point makes it the node's last solve with a point, unless it can't be kept; that
-- there is no point makes it one without; else the node has no last solve
abbrev pub EndsBy : ℕ → List Entry → Solved → Machine → Flight → Bool → Machine → Type 0
EndsBy worker trial (solved.Point x value cut) m f added k =
    (k ≡ committed_by worker m f true added) ⊎ (PassesInJoin trial x × EndsWithout worker m f added k)
EndsBy worker trial (solved.NoPoint cut) m f added k = k ≡ committed_by worker m f false added
EndsBy worker trial solved.Loose m f added k = EndsWithout worker m f added k
EndsBy worker trial solved.PivotsEnded m f added k = EndsWithout worker m f added k
EndsBy worker trial (solved.Passed in_cut o) m f added k = EndsWithout worker m f added k
EndsBy worker trial solved.NotGood m f added k = EndsWithout worker m f added k

-- however it ends
abbrev pub EndsAnyhow : Machine → Flight → Bool → Machine → Type 0
EndsAnyhow m f added k = ⊤

-- so it is with each tree of the program
abbrev pub ByTree : Program → (Tree → Type 0) → Type 0
ByTree p Holds = (tree : Tree) → tree_walk p ≡ Ok tree → Holds tree

-- what halts the method behind the solve of node n at this trial in this state
abbrev pub node_halts : Program → State → ℕ → List Entry → Solved → Halts
node_halts p s n trial all =
    solve_halts s.kind s.banks n trial all (λ o. ByTree p (λ tree. PassesAtCost p tree s.lasts.nodes.items n trial all o))

-- the program of node n was solved, and the solve ended so by what is told of it, which is an answer of that program; the run and the
-- versions stay, the points go on standing, and one more solve is counted, of which each reason is told that the state gains; where
-- nothing stops the method then, what the solve leaves is known
pub record SolvesProgram (Ends : (Machine → Flight → Bool → Machine → Type 0) → Type 0) (p : Program) (old : State) (n : ℕ) (new : State)
    : Type 0 where
  pub task : Task
  pub is_task : IsTaskOf p old n task
  pub fits : IsProblem (problem_of task)
  -- what is told of it
  pub all : Solved
  pub told : IsToldOf task all
  pub ends : Ends (EndsBy 0 task.trial all)
  pub points : PointsStand p new.lasts.nodes.items
  pub reasons : let counts : Counts = with_commit old.counts in
      GainsReasons (IsOfSolve counts.all old.budget.solves all (node_halts p old n task.trial all))
      (record old { counts = counts }) new
  pub stays : StaysInRun old new
  pub answer : IsAnswer task all
  pub leaves : (tree : Tree) → tree_walk p ≡ Ok tree → new.stop ≡ None → LeavesBy p tree n task.trial all old new
  pub anyhow : LeavesAnyhow n task.trial all old new

-- that was a turn of this machine, and the table answers so for the machine behind it
abbrev pub SolvesNodeIn : (Table → Machine → Type 0) → Program → State → Machine → ℕ → State → Type 0
SolvesNodeIn Answers p old m n new = SolvesProgram (λ Way. EndsBegunIn Answers Way p m n new) p old n new

-- a turn of a machine that the table fits
abbrev pub SolvesNode : Program → State → Machine → ℕ → State → Type 0
SolvesNode p old m n new = SolvesNodeIn Fits p old m n new

-- a turn of the idle machine of a desk
abbrev pub SolvesAtDesk : Program → State → Machine → ℕ → State → Type 0
SolvesAtDesk p old m n new = SolvesNodeIn FitsBesides p old m n new

-- a solve in flight ended so at a desk
abbrev pub SolvesOn : Program → State → Machine → Machine → ℕ → ℕ → State → Type 0
SolvesOn p old m flying worker n new = SolvesProgram (λ Way. EndsOn Way p old m flying worker n new) p old n new

-- ---- steps
-- the last solves of a run, for which there are places once something was done
pub record AreReady (old : State) (lasts : Lasts) : Type 0 where
  pub same : old.is_begun ≡ true → lasts ≡ old.lasts
  pub none : old.is_begun ≡ false → lasts.nodes.items ≡ replicate (places_in old.frame) None

-- nothing is done but that there are places for last solves, and the table answers so for the machine
pub record StaysReadyIn (Answers : Table → Machine → Type 0) (p : Program) (old : State) (m : Machine) (new : State) : Type 0 where
  pub run : StaysInRun old new
  pub banks : new.banks ≡ old.banks
  pub ends : new.ends ≡ old.ends
  pub stop : new.stop ≡ old.stop
  pub ready : AreReady old new.lasts
  pub tabled : IsTabledIn Answers p new m

-- it fits it
abbrev pub StaysReady : Program → State → Machine → State → Type 0
StaysReady p old m new = StaysReadyIn Fits p old m new

-- told where the run behind the present one doesn't open
abbrev pub IsBeforeRun : Program → State → Open → Type 0
IsBeforeRun p s = IsOfOpening s.budget.solves (ByTree p (λ tree. IsStuckBefore p tree s)) (λ o. ByTree p (λ tree. PassesBefore p tree s o))

-- no node may be begun, and where the run is closed it is a Cost run, behind which none opens
pub record IsAtRest (s : State) (m : Machine) : Type 0 where
  pub idle : (n : ℕ) → MayBegin m n → ⊥
  pub last : IsClosed m → s.kind ≡ Cost

-- the pools get first cuts of the run behind a closed one
pub record GetsFirstCuts (p : Program) (tree : Tree) (old new : State) : Type 0 where
  pub dual : List At
  pub cuts : List (Option Stored)
  pub are : AreFirstCuts (next_kind old.kind) p tree old.versions dual cuts
  pub banks : new.banks ≡ put_cuts (next_kind old.kind) cuts old.banks

-- behind a closed run, whatever stops the method then: nothing changes but that; or the next run opens
pub data OpensAnyhow (p : Program) (old new : State) : Type 0 where
  stays_closed : new ≡ record old { stop = new.stop } → OpensAnyhow p old new
  is_open : OpensRun old new → ByTree p (λ tree. GetsFirstCuts p tree old new) → (old.stop ≡ None → IsOpenOrStuck old new)
      → OpensAnyhow p old new

-- a step of a state whose table fits this machine, and whether it is told that something was done: the run is at rest, or there is no
-- room for another solve, and nothing is found; the run is closed, and the next one opens or something stops the method; or the program
-- of the node that is next is solved, which alone is counted
pub data MakesStep (p : Program) (old : State) (m : Machine) (new : State) : Bool → Type 0 where
  begins_none : (HasRoom m → IsAtRest old m) → PointsStand p new.lasts.nodes.items
      → GainsReasons (λ why. ⊥) old new → StaysReady p old m new → MakesStep p old m new false
  opens_run : IsClosed m → (old.kind ≡ Cost → ⊥) → Opens p m new → PointsStand p new.lasts.nodes.items
      → GainsReasons (IsBeforeRun p old) old new
      → (new.stop ≡ None → OpensRun old new)
      → ((tree : Tree) → tree_walk p ≡ Ok tree → new.stop ≡ None → PutsFirstCuts p tree old new)
      → OpensAnyhow p old new → MakesStep p old m new true
  solves : (lasts : Lasts) (n : ℕ) → AreReady old lasts → IsNext m n → SolvesNode p (record old { lasts = lasts }) m n new
      → MakesStep p old m new true

-- what several workers do at a desk with this idle machine
pub data WorksAtDesk (p : Program) (old : State) (m : Machine) (new : State) : Type 0 where
  -- there are places for last solves
  gets_ready : AreReady old new.lasts → new ≡ record old { lasts = new.lasts; is_begun = new.is_begun } → IsDesk p new m
      → WorksAtDesk p old m new
  -- a worker begins the node that is next, or none is
  begins_beside : (flying : Machine) (worker : ℕ) (r : Option ℕ) → old.is_begun ≡ true → HasFlying p old m flying
      → BeginsOn p m flying worker r new → new ≡ record old { table = new.table } → WorksAtDesk p old m new
  -- a worker's solve in flight ends as a whole turn
  ends_beside : (worker n : ℕ) (b : IsBegunBy p old m worker n) → SolvesOn p old m b.desk.fits.flying worker n new → WorksAtDesk p old m new

-- no solve was counted, and something stops the method, or the run behind one that isn't a Cost run is open
pub record OpensOrStops (old new : State) : Type 0 where
  pub counts : new.counts ≡ old.counts
  pub way : IsSome new.stop ⊎ ((old.kind ≡ Cost → ⊥) × (new.kind ≡ next_kind old.kind))

-- a step did something: one more solve is counted, or it is so
pub record Progresses (old new : State) : Type 0 where
  pub budget : new.budget ≡ old.budget
  pub way : (new.counts ≡ with_commit old.counts) ⊎ OpensOrStops old new

-- a step did nothing
pub record Rests (old new : State) : Type 0 where
  pub counts : new.counts ≡ old.counts
  pub stop : new.stop ≡ old.stop
  pub kind : new.kind ≡ old.kind
  pub ends : new.ends ≡ old.ends
  pub budget : new.budget ≡ old.budget
