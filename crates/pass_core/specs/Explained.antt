-- Why a report is left open: what stands behind a reason that is told.
use Rattle.std.specs.Prelude.{◌≡◌, ◌⊎◌, ℕ, false, true, List, [], Option, Some, None, Err, IfSome, get_or}
use Rattle.rationals.specs.Rational.{zero_ℚ}
use Rattle.rationals.specs.Passes.{Operation}
use Rattle.rationals.specs.Sparse.{Entry}
use Rattle.scen_defs.specs.Program.{Program}
use Rattle.scen_defs.specs.Lists.{Each}
use Rattle.scen_defs.specs.Valid.{Lives}
use Rattle.scen_defs.specs.Values.{At}
use Rattle.scen_defs.specs.declared.report.Kind.{Kind}
use Rattle.scen_defs.specs.declared.report.Place.{Place}
use Rattle.scen_defs.specs.declared.report.Place.TheVariants.{Solve, Cut, Cost, Ground, Dual, Check}
use Rattle.scen_tree.specs.Trees.{Tree}
use Rattle.cut_defs.specs.Data.{Datum, IsDatum}
use Rattle.cut_defs.specs.Stored.{Stored, source_of}
use Rattle.cut_proof.specs.declared.fault.CutFault.{CutFault}
use Rattle.cut_proof.specs.declared.fault.CutFault.TheVariants as fault
use Rattle.cut_pool.specs.Held.{Held}
use Rattle.cut_pool.specs.Pool.{offer_of}
use Rattle.cut_pool.specs.declared.offer.Offer.TheVariants as offer
use Rattle.dual_assemble.specs.Ground.{ground_walk}
use Rattle.dual_assemble.specs.Values.{assembled}
use Rattle.node_lp.specs.declared.task.Task.{Task}
use Rattle.node_lp.specs.declared.solved.Solved.{Solved}
use Rattle.node_lp.specs.declared.solved.Solved.TheVariants as solved
use Rattle.node_lp.specs.Problem.{IsProblem, problem_of}
use Rattle.node_lp.specs.Tested.{IsToldOf}
use Rattle.proved_report.specs.declared.open.Open.{Open}
use Rattle.proved_report.specs.declared.open.Open.TheVariants as reason
use Rattle.node_data.specs.Frames.{Frame}
use Rattle.node_data.specs.NodeData.{node_datum}
use Rattle.pass_core.specs.declared.budget.Budget.{Budget}
use Rattle.found_ends.specs.declared.ends.Ends.{Ends}
use Rattle.found_ends.specs.declared.last.Last.{Last}
use Rattle.pass_core.specs.declared.state.State.{State}
use Rattle.found_ends.specs.Costs.{joined_cost}
use Rattle.found_ends.specs.Ends.{no_ends}

-- ---- the program of a node

-- the datum of a live node in a run of a kind, by the program, its frame and its tree
pub record IsDatumOf (kind : Kind) (p : Program) (frame : Frame) (tree : Tree) (d : Datum) : Type 0 where
  pub lives : Lives p d.node
  pub stated : d ≡ node_datum kind p frame tree d.node d.rows_version d.costs_version
  pub datum : IsDatum d

-- the program of a live node: its datum in a run of a kind, the values of the columns before it and cuts about its children, which
-- fit together, for so many pivots
pub record IsTask (p : Program) (frame : Frame) (tree : Tree) (pivots : ℕ) (t : Task) : Type 0 where
  pub datum : IsDatumOf t.kind p frame tree t.datum
  pub fits : IsProblem (problem_of t)
  pub allowed : t.pivots ≡ pivots

-- a solve of the program of a live node comes to this
pub record ComesOfSolve (p : Program) (frame : Frame) (tree : Tree) (pivots : ℕ) (all : Solved) : Type 0 where
  pub task : Task
  pub is_task : IsTask p frame tree pivots task
  pub comes : IsToldOf task all

-- the cut that a solve gives, where it gives one
abbrev pub cut_given : Solved → Option Stored
cut_given (solved.Point x value cut) = cut
cut_given (solved.NoPoint cut) = Some cut
cut_given solved.Loose = None
cut_given solved.PivotsEnded = None
cut_given (solved.Passed in_cut o) = None
cut_given solved.NotGood = None

-- a solve of the program of a live node, at these values of the columns before it, gives this cut
pub record GivesCut (p : Program) (frame : Frame) (tree : Tree) (pivots : ℕ) (trial : List Entry) (cut : Stored) : Type 0 where
  pub task : Task
  pub is_task : IsTask p frame tree pivots task
  pub at_trial : task.trial ≡ trial
  pub all : Solved
  pub comes : IsToldOf task all
  pub given : cut_given all ≡ Some cut

-- a solve of the program of a live node gives this cut, at some values of the columns before it
abbrev pub IsCutOfSolve : Program → Frame → Tree → ℕ → Stored → Type 0
IsCutOfSolve p frame tree pivots cut = (trial : List Entry) × GivesCut p frame tree pivots trial cut

-- the point that a solve finds, where it finds one
abbrev pub point_found : Solved → Option (List Entry)
point_found (solved.Point x value cut) = Some x
point_found (solved.NoPoint cut) = None
point_found solved.Loose = None
point_found solved.PivotsEnded = None
point_found (solved.Passed in_cut o) = None
point_found solved.NotGood = None

-- a solve of the program of a live node finds this point
pub record FindsPoint (p : Program) (frame : Frame) (tree : Tree) (pivots : ℕ) (point : List Entry) : Type 0 where
  pub task : Task
  pub is_task : IsTask p frame tree pivots task
  pub all : Solved
  pub comes : IsToldOf task all
  pub found : point_found all ≡ Some point

-- such solves found the points of the last solves
abbrev pub PointsAreFound : Program → Frame → Tree → ℕ → List (Option Last) → Type 0
PointsAreFound p frame tree pivots lasts = Each (λ place. IfSome place (λ last. FindsPoint p frame tree pivots last.point)) lasts

-- such solves gave the cuts that the ends rest on
pub record AreOfSolves (p : Program) (frame : Frame) (tree : Tree) (pivots : ℕ) (e : Ends) : Type 0 where
  pub root : IfSome e.root (IsCutOfSolve p frame tree pivots)
  pub lower : IfSome e.lower (λ b. IsCutOfSolve p frame tree pivots b.cut)
  pub nowhere : IfSome e.nowhere (IsCutOfSolve p frame tree pivots)

-- ---- operations that pass

-- in the answer of a pool of cuts about the node to the cut of such a solve, at the values of the columns before it
pub record PassesInOffer (p : Program) (frame : Frame) (tree : Tree) (pivots : ℕ) (o : Operation) : Type 0 where
  pub trial : List Entry
  pub cut : Stored
  pub gives : GivesCut p frame tree pivots trial cut
  pub pool : Held
  pub about : pool.node ≡ (source_of cut).node
  pub passes : offer_of pool cut trial ≡ offer.Passed o

-- in what points of the nodes, which such solves found, cost together
pub record PassesInCost (p : Program) (frame : Frame) (tree : Tree) (pivots : ℕ) (o : Operation) : Type 0 where
  pub lasts : List (Option Last)
  pub found : PointsAreFound p frame tree pivots lasts
  pub passes : joined_cost p.nodes tree.chances.totals lasts ≡ Err o

-- in the assembly of the multipliers of the cut of such a solve
pub record PassesInAssembly (p : Program) (frame : Frame) (tree : Tree) (pivots : ℕ) (o : Operation) : Type 0 where
  pub cut : Stored
  pub given : IsCutOfSolve p frame tree pivots cut
  pub passes : assembled cut ≡ Err o

-- in the cut that some numbers of rows make for a live node with some cuts
pub record PassesInGround (p : Program) (frame : Frame) (tree : Tree) (o : Operation) : Type 0 where
  pub kind : Kind
  pub datum : Datum
  pub is_datum : IsDatumOf kind p frame tree datum
  pub dual : List At
  pub cuts : List Stored
  pub passes : ground_walk datum (get_or tree.chances.totals datum.node zero_ℚ) dual cuts ≡ Err o

-- where a run doesn't open for an operation that passes, it is one of these
abbrev pub FailsToOpen : Program → Frame → Tree → ℕ → CutFault → Type 0
FailsToOpen p frame tree pivots (fault.Passed o) = PassesInAssembly p frame tree pivots o ⊎ PassesInGround p frame tree o
FailsToOpen p frame tree pivots fault.NotGood = Unit {0}
FailsToOpen p frame tree pivots fault.Memory = Unit {0}

-- the first operation of this place that passes; none is told of a test
abbrev pub PassesInRun : Program → Frame → Tree → ℕ → Place → Operation → Type 0
PassesInRun p frame tree pivots (Solve k) o = ComesOfSolve p frame tree pivots (solved.Passed false o)
PassesInRun p frame tree pivots (Cut k) o = ComesOfSolve p frame tree pivots (solved.Passed true o) ⊎ PassesInOffer p frame tree pivots o
PassesInRun p frame tree pivots (Cost k) o = PassesInCost p frame tree pivots o
PassesInRun p frame tree pivots Ground o = PassesInAssembly p frame tree pivots o ⊎ PassesInGround p frame tree o
PassesInRun p frame tree pivots Dual o = PassesInAssembly p frame tree pivots o
PassesInRun p frame tree pivots Check o = ⊥

-- ---- reasons

-- a reason is explained: its operation is the first that passes at its place, a solve came to the end of the pivots that are allowed,
-- or its number of solves is the one that is allowed
abbrev pub IsExplained : Program → Frame → Tree → Budget → Open → Type 0
IsExplained p frame tree budget (reason.Solves n) = n ≡ budget.solves
IsExplained p frame tree budget (reason.Pivots k) = ComesOfSolve p frame tree budget.pivots solved.PivotsEnded
IsExplained p frame tree budget (reason.Passed place o) = PassesInRun p frame tree budget.pivots place o

-- each reason that a state keeps is explained: what stops the method, and what does so for the present run; and solves gave the cuts that
-- its ends rest on, and found its points
abbrev pub AreExplained : Program → Tree → State → Type 0
AreExplained p tree s = IfSome s.stop (IsExplained p s.frame tree s.budget) × IfSome s.lasting (IsExplained p s.frame tree s.budget)
    × AreOfSolves p s.frame tree s.budget.pivots s.ends × PointsAreFound p s.frame tree s.budget.pivots s.lasts.nodes.items

-- nothing stops the method, but that it is stuck, which never comes of a correct solve: then so many solves are told as are allowed; no
-- end is known, and no point
pub record IsUnstopped (s : State) : Type 0 where
  pub stop : IfSome s.stop (λ why. why ≡ reason.Solves s.budget.solves)
  pub lasting : s.lasting ≡ None
  pub ends : s.ends ≡ no_ends
  pub points : s.lasts.nodes.items ≡ []

-- from one state to another the frame, the budget and the versions stay, and where the reasons are explained they stay so
abbrev pub KeepsExplained : Program → Tree → State → State → Type 0
KeepsExplained p tree old new = (new.frame ≡ old.frame) × (new.budget ≡ old.budget) × (new.versions ≡ old.versions)
    × (AreExplained p tree old → AreExplained p tree new)
