-- On which program the method stands, why it leaves a report of it open, and how it goes on behind an edit.
use Rattle.std.specs.Prelude.{◌≡◌, ◌⊎◌, ℕ, ◌<◌, ◌≤◌, max, leb, Bool, true, length, Option, None, Some, Ok}
use Rattle.rationals.specs.Passes.{Operation}
use Rattle.scen_defs.specs.Program.{Program}
use Rattle.scen_defs.specs.Valid.{IsProgram}
use Rattle.scen_defs.specs.declared.report.Place.{Place}
use Rattle.scen_defs.specs.declared.report.Place.TheVariants.{Cost}
use Rattle.scen_tree.specs.Trees.{Tree, tree_walk}
use Rattle.node_lp.specs.declared.solved.Solved.{Solved}
use Rattle.node_lp.specs.declared.solved.Solved.TheVariants.{PivotsEnded, Passed as PassedIn}
use Rattle.proved_report.specs.declared.open.Open.{Open}
use Rattle.proved_report.specs.declared.open.Open.TheVariants.{Solves, Pivots, Passed}
use Rattle.node_data.specs.Frames.{frame_of}
use Rattle.pass_core.specs.declared.budget.Budget.{Budget}
use Rattle.pass_table.specs.Machine.{Machine, IsClosed}
use Rattle.pass_table.specs.Marks.{nothing}
use Rattle.pass_core.specs.Explained.{ComesOfSolve, cut_given, PassesInRun, AreExplained}
use Rattle.pass_core.specs.declared.state.State.{State}
use Rattle.pass_core.specs.Beginning.{IsBeginning, StartsOver}
use Rattle.pass_core.specs.Counting.{no_commits, with_commit, after_report}
use Rattle.pass_core.specs.Tabled.{HasRoom, IsTabled, IsTabledBy, GoesBySteps}
use Rattle.pass_core.specs.Made.{KeepsBooks}
use Rattle.pass_core.specs.Reasons.{PassesAtOffer, PassesAtCost, IsLasting}
use Rattle.pass_core.specs.Desks.{IsDesk, IsBegunBy, DropsOn}
use Rattle.pass_core.specs.Turns.{PointsStand, PassesBefore, ByTree, SolvesAtDesk, AreReady, IsAtRest, MakesStep, WorksAtDesk}
use Rattle.found_ends.specs.declared.last.Lasts.{Lasts}
use Rattle.found_ends.specs.declared.claims.Closed.{Closed}
use Rattle.found_ends.specs.declared.settled.Settled.{Settled}
use Rattle.found_ends.specs.Settled.{settled, why_open}
use Rattle.found_ends.specs.Claims.{closed_by}
use Rattle.nested_method.specs.declared.found.Found.{Found}
use Rattle.nested_method.specs.declared.method.Working.{Working}
use Rattle.nested_method.specs.declared.method.Method.{Method}
use Rattle.nested_method.specs.declared.method.Method.TheVariants.{Working as AtWork, Idle}
use Rattle.edit_defs.specs.declared.edit.Edit.{Edit}
use Rattle.edit_defs.specs.After.{after}
use Rattle.nested_method.specs.Edited.{IsEdited, HasNoTree}
use Rattle.nested_method.specs.Laws.{TouchesCarry}

-- the program has no more nodes than a table has numbers for
abbrev pub HasFewNodes : Program → Type 0
HasFewNodes p = length p.nodes < nothing

-- ---- why a report is left open
-- the program has a tree, of which this holds
pub record HasTree (p : Program) (Holds : Tree → Type 0) : Type 0 where
  pub tree : Tree
  pub is : tree_walk p ≡ Ok tree
  pub holds : Holds tree

-- the operation passes where the tree of the program is made, or it is the first of its place that does so in a run
abbrev pub PassesInMethod : Program → ℕ → Place → Operation → Type 0
PassesInMethod p pivots place o = HasNoTree p (Passed place o) ⊎ HasTree p (λ tree. PassesInRun p (frame_of p) tree pivots place o)

-- a solve of the program of a node comes to the end of so many pivots
abbrev pub EndsPivots : Program → ℕ → Type 0
EndsPivots p pivots = HasTree p (λ tree. ComesOfSolve p (frame_of p) tree pivots PivotsEnded)

-- this is why a report of the program is left open, with this budget
abbrev pub LeavesOpen : Program → Budget → Open → Type 0
LeavesOpen p budget (Solves n) = n ≡ budget.solves
LeavesOpen p budget (Pivots k) = EndsPivots p budget.pivots
LeavesOpen p budget (Passed place o) = PassesInMethod p budget.pivots place o

-- what is found tells why, and a test of points is told of a cost
pub record TellsWhy (p : Program) (budget : Budget) (found : Found) : Type 0 where
  pub why : LeavesOpen p budget found.why
  pub commits : ℕ
  pub place : found.place ≡ Cost commits

-- ---- the method
-- since an edit no more solves are counted than since the last report, and since that no more than are allowed
pub record IsInBudget (s : State) : Type 0 where
  pub item : s.counts.since_item ≤ s.counts.since_report
  pub report : s.counts.since_report ≤ s.budget.solves

-- where solves are counted from 0, no reason stops the method but one that lasts for the present run, or that it is stuck
pub record IsCleared (s : State) : Type 0 where
  pub stop : (why : Open) → s.stop ≡ Some why → IsLasting why ⊎ (why ≡ Solves s.budget.solves)
  pub lasting : (why : Open) → s.lasting ≡ Some why → IsLasting why

-- at work on a program with this budget: the tree and the frame are the program's, there are versions of all its nodes, each reason
-- that is kept is explained, and, where the program has no more nodes than a table has numbers for, no more solves are counted than are
-- allowed, the table fits a machine of it, and the points of the last solves stand
pub record WorksOn (p : Program) (budget : Budget) (w : Working) : Type 0 where
  pub tree : tree_walk p ≡ Ok w.tree
  pub frame : w.state.frame ≡ frame_of p
  pub budget_is : w.state.budget ≡ budget
  pub versions : length p.nodes ≤ length w.state.versions
  pub explained : AreExplained p w.tree w.state
  pub counted : IsProgram p → HasFewNodes p → IsInBudget w.state
  pub tabled : IsProgram p → HasFewNodes p → IsTabled p w.state
  pub points : IsProgram p → HasFewNodes p → PointsStand p w.state.lasts.nodes.items

-- it is at work on the program, or tells why it can't be
abbrev pub StandsOn : Program → Budget → Method → Type 0
StandsOn p budget (AtWork w) = WorksOn p budget w
StandsOn p budget (Idle why own) = (own ≡ budget) × LeavesOpen p budget why

-- before any solve of the program; one that has a tree can be worked on
abbrev pub Begins : Program → Budget → Method → Type 0
Begins p budget (AtWork w) = (tree_walk p ≡ Ok w.tree) × IsBeginning p budget w.state × (w.state.counts ≡ no_commits)
Begins p budget (Idle why own) = (own ≡ budget) × HasNoTree p why

-- The method goes on by steps of a machine of the program: the one that its table fits takes them, and the table fits it behind them. One
-- that can't go on stays as it is.
abbrev pub WorksBySteps : Program → Method → Method → Type 0
WorksBySteps p (AtWork old) (AtWork new) =
    (m : Machine) → IsProgram p → old.state.frame ≡ frame_of p → IsTabledBy p old.state m → GoesBySteps p m new.state
WorksBySteps p (AtWork old) (Idle why own) = ⊥
WorksBySteps p (Idle why own) new = new ≡ Idle why own

-- ---- what it solves
-- whether nothing is left to find, and why
abbrev pub settled_in : State → Option Settled
settled_in s = settled s.kind s.table.closed s.ends s.stop s.counts.since_report s.budget.solves

-- the method can't go on: nothing is left to find, or it is at rest, or there is no room for the number of another solve
abbrev pub IsAtEnd : Program → State → Type 0
IsAtEnd p s = (settled_in s ≡ None → ⊥) ⊎ ((m : Machine) → IsTabledBy p s m → HasRoom m → IsAtRest s m)

-- so it is of a method at work
abbrev pub EndsAt : Program → Method → Type 0
EndsAt p (AtWork w) = IsAtEnd p w.state
EndsAt p (Idle why own) = Unit {0}

-- as many solves are counted since the item before as are asked for, or the method can't go on; and no solve is made beyond those
pub record SolvesAsAsked (p : Program) (work : ℕ) (old new : State) : Type 0 where
  pub enough : (work ≤ new.counts.since_item) ⊎ IsAtEnd p new
  pub no_more : new.counts.since_item ≤ max work old.counts.since_item

-- so it is of a method at work
abbrev pub WorksAsAsked : Program → ℕ → Method → Method → Type 0
WorksAsAsked p work (AtWork old) (AtWork new) = SolvesAsAsked p work old.state new.state
WorksAsAsked p work (AtWork old) (Idle why own) = ⊥
WorksAsAsked p work (Idle why own) new = Unit {0}

-- where something is left to find, programs of nodes are solved, one behind the other, or several at a desk, with the openings of runs
-- between them, or where the method can't go on the program is begun anew, from one state to another; cuts that are made for books that are
-- right of the program are followed by such cuts
pub data SolvesNodes (p : Program) (old : State) : State → Type 0 where
  none : SolvesNodes p old old
  more : (mid new : State) (m : Machine) (told : Bool) → SolvesNodes p old mid → settled_in mid ≡ None → IsTabledBy p mid m
      → MakesStep p mid m new told → KeepsBooks p mid new → SolvesNodes p old new
  -- several workers begin solves beside one another, and these end one behind the other
  beside : (mid new : State) (m : Machine) → SolvesNodes p old mid → settled_in mid ≡ None → IsDesk p mid m → WorksAtDesk p mid m new
      → KeepsBooks p mid new → SolvesNodes p old new
  -- one that isn't wanted any more, as where nothing is left to find, leaves nothing, and isn't counted
  forgets : (mid new : State) (m : Machine) (worker n : ℕ) → SolvesNodes p old mid → (b : IsBegunBy p mid m worker n)
      → DropsOn p mid m b.desk.fits.flying worker new → SolvesNodes p old new
  -- begun anew where the method can't go on
  anew : (mid new : State) → SolvesNodes p old mid → IsAtEnd p mid → StartsOver p mid new → SolvesNodes p old new

-- among them the program was never begun anew
abbrev pub NeverAnew : {p : Program} {old new : State} → SolvesNodes p old new → Type 0
NeverAnew none = Unit {0}
NeverAnew (more mid new m told before left tabled step keeps) = NeverAnew before
NeverAnew (beside mid new m before left desk works keeps) = NeverAnew before
NeverAnew (forgets mid new m worker n before b drop) = NeverAnew before
NeverAnew (anew mid new before ends over) = ⊥

-- programs of nodes are solved so, and the program isn't begun anew
pub record SolvesOnce (p : Program) (old new : State) : Type 0 where
  pub solves : SolvesNodes p old new
  pub never : NeverAnew solves

-- the method has done nothing but that on the program, or can't work on it and stays as it is
abbrev pub WorksBySolves : Program → Method → Method → Type 0
WorksBySolves p (AtWork old) (AtWork new) = SolvesOnce p old.state new.state
WorksBySolves p (AtWork old) (Idle why own) = ⊥
WorksBySolves p (Idle why own) new = new ≡ Idle why own

-- one of these solves is counted as number k of all, and comes to this
pub record HasSolve (p : Program) (k : ℕ) (all : Solved) (old new : State) : Type 0 where
  pub mid : State
  pub machine : Machine
  pub node : ℕ
  pub next : State
  pub before : SolvesNodes p old mid
  pub lasts : Lasts
  pub ready : AreReady mid lasts
  pub solve : SolvesAtDesk p (record mid { lasts = lasts }) machine node next
  pub number : (with_commit mid.counts).all ≡ k
  pub comes : solve.all ≡ all
  pub behind : SolvesNodes p next new

-- an operation of the cut of one of these solves passes, which has number k: where the solve makes it, or in the answer of its pool
pub record CutPasses (p : Program) (k : ℕ) (o : Operation) (old new : State) : Type 0 where
  pub all : Solved
  pub solve : HasSolve p k all old new
  pub passes : (all ≡ PassedIn true o)
      ⊎ PassesAtOffer solve.mid.kind solve.mid.banks solve.node solve.solve.task.trial (cut_given all) o

-- one of what points cost together behind the solve with number k
pub record CostPasses (p : Program) (k : ℕ) (o : Operation) (old new : State) : Type 0 where
  pub all : Solved
  pub solve : HasSolve p k all old new
  pub passes : ByTree p (λ tree. PassesAtCost p tree solve.lasts.nodes.items solve.node solve.solve.task.trial all o)

-- one passes where a run of these is closed, before the next one, which doesn't open
pub record OpeningPasses (p : Program) (o : Operation) (old new : State) : Type 0 where
  pub mid : State
  pub machine : Machine
  pub next : State
  pub before : SolvesNodes p old mid
  pub tabled : IsTabledBy p mid machine
  pub closed : IsClosed machine
  pub step : MakesStep p mid machine next true
  pub passes : ByTree p (λ tree. PassesBefore p tree mid o)
  pub behind : SolvesNodes p next new

-- what is claimed of the program where nothing is left to find
abbrev pub closing : State → Closed
closing s = closed_by (settled_in s) s.ends (why_open s.stop s.budget.solves)

-- what is found is what is claimed in the state to which such solves lead, and a test of points is told of the cost of its last solve
pub record IsFoundBySolves (p : Program) (old new : State) (found : Found) : Type 0 where
  pub solves : SolvesOnce p old new
  pub claim : found.claim ≡ (closing new).claim
  pub why : found.why ≡ (closing new).why
  pub place : found.place ≡ Cost new.counts.all

abbrev pub FindsBySolves : Program → Method → Method → Found → Type 0
FindsBySolves p (AtWork old) (AtWork new) found = IsFoundBySolves p old.state new.state found
FindsBySolves p (AtWork old) (Idle why own) found = ⊥
FindsBySolves p (Idle why own) new found = Unit {0}

-- begun anew, with one more solve
pub record SolvesAnew (p : Program) (old new : State) : Type 0 where
  pub solves : SolvesNodes p old new
  pub counts : new.counts ≡ with_commit old.counts

-- a method at work that can't go on, though its solves haven't ended, is begun anew, and makes one more solve
abbrev pub WorksAnew : Program → Method → Method → Type 0
WorksAnew p (AtWork old) (AtWork new) =
    old.state.counts.since_report < old.state.budget.solves → IsAtEnd p old.state → SolvesAnew p old.state new.state
WorksAnew p (AtWork old) (Idle why own) = ⊥
WorksAnew p (Idle why own) new = new ≡ Idle why own

-- so it is of a method at work
abbrev pub StandsCleared : Method → Type 0
StandsCleared (AtWork w) = IsCleared w.state
StandsCleared (Idle why own) = Unit {0}

-- whether as many solves were made since the last report as are allowed; one that can't go on makes none
abbrev pub is_spent : Method → Bool
is_spent (AtWork w) = leb w.state.budget.solves w.state.counts.since_report
is_spent (Idle why own) = true

-- behind a report: solves are counted from 0 again, and what stopped the method stays only where a later step of the run would do it again
abbrev pub after_telling : Method → Method
after_telling (AtWork w) = AtWork (record w {
  state = record w.state { stop = w.state.lasting; counts = after_report w.state.counts };
})
after_telling (Idle why own) = Idle why own

-- A method behind an edit of its program: one at work goes on, unless the program after the edit has no tree; one that couldn't go on
-- begins with the program after the edit, where that has no more nodes than a table has numbers for.
abbrev pub GoesOn : Program → Edit → Method → Method → Type 0
GoesOn p e (AtWork old) (AtWork new) = IsEdited p e old new
GoesOn p e (AtWork old) (Idle why own) = (own ≡ old.state.budget) × HasNoTree (after p e) why
GoesOn p e (Idle why own) new = StandsOn (after p e) own new × (HasFewNodes (after p e) → Begins (after p e) own new)

-- Behind an edit, where the method goes on with what it has, each touch of the edit carries the version that its part has from then on.
abbrev pub CarriesVersions : Program → Edit → Method → Method → Type 0
CarriesVersions p e (AtWork old) (AtWork new) = TouchesCarry p e old.state.versions new.state.versions
CarriesVersions p e (AtWork old) (Idle why own) = Unit {0}
CarriesVersions p e (Idle why own) new = Unit {0}
