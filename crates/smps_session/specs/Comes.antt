-- How a report comes of the method: of its solves, of what it claims behind them, and of the test of that.
use Rattle.std.specs.Prelude.{◌≡◌, ◌⊎◌, ◌&&◌, ◌<◌, ◌^◌, ℕ, Bool, true, false, not, Ok}
use Rattle.scen_defs.specs.Program.{Program, content, view_of}
use Rattle.scen_defs.specs.Valid.{IsProgram}
use Rattle.scen_defs.specs.declared.program.Program.{Program as ProgramOf}
use Rattle.scen_defs.specs.declared.report.Finding.{Finding}
use Rattle.scen_defs.specs.declared.report.Finding.TheVariants.{Optimal, Infeasible, Unbounded, OpenSolves, OpenPivots, OpenPassed}
use Rattle.scen_defs.specs.declared.report.Place.{Place}
use Rattle.scen_defs.specs.declared.report.Place.TheVariants.{Solve, Cut, Cost, Ground, Dual}
use Rattle.scen_defs.specs.declared.report.Report.{Report}
use Rattle.rationals.specs.Passes.{Operation}
use Rattle.node_lp.specs.declared.solved.Solved.TheVariants.{PivotsEnded, Passed}
use Rattle.report_defs.specs.Truth.{IsTrue}
use Rattle.proved_report.specs.declared.open.Open.{Open}
use Rattle.proved_report.specs.declared.open.Open.TheVariants.{Passed as PassedAt}
use Rattle.proved_report.specs.Open.{given}
use Rattle.claim_laws.specs.Held.{PassesInClaim}
use Rattle.claim_laws.specs.Tells.{TellsClaim}
use Rattle.found_ends.specs.Claims.{EndsAssembly}
use Rattle.scen_tree.specs.Trees.{Tree, tree_walk}
use Rattle.edit_defs.specs.declared.edit.Edit.{Edit}
use Rattle.node_data.specs.Frames.{frame_of}
use Rattle.pass_table.specs.Machine.{Machine}
use Rattle.crew_turns.specs.Crew.{StandsForTurns}
use Rattle.edit_defs.specs.After.{after}
use Rattle.edit_defs.specs.Shifts.{HasWidths}
use Rattle.pass_core.specs.declared.budget.Budget.{Budget}
use Rattle.pass_core.specs.declared.state.State.{State}
use Rattle.pass_core.specs.Beginning.{IsBeginning}
use Rattle.pass_core.specs.Counting.{no_commits}
use Rattle.pass_core.specs.Reasons.{HasReason}
use Rattle.pass_core.specs.Tabled.{IsTabledBy, GoesBySteps}
use Rattle.nested_method.specs.declared.method.Method.{Method}
use Rattle.nested_method.specs.declared.method.Method.TheVariants.{Working as AtWork, Idle}
use Rattle.nested_method.specs.declared.method.Working.{Working}
use Rattle.nested_method.specs.Stands.{HasFewNodes, IsAtEnd, SolvesNodes, NeverAnew, HasSolve, WorksBySolves}
use Rattle.nested_method.specs.Stands.{WorksAsAsked, GoesOn, CutPasses, CostPasses, OpeningPasses, Begins, closing}
use Rattle.nested_method.specs.Stands.{is_spent, after_telling}
use Rattle.progress_laws.specs.Ways.{AreFew, KeepsWay}
use Rattle.progress_laws.specs.WhereMet.{WasMet}
use Rattle.smps_session.specs.Shorter.{IsPrinted}
use Rattle.smps_session.specs.declared.whole.StatedLimits.{StatedLimits}

-- left open by the number of solves
abbrev pub tells_solves : Finding → Bool
tells_solves Optimal = false
tells_solves Infeasible = false
tells_solves Unbounded = false
tells_solves (OpenSolves n) = true
tells_solves (OpenPivots k) = false
tells_solves (OpenPassed place o) = false

-- left open by the number of solves, though solves are left
abbrev pub is_unfinished : Finding → Method → Bool
is_unfinished finding method = tells_solves finding && not (is_spent method)

-- What was done is one run of the machine of the cut pools: from the one that the table of versions fits, in which no solve is in
-- flight, by whole steps of one worker, and by what several workers do from no solve in flight to none, to one that the table fits again.
pub record IsOneRun (p : Program) (old new : State) : Type 0 where
  pub steps : (m : Machine) → IsTabledBy p old m → GoesBySteps p m new
  -- And it is one run of whole turns, one after the other, in which each solve that was committed stands once: they leave the same last
  -- solves and the same pools.
  pub turns : (m : Machine) (tabled : IsTabledBy p old m) → StandsForTurns m (steps m tabled).machine

-- Behind solves of the program's nodes, where the method can't go on, the report tells what is claimed, and is true for the reason that is
-- claimed with it. The program is the one behind so many items of a script that starts with another one.
pub record ShowsClosing (budget : Budget) (start : Program) (came : ℕ) (program : ProgramOf) (old new : State) (report : Report)
    : Type 0 where
  pub solves : SolvesNodes (content program) old new
  -- where the rows of the script's first program have the widths of their ranges, and few items came, the program is never begun anew
  pub once : HasWidths start → AreFew budget came → NeverAnew solves
  -- nor is it from the beginning of any program to its first report
  pub first : budget.solves < 2 ^ 63 → IsBeginning (content program) budget old → old.counts ≡ no_commits → NeverAnew solves
  -- so it is one run, and no solve is in flight where the report is made
  pub run : HasWidths start → AreFew budget came → IsOneRun (content program) old new
  pub ends : IsAtEnd (content program) new
  -- it finds what the claim asks for where that holds, prints no lists but the claim's, and is open only as it is told here
  pub claimed : TellsClaim program (Cost new.counts.all) (closing new).why budget.solves (closing new).claim report
  pub truth : IsTrue (view_of (content program)) (given (closing new).why budget.solves) report

-- so a method at work finds what is reported
abbrev pub ShowsFound : Budget → Program → ℕ → ProgramOf → Method → Method → Report → Type 0
ShowsFound budget start came program (AtWork old) (AtWork new) report = ShowsClosing budget start came program old.state new.state report
ShowsFound budget start came program (AtWork old) (Idle why own) report = ⊥
ShowsFound budget start came program (Idle why own) new report = new ≡ Idle why own

-- the operation is the first that passes in the tests of what is claimed in this state, and is told at this place
abbrev pub PassesInTestOf : ProgramOf → State → Place → Operation → Type 0
PassesInTestOf program s told o = PassesInClaim program (Cost s.counts.all) (closing s).claim told o

-- The method has a reason of a report before: the operation passed so on its way from an opening of the program, where the rows of the
-- script's first program have the widths of their ranges, and few items came.
pub record WasReason (budget : Budget) (start : Program) (came : ℕ) (p : Program) (why : Open) (Passes : State → State → Type 0)
    (old : State) : Type 0 where
  pub reason : HasReason old why
  pub met : HasWidths start → AreFew budget came → WasMet p Passes old

-- The report tells what is claimed behind solves. Where it tells that so many solves were made, so many were counted since the report
-- before; where it tells that the pivots of a solve ended, or of an operation of a solve, one of them has that number, and ended so. An
-- operation at CUT or at COST passes in the cut or in the cost behind the solve with that number, one of these solves or of those before
-- the report before; or, at COST, in the test of the claimed points. One at GROUND passes before a run that was to open; one at DUAL where
-- multipliers of the ends are assembled, or in the test of those that are claimed.
pub record ComesOfSolves (budget : Budget) (start : Program) (came : ℕ) (program : ProgramOf) (old new : State) (report : Report)
    : Type 0 where
  pub shows : ShowsClosing budget start came program old new report
  pub spent : (n : ℕ) → report.finding ≡ OpenSolves n → new.counts.since_report ≡ n
  pub pivots : (k : ℕ) → report.finding ≡ OpenPivots k → HasSolve (content program) k PivotsEnded old new
  pub passed : (k : ℕ) (o : Operation) → report.finding ≡ OpenPassed (Solve k) o → HasSolve (content program) k (Passed false o) old new
  pub cut : (k : ℕ) (o : Operation) → report.finding ≡ OpenPassed (Cut k) o
      → WasReason budget start came (content program) (PassedAt (Cut k) o) (CutPasses (content program) k o) old
      ⊎ CutPasses (content program) k o old new
  pub cost : (k : ℕ) (o : Operation) → report.finding ≡ OpenPassed (Cost k) o
      → WasReason budget start came (content program) (PassedAt (Cost k) o) (CostPasses (content program) k o) old
      ⊎ CostPasses (content program) k o old new ⊎ PassesInTestOf program new (Cost k) o
  pub ground : (o : Operation) → report.finding ≡ OpenPassed Ground o → OpeningPasses (content program) o old new
  pub dual : (o : Operation) → report.finding ≡ OpenPassed Dual o → EndsAssembly new.ends o ⊎ PassesInTestOf program new Dual o

-- a method at work comes to the report by its solves, and counts the next ones from 0; one that can't work stays as it is
abbrev pub ComesOf : Budget → Program → ℕ → ProgramOf → Method → Report → Method → Type 0
ComesOf budget start came program (AtWork old) report next =
    (w : Working) × (ComesOfSolves budget start came program old.state w.state report × (next ≡ after_telling (AtWork w)))
ComesOf budget start came program (Idle why own) report next = next ≡ Idle why own

-- The report comes of a method that begins with the program, and no item came before: it is the method's own one, or the method had
-- stopped, and a claim about the whole program was tested; or it has a shorter ray than that.
pub record ComesOfAll (budget : Budget) (stated : StatedLimits) (program : ProgramOf) (report : Report) : Type 0 where
  pub method : Method
  pub next : Method
  pub begins : Begins (content program) budget method
  pub own : Report
  pub comes : ComesOf budget (content program) 0 program method own next
  pub by_whole : Bool
  pub printed : IsPrinted by_whole stated program own report

-- no operation of the totals and shares of the program's nodes passes
abbrev pub IsOnTree : Program → Type 0
IsOnTree p = (tree : Tree) × (tree_walk p ≡ Ok tree)

-- so is what a method at work does; one that can't go on stays as it is
abbrev pub WorksInOneRun : Program → Method → Method → Type 0
WorksInOneRun p (AtWork old) (AtWork new) = IsProgram p → old.state.frame ≡ frame_of p → IsOneRun p old.state new.state
WorksInOneRun p (AtWork old) (Idle why own) = ⊥
WorksInOneRun p (Idle why own) new = new ≡ Idle why own

-- A method solves nodes of the program before an edit, so many as are asked for where it can go on, and goes on behind the edit. The
-- program behind it has no more nodes than have numbers, and is on a tree where the one before it is.
pub record TakesEdit (p : Program) (work : ℕ) (e : Edit) (old new : Method) : Type 0 where
  pub worked : Method
  pub works : HasFewNodes p → WorksBySolves p old worked
  pub amount : HasFewNodes p → WorksAsAsked p work old worked
  -- so it is one run of a method at work, and no solve is in flight where the program is edited
  pub run : WorksInOneRun p old worked
  pub goes : GoesOn p e worked new
  pub few : HasFewNodes (after p e)
  pub tree : IsOnTree p → IsOnTree (after p e)

-- behind so many items of a script the method is on its way, where the rows of the first program have the widths of their ranges, and few
-- items came
abbrev pub IsUnderWay : Budget → Program → ℕ → Program → Method → Type 0
IsUnderWay budget start came p method = HasFewNodes p → HasWidths start → AreFew budget came → KeepsWay budget came p method
