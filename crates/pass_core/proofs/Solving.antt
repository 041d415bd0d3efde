-- A turn is the solve of the program of its node.
use Rattle.std.proofs.Common.{◌≡◌, ℕ, true, List, None, Result, Ok, Err, OnOk, sym, subst, ◌∙◌}
use Rattle.rationals.specs.Sparse.{Entry}
use Rattle.scen_defs.specs.Program.{Program}
use Rattle.scen_defs.specs.Valid.{IsProgram}
use Rattle.scen_tree.specs.Trees.{Tree, tree_walk}
use Rattle.node_lp.specs.declared.task.Task.{Task}
use Rattle.node_lp.specs.declared.solved.Solved.{Solved}
use Rattle.node_lp.specs.Problem.{IsProblem, problem_of}
use Rattle.node_lp.specs.Tested.{IsToldOf}
use Rattle.node_lp.specs.Answers.{IsAnswer}
use Rattle.node_data.specs.Frames.{frame_of}
use Rattle.pass_table.specs.declared.table.Table.{Table}
use Rattle.pass_table.specs.Machine.{Machine, IsNext}
use Rattle.pass_core.specs.declared.state.Counts.{Counts}
use Rattle.pass_core.specs.declared.state.State.{State}
use Rattle.pass_core.specs.Counting.{with_commit}
use Rattle.pass_core.specs.Reasons.{PassesAtCost, solve_halts, IsOfSolve, GainsReasons}
use Rattle.pass_core.specs.Tabled.{EndsSolve}
use Rattle.pass_core.specs.Desks.{IsBegunBy}
use Rattle.pass_core.specs.Turns.{PointsStand, KeepsPoints, IsTaskOf, EndsBy, node_halts, SolvesNode, SolvesOn, AreReady, MakesStep}
use Rattle.pass_core.specs.Turns.MakesStep.{solves}
use Rattle.pass_core.specs.Left.{StaysInRun, LeavesBy, LeavesAnyhow}
use Rattle.pass_core.proofs.Reasoning.{IsWithin, stuck_wider}
use Rattle.pass_core.proofs.Leaving.{leaves_before, leaves_ready, anyhow_before, anyhow_ready}
use Rattle.pass_core.proofs.Desks.{ends_on, ends_before}

on_six : {X E : Type 0} (r : Result X E) (A B C D F G H : Type 0) → (A → B → C → D → F → G → H) → OnOk r A → OnOk r B → OnOk r C
    → OnOk r D → OnOk r F → OnOk r G → OnOk r H
on_six (Ok x) A B C D F G H f a b c d e g = f a b c d e g
on_six (Err o) A B C D F G H f a b c d e g = tt

-- the program has one tree
by_tree : (p : Program) (tree : Tree) (s : State) (n : ℕ) (trial : List Entry) (all : Solved) → tree_walk p ≡ Ok tree
    → IsWithin (solve_halts s.kind s.banks n trial all (PassesAtCost p tree s.lasts.nodes.items n trial all)) (node_halts p s n trial all)
by_tree p tree s n trial all walk = record {
  stuck = λ h. h;
  in_offer = λ o h. h;
  in_cost = λ o h other w.
      let same : tree ≡ other = let both : Ok tree ≡ Ok other = sym walk ∙ w in cc in
      subst (λ (t : Tree). PassesAtCost p t s.lasts.nodes.items n trial all o) same h;
}

-- a solve that is counted
pub solved_by : (p : Program) (tree : Tree) (s : State) (counts : Counts) (m : Machine) (w n : ℕ) (i : IsProgram p)
    (walk : tree_walk p ≡ Ok tree) (frame : s.frame ≡ frame_of p) (b : IsBegunBy p (record s { counts = counts }) m w n)
    (t : Task) (all : Solved) (new : State) {X E : Type 0} (r : Result X E)
    → counts ≡ with_commit s.counts → IsTaskOf p s n t → IsProblem (problem_of t) → PointsStand p s.lasts.nodes.items → IsToldOf t all
    → IsAnswer t all
    → OnOk r (EndsSolve w (EndsBy w t.trial all) (record s { counts = counts }) new b.desk.fits.flying b.flight) → OnOk r (KeepsPoints p (record s { counts = counts }) new)
    → OnOk r (GainsReasons (IsOfSolve counts.all s.budget.solves all (solve_halts s.kind s.banks n t.trial all
    (PassesAtCost p tree s.lasts.nodes.items n t.trial all))) (record s { counts = counts }) new)
    → OnOk r (StaysInRun (record s { counts = counts }) new)
    → OnOk r (new.stop ≡ None → LeavesBy p tree n t.trial all (record s { counts = counts }) new)
    → OnOk r (LeavesAnyhow n t.trial all (record s { counts = counts }) new) → OnOk r (SolvesOn p s m b.desk.fits.flying w n new)
solved_by p tree s counts m w n i walk frame b t all new r raised task problem stand exact answer ends points reasons stays leaves anyhow =
    let counted : State = record s { counts = counts } in
    let halts = solve_halts s.kind s.banks n t.trial all (PassesAtCost p tree s.lasts.nodes.items n t.trial all) in
    on_six r (EndsSolve w (EndsBy w t.trial all) counted new b.desk.fits.flying b.flight) (KeepsPoints p counted new)
    (GainsReasons (IsOfSolve counts.all s.budget.solves all halts) counted new) (StaysInRun counted new)
    (new.stop ≡ None → LeavesBy p tree n t.trial all counted new) (LeavesAnyhow n t.trial all counted new)
    (SolvesOn p s m b.desk.fits.flying w n new)
    (λ e k g y l a. record {
      task = t;
      is_task = task;
      fits = problem;
      all = all;
      told = exact;
      ends = ends_before (EndsBy 0 t.trial all) p s counts m b.desk.fits.flying w n new (ends_on p counted m w n i frame b new t.trial all e);
      points = k stand;
      reasons = subst (λ (c : Counts). GainsReasons (IsOfSolve c.all s.budget.solves all
          (node_halts p s n t.trial all)) (record s { counts = c }) new) raised
          (stuck_wider halts (node_halts p s n t.trial all) counts.all s.budget.solves all counted new (by_tree p tree s n t.trial all walk) g);
      stays = record { kind = y.kind; frame = y.frame; budget = y.budget; versions = y.versions };
      answer = answer;
      leaves = λ other w stop.
          let same : tree ≡ other = let both = sym walk ∙ w in cc in
          subst (λ (x : Tree). LeavesBy p x n t.trial all s new) same
          (leaves_before p tree n t.trial all s counts s.table s.is_begun new (l stop));
      anyhow = anyhow_before n t.trial all s counts s.table s.is_begun new a;
    }) ends points reasons stays leaves anyhow

-- the task is the same where the table changes
task_before : (p : Program) (s : State) (table : Table) (n : ℕ) (t : Task) → IsTaskOf p (record s { table = table }) n t → IsTaskOf p s n t
task_before p s table n t h = record { kind = h.kind; datum = h.datum; trial = h.trial; cuts = h.cuts; pivots = h.pivots }

pub solves_before : (p : Program) (s : State) (table : Table) (m : Machine) (n : ℕ) (new : State) → SolvesNode p (record s { table = table }) m n new → SolvesNode p s m n new
solves_before p s table m n new h = record {
  task = h.task;
  is_task = task_before p s table n h.task h.is_task;
  fits = h.fits;
  all = h.all;
  told = h.told;
  ends = h.ends;
  points = h.points;
  reasons = record { counts = h.reasons.counts; stop = h.reasons.stop; lasting = h.reasons.lasting };
  stays = record { kind = h.stays.kind; frame = h.stays.frame; budget = h.stays.budget; versions = h.stays.versions };
  answer = h.answer;
  leaves = λ tree walk stop.
      leaves_before p tree n h.task.trial h.all s s.counts table s.is_begun new (h.leaves tree walk stop);
  anyhow = anyhow_before n h.task.trial h.all s s.counts table s.is_begun new h.anyhow;
}

-- a turn as a step
task_ready : (p : Program) (old s : State) (n : ℕ) (t : Task) → s ≡ record old { lasts = s.lasts; is_begun = s.is_begun } → IsTaskOf p s n t
    → IsTaskOf p (record old { lasts = s.lasts }) n t
task_ready p old s n t e h =
    let k = subst (λ (x : State). IsTaskOf p x n t) e h in record { kind = k.kind; datum = k.datum; trial = k.trial; cuts = k.cuts; pivots = k.pivots }

pub step_solved : (p : Program) (old s : State) (m : Machine) (n : ℕ) (new : State) → s ≡ record old { lasts = s.lasts; is_begun = s.is_begun } → AreReady old s.lasts
    → IsNext m n → SolvesNode p s m n new → MakesStep p old m new true
step_solved p old s m n new e ready next h = solves s.lasts n ready next (record {
  task = h.task;
  is_task = task_ready p old s n h.task e h.is_task;
  fits = h.fits;
  all = h.all;
  told = h.told;
  ends = h.ends;
  points = h.points;
  reasons =
      let all = h.all in
      let k = subst (λ (x : State). GainsReasons (IsOfSolve (with_commit x.counts).all x.budget.solves all
      (node_halts p x n h.task.trial all))
      (record x { counts = with_commit x.counts }) new) e h.reasons in
      record { counts = k.counts; stop = k.stop; lasting = k.lasting };
  stays = let k = subst (λ (x : State). StaysInRun x new) e h.stays in
      record { kind = k.kind; frame = k.frame; budget = k.budget; versions = k.versions };
  answer = h.answer;
  leaves = λ tree walk stop. leaves_ready p tree n h.task.trial h.all old s new e (h.leaves tree walk stop);
  anyhow = anyhow_ready n h.task.trial h.all old s new e h.anyhow;
})
