use Rattle.std.proofs.Common.{◌<◌, ◌∷◌, [], ◌++◌, List, Option, length, sym, ap, subst, ◌∙◌, arith}
use Rattle.scen_defs.specs.Program.{content}
use Rattle.scen_tree.specs.Trees.{Tree}
use Rattle.pass_core.specs.declared.state.Begun.{Begun}
use Rattle.pass_core.specs.declared.state.State.{State}
use Rattle.nested_method.specs.Batches.{with_job, Batch}
use Rattle.nested_method.specs.declared.method.Working.{Working}
use Rattle.nested_method.proofs.method.Working.begin_all.Goals as goal
use Rattle.nested_method.proofs.method.Working.begin_all.Goals.{else-begins-test, then-begins-test+in_ok-job+in_default}

pub begins-preserved : goal.begins-preserved
begins-preserved c = record {
  tree = c.begin_one.ensures.tree ∙ c.begins.invariant.tree;
  others = c.begin_one.ensures.others ∙ ap (λ (x : State). record x { table = c.begin_one.new.self.state.table }) c.begins.invariant.others;
  workers = c.begin_one.ensures.workers ∙ c.begins.invariant.workers;
  begun = λ start first enough none.
      let p = content c.args.program.now in
      let s : State = c.begins.self.state in
      let before : Batch p c.begins.self.tree start first s c.begins.jobs.items =
      subst (λ (t : Tree). Batch p t start first s c.begins.jobs.items) (sym c.begins.invariant.tree) (c.begins.invariant.begun start first enough none) in
      let long : length c.begins.jobs.items < c.args.wanted = omega (arith, c.begins-test.true, c.len.ensures, c.begins.jobs.ok) in
      let one = c.in_ok-job.ensures.begun start first c.begins.jobs.items (omega (arith, c.len-worker.ensures, c.begins.jobs.ok))
      (omega (arith, c.len-worker.ensures, c.begins-test.true, c.len.ensures, c.begins.invariant.workers, enough))
      (omega (arith, c.len-worker.ensures, c.begins-test.true, c.len.ensures, c.ranges.wanted.fits)) before in
      let more : Batch p c.begins.self.tree start first c.begin_one.new.self.state (c.begins.jobs.items ++ c.in-Some.job ∷ []) =
      subst (λ (o : Option Begun). Batch p c.begins.self.tree start first c.begin_one.new.self.state (with_job c.begins.jobs.items o)) c.in-Some.is one in
      subst (λ (bs : List Begun). Batch p c.args.self.now.tree start first c.begin_one.new.self.state bs) (sym c.in_ok-push.ensures.items)
      (subst (λ (t : Tree). Batch p t start first c.begin_one.new.self.state (c.begins.jobs.items ++ c.in-Some.job ∷ [])) c.begins.invariant.tree more);
}

pub returns-clause-begun : goal.returns-clause-begun
returns-clause-begun c = elim c.begins-test.branch [
  | else-begins-test w ↦ λ start first enough none.
      subst (λ (x : Working). Batch (content c.args.program.now) c.args.self.now.tree start first x.state c.begins.jobs.items) (sym w.self-is)
      (c.begins.invariant.begun start first enough none)
  | then-begins-test+in_ok-job+in_default w ↦ λ start first enough none.
      let p = content c.args.program.now in
      let s : State = c.begins.self.state in
      let before : Batch p c.begins.self.tree start first s c.begins.jobs.items =
      subst (λ (t : Tree). Batch p t start first s c.begins.jobs.items) (sym c.begins.invariant.tree) (c.begins.invariant.begun start first enough none) in
      let one = w.in_ok-job.ensures.begun start first c.begins.jobs.items (omega (arith, w.len-worker.ensures, c.begins.jobs.ok))
      (omega (arith, w.len-worker.ensures, w.begins-test.true, c.len.ensures, c.begins.invariant.workers, enough))
      (omega (arith, w.len-worker.ensures, w.begins-test.true, c.len.ensures, c.ranges.wanted.fits)) before in
      let same : Batch p c.begins.self.tree start first w.begin_one.new.self.state c.begins.jobs.items =
      subst (λ (o : Option Begun). Batch p c.begins.self.tree start first w.begin_one.new.self.state (with_job c.begins.jobs.items o)) w.in_default.is one in
      subst (λ (x : Working). Batch p c.args.self.now.tree start first x.state c.begins.jobs.items) (sym w.self-is)
      (subst (λ (t : Tree). Batch p t start first w.begin_one.new.self.state c.begins.jobs.items) c.begins.invariant.tree same)
]
