use Rattle.std.proofs.Common.{◌≡◌, true, false, Option, IfSome, IsSomeAnd, refl, sym, ap, subst, ◌∙◌}
use Rattle.scen_defs.specs.Program.{content}
use Rattle.scen_defs.specs.Valid.{Lives}
use Rattle.cut_banks.specs.Banks.{pools_of}
use Rattle.cut_banks.specs.Pools.{numbers_read}
use Rattle.node_lp.specs.Problem.{IsProblem, problem_of}
use Rattle.node_data.specs.Frames.{children_in}
use Rattle.pass_core.specs.declared.state.Begun.{Begun}
use Rattle.pass_core.specs.Explained.{IsDatumOf}
use Rattle.pass_core.specs.Turns.{IsTaskOf}
use Rattle.pass_core.proofs.TaskFits.{task_fits}
use Rattle.pass_core.proofs.Desks.{solved_lives, within_pools}
use Rattle.pass_core.proofs.state.State.set_out.Goals as goal

pub returns-clause-task : goal.returns-clause-task
returns-clause-task c =
    let p = content c.args.program.now in
    let tree = c.args.tree.now in
    let s = c.args.self.now in
    let n = c.args.node in
    let b : Begun = c.in-Some.begun in
    let node : (b.node ≡ n) × (b.task.datum.node ≡ n) =
    subst (λ (o : Option Begun). IfSome o (λ (x : Begun). (x.node ≡ n) × (x.task.datum.node ≡ n))) c.in-Some.is c.in_ok-begun.ensures.node in
    let datum : IsDatumOf b.task.kind p s.frame tree b.task.datum =
    subst (λ (o : Option Begun). IfSome o (λ (x : Begun). IsDatumOf x.task.kind p s.frame tree x.task.datum)) c.in-Some.is c.in_ok-begun.ensures.datum in
    record {
      can = record {
        node = node.1 ∙ sym node.0;
        task = record {
          datum = datum;
          fits = c.if-not-fits.ensures.exact.0 refl;
          allowed = subst (λ (o : Option Begun). IfSome o (λ (x : Begun). x.task.pivots ≡ s.budget.pivots)) c.in-Some.is c.in_ok-begun.ensures.pivots;
        };
        readings = subst (λ (o : Option Begun). IfSome o (λ (x : Begun).
            x.readings.items ≡ numbers_read (pools_of s.kind s.banks) (children_in s.frame n))) c.in-Some.is c.in_ok-begun.ensures.readings
            ∙ ap (λ k. numbers_read (pools_of s.kind s.banks) (children_in s.frame k)) (sym node.0);
      };
      stated = λ walk frame. subst (λ k. IsTaskOf p s k b.task) (sym node.0)
          (subst (λ (o : Option Begun). IsSomeAnd o (λ (x : Begun). IsTaskOf p s n x.task)) c.in-Some.is
          (c.in_ok-begun.ensures.stated walk frame (subst (Lives p) node.1 datum.lives)));
    }

pub returns-clause-node : goal.returns-clause-node
returns-clause-node c = (subst (λ (o : Option Begun). IfSome o (λ (x : Begun). (x.node ≡ c.args.node) × (x.task.datum.node ≡ c.args.node)))
    c.in-Some.is c.in_ok-begun.ensures.node).0

pub returns-in_default-clause-some : goal.returns-in_default-clause-some
returns-in_default-clause-some c = λ m worker walk frame b stand.
    let p = content c.args.program.now in
    let i = c.args.program.now.keeps in
    let s = c.args.self.now in
    let n = c.args.node in
    absurd (subst (λ (o : Option Begun). IsSomeAnd o (λ (x : Begun). IsTaskOf p s n x.task)) c.in_default.is (c.in_ok-begun.ensures.stated walk frame (solved_lives p s m worker n i frame b)))

pub returns-then-not-fits-clause-some : goal.returns-then-not-fits-clause-some
returns-then-not-fits-clause-some c = λ m worker walk frame b stand.
    let p = content c.args.program.now in
    let i = c.args.program.now.keeps in
    let s = c.args.self.now in
    let n = c.args.node in
    let task : IsTaskOf p s n c.in-Some.begun.task =
    subst (λ (o : Option Begun). IsSomeAnd o (λ (x : Begun). IsTaskOf p s n x.task)) c.in-Some.is (c.in_ok-begun.ensures.stated walk frame (solved_lives p s m worker n i frame b)) in
    let datum : IsDatumOf c.in-Some.begun.task.kind p s.frame c.args.tree.now c.in-Some.begun.task.datum =
    subst (λ (o : Option Begun). IfSome o (λ (x : Begun). IsDatumOf x.task.kind p s.frame c.args.tree.now x.task.datum)) c.in-Some.is c.in_ok-begun.ensures.datum in
    let node : c.in-Some.begun.task.datum.node ≡ n =
    (subst (λ (o : Option Begun). IfSome o (λ (x : Begun). (x.node ≡ n) × (x.task.datum.node ≡ n))) c.in-Some.is c.in_ok-begun.ensures.node).1 in
    let problem : IsProblem (problem_of c.in-Some.begun.task) =
    task_fits p c.args.tree.now s n c.in-Some.begun.task i (solved_lives p s m worker n i frame b) frame stand c.keeps_nodes.ensures.plain c.keeps_nodes.ensures.cone
    (within_pools p s m worker n i frame b) task datum node c.if-not-fits.ensures.forms in
    absurd (let no : false ≡ true = c.if-not-fits.ensures.exact.1 problem in cc)
