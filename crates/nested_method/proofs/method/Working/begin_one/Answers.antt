use Rattle.std.proofs.Common.{◌≡◌, ℕ, ◌∷◌, [], ◌++◌, Option, IfSome, sym, subst, ◌∙◌, arith}
use Rattle.scen_defs.specs.Program.{content}
use Rattle.pass_core.specs.declared.state.Begun.{Begun}
use Rattle.pass_core.specs.declared.state.State.{State}
use Rattle.pass_core.specs.Desks.{BeginsNode}
use Rattle.pass_core.specs.Turns.{IsSetOut}
use Rattle.nested_method.specs.Batches.{Batch}
use Rattle.nested_method.proofs.StandLemmas.{not_ripe}
use Rattle.nested_method.proofs.Batches.{batch_rests, batch_begins}
use Rattle.nested_method.proofs.method.Working.begin_one.Goals as goal

pub returns-in_default-clause-begun : goal.returns-in_default-clause-begun
returns-in_default-clause-begun c = λ start first jobs same low small h.
    let p = content c.args.program.now in
    let i = c.args.program.now.keeps in
    let s : State = c.args.self.now.state in
    let left = not_ripe c.args.work _ _ (sym c.is_ripe.ensures ∙ c.if-is_ripe.false) in
    batch_rests p c.args.self.now.tree start first s c.begin.new.self jobs i h c.args.worker c.begin.ensures.others left
    (c.in_default.ensures.begins p h.machine i h.frame h.is_begun h.desk (h.others c.args.worker (omega (arith, same))) low)

pub returns-clause-begun : goal.returns-clause-begun
returns-clause-begun c = λ start first jobs same low small h.
    let p = content c.args.program.now in
    let i = c.args.program.now.keeps in
    let tree = c.args.self.now.tree in
    let s : State = c.args.self.now.state in
    let mid : State = c.begin.new.self in
    let n = c.in-Some.node in
    let b : Begun = c.in-Some-2.begun in
    let left = not_ripe c.args.work _ _ (sym c.is_ripe.ensures ∙ c.if-is_ripe.false) in
    let out : IsSetOut p tree mid b = subst (λ (o : Option Begun). IfSome o (IsSetOut p tree mid)) c.in-Some-2.is c.in_ok-begun.ensures.task in
    let node : b.node ≡ n = subst (λ (o : Option Begun). IfSome o (λ (x : Begun). x.node ≡ n)) c.in-Some-2.is c.in_ok-begun.ensures.node in
    let begins = c.in-Some.ensures.begins p h.machine i h.frame h.is_begun h.desk (h.others c.args.worker (omega (arith, same))) low in
    let all : Batch p tree start first mid (jobs ++ b ∷ []) =
    batch_begins p tree start first s mid jobs i h n b c.begin.ensures.others left (omega (arith, same, small))
    (subst (λ (v : ℕ). BeginsNode p h.machine h.desk.fits.flying v n mid) (sym same) begins) node out in
    subst (λ (x : State). Batch p tree start first x (jobs ++ c.in_ok-job.job ∷ [])) (sym c.in_ok-job.ensures.state)
    (subst (λ (x : Begun). Batch p tree start first mid (jobs ++ x ∷ [])) (sym c.in_ok-job.ensures.job) all)
