use Rattle.std.proofs.Common.{◌≡◌, Option, IfSome, IsSome, OnOk, ap, subst}
use Rattle.scen_defs.specs.Program.{content}
use Rattle.proved_report.specs.declared.open.Open.TheVariants.{Solves}
use Rattle.pass_core.specs.declared.state.Begun.{Begun}
use Rattle.pass_core.specs.declared.state.State.{State}
use Rattle.pass_core.specs.Desks.{IsBegunBy, EndsOn}
use Rattle.pass_core.specs.Turns.{IsSetOut, EndsAnyhow, SolvesOn}
use Rattle.pass_core.proofs.Making.{same_made}
use Rattle.pass_core.proofs.Progressing.{stuck_progresses}
use Rattle.pass_core.proofs.Desks.{stuck_ends}
use Rattle.pass_core.proofs.state.State.solve.Goals as goal

-- ---- where the node has no program
pub returns-in_default-clause-tabled : goal.returns-in_default-clause-tabled
returns-in_default-clause-tabled c = λ m frame b.
    stuck_ends (content c.args.program.now) c.args.self.now m 0 c.args.node c.args.program.now.keeps frame b c.left_stuck.new.self _ _ c.left_stuck.ensures.drops c.left_stuck.ensures.others

pub returns-in_default-clause-solves : goal.returns-in_default-clause-solves
returns-in_default-clause-solves c = λ m walk frame b stand.
    absurd (let no = subst (λ (o : Option Begun). IsSome o) c.in_default.is (c.in_ok-begun.ensures.some m 0 walk frame b stand) in cc)

pub returns-in_default-clause-made : goal.returns-in_default-clause-made
returns-in_default-clause-made c = λ b walk frame right h.
    let e = c.left_stuck.ensures.others in
    (same_made b c.args.self.now c.left_stuck.new.self (ap (λ (x : State). x.banks) e) (ap (λ (x : State). x.kind) e) (ap (λ (x : State). x.ends) e)).1 h

pub returns-in_default-clause-progress : goal.returns-in_default-clause-progress
returns-in_default-clause-progress c =
    let s = c.args.self.now in
    stuck_progresses s c.left_stuck.new.self (Solves s.budget.solves) _ c.left_stuck.ensures.others

-- ---- where it has one
pub returns-clause-explained : goal.returns-clause-explained
returns-clause-explained c =
    let p = content c.args.program.now in
    let tree = c.args.tree.now in
    let s = c.args.self.now in
    let out : IsSetOut p tree s c.in-Some.begun =
    subst (λ (o : Option Begun). IfSome o (IsSetOut p tree s)) c.in-Some.is c.in_ok-begun.ensures.task in
    c.end.ensures.explained (record { node = out.can.node; task = out.can.task; readings = out.can.readings })

pub returns-clause-tabled : goal.returns-clause-tabled
returns-clause-tabled c = λ m frame b.
    let p = content c.args.program.now in
    let tree = c.args.tree.now in
    let s = c.args.self.now in
    let out : IsSetOut p tree s c.in-Some.begun =
    subst (λ (o : Option Begun). IfSome o (IsSetOut p tree s)) c.in-Some.is c.in_ok-begun.ensures.task in
    let node : c.in-Some.begun.node ≡ c.args.node =
    subst (λ (o : Option Begun). IfSome o (λ (x : Begun). x.node ≡ c.args.node)) c.in-Some.is c.in_ok-begun.ensures.node in
    subst (λ k. (b : IsBegunBy p s m 0 k) → OnOk c.end.result (EndsOn EndsAnyhow p s m b.desk.fits.flying 0 k c.end.new.self)) node
    (c.end.ensures.tabled m frame (record { node = out.can.node; task = out.can.task; readings = out.can.readings })) b

pub returns-clause-solves : goal.returns-clause-solves
returns-clause-solves c = λ m walk frame b stand.
    let p = content c.args.program.now in
    let tree = c.args.tree.now in
    let s = c.args.self.now in
    let out : IsSetOut p tree s c.in-Some.begun =
    subst (λ (o : Option Begun). IfSome o (IsSetOut p tree s)) c.in-Some.is c.in_ok-begun.ensures.task in
    let node : c.in-Some.begun.node ≡ c.args.node =
    subst (λ (o : Option Begun). IfSome o (λ (x : Begun). x.node ≡ c.args.node)) c.in-Some.is c.in_ok-begun.ensures.node in
    subst (λ k. (b : IsBegunBy p s m 0 k) → OnOk c.end.result (SolvesOn p s m b.desk.fits.flying 0 k c.end.new.self)) node
    (λ b. c.end.ensures.solves m walk frame (record { can = record { node = out.can.node; task = out.can.task; readings = out.can.readings }; stated = out.stated }) b stand) b

pub returns-clause-made : goal.returns-clause-made
returns-clause-made c = λ b walk frame right h.
    let p = content c.args.program.now in
    let tree = c.args.tree.now in
    let s = c.args.self.now in
    let out : IsSetOut p tree s c.in-Some.begun =
    subst (λ (o : Option Begun). IfSome o (IsSetOut p tree s)) c.in-Some.is c.in_ok-begun.ensures.task in
    c.end.ensures.made b walk frame (record { can = record { node = out.can.node; task = out.can.task; readings = out.can.readings }; stated = out.stated }) right h
