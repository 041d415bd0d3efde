use Rattle.pass_core.specs.declared.state.State.{State}
use Rattle.pass_core.proofs.Tabling.{table_then, put_keeps, stop_keeps}
use Rattle.std.proofs.Common.{◌≡◌, Option, Some, IfSome, IsSomeAnd, refl, sym, ap, subst, ◌∙◌, arith}
use Rattle.cut_defs.specs.Stored.{Stored, source_of, IsMadeFor}
use Rattle.cut_banks.specs.Pools.{may_put}
use Rattle.cut_pool.specs.Pool.{with_cut}
use Rattle.scen_defs.proofs.ValueLaws.{each-push}
use Rattle.pass_core.specs.Made.{run_book}
use Rattle.pass_core.proofs.Making.{bank_changed, banks_made, then_made, same_made}
use Rattle.pass_core.proofs.Leaving.{put_others}
use Rattle.proved_report.specs.declared.open.Open.{Open}
use Rattle.proved_report.specs.declared.open.Open.TheVariants.{Solves}
use Rattle.pass_core.specs.Reasons.{IsOfOpening}
use Rattle.pass_core.proofs.Reasoning.{same_reasons, then_reasons, stopped_reasons}
use Rattle.pass_core.specs.Grounds.{put_cut, IsNotPut, PutsCut}
use Rattle.pass_core.proofs.FirstCuts.{pool_banks, pool_put}
use Rattle.pass_core.proofs.state.State.put.Goals as goal

pub returns-then-is_put-clause-kept : goal.returns-then-is_put-clause-kept
returns-then-is_put-clause-kept c = put_keeps c.args.self.now c.args.kind c.in_ok-own.own c.ground.new.self c.in_ok-is_put.ensures.ok

pub returns-clause-kept : goal.returns-clause-kept
returns-clause-kept c =
    let s : State = record c.args.self.now { banks = c.ground.new.self } in
    table_then c.args.self.now s c.stuck.new.self (put_keeps c.args.self.now c.args.kind c.in_ok-own.own c.ground.new.self c.in_ok-is_put.ensures.ok)
    (stop_keeps s c.stuck.new.self _ c.stuck.ensures).kept

pub returns-then-is_put-clause-made : goal.returns-then-is_put-clause-made
returns-then-is_put-clause-made c = λ b h.
    let old = c.args.self.now in
    let cut = c.in_ok-own.own in
    let made : IsMadeFor (run_book c.args.kind b) cut =
    subst (IsMadeFor (run_book c.args.kind b)) (sym c.in_ok-own.ensures) (subst (λ (o : Option Stored). IfSome o (IsMadeFor (run_book c.args.kind b))) c.in-Some.is h) in
    banks_made b old c.ground.new.self
    (bank_changed c.args.kind b old.banks c.ground.new.self (may_put cut) (λ p. with_cut p cut) (source_of cut).node
    (λ p k. each-push (IsMadeFor (run_book c.args.kind b)) p.cuts cut k made) c.in_ok-is_put.ensures.ok)

pub returns-clause-made : goal.returns-clause-made
returns-clause-made c = λ b h.
    let old = c.args.self.now in
    let s : State = record old { banks = c.ground.new.self } in
    let cut = c.in_ok-own.own in
    let made : IsMadeFor (run_book c.args.kind b) cut =
    subst (IsMadeFor (run_book c.args.kind b)) (sym c.in_ok-own.ensures) (subst (λ (o : Option Stored). IfSome o (IsMadeFor (run_book c.args.kind b))) c.in-Some.is h) in
    let e = c.stuck.ensures in
    then_made b old s c.stuck.new.self
    (banks_made b old c.ground.new.self
    (bank_changed c.args.kind b old.banks c.ground.new.self (may_put cut) (λ p. with_cut p cut) (source_of cut).node
    (λ p k. each-push (IsMadeFor (run_book c.args.kind b)) p.cuts cut k made) c.in_ok-is_put.ensures.ok))
    (same_made b s c.stuck.new.self (ap (λ (x : State). x.banks) e) (ap (λ (x : State). x.kind) e) (ap (λ (x : State). x.ends) e))

pub returns-clause-others : goal.returns-clause-others
returns-clause-others c = put_others c.args.self.now c.stuck.new.self c.ground.new.self _ c.stuck.ensures

pub returns-then-is_put-clause-banks : goal.returns-then-is_put-clause-banks
returns-then-is_put-clause-banks c =
    let old = c.args.self.now in
    subst (λ (o : Option Stored). c.ground.new.self ≡ put_cut c.args.kind o old.banks)
    (ap (λ (x : Stored). Some x) c.in_ok-own.ensures ∙ sym c.in-Some.is)
    (pool_banks c.args.kind c.in_ok-own.own old.banks c.ground.new.self
    (λ e. c.if-node-eq0.false (c.node.ensures ∙ ap (λ (x : Stored). (source_of x).node) (c.cut.ensures ∙ sym c.in_ok-own.ensures) ∙ e))
    c.in_ok-is_put.ensures.ok)

pub returns-clause-banks : goal.returns-clause-banks
returns-clause-banks c =
    let old = c.args.self.now in
    ap (λ (x : State). x.banks) c.stuck.ensures
    ∙ subst (λ (o : Option Stored). c.ground.new.self ≡ put_cut c.args.kind o old.banks)
    (ap (λ (x : Stored). Some x) c.in_ok-own.ensures ∙ sym c.in-Some.is)
    (pool_banks c.args.kind c.in_ok-own.own old.banks c.ground.new.self
    (λ e. c.if-node-eq0.false (c.node.ensures ∙ ap (λ (x : Stored). (source_of x).node) (c.cut.ensures ∙ sym c.in_ok-own.ensures) ∙ e))
    c.in_ok-is_put.ensures.ok)

pub returns-clause-reasons : goal.returns-clause-reasons
returns-clause-reasons c =
    let old = c.args.self.now in
    let new = c.stuck.new.self in
    let kind = c.args.kind in
    let banks = c.ground.new.self in
    let s : State = record old { banks = banks } in
    let cut = c.in_ok-own.own in
    let e = c.stuck.ensures in
    let refused : IsNotPut kind old.banks cut = record {
      above = λ z.
          let node : c.node.result ≡ (source_of cut).node =
          c.node.ensures ∙ ap (λ (x : Stored). (source_of x).node) (c.cut.ensures ∙ sym c.in_ok-own.ensures) in
          absurd (omega (arith, z, node, c.if-node-eq0.false));
      refused = sym c.in_ok-is_put.ensures.done ∙ c.if-is_put.false;
    } in
    let stuck : IsSomeAnd c.args.place.now (IsNotPut kind old.banks) =
    subst (λ (o : Option Stored). IsSomeAnd o (IsNotPut kind old.banks)) (sym c.in-Some.is)
    (subst (IsNotPut kind old.banks) c.in_ok-own.ensures refused) in
    let is : Open → Type 0 = IsOfOpening old.budget.solves (IsSomeAnd c.args.place.now (IsNotPut kind old.banks)) (λ o. ⊥) in
    then_reasons is old s new (same_reasons is old s refl refl refl)
    (stopped_reasons is s new (Solves old.budget.solves) (ap (λ (x : State). x.counts) e) (ap (λ (x : State). x.stop) e)
    (ap (λ (x : State). x.lasting) e) (refl, stuck))

pub returns-then-is_put-clause-puts : goal.returns-then-is_put-clause-puts
returns-then-is_put-clause-puts c = λ stop.
    let old = c.args.self.now in
    let cut : Stored = c.in_ok-own.own in
    let here : c.args.place.now ≡ Some cut = c.in-Some.is ∙ ap (λ (x : Stored). Some x) (sym c.in_ok-own.ensures) in (
      stop,
      subst (λ (o : Option Stored). PutsCut c.args.kind o old.banks c.ground.new.self) (sym here)
          (pool_put c.args.kind cut old.banks c.ground.new.self
          (λ e. c.if-node-eq0.false
          (c.node.ensures ∙ ap (λ (x : Stored). (source_of x).node) (c.cut.ensures ∙ sym c.in_ok-own.ensures) ∙ e))
          (sym c.if-is_put.true ∙ c.in_ok-is_put.ensures.done) c.in_ok-is_put.ensures.ok),
    )
