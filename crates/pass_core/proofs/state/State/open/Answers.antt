use Rattle.std.proofs.Common.{List, Option, None, replicate, IfSome, refl, sym, ap, subst, ◌∙◌}
use Rattle.scen_defs.specs.Lists.{Each}
use Rattle.cut_defs.specs.Stored.{Stored, IsMadeFor}
use Rattle.pass_core.specs.Made.{run_book}
use Rattle.pass_core.specs.Reasons.{IsOfOpening, GainsReasons}
use Rattle.pass_core.specs.Grounds.{OneIsNotPut}
use Rattle.pass_core.specs.Explained.{PointsAreFound}
use Rattle.found_ends.specs.declared.ends.Ends.{Ends}
use Rattle.pass_core.specs.declared.state.State.{State}
use Rattle.pass_core.proofs.Standing.{none_stand}
use Rattle.pass_core.proofs.Tabling.{run_opened}
use Rattle.pass_core.proofs.Explaining.{none_found}
use Rattle.pass_core.proofs.state.State.open.Goals as goal

pub returns-clause-explained : goal.returns-clause-explained
returns-clause-explained c = λ p tree.
    let k = c.in_ok-put_all.ensures.explained p tree in
    let s = c.put_all.new.self in (
      k.0,
      k.1,
      k.2,
      λ h.
          let e = k.3 h in (
            e.0,
            tt,
            record { root = tt; lower = e.2.lower; nowhere = e.2.nowhere },
            subst (PointsAreFound p s.frame tree s.budget.pivots) (sym c.in_ok-self.ensures) (none_found p tree s.frame s.budget.pivots _),
          ),
    )

pub returns-clause-tabled : goal.returns-clause-tabled
returns-clause-tabled c = λ p m t z room.
    run_opened p m c.args.self.now c.put_all.new.self _ t z c.in_ok-put_all.ensures.kept refl refl refl (λ number fits. c.open.ensures.fits m number t.valid fits room)

pub returns-clause-points : goal.returns-clause-points
returns-clause-points c = λ p h. none_stand p _ _ c.in_ok-self.ensures

pub returns-clause-made : goal.returns-clause-made
returns-clause-made c = λ b all h.
    let each : Each (λ (place : Option Stored). IfSome place (IsMadeFor (run_book c.args.kind b))) c.deref.result.now =
    subst (Each (λ (place : Option Stored). IfSome place (IsMadeFor (run_book c.args.kind b)))) (sym c.deref.ensures.value) all in
    let k = (c.in_ok-put_all.ensures.made b each).1 h in
    (k.0, record { root = tt; lower = k.1.lower; nowhere = k.1.nowhere })

pub returns-clause-opened : goal.returns-clause-opened
returns-clause-opened c = λ k.
    let e = c.in_ok-put_all.ensures.others in
    record {
      kind = k;
      lasts = c.in_ok-self.ensures ∙ ap (λ n. replicate n None) c.nodes.ensures;
      ends = ap (λ (s : State). let x : Ends = record s.ends { root = None } in x) e;
      lasting = refl;
      frame = ap (λ (s : State). s.frame) e;
      budget = ap (λ (s : State). s.budget) e;
      versions = ap (λ (s : State). s.versions) e;
    }

pub returns-clause-reasons : goal.returns-clause-reasons
returns-clause-reasons c =
    let old = c.args.self.now in
    let h = subst (λ (cuts : List (Option Stored)).
    GainsReasons (IsOfOpening old.budget.solves (OneIsNotPut c.args.kind cuts old.banks) (λ o. ⊥)) old c.put_all.new.self)
    c.deref.ensures.value c.in_ok-put_all.ensures.reasons in
    record { counts = h.counts; stop = h.stop; lasting = λ why e. absurd (cc) }
