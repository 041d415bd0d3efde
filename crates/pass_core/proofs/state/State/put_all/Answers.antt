use Rattle.std.proofs.Common.{◌+◌, inl, inr, List, ◌∷◌, Option, IfSome, IsSomeAnd, drop, refl, sym, ap, subst, ◌∙◌}
use Rattle.std.proofs.lemmas.List.{drop_all}
use Rattle.cut_defs.specs.Stored.{Stored, IsMadeFor}
use Rattle.pass_core.specs.Made.{run_book}
use Rattle.pass_core.proofs.Explaining.{then_kept}
use Rattle.pass_core.proofs.Tabling.{table_then}
use Rattle.pass_core.specs.declared.state.State.{State}
use Rattle.pass_core.proofs.Reasoning.{put_reasons}
use Rattle.pass_core.proofs.Making.{then_made, each_at}
use Rattle.pass_core.specs.Grounds.{put_cuts, IsNotPut, OneIsNotPut, PutsCuts}
use Rattle.pass_core.proofs.Leaving.{stuck_then, others_then}
use Rattle.pass_core.proofs.FirstCuts.{drop_there, puts_more}
use Rattle.pass_core.proofs.state.State.put_all.Goals as goal

pub loop-place-preserved : goal.loop-place-preserved
loop-place-preserved c = record {
  explained = λ p tree. then_kept p tree c.args.self.now c.loop-place.self c.put.new.self (c.loop-place.invariant.explained p tree) (c.in_ok-put.ensures.explained p tree);
  made = λ b all. then_made b c.args.self.now c.loop-place.self c.put.new.self (c.loop-place.invariant.made b all) (c.in_ok-put.ensures.made b
      (each_at (λ (place : Option Stored). IfSome place (IsMadeFor (run_book c.args.kind b))) c.args.cuts.now c.loop-place.place-index c.place-item.result all c.loop-place-test.true c.place-item.is));
  kept = table_then c.args.self.now c.loop-place.self c.put.new.self c.loop-place.invariant.kept c.in_ok-put.ensures.kept;
  others = others_then c.args.self.now c.loop-place.self c.put.new.self c.loop-place.invariant.others c.in_ok-put.ensures.others;
  reasons =
      let kind = c.args.kind in
      let mid = c.loop-place.self in
      let place = c.place-item.result in
      let rest = drop (c.loop-place.place-index + 1) c.args.cuts.now in
      put_reasons (IsSomeAnd place (IsNotPut kind mid.banks)) (OneIsNotPut kind c.args.cuts.now c.args.self.now.banks) c.args.self.now mid
      c.put.new.self (ap (λ (x : State). x.budget) c.loop-place.invariant.others)
      (λ h. c.loop-place.invariant.refused (subst (λ (places : List (Option Stored)). OneIsNotPut kind places mid.banks)
      (sym (drop_there c.args.cuts.now c.loop-place.place-index place c.loop-place-test.true c.place-item.is))
      (let here : OneIsNotPut kind (place ∷ rest) mid.banks = inl h in here)))
      c.loop-place.invariant.reasons c.in_ok-put.ensures.reasons;
  refused = λ h.
      let kind = c.args.kind in
      let mid = c.loop-place.self in
      let place = c.place-item.result in
      let rest = drop (c.loop-place.place-index + 1) c.args.cuts.now in
      c.loop-place.invariant.refused (subst (λ (places : List (Option Stored)). OneIsNotPut kind places mid.banks)
      (sym (drop_there c.args.cuts.now c.loop-place.place-index place c.loop-place-test.true c.place-item.is))
      (let here : OneIsNotPut kind (place ∷ rest) mid.banks =
      inr (subst (OneIsNotPut kind rest) c.in_ok-put.ensures.banks h) in here));
  puts = λ stop new rest.
      let one = c.in_ok-put.ensures.puts stop in
      c.loop-place.invariant.puts one.0 new
      (subst (λ (places : List (Option Stored)). PutsCuts c.args.kind places c.loop-place.self.banks new)
      (sym (drop_there c.args.cuts.now c.loop-place.place-index c.place-item.result c.loop-place-test.true c.place-item.is))
      (puts_more c.args.kind c.place-item.result (drop (c.loop-place.place-index + 1) c.args.cuts.now) c.loop-place.self.banks
      c.put.new.self.banks new one.1 rest));
  banks =
      let kind = c.args.kind in
      let mid = c.loop-place.self in
      ap (put_cuts kind (drop (c.loop-place.place-index + 1) c.args.cuts.now)) c.in_ok-put.ensures.banks
      ∙ sym (ap (λ (places : List (Option Stored)). put_cuts kind places mid.banks)
      (drop_there c.args.cuts.now c.loop-place.place-index c.place-item.result c.loop-place-test.true c.place-item.is))
      ∙ c.loop-place.invariant.banks;
  stuck = stuck_then c.args.self.now c.loop-place.self c.put.new.self (ap (λ (x : State). x.budget) c.loop-place.invariant.others)
      c.loop-place.invariant.stuck c.in_ok-put.ensures.stuck;
}

pub returns-clause-puts : goal.returns-clause-puts
returns-clause-puts c = λ stop.
    let b = c.loop-place.self.banks in
    c.loop-place.invariant.puts stop b (subst (λ (places : List (Option Stored)). PutsCuts c.args.kind places b b)
    (sym (drop_all c.loop-place.place-index c.args.cuts.now c.loop-place-test.false)) (record { can = tt; banks = refl }))

pub returns-clause-banks : goal.returns-clause-banks
returns-clause-banks c =
    sym (ap (λ (places : List (Option Stored)). put_cuts c.args.kind places c.loop-place.self.banks)
    (drop_all c.loop-place.place-index c.args.cuts.now c.loop-place-test.false)) ∙ c.loop-place.invariant.banks
