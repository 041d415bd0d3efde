-- The present hand goes last.
use Rattle.std.proofs.Common.{subst, sym}
use Rattle.std.specs.List.{All}
use Rattle.std.proofs.lemmas.List.Elements.{All-push}
use Rattle.scenario_paths.specs.Paths.{IsAtHand}
use Rattle.scenario_paths.proofs.HandsLemmas.{fresh_is}
use Rattle.scenario_paths.proofs.hands.Hands.with_fresh.Goals as goal

pub returns : goal.returns
returns c = λ nodes at. record {
  present = fresh_is nodes c.empty_hand.result c.empty_hand.ensures.at c.empty_hand.ensures.values;
  others = subst (All (IsAtHand nodes)) (sym c.in_ok-push.ensures.items)
      (All-push (IsAtHand nodes) c.args.self.others.items c.args.self.present at.others at.present);
}
