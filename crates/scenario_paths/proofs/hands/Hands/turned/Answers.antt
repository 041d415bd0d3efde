-- Each hand of before is one of after.
use Rattle.std.proofs.Common.{◌∙◌, ◌++◌, ◌∷◌, [], List, ap, subst, sym}
use Rattle.std.specs.List.{All}
use Rattle.scenario_paths.specs.declared.hand.Hand.{Hand}
use Rattle.scenario_paths.specs.Paths.{IsAtHand}
use Rattle.scenario_paths.proofs.HandsLemmas.{taken_is, others_are}
use Rattle.scenario_paths.proofs.hands.Hands.turned.Goals as goal

pub returns : goal.returns
returns c = λ nodes at. record {
  present = taken_is nodes c.args.self c.args.place c.remove-present.result c.requires c.remove-present.ensures.value at;
  others = subst (All (IsAtHand nodes))
      (sym (c.in_ok-push.ensures.items ∙ ap (λ (hands : List Hand). hands ++ c.args.self.present ∷ []) c.remove-present.ensures.items))
      (others_are nodes c.args.self c.args.place at);
}
