-- A number past the last scenario has nothing on its path.
use Rattle.std.proofs.Common.{◌∙◌, ap, sym}
use Rattle.stoch_defs.specs.Stated.{value_set}
use Rattle.scenario_paths.proofs.HandLemmas.{past_map}
use Rattle.scenario_paths.proofs.hand.moved.Goals as goal

pub returns-then-number-scenarios-clause-here : goal.returns-then-number-scenarios-clause-here
returns-then-number-scenarios-clause-here c = λ entry.
    ap (λ sets. value_set sets entry) (c.empty_hand.ensures.values ∙ sym (past_map c.args.scenarios.now c.args.number c.if-number-scenarios.true))
