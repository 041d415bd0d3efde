use Rattle.std.proofs.Common.{subst}
use Rattle.scen_model.specs.Answers.{AnswersTest}
use Rattle.scen_model.proofs.feasibility.is_direction.Goals as goal

pub returns-in-Ok : goal.returns-in-Ok
returns-in-Ok c = subst (λ walk. AnswersTest walk c.answer.result) c.in-Ok.ensures c.answer.ensures
