use Rattle.std.proofs.Common.{subst}
use Rattle.scen_model.specs.Answers.{AnswersTest}
use Rattle.scen_model.proofs.feasibility.feasible.Goals as goal

pub returns : goal.returns
returns c = subst (λ walk. AnswersTest walk c.answer.result) c.test_all.ensures c.answer.ensures
