-- The cut that a solve gives is about the solve's node.
use Rattle.std.proofs.Common.{◌≡◌, ℕ, Some, None, ap, ◌∙◌}
use Rattle.cut_defs.specs.Stored.{Source}
use Rattle.node_lp.specs.declared.task.Task.{Task}
use Rattle.node_lp.specs.declared.solved.Solved.{Solved}
use Rattle.node_lp.specs.declared.solved.Solved.TheVariants as solved
use Rattle.node_lp.specs.Answers.{IsAnswer}
use Rattle.pass_core.specs.Tabled.{IsAbout}

-- what is answered for a task
pub answer_about : (t : Task) (n : ℕ) (all : Solved) → t.datum.node ≡ n → IsAnswer t all → IsAbout n all
answer_about t n (solved.Point x v (Some c)) e a =
    ap (λ (s : Source). s.node) a.has_cut.cut_of.source ∙ e
answer_about t n (solved.Point x v None) e a = tt
answer_about t n (solved.NoPoint c) e a = ap (λ (s : Source). s.node) a.cut_of.source ∙ e
answer_about t n solved.Loose e a = tt
answer_about t n solved.PivotsEnded e a = tt
answer_about t n (solved.Passed in_cut o) e a = tt
answer_about t n solved.NotGood e a = tt
