use Rattle.std.proofs.Common.{◌≡◌, ℕ, ◌<◌, ◌≤◌, max, List, length}
use Rattle.edit_defs.specs.declared.edit.Edit.{Edit}
use Rattle.nested_method.specs.Scripted.{IsInHistory}
use Rattle.scen_defs.specs.Program.{Program, content}
use Rattle.node_data.specs.Frames.{frame_of}
use Rattle.pass_table.specs.Machine.{Machine}
use Rattle.pass_table.specs.Marks.{nothing}
use Rattle.pass_core.specs.declared.budget.Budget.{Budget}
use Rattle.pass_core.specs.Tabled.{IsTabledBy, GoesBySteps}
use Rattle.nested_method.specs.Stands.{WorksOn, SolvesOnce}
use Rattle.nested_method.specs.Batches.{steps_left}
use Rattle.nested_method.proofs.method.Working.run.Given as goal

abbrev pub invariant-steps : goal.invariant-steps
invariant-steps g l = ((budget : Budget) → WorksOn (content l.program) budget l.fn.self → WorksOn (content l.program) budget l.self)
    × ((m : Machine) → l.fn.self.state.frame ≡ frame_of (content l.program)
    → IsTabledBy (content l.program) l.fn.self.state m
    → GoesBySteps (content l.program) m l.self.state × (l.self.state.frame ≡ frame_of (content l.program)))
    × ((budget : Budget) → length (content l.program).nodes < nothing → WorksOn (content l.program) budget l.fn.self
    → SolvesOnce (content l.program) l.fn.self.state l.self.state)
    × ((budget : Budget) (first : Program) (edits rest : List Edit) (came : ℕ) → WorksOn (content l.program) budget l.fn.self
    → IsInHistory first edits came (content l.program) rest l.fn.self.state → IsInHistory first edits came (content l.program) rest l.self.state)
    × (l.self.state.counts.since_item ≤ max l.work l.fn.self.state.counts.since_item)

abbrev pub decreases-steps : goal.decreases-steps
decreases-steps g l = steps_left l.self.state
