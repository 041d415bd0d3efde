use Rattle.std.proofs.Common.{subst}
use Rattle.scen_defs.specs.Program.{content, node_at}
use Rattle.scen_defs.specs.Valid.{Lives}
use Rattle.cut_defs.specs.Stored.{IsMadeFor}
use Rattle.cut_banks.specs.Banks.{pools_of}
use Rattle.node_lp.specs.declared.task.Task.{Task}
use Rattle.node_lp.specs.declared.solved.Solved.{Solved}
use Rattle.pass_table.specs.Machine.{Machine}
use Rattle.node_data.specs.Counts.{version_of}
use Rattle.node_data.specs.Frames.{children_in}
use Rattle.pass_core.specs.declared.state.State.{State}
use Rattle.pass_core.specs.Made.{run_book, KeepsMade, CutsAreMade}
use Rattle.pass_core.specs.Reasons.{PassesAtCost, solve_halts, IsOfSolve}
use Rattle.pass_core.specs.Tabled.{EndsSolve}
use Rattle.pass_core.specs.Desks.{EndsOn}
use Rattle.pass_core.specs.Turns.{AreUpTo, IsTaskOf, EndsBy, EndsAnyhow}
use Rattle.pass_core.proofs.CutNodes.{answer_about}
use Rattle.pass_core.proofs.Explaining.{on_ok}
use Rattle.pass_core.proofs.Making.{answer_made, pools_made, read_have}
use Rattle.pass_core.proofs.Progressing.{counted_progresses}
use Rattle.pass_core.proofs.Solving.{solved_by}
use Rattle.pass_core.proofs.Standing.{found_stands}
use Rattle.pass_core.proofs.TaskFits.{task_trial}
use Rattle.pass_core.proofs.Desks.{begun_counted, solving, flying_number, solved_lives, ends_on, ends_before, anyhow}
use Rattle.pass_core.proofs.state.State.end.Goals as goal

pub returns-clause-explained : goal.returns-clause-explained
returns-clause-explained c = λ out. c.commit.ensures.explained out.task c.requires.told

pub returns-clause-tabled : goal.returns-clause-tabled
returns-clause-tabled c = λ m frame out begun.
    let p = content c.args.program.now in
    let i = c.args.program.now.keeps in
    let old = c.args.self.now in
    let s : State = record old { counts = c.raise.new.self } in
    let w = c.args.worker in
    let n = c.args.begun.now.node in
    let b = begun_counted p old m w n c.raise.new.self begun in
    let trial = c.args.begun.now.task.trial in
    let flying : Machine = begun.desk.fits.flying in
    on_ok c.commit.result
    (EndsSolve w (EndsBy w trial c.args.solved) s c.commit.new.self flying begun.flight)
    (EndsOn EndsAnyhow p old m flying w n c.commit.new.self)
    (λ e. anyhow (EndsBy 0 trial c.args.solved) p old m flying w n c.commit.new.self
    (ends_before (EndsBy 0 trial c.args.solved) p old c.raise.new.self m flying w n c.commit.new.self
    (ends_on p s m w n i frame b c.commit.new.self trial c.args.solved e)))
    (c.commit.ensures.tabled flying begun.flight
    (solving p s m w n i frame b c.args.begun.now.readings.items out.readings) (flying_number p s m w n i frame b) begun.flown.node
    (answer_about c.args.begun.now.task n c.args.solved out.node c.requires.answer))

pub returns-clause-solves : goal.returns-clause-solves
returns-clause-solves c = λ m walk frame out begun stand.
    let p = content c.args.program.now in
    let i = c.args.program.now.keeps in
    let old = c.args.self.now in
    let s : State = record old { counts = c.raise.new.self } in
    let w = c.args.worker in
    let n = c.args.begun.now.node in
    let b = begun_counted p old m w n c.raise.new.self begun in
    let flying : Machine = begun.desk.fits.flying in
    let t : Task = c.args.begun.now.task in
    let all : Solved = c.args.solved in
    let task : IsTaskOf p old n t = out.stated walk frame in
    let trial : AreUpTo p (node_at p.nodes n).stage t.trial =
    task_trial p old n t i (solved_lives p old m w n i frame begun) frame stand task in
    let about = answer_about t n all out.can.node c.requires.answer in
    solved_by p c.args.tree.now old c.raise.new.self m w n i walk frame b t all c.commit.new.self c.commit.result c.raise.ensures task
    out.can.task.fits stand c.requires.told c.requires.answer
    (c.commit.ensures.tabled flying begun.flight
    (solving p s m w n i frame b c.args.begun.now.readings.items out.can.readings) (flying_number p s m w n i frame b) begun.flown.node about)
    (c.commit.ensures.points p trial (found_stands p s.kind n (version_of s.versions n) t all task.datum c.requires.answer))
    c.commit.ensures.reasons c.commit.ensures.stays
    (c.commit.ensures.left flying begun.flight
    (solving p s m w n i frame b c.args.begun.now.readings.items out.can.readings) (flying_number p s m w n i frame b) begun.flown.node about)
    c.commit.ensures.anyhow

pub returns-clause-progress : goal.returns-clause-progress
returns-clause-progress c =
    let s = c.args.self.now in
    let all = c.args.solved in
    let counts = c.raise.new.self in
    let n = c.args.begun.now.node in
    let trial = c.args.begun.now.task.trial in
    counted_progresses c.commit.result
    (IsOfSolve counts.all s.budget.solves all (solve_halts s.kind s.banks n trial all
    (PassesAtCost (content c.args.program.now) c.args.tree.now s.lasts.nodes.items n trial all))) s
    c.commit.new.self counts
    c.raise.ensures c.commit.ensures.reasons c.commit.ensures.stays

pub returns-clause-made : goal.returns-clause-made
returns-clause-made c = λ b walk frame out right h.
    let p = content c.args.program.now in
    let i = c.args.program.now.keeps in
    let s = c.args.self.now in
    let n = c.args.begun.now.node in
    let t : Task = c.args.begun.now.task in
    let lives : Lives p n = subst (Lives p) out.can.node out.can.task.datum.lives in
    let task : IsTaskOf p s n t = out.stated walk frame in
    on_ok c.commit.result (KeepsMade b s c.commit.new.self) (CutsAreMade b c.commit.new.self) (λ k. k.1 h)
    (c.commit.ensures.made b
    (answer_made p s n t b i lives right task
    (read_have (IsMadeFor (run_book s.kind b)) (pools_of s.kind s.banks) (children_in s.frame n) t.children.items task.cuts (pools_made s.kind b s.banks h.0))
    c.args.solved c.requires.told c.requires.answer))
