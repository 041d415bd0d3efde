use Rattle.std.proofs.Common.{refl, sym, ◌∙◌, arith}
use Rattle.scen_defs.specs.Program.{content}
use Rattle.pass_core.specs.declared.state.State.{State}
use Rattle.nested_method.proofs.Ending.{leaves_fewer}
use Rattle.nested_method.proofs.StandLemmas.{not_ripe}
use Rattle.nested_method.proofs.Batches.{few_at, room_of_few, drops_last, ends_last}
use Rattle.nested_method.proofs.Running.{fewer_by}
use Rattle.nested_method.proofs.method.Working.end_one.Goals as goal

pub returns-then-is_ripe-clause-ended : goal.returns-then-is_ripe-clause-ended
returns-then-is_ripe-clause-ended c = λ start first jobs same h.
    let p = content c.args.program.now in
    let s : State = c.args.self.now.state in
    let few = few_at p s h.machine h.desk (c.if-not-has_few.ensures refl) in
    let room = room_of_few h.machine few in
    drops_last p c.args.self.now.tree start first s c.drop_solve.new.self jobs c.args.program.now.keeps c.args.job h room c.args.worker same
    (λ q m n few b. c.drop_solve.ensures.drops q m n few b) few

pub returns-clause-ended : goal.returns-clause-ended
returns-clause-ended c = λ start first jobs same h.
    let p = content c.args.program.now in
    let s : State = c.args.self.now.state in
    let room = room_of_few h.machine (few_at p s h.machine h.desk (c.if-not-has_few.ensures refl)) in
    let left = not_ripe c.args.work _ _ (sym c.is_ripe.ensures ∙ c.if-is_ripe.false) in
    ends_last p c.args.self.now.tree start first s c.end.new.self jobs c.args.program.now.keeps c.args.job h room c.args.worker
    c.parts-begun.result.0 same c.parts-begun.ensures.begun left (record {
      explained = c.in_ok-end.ensures.explained;
      tabled = c.in_ok-end.ensures.tabled;
      solves = c.in_ok-end.ensures.solves;
      made = c.in_ok-end.ensures.made;
    })

pub returns-clause-fewer : goal.returns-clause-fewer
returns-clause-fewer c =
    let s : State = c.args.self.now.state in
    fewer_by s c.end.new.self (leaves_fewer s c.end.new.self (omega (arith, c.allowed-allowed.ensures, c.allowed-allowed.type_inv))
    (not_ripe c.args.work _ _ (sym c.is_ripe.ensures ∙ c.if-is_ripe.false)) c.in_ok-end.ensures.progress)
