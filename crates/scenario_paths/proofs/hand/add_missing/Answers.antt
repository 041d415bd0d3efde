-- A value that is there stays; one that is missing is set.
use Rattle.std.proofs.Common.{◌∙◌, ◌+◌, ap, sym, drop}
use Rattle.stoch_defs.specs.Stated.{value_set}
use Rattle.scenario_paths.specs.Paths.{set_first}
use Rattle.scenario_paths.proofs.HandLemmas.{missing_step, there_step}
use Rattle.scenario_paths.proofs.hand.add_missing.Goals as goal
use Rattle.scenario_paths.proofs.hand.add_missing.Goals.{in-Some, in-None+in_ok-insert-in-None}

pub loop-set-preserved : goal.loop-set-preserved
loop-set-preserved c = λ e.
    elim c.match-get.branch [
      | in-Some w ↦ ap (λ m. set_first (value_set m.entries e) (value_set (drop (c.loop-set.set-index + 1) c.args.sets.now) e)) w.values-is
          ∙ there_step c.args.sets.now c.loop-set.values.entries c.loop-set.set-index c.set-item.result _ c.loop-set-test.true c.set-item.is (sym w.in-Some.ensures.value) e
          ∙ c.loop-set.invariant e
      | in-None+in_ok-insert-in-None w ↦ ap (λ m. set_first (value_set m.entries e) (value_set (drop (c.loop-set.set-index + 1) c.args.sets.now) e)) w.values-is
          ∙ missing_step c.args.sets.now c.loop-set.values.entries w.insert.new.self.entries c.loop-set.set-index c.set-item.result c.loop-set-test.true c.set-item.is (sym w.in-None.ensures.value) w.in_ok-insert-in-None.ensures.updates.0 e
          ∙ c.loop-set.invariant e
    ]
