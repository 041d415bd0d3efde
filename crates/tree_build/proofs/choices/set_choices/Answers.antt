use Rattle.std.proofs.Common.{◌∙◌, ◌+◌, ◌++◌, ap, sym, map, drop, get_or}
use Rattle.stoch_defs.specs.Random.{block_content}
use Rattle.time_defs.specs.Periods.{stages}
use Rattle.tree_build.specs.Values.{values_content, with_sets}
use Rattle.tree_build.specs.Choices.{case_at, sets_of}
use Rattle.tree_build.proofs.WheelLemmas.{no_wheel}
use Rattle.tree_build.proofs.ChoiceLemmas.{sets_read, sets_past, with_append}
use Rattle.tree_build.proofs.choices.set_choices.Goals as goal
use Rattle.tree_build.proofs.choices.set_choices.Goals.{then-place-digits+in_ok-set_all+in_ok-set_all-2, else-place-digits}

pub loop-place-preserved : goal.loop-place-preserved
loop-place-preserved c =
    let i = c.loop-place.place in
    let core = c.args.core.now in
    let p = stages c.args.periods.now in
    let stage = c.args.stage in
    let blocks = map block_content c.args.blocks.now in
    let wheels = c.args.wheels.now in
    let digits = c.args.digits.now in
    let old = values_content c.loop-place.values in
    let rest = sets_of blocks (drop (i + 1) wheels) (drop (i + 1) digits) in
    elim c.if-place-digits.branch [
      | then-place-digits+in_ok-set_all+in_ok-set_all-2 w ↦
          (let first = (case_at blocks (get_or wheels i no_wheel).block 0).sets in
          let own = (case_at blocks (get_or wheels i no_wheel).block (get_or digits i 0)).sets in
          ap (λ v. with_sets core p stage (values_content v) rest) w.values-is
          ∙ ap (λ d. with_sets core p stage d rest)
          (w.in_ok-set_all-2.ensures ∙ ap (λ sets. with_sets core p stage (values_content w.set_all.new.values) sets) w.sets_at-own.ensures
          ∙ ap (λ d. with_sets core p stage d own) (w.in_ok-set_all.ensures ∙ ap (λ sets. with_sets core p stage old sets) w.sets_at-first.ensures)
          ∙ sym (with_append core p stage old first own))
          ∙ sym (with_append core p stage old (first ++ own) rest)
          ∙ sym (ap (λ sets. with_sets core p stage old sets) (sets_read blocks wheels digits i c.loop-place-test.true w.if-place-digits.true)) ∙ c.loop-place.invariant)
      | else-place-digits w ↦
          ap (λ v. with_sets core p stage (values_content v) rest) w.values-is
          ∙ ap (λ sets. with_sets core p stage old sets) (sets_past blocks wheels digits i w.if-place-digits.false) ∙ c.loop-place.invariant
    ]
