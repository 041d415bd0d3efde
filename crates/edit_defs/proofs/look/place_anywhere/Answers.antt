use Rattle.std.proofs.Common.{sym, ap, ◌∙◌}
use Rattle.smps_words.specs.Names.{same_name}
use Rattle.edit_defs.proofs.Finds.{name_there}
use Rattle.edit_defs.proofs.look.place_anywhere.Goals as goal

pub returns-then-eq-clause-here : goal.returns-then-eq-clause-here
returns-then-eq-clause-here c = name_there c.args.name.now c.args.scenarios.now c.loop-place.place c.index-scenarios-place.result c.loop-place-test.true c.index-scenarios-place.is
    ∙ ap (same_name c.args.name.now) (sym c.as_bytes.ensures) ∙ sym c.eq.ensures ∙ c.if-eq.true
