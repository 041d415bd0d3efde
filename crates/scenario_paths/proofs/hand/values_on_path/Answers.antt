-- What a child sets goes before its parent's path.
use Rattle.std.proofs.Common.{◌∙◌, ap, map, sym}
use Rattle.stoch_defs.specs.Stated.{value_set}
use Rattle.scenario_paths.specs.Paths.{set_first, node_stated}
use Rattle.scenario_paths.proofs.HandLemmas.{child_step, at_map, within_map, same_option}
use Rattle.scenario_paths.proofs.hand.values_on_path.Goals as goal

pub returns-then-eq : goal.returns-then-eq
returns-then-eq c =
    child_step (map node_stated c.args.scenarios.now) c.args.number (node_stated c.index-scenarios-number.result) c.args.hand.at c.args.hand.values.entries c.add_sets.new.values.entries
    (within_map c.args.scenarios.now c.args.number c.requires.within) (at_map c.args.scenarios.now c.args.number c.index-scenarios-number.result c.requires.within c.index-scenarios-number.is)
    (sym c.earlier.ensures ∙ same_option c.earlier.result c.args.hand.at (sym c.eq.ensures ∙ c.if-eq.true)) c.requires.known.values (λ e. c.in_ok-add_sets.ensures e ∙ ap (λ sets. set_first (value_set sets e) (value_set c.args.hand.values.entries e)) c.deref.ensures.value)
