-- A further scenario leaves the paths at hand.
use Rattle.std.proofs.Common.{◌∙◌, ap, map}
use Rattle.std.proofs.lemmas.List.{map-append}
use Rattle.stoch_defs.specs.Step.{node_of}
use Rattle.scenario_paths.specs.Paths.{node_stated}
use Rattle.scenario_paths.proofs.HandsLemmas.{all_pushed}
use Rattle.scenario_paths.proofs.paths.Paths.push.Goals as goal

pub invariant_of-self-2 : goal.invariant_of-self-2
invariant_of-self-2 c =
    let before = c.self.inside.scenarios.items in
    all_pushed (map node_stated before) (map node_stated c.push.new.self.items) (node_of c.args.parent c.args.sets.items)
    c.self.inside.hands (ap (map node_stated) c.in_ok-push.ensures.items ∙ map-append node_stated before _) c.self.invariant
