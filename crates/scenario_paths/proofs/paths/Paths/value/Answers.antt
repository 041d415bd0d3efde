-- What the map finds is what is set.
use Rattle.std.proofs.Common.{◌∙◌, Option, Some, ℕ, ap, sym, List, map}
use Rattle.stoch_defs.specs.Stated.{Node, value_set, path_among, paths_of}
use Rattle.scenario_paths.specs.Paths.{node_stated}
use Rattle.scenario_paths.proofs.HandLemmas.{lookup_is}
use Rattle.scenario_paths.proofs.paths.Paths.value.Goals as goal

pub returns-clause-value : goal.returns-clause-value
returns-clause-value c =
    c.copied.ensures ∙ c.get.ensures.value ∙ lookup_is c.bring.new.self.present.values.entries c.args.entry
    ∙ c.in_ok-bring.ensures.here c.args.entry
    ∙ ap (λ all. value_set (path_among (paths_of (map node_stated all)) (Some c.in-Some.number)) c.args.entry) c.deref.ensures.value
    ∙ ap (λ (nodes : List Node). value_set (path_among (paths_of nodes) (Some c.in-Some.number)) c.args.entry) c.self.view_is
    ∙ ap (λ (at : Option ℕ). value_set (path_among (paths_of c.args.self.now) at) c.args.entry) (sym c.in-Some.is)
