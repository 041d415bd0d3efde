-- The index in the set is the place among the names.
use Rattle.std.proofs.Common.{◌∙◌, ap}
use Rattle.smps_words.specs.Names.{place_of}
use Rattle.smps_words.proofs.NameLemmas.{place_is}
use Rattle.smps_words.proofs.names.Names.place.Goals as goal

pub returns-clause-place : goal.returns-clause-place
returns-clause-place c = c.get_index_of.ensures.index ∙ place_is (λ k. k.items) c.self.inside.names.keys c.args.name.now ∙ ap (λ names. place_of names c.args.name.now) c.self.view_is
