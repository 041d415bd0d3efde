-- A name that isn't there goes last.
use Rattle.std.proofs.Common.{◌∙◌, ◌∷◌, ◌++◌, [], ap}
use Rattle.smps_words.specs.Names.{place_of}
use Rattle.smps_words.proofs.NameLemmas.{added}
use Rattle.smps_words.proofs.names.Names.add.Goals as goal

pub returns-clause-ok : goal.returns-clause-ok
returns-clause-ok c = added (λ k. k.items) c.self.inside.names.keys c.insert.new.self.keys c.in_ok-name.name c.args.self.now c.in_ok-insert.ensures.keys c.self.view_is
    (ap (place_of c.args.self.now) c.in_ok-name.ensures.items ∙ c.requires) ∙ ap (λ last. c.args.self.now ++ last ∷ []) c.in_ok-name.ensures.items
