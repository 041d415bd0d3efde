-- The index in the set is the place among the entries.
use Rattle.std.proofs.Common.{◌∙◌, ap}
use Rattle.stoch_defs.specs.Stated.{place_of_entry}
use Rattle.smps_stoch.proofs.EntryLemmas.{place_is}
use Rattle.smps_stoch.proofs.entry_list.EntryList.place.Goals as goal

pub returns : goal.returns
returns c = c.get_index_of.ensures.index ∙ place_is c.self.inside.entries.keys c.args.entry ∙ ap (λ entries. place_of_entry entries c.args.entry) c.self.view_is
