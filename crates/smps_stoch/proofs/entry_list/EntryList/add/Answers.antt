-- An entry that isn't there goes last.
use Rattle.smps_stoch.proofs.EntryLemmas.{added}
use Rattle.smps_stoch.proofs.entry_list.EntryList.add.Goals as goal

pub returns : goal.returns
returns c = added c.self.inside.entries.keys c.insert.new.self.keys c.args.self.now c.args.entry c.in_ok-insert.ensures.keys c.self.view_is c.requires
