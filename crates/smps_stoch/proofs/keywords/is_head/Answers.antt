-- The word is the text's.
use Rattle.std.proofs.Common.{◌∙◌, ap}
use Rattle.smps_words.specs.Names.{same_name}
use Rattle.smps_stoch.proofs.keywords.is_head.Goals as goal

pub returns : goal.returns
returns c = c.eq.ensures ∙ ap (same_name c.args.first.now) c.as_slice.ensures
