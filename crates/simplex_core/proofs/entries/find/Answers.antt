use Rattle.std.proofs.Common.{◌∙◌}
use Rattle.simplex_core.proofs.Rises.{entry_is}
use Rattle.simplex_core.proofs.entries.find.Goals as goal

pub returns : goal.returns
returns c = c.value_in.ensures ∙ entry_is c.args.terms.now c.args.column c.requires
