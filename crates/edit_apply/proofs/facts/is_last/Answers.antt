use Rattle.std.proofs.Common.{leb, ap, sym}
use Rattle.scen_defs.proofs.Contents.{scenarios_length}
use Rattle.edit_apply.proofs.facts.is_last.Goals as goal

pub returns : goal.returns
returns c = ap (λ n. leb n 1) (sym (scenarios_length c.args.scenarios.now))
