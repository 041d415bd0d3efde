use Rattle.std.proofs.lemmas.Bool.Decides.{same_from_decides}
use Rattle.report_reader.specs.Lines.{all_before}
use Rattle.report_reader.proofs.OrderLemmas.{all_before_means}
use Rattle.report_reader.proofs.lists.ends_before.Goals as goal

pub returns-clause-test : goal.returns-clause-test
returns-clause-test c = same_from_decides _ (all_before c.args.node c.args.index c.args.list.now) c.ends_before.ensures (all_before_means c.args.node c.args.index c.args.list.now)
