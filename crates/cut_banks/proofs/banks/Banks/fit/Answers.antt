use Rattle.cut_banks.proofs.Fitting.{few_seen}
use Rattle.cut_banks.proofs.banks.Banks.fit.Goals as goal

pub fit-requires : goal.fit-requires
fit-requires c = few_seen c.args.program.now.nodes.items c.deref.result.now 4294967296 c.deref.ensures.value c.requires

pub fit-requires-2 : goal.fit-requires-2
fit-requires-2 c = few_seen c.args.program.now.nodes.items c.deref-2.result.now 4294967296 c.deref-2.ensures.value c.requires
