use Rattle.std.proofs.Common.{rules, arith}
use Rattle.std.proofs.lemmas.Grind.{common_steps}
use Rattle.smps_io.proofs.memory_shelf.MemoryShelfShelf.fetch.Goals as goal

pub returns-then-is_err-clause-once : goal.returns-then-is_err-clause-once
returns-then-is_err-clause-once g c = (0, search rules)

pub returns-then-contains-clause-once : goal.returns-then-contains-clause-once
returns-then-contains-clause-once g c = (1, search rules)

pub returns-in_default-clause-once : goal.returns-in_default-clause-once
returns-in_default-clause-once g c = (1, search rules)

pub returns-clause-once : goal.returns-clause-once
returns-clause-once g c = (1, search rules)

pub returns-then-contains-clause-failed : goal.returns-then-contains-clause-failed
returns-then-contains-clause-failed g c = grind (arith, common_steps)

pub returns-in_default-clause-failed : goal.returns-in_default-clause-failed
returns-in_default-clause-failed g c = grind (arith, common_steps)

pub returns-clause-failed : goal.returns-clause-failed
returns-clause-failed g c = grind (arith, common_steps)
