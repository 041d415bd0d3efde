use Rattle.std.proofs.Common.{rules}
use Rattle.smps_io.proofs.memory_shelf.NeverFailsShelf.fetch.Goals as goal

pub returns-then-is_err-clause-once : goal.returns-then-is_err-clause-once
returns-then-is_err-clause-once g c = (0, search rules)

pub returns-clause-once : goal.returns-clause-once
returns-clause-once g c = (1, search rules)
