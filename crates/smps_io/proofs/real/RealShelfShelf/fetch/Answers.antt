use Rattle.std.proofs.Common.{rules}
use Rattle.smps_io.proofs.real.RealShelfShelf.fetch.Goals as goal

pub returns-then-is_err-clause-once : goal.returns-then-is_err-clause-once
returns-then-is_err-clause-once g c = (0, search rules)

pub returns-in_default-clause-once : goal.returns-in_default-clause-once
returns-in_default-clause-once g c = (1, search rules)

pub returns-in_default-2-clause-once : goal.returns-in_default-2-clause-once
returns-in_default-2-clause-once g c = (1, search rules)

pub returns-in-Err-Failed-clause-once : goal.returns-in-Err-Failed-clause-once
returns-in-Err-Failed-clause-once g c = (1, search rules)
