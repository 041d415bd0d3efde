use Rattle.found_ends.proofs.Reasons.{closed_reason}
use Rattle.found_ends.proofs.claims.claimed.Goals as goal

pub returns-clause-why : goal.returns-clause-why
returns-clause-why c = closed_reason c.args.case c.args.ends.now c.args.why c.in_ok-closed.closed c.in_ok-closed.ensures
