use Rattle.std.proofs.Common.{subst}
use Rattle.proved_report.specs.declared.open.Open.{Open}
use Rattle.found_ends.specs.Claims.{IsReason}
use Rattle.pass_core.proofs.Closing.{told_allowed, told_stopped, told_explained}
use Rattle.pass_core.proofs.state.State.found.Goals as goal

pub returns-clause-why : goal.returns-clause-why
returns-clause-why c =
    subst (λ (why : Open). IsReason c.args.self.now.ends why c.in_ok-closed.closed.why) c.why.ensures c.in_ok-closed.ensures.why

pub returns-clause-allowed : goal.returns-clause-allowed
returns-clause-allowed c = λ n e t. told_allowed c.args.self.now.ends c.args.self.now.stop c.args.self.now.budget.solves n c.in_ok-closed.closed.why (returns-clause-why c) e t

pub returns-clause-stopped : goal.returns-clause-stopped
returns-clause-stopped c = λ w e. told_stopped c.args.self.now.ends c.args.self.now.stop c.args.self.now.budget.solves w c.in_ok-closed.closed.why (returns-clause-why c) e

pub returns-clause-explained : goal.returns-clause-explained
returns-clause-explained c = λ p tree h. told_explained p tree c.args.self.now c.in_ok-closed.closed.why (returns-clause-why c) h
