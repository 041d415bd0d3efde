use Rattle.std.proofs.Common.{sym, subst}
use Rattle.std.proofs.lemmas.Result.{IfOk-weaker}
use Rattle.scen_defs.proofs.Valid.{programs_are_trees}
use Rattle.scen_defs.specs.Fits.{ListsHaveNames}
use Rattle.scen_defs.specs.Program.{content}
use Rattle.scen_defs.specs.declared.report.Place.TheVariants.{Dual}
use Rattle.report_defs.specs.Seen.{seen}
use Rattle.report_defs.specs.Truth.{IsTrue, HasCounts}
use Rattle.proved_report.specs.declared.claim.Claim.TheVariants.{Ends, Nowhere, Endless}
use Rattle.proved_report.specs.Open.{given}
use Rattle.proved_report.specs.Reports.{IsFilled, IsClaimed}
use Rattle.proved_report.proofs.ReportLemmas.{counted}
use Rattle.proved_report.proofs.ClaimLemmas.{claimed_true, claimed_names}
use Rattle.proved_report.proofs.EqualLemmas.{claimed_equal}
use Rattle.proved_report.proofs.reports.report.Goals as goal

pub returns-in-Ends-clause-counts : goal.returns-in-Ends-clause-counts
returns-in-Ends-clause-counts c =
    IfOk-weaker c.ends.result (IsFilled c.args.program.now c.args.number) (HasCounts (seen c.args.program.now))
    (λ report h. counted c.args.program.now c.args.number report h) c.ends.ensures.filled

pub returns-in-Ends-clause-names : goal.returns-in-Ends-clause-names
returns-in-Ends-clause-names c =
    IfOk-weaker c.ends.result (IsClaimed c.args.program.now c.args.number c.args.place c.args.why c.args.solves (Ends c.in-Ends.policy c.in-Ends.dual)) (ListsHaveNames c.args.program.now)
    (λ report h. subst (ListsHaveNames c.args.program.now) (sym h.is) (claimed_names c.args.program.now c.args.number report.nodes report.scenarios c.args.place c.args.why c.args.solves h.rounds (Ends c.in-Ends.policy c.in-Ends.dual) h.are)) c.ends.ensures.exact

pub returns-in-Ends-clause-truth : goal.returns-in-Ends-clause-truth
returns-in-Ends-clause-truth c =
    let tree = (programs_are_trees (content c.args.program.now) c.args.program.now.keeps).0 in
    IfOk-weaker c.ends.result (IsClaimed c.args.program.now c.args.number c.args.place c.args.why c.args.solves (Ends c.in-Ends.policy c.in-Ends.dual)) (IsTrue (seen c.args.program.now) (given c.args.why c.args.solves))
    (λ report h. subst (IsTrue (seen c.args.program.now) (given c.args.why c.args.solves)) (sym h.is) (claimed_true c.args.program.now c.args.number report.nodes report.scenarios c.args.place c.args.why c.args.solves h.rounds (Ends c.in-Ends.policy c.in-Ends.dual) h.are tree)) c.ends.ensures.exact

pub returns-in-Nowhere-clause-counts : goal.returns-in-Nowhere-clause-counts
returns-in-Nowhere-clause-counts c =
    IfOk-weaker c.nowhere.result (IsFilled c.args.program.now c.args.number) (HasCounts (seen c.args.program.now))
    (λ report h. counted c.args.program.now c.args.number report h) c.nowhere.ensures.filled

pub returns-in-Nowhere-clause-names : goal.returns-in-Nowhere-clause-names
returns-in-Nowhere-clause-names c =
    IfOk-weaker c.nowhere.result (IsClaimed c.args.program.now c.args.number Dual c.args.why c.args.solves (Nowhere c.in-Nowhere.ray)) (ListsHaveNames c.args.program.now)
    (λ report h. subst (ListsHaveNames c.args.program.now) (sym h.is) (claimed_names c.args.program.now c.args.number report.nodes report.scenarios Dual c.args.why c.args.solves h.rounds (Nowhere c.in-Nowhere.ray) h.are)) c.nowhere.ensures.exact

pub returns-in-Nowhere-clause-truth : goal.returns-in-Nowhere-clause-truth
returns-in-Nowhere-clause-truth c =
    let tree = (programs_are_trees (content c.args.program.now) c.args.program.now.keeps).0 in
    IfOk-weaker c.nowhere.result (IsClaimed c.args.program.now c.args.number Dual c.args.why c.args.solves (Nowhere c.in-Nowhere.ray)) (IsTrue (seen c.args.program.now) (given c.args.why c.args.solves))
    (λ report h. subst (IsTrue (seen c.args.program.now) (given c.args.why c.args.solves)) (sym h.is) (claimed_true c.args.program.now c.args.number report.nodes report.scenarios Dual c.args.why c.args.solves h.rounds (Nowhere c.in-Nowhere.ray) h.are tree)) c.nowhere.ensures.exact

pub returns-in-Endless-clause-counts : goal.returns-in-Endless-clause-counts
returns-in-Endless-clause-counts c =
    IfOk-weaker c.endless.result (IsFilled c.args.program.now c.args.number) (HasCounts (seen c.args.program.now))
    (λ report h. counted c.args.program.now c.args.number report h) c.endless.ensures.filled

pub returns-in-Endless-clause-names : goal.returns-in-Endless-clause-names
returns-in-Endless-clause-names c =
    IfOk-weaker c.endless.result (IsClaimed c.args.program.now c.args.number c.args.place c.args.why c.args.solves (Endless c.in-Endless.policy c.in-Endless.direction)) (ListsHaveNames c.args.program.now)
    (λ report h. subst (ListsHaveNames c.args.program.now) (sym h.is) (claimed_names c.args.program.now c.args.number report.nodes report.scenarios c.args.place c.args.why c.args.solves h.rounds (Endless c.in-Endless.policy c.in-Endless.direction) h.are)) c.endless.ensures.exact

pub returns-in-Endless-clause-truth : goal.returns-in-Endless-clause-truth
returns-in-Endless-clause-truth c =
    let tree = (programs_are_trees (content c.args.program.now) c.args.program.now.keeps).0 in
    IfOk-weaker c.endless.result (IsClaimed c.args.program.now c.args.number c.args.place c.args.why c.args.solves (Endless c.in-Endless.policy c.in-Endless.direction)) (IsTrue (seen c.args.program.now) (given c.args.why c.args.solves))
    (λ report h. subst (IsTrue (seen c.args.program.now) (given c.args.why c.args.solves)) (sym h.is) (claimed_true c.args.program.now c.args.number report.nodes report.scenarios c.args.place c.args.why c.args.solves h.rounds (Endless c.in-Endless.policy c.in-Endless.direction) h.are tree)) c.endless.ensures.exact

pub returns-in-Nowhere-clause-exact : goal.returns-in-Nowhere-clause-exact
returns-in-Nowhere-clause-exact c =
    IfOk-weaker c.nowhere.result (IsClaimed c.args.program.now c.args.number Dual c.args.why c.args.solves (Nowhere c.in-Nowhere.ray)) (IsClaimed c.args.program.now c.args.number c.args.place c.args.why c.args.solves c.args.claim)
    (λ report h. rw c.in-Nowhere.is (record { rounds = h.rounds; are = h.are; is = h.is })) c.nowhere.ensures.exact

pub returns-in-Ends-clause-equal : goal.returns-in-Ends-clause-equal
returns-in-Ends-clause-equal c = claimed_equal c.args.program.now c.args.number c.args.place c.args.why c.args.solves
    (Ends c.in-Ends.policy c.in-Ends.dual) c.ends.result c.ends.ensures.exact

pub returns-in-Nowhere-clause-equal : goal.returns-in-Nowhere-clause-equal
returns-in-Nowhere-clause-equal c = claimed_equal c.args.program.now c.args.number Dual c.args.why c.args.solves
    (Nowhere c.in-Nowhere.ray) c.nowhere.result c.nowhere.ensures.exact

pub returns-in-Endless-clause-equal : goal.returns-in-Endless-clause-equal
returns-in-Endless-clause-equal c = claimed_equal c.args.program.now c.args.number c.args.place c.args.why c.args.solves
    (Endless c.in-Endless.policy c.in-Endless.direction) c.endless.result c.endless.ensures.exact
