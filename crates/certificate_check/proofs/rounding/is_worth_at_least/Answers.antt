use Rattle.std.proofs.Common.{Ok, sym, ap, ◌∙◌}
use Rattle.rationals.specs.Rational.{le_trans_ℚ, at_most_true}
use Rattle.scen_defs.proofs.Duality.{weak_duality}
use Rattle.scen_defs.proofs.Valid.{programs_are_trees}
use Rattle.scen_defs.specs.Program.{content}
use Rattle.scen_defs.specs.Values.{at}
use Rattle.report_defs.specs.Seen.{seen}
use Rattle.rounded_sums.specs.declared.side.Side.TheVariants.{Below}
use Rattle.rounded_ends.specs.Worths.{IsWorthAll}
use Rattle.certificate_check.proofs.HoldsLemmas.{of_some}
use Rattle.certificate_check.proofs.rounding.is_worth_at_least.Goals as goal

pub returns-in-Ok-Some : goal.returns-in-Ok-Some
returns-in-Ok-Some c = λ h.
    let found = of_some c.worth_beside.result (IsWorthAll Below (seen c.args.program.now) (at c.args.dual.now)) c.in-Ok-Some.worth (c.in-Ok-Some.is ∙ ap Ok c.in-Ok-Some.field-0-is) c.worth_beside.ensures in
    let worth = le_trans_ℚ (at_most_true c.args.lower c.in-Ok-Some.worth (sym c.is_at_most.ensures ∙ h)) found.beside in
    record {
      good = found.good;
      worth = worth;
      bound = λ x feasible. le_trans_ℚ worth (weak_duality (seen c.args.program.now) x (at c.args.dual.now)
          (programs_are_trees (content c.args.program.now) c.args.program.now.keeps).0 feasible found.good);
    }
