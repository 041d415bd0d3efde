use Rattle.std.proofs.Common.{rules, Result, sym, subst}
use Rattle.std.proofs.lemmas.Result.{IfOk-weaker}
use Rattle.scen_defs.specs.Program.{Program, content}
use Rattle.input_files.specs.Unfetched.{texts_view}
use Rattle.tail_risk.specs.TailWalk.{tail_end}
use Rattle.tail_risk.specs.declared.fault.TailFault.{TailFault}
use Rattle.smps_cli.specs.Found.{found_text}
use Rattle.smps_cli.specs.Risks.{RiskComes, PrintsRisk, IsRiskSolve}
use Rattle.smps_cli.proofs.RiskPrograms.{room_of_columns, room_of_rows, risk_program}
use Rattle.smps_cli.proofs.RiskLemmas.{risk_refused}
use Rattle.smps_cli.proofs.risk.solved_program.Goals as goal

pub tail_program-requires-clause-level : goal.tail_program-requires-clause-level
tail_program-requires-clause-level g c = c.requires.range.below

pub tail_program-requires-clause-columns : goal.tail_program-requires-clause-columns
tail_program-requires-clause-columns g c = room_of_columns (texts_view c.args.texts.now) (content c.args.program.now) c.requires.means

pub tail_program-requires-clause-rows : goal.tail_program-requires-clause-rows
tail_program-requires-clause-rows g c = room_of_rows (texts_view c.args.texts.now) (content c.args.program.now) c.requires.means

pub solved_made-requires : goal.solved_made-requires
solved_made-requires g c = (
  search rules,
  risk_program c.args.measure.now (texts_view c.args.texts.now) (content c.args.program.now) (content c.in-Ok.made)
      c.requires.range c.requires.means c.args.program.now.keeps c.in-Ok.ensures.program,
)

pub returns-in-Ok : goal.returns-in-Ok
returns-in-Ok g c = IfOk-weaker c.solved_made.result _ (λ answer. IsRiskSolve c.args.measure.now c.args.budget (texts_view c.args.texts.now) answer.status (found_text answer.found))
    (λ answer h. record {
      read = content c.args.program.now;
      means = c.requires.means;
      comes = subst (λ (end : Result Program TailFault). RiskComes (PrintsRisk c.args.measure.now c.args.budget (content c.args.program.now)) end answer.status (found_text answer.found))
          (sym c.in-Ok.ensures.end) h;
    })
    c.solved_made.ensures

pub returns-in-Err : goal.returns-in-Err
returns-in-Err g c = IfOk-weaker c.unmade.result _ (λ answer. IsRiskSolve c.args.measure.now c.args.budget (texts_view c.args.texts.now) answer.status (found_text answer.found))
    (λ answer h. record {
      read = content c.args.program.now;
      means = c.requires.means;
      comes = risk_refused (PrintsRisk c.args.measure.now c.args.budget (content c.args.program.now)) (tail_end (content c.args.program.now) c.args.measure.now.level c.args.measure.now.weight)
          c.in-Err.fault answer.status (found_text answer.found) c.in-Err.ensures.end h;
    })
    c.unmade.ensures
