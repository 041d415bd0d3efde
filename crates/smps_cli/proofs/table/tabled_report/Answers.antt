use Rattle.std.proofs.Common.{Ok, Err, refl}
use Rattle.std.proofs.lemmas.Result.{IfOk-weaker}
use Rattle.input_files.specs.Unfetched.{texts_view}
use Rattle.smps_cli.specs.Found.{found_text}
use Rattle.smps_cli.specs.Tables.{IsTable}
use Rattle.smps_cli.proofs.table.tabled_report.Goals as goal

pub returns-in-Ok : goal.returns-in-Ok
returns-in-Ok c = record {
  program = c.args.input.now.program;
  means = c.requires.input.means;
  items = c.args.input.now.script.items.items;
  script = c.requires.input.script;
  reports = c.args.reports.now;
  stated = c.requires.stated;
  end = Ok c.in-Ok.page.items;
  told = c.in-Ok.ensures.shown;
  comes = (refl, refl);
}

pub returns-in-Err : goal.returns-in-Err
returns-in-Err c = IfOk-weaker c.unshown.result _ (λ answer. IsTable c.args.sheet.number (texts_view c.args.texts.now) answer.status (found_text answer.found))
    (λ answer h. record {
      program = c.args.input.now.program;
      means = c.requires.input.means;
      items = c.args.input.now.script.items.items;
      script = c.requires.input.script;
      reports = c.args.reports.now;
      stated = c.requires.stated;
      end = Err c.in-Err.why;
      told = c.in-Err.ensures.why;
      comes = h;
    })
    c.unshown.ensures
