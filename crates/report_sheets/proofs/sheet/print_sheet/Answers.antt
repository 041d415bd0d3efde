use Rattle.std.proofs.lemmas.Result.{IfOk-weaker, IfErr-weaker}
use Rattle.scen_defs.specs.Program.{content}
use Rattle.report_sheets.specs.Sheets.{HoldsAsAsked, TellsWhyNot}
use Rattle.report_sheets.proofs.SheetLemmas.{shows, tells}
use Rattle.report_sheets.proofs.sheet.print_sheet.Goals as goal

pub returns-in-Ok-clause-shown : goal.returns-in-Ok-clause-shown
returns-in-Ok-clause-shown c = IfOk-weaker c.tested.result _
    (λ page. HoldsAsAsked (content c.args.program.now) c.args.script.now.items.items c.args.reports.now c.args.sheet.number)
    (λ page h. shows (content c.args.program.now) _ c.args.script.now.items.items c.args.reports.now c.args.sheet.number c.in-Some.place
    c.index-reports-place.result c.in-Some.ensures.asked c.index-reports-place.is c.in-Ok.ensures h)
    c.tested.ensures.shown

pub returns-in-Ok-clause-why : goal.returns-in-Ok-clause-why
returns-in-Ok-clause-why c = IfErr-weaker c.tested.result _
    (TellsWhyNot (content c.args.program.now) c.args.script.now.items.items c.args.reports.now c.args.sheet.number)
    (λ why h. tells (content c.args.program.now) _ c.args.script.now.items.items c.args.reports.now c.args.sheet.number c.in-Some.place
    c.index-reports-place.result c.in-Some.ensures.asked c.index-reports-place.is c.in-Ok.ensures why h)
    c.tested.ensures.why
