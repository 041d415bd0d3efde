-- A report changes no program.
use Rattle.std.proofs.Common.{List, sym, subst}
use Rattle.scen_defs.specs.Program.{content}
use Rattle.edit_defs.specs.declared.edit.Item.{Item}
use Rattle.edit_script.specs.Drafts.{Leads}
use Rattle.edit_script.proofs.Leading.{leads_report}
use Rattle.edit_script.proofs.draft.Draft.report.Goals as goal

pub returns-clause-leads : goal.returns-clause-leads
returns-clause-leads c =
    let old = c.args.self.now in
    λ start l. subst (λ (items : List Item). Leads start items (content old.program)) (sym c.in_ok-push.ensures.items) (leads_report start (content old.program) old.items.items l)
