-- A report more, or no item more.
use Rattle.std.proofs.Common.{◌≡◌, List, [], ◌∷◌, ◌++◌, sym, subst}
use Rattle.scen_defs.specs.Program.{content}
use Rattle.edit_defs.specs.declared.edit.Item.{Item}
use Rattle.edit_script.specs.Allowed.{AreAllowed}
use Rattle.edit_script.specs.Script.{report_item}
use Rattle.edit_script.proofs.Leading.{leads_report}
use Rattle.edit_script.proofs.draft.Draft.finish.Goals as goal
use Rattle.edit_script.proofs.draft.Draft.finish.Goals.{then-not-self+in_ok-push, else-not-self}

pub returns-clause-allowed : goal.returns-clause-allowed
returns-clause-allowed c = elim c.if-not-self.branch [
  | then-not-self+in_ok-push w ↦ (λ start l.
      let is : c.if-not-self.items.items ≡ c.args.self.items.items ++ report_item ∷ [] = (let a = w.items-is in let b = w.in_ok-push.ensures.items in cc) in
      subst (λ (items : List Item). AreAllowed start items) (sym is) (leads_report start (content c.args.self.program) c.args.self.items.items l).allowed)
  | else-not-self w ↦ (λ start l.
      let is : c.if-not-self.items.items ≡ c.args.self.items.items = (let a = w.items-is in cc) in
      subst (λ (items : List Item). AreAllowed start items) (sym is) l.allowed)
]
