use Rattle.std.proofs.Common.{List, [], refl, sym, subst}
use Rattle.std.proofs.lemmas.List.{append-nil}
use Rattle.scen_defs.specs.Program.{content}
use Rattle.edit_defs.specs.declared.edit.Item.{Item}
use Rattle.script_checks.specs.declared.single.Checked.{Checked}
use Rattle.script_checks.specs.Checked.{AreChecked}
use Rattle.script_checks.proofs.CheckLemmas.{none_left}
use Rattle.script_checks.proofs.checks.check_script.Goals as goal

pub returns : goal.returns
returns c =
    let ended : AreChecked (content c.loop-rest.program) c.loop-rest.rest.now c.loop-rest.waiting.now [] =
    subst (λ (items : List Item). AreChecked (content c.loop-rest.program) items c.loop-rest.waiting.now []) (sym (none_left c.loop-rest.rest.now c.in_default.len_below)) refl in
    subst (λ (checks : List Checked). AreChecked (content c.args.program.now) c.args.script.now.items.items c.args.reports.now checks) (append-nil c.loop-rest.checks.items)
    (c.loop-rest.invariant.2 [] ended)
