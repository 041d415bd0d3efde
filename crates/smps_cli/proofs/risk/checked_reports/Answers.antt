use Rattle.std.proofs.Common.{◌≡◌, Bool, List, not, ap, refl, sym, subst, ◌∙◌}
use Rattle.scen_defs.specs.Program.{content}
use Rattle.edit_defs.specs.declared.edit.Item.{Item}
use Rattle.edit_script.specs.Allowed.{AreAllowed}
use Rattle.script_checks.specs.declared.single.Checked.{Checked}
use Rattle.script_checks.specs.Checked.{AreChecked, all_hold}
use Rattle.exit_status.specs.Findings.{open_status}
use Rattle.smps_cli.proofs.risk.checked_reports.Goals as goal

pub check_script-requires : goal.check_script-requires
check_script-requires c = record { allowed = subst (λ (items : List Item). AreAllowed (content c.args.made.now) items) (sym c.in_ok-script.ensures) tt }

pub returns : goal.returns
returns c =
    let held : c.deref.result.now ≡ c.in_ok-checks.checks.items = c.deref.ensures.value in
    record {
      stated = c.requires;
      checks = c.in_ok-checks.checks.items;
      checked = subst (λ (items : List Item). AreChecked (content c.args.made.now) items c.args.reports.now c.in_ok-checks.checks.items)
          c.in_ok-script.ensures c.in_ok-checks.ensures;
      text = refl;
      ends = c.open_status.ensures ∙ ap (λ (holds : Bool). open_status (not holds)) c.all_hold.ensures
          ∙ ap (λ (checks : List Checked). open_status (not (all_hold checks))) held;
    }
