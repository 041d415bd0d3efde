use Rattle.std.proofs.Common.{◌≡◌, Bool, List, not, ap, refl, ◌∙◌}
use Rattle.script_checks.specs.declared.single.Checked.{Checked}
use Rattle.script_checks.specs.Checked.{all_hold}
use Rattle.exit_status.specs.Findings.{open_status}
use Rattle.smps_cli.proofs.check.checked_reports.Goals as goal

pub returns : goal.returns
returns c =
    let held : c.deref.result.now ≡ c.in_ok-checks.checks.items = c.deref.ensures.value in
    record {
      program = c.args.input.now.program;
      means = c.requires.input.means;
      items = c.args.input.now.script.items.items;
      script = c.requires.input.script;
      reports = c.args.reports.now;
      stated = c.requires.stated;
      checks = c.in_ok-checks.checks.items;
      checked = c.in_ok-checks.ensures;
      text = refl;
      ends = c.open_status.ensures ∙ ap (λ (holds : Bool). open_status (not holds)) c.all_hold.ensures
          ∙ ap (λ (checks : List Checked). open_status (not (all_hold checks))) held;
    }
