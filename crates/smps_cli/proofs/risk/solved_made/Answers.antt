use Rattle.std.proofs.Common.{rules, List, sym, subst}
use Rattle.scen_defs.specs.Program.{content}
use Rattle.edit_defs.specs.declared.edit.Item.{Item}
use Rattle.edit_script.specs.Allowed.{AreAllowed}
use Rattle.smps_session.specs.Told.{IsScripted}
use Rattle.smps_cli.specs.Solved.{stated_of}
use Rattle.smps_cli.proofs.risk.solved_made.Goals as goal

pub scripted-requires : goal.scripted-requires
scripted-requires g c = (search rules, subst (λ (items : List Item). AreAllowed (content c.args.made) items) (sym c.in_ok-script.ensures) tt)

pub returns : goal.returns
returns g c = record {
  program = c.requires;
  tolds = c.in_ok-tolds.tolds.items;
  told = subst (λ (items : List Item). IsScripted (record { solves = c.args.budget.solves; pivots = c.args.budget.pivots }) (stated_of c.args.budget)
      (content c.args.made) items c.in_ok-tolds.tolds.items) c.in_ok-script.ensures c.in_ok-tolds.ensures;
  text = c.told.ensures.text;
  ends = c.told.ensures.ends;
}
