-- Nothing is read yet.
use Rattle.std.proofs.Common.{ap₂, sym, subst}
use Rattle.smps_words.specs.Line.{TextLine, Reading}
use Rattle.scen_defs.specs.Lists.{Each}
use Rattle.edit_script.specs.Commands.{HasName}
use Rattle.edit_script.specs.Script.{Stand, items_from}
use Rattle.edit_script.proofs.Fields.{text_names}
use Rattle.edit_script.proofs.reading.read_script.Goals as goal

pub loop-line-init : goal.loop-line-init
loop-line-init c = record {
  same = ap₂ (λ (s : Stand) (r : Reading). items_from s r.lines) c.in-Ok.ensures.stand c.over-lines.ensures;
  good = c.in-Ok.ensures.good;
  leads = c.in-Ok.ensures.leads;
  named = subst (λ (r : Reading). Each (λ (line : TextLine). HasName line.fields) r.lines) (sym c.over-lines.ensures) (text_names c.args.text.now);
}
