-- What is read from here on is what is read from the start.
use Rattle.std.proofs.Common.{◌≡◌, length}
use Rattle.smps_words.specs.Line.{TextLine}
use Rattle.scen_defs.specs.Lists.{Each}
use Rattle.scen_defs.specs.Program.{content}
use Rattle.edit_script.specs.Commands.{HasName}
use Rattle.edit_script.specs.Script.{items_from, script_of}
use Rattle.edit_script.specs.Drafts.{stand, IsDraft, Leads}
use Rattle.edit_script.proofs.reading.read_script.Given as goal

abbrev pub invariant-loop-line : goal.invariant-loop-line
invariant-loop-line l = record {
  same : items_from (stand l.draft) l.lines.lines ≡ script_of l.text (content l.program);
  good : IsDraft l.draft;
  leads : Leads (content l.program) l.draft.items.items (content l.draft.program);
  named : Each (λ (line : TextLine). HasName line.fields) l.lines.lines;
}

abbrev pub decreases-loop-line : goal.decreases-loop-line
decreases-loop-line l = length l.lines.lines
