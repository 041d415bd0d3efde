-- What is read from here on is what is read from the start.
use Rattle.std.proofs.Common.{◌≡◌, ◌≤◌, length}
use Rattle.reader_defs.specs.Reader.{read_from}
use Rattle.core_defs.specs.Step.{most_entries, filed_file, filed_text}
use Rattle.mps_core.specs.View.{filed}
use Rattle.mps_core.proofs.reading.file_lines.Given as goal

abbrev pub invariant-loop-line : goal.invariant-loop-line
invariant-loop-line l = record {
  same : read_from filed_file l.lines.end_line (filed l.draft) l.lines.lines ≡ filed_text l.text;
  few : l.draft.entries ≤ most_entries;
}

abbrev pub decreases-loop-line : goal.decreases-loop-line
decreases-loop-line l = length l.lines.lines
