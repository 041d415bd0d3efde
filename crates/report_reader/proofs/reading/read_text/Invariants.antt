use Rattle.std.proofs.Common.{◌≡◌, ◌+◌, ◌<◌, ◌≤◌, length}
use Rattle.report_reader.specs.Pieces.{lines_of}
use Rattle.report_reader.specs.Reports.{reads, read_text}
use Rattle.report_reader.proofs.reading.read_text.Given as goal

abbrev pub invariant-loop-line : goal.invariant-loop-line
invariant-loop-line l = record {
  reads : reads l.tables l.done.items l.draft l.number (lines_of l.rest).ended (lines_of l.rest).rest ≡ read_text l.tables l.text;
  few : length l.done.items < l.number;
  within : l.number + length l.rest ≤ 1 + length l.text;
}

abbrev pub decreases-loop-line : goal.decreases-loop-line
decreases-loop-line l = length l.rest
