-- What is read from here on is what is read from the start.
use Rattle.std.proofs.Common.{◌≡◌, length}
use Rattle.reader_defs.specs.Reader.{read_from}
use Rattle.stoch_defs.specs.File.{stoch_file, read_random}
use Rattle.time_defs.specs.Periods.{stages}
use Rattle.smps_stoch.specs.View.{filed}
use Rattle.smps_stoch.proofs.reading.read_behind.Given as goal

abbrev pub invariant-loop-line : goal.invariant-loop-line
invariant-loop-line l = read_from (stoch_file l.core (stages l.periods)) l.lines.end_line (filed l.draft) l.lines.lines ≡ read_random l.core (stages l.periods) l.text

abbrev pub decreases-loop-line : goal.decreases-loop-line
decreases-loop-line l = length l.lines.lines
