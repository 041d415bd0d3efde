-- Each line is one less that is left.
use Rattle.std.proofs.Common.{length}
use Rattle.basis_file.proofs.reading.read_lines.Given as goal

abbrev pub decreases-loop-line : goal.decreases-loop-line
decreases-loop-line l = length l.lines.lines
