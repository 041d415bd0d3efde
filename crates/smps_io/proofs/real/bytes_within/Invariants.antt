use Rattle.std.proofs.Common.{◌≡◌, ◌<◌, ◌≤◌, length}
use Rattle.std.specs.Io.KnownBytes.{Consumes}
use Rattle.smps_io.proofs.real.bytes_within.Given as goal

abbrev pub invariant-loop : goal.invariant-loop
invariant-loop g l = record {
  within : length l.bytes.items ≤ l.limit;
  count : length l.bytes.items ≡ l.given;
  given : l.given ≤ l.limit;
  room : 0 < length l.chunk;
  read : Consumes (g.F.Read.remaining l.initial.reader) (g.F.Read.remaining l.reader) l.bytes.items;
}
