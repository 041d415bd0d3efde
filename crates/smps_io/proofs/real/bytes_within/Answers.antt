use Rattle.std.proofs.Common.{◌≡◌, ◌<◌, ◌∙◌, ℕ, List, [], length, take, ap, arith}
use Rattle.std.specs.Io.KnownBytes.{IsAtEnd}
use Rattle.smps_io.proofs.ReadLemmas.{all_consumed}
use Rattle.smps_io.proofs.real.bytes_within.Goals as goal

pub returns-in-Ok-eq0-clause-read : goal.returns-in-Ok-eq0-clause-read
returns-in-Ok-eq0-clause-read g c =
    let bytes = c.in-Ok-eq0.ensures.bytes in
    let none : take c.in-Ok-eq0.field-0 c.read.new.buf ≡ [] = ap (λ (n : ℕ). take n c.read.new.buf) c.in-Ok-eq0.field-0-test in
    all_consumed (g.F.Read.remaining c.args.reader.now) (g.F.Read.remaining c.loop.reader) (g.F.Read.remaining c.read.new.self)
    c.loop.bytes.items (take c.in-Ok-eq0.field-0 c.read.new.buf) c.loop.invariant.read bytes.0 none
    (bytes.1 c.in-Ok-eq0.field-0-test (let long = c.read.auto.buf in let room = c.loop.invariant.room in omega (arith, long, room)))
