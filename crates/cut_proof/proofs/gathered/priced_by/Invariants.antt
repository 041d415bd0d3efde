use Rattle.std.proofs.Common.{◌≡◌, drop, []}
use Rattle.cut_proof.specs.View.{uses_content, source_content}
use Rattle.cut_sums.specs.Walks.{priced_from}
use Rattle.cut_proof.proofs.gathered.priced_by.Given as goal

abbrev pub invariant-loop-own : goal.invariant-loop-own
invariant-loop-own l = let s = source_content l.source in let u = uses_content l.source.used.items in priced_from l.datum s u l.all.items (drop l.own-index l.datum.bounds) ≡ priced_from l.datum s u [] l.datum.bounds
