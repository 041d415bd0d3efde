use Rattle.std.proofs.Common.{rules, arith, ◌<◌, length, ap}
use Rattle.std.proofs.lemmas.Grind.{common_steps}
use Rattle.rationals.specs.Sparse.{Entry}
use Rattle.simplex_core.proofs.Rises.{set_rises}
use Rattle.simplex_core.proofs.entries.divide_all.Goals as goal

pub loop-i-preserved : goal.loop-i-preserved
loop-i-preserved c =
    let within : c.loop-i.i < length c.loop-i.terms = search rules in
    record {
      gives = grind (arith, common_steps);
      rise = set_rises 0 c.loop-i.i c.loop-i.terms c.index-terms-i.result _ c.loop-i.invariant.rise within c.index-terms-i.is (ap (λ (t : Entry). t.column) c.term.view_is);
    }
