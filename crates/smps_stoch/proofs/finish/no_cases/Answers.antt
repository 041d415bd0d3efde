-- A further list is empty.
use Rattle.std.proofs.Common.{◌∙◌, ◌++◌, ◌∷◌, [], List, ap, arith, map, length-append, length}
use Rattle.std.proofs.lemmas.List.{map-append}
use Rattle.stoch_defs.specs.declared.stoch.Case.{Case as CaseOf}
use Rattle.stoch_defs.specs.Random.{case_content}
use Rattle.smps_stoch.specs.View.{cases_in}
use Rattle.smps_stoch.proofs.FinishLemmas.{further_empty}
use Rattle.smps_stoch.proofs.finish.no_cases.Goals as goal

pub loop-alloc-preserved : goal.loop-alloc-preserved
loop-alloc-preserved c = record {
  within = omega (arith, c.len.ensures, ap length c.in_ok-push.ensures.items ∙ length-append c.loop-alloc.all.items _);
  empty = λ n. further_empty (map cases_in c.loop-alloc.all.items) (map cases_in c.push.new.self.items) n
      (ap (map cases_in) c.in_ok-push.ensures.items ∙ map-append cases_in c.loop-alloc.all.items (c.new.result ∷ []) ∙ ap (λ (last : List CaseOf). map cases_in c.loop-alloc.all.items ++ (map case_content last) ∷ []) c.new.ensures.items) (c.loop-alloc.invariant.empty n);
}
