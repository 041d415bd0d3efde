-- What each block has.
use Rattle.std.proofs.Common.{◌≡◌, ◌∙◌, ◌+◌, [], ℕ, ap, arith, get_or, map, length, refl}
use Rattle.std.proofs.lemmas.List.{length-map}
use Rattle.stoch_defs.specs.Finish.{own}
use Rattle.stoch_defs.specs.Random.{case_content}
use Rattle.smps_stoch.specs.View.{cases_in}
use Rattle.smps_stoch.proofs.FinishLemmas.{own_step, all_own, ended, whole, no_own}
use Rattle.smps_stoch.proofs.finish.by_block.Goals as goal

pub loop-case-preserved : goal.loop-case-preserved
loop-case-preserved c = record {
  count = c.in_ok-add_case.ensures.count ∙ c.loop-case.invariant.count;
  cases = λ n below. own_step n c.loop-case.rest.now c.in-Some-split_first.others.now c.in-Some-split_first.head.now (map case_content c.loop-case.case-iterator.rest.items) (map case_content c.next.new.self.rest.items)
      _ _ (case_content c.in-Some.case) c.in-Some-split_first.ensures.cases.0 (ap (map case_content) c.in-Some.ensures.steps.0) (c.in_ok-add_case.ensures.added n (omega (arith, below, c.loop-case.invariant.count))) ∙ c.loop-case.invariant.cases n below;
}

pub returns-in_default : goal.returns-in_default
returns-in_default c =
    all_own (map cases_in c.loop-case.all.items) 0 c.args.heads.now (cases_in c.args.cases) c.args.stages.now (length-map c.loop-case.all.items cases_in ∙ c.loop-case.invariant.count)
    (λ n below. let at : n ≡ 0 + n = omega arith in
    whole (get_or (map cases_in c.loop-case.all.items) n []) (own n c.loop-case.rest.now (map case_content c.loop-case.case-iterator.rest.items)) _
    (ap (λ heads. own n heads (map case_content c.loop-case.case-iterator.rest.items)) (ended c.loop-case.rest.now (length c.loop-case.rest.now) refl c.in_default.ensures.cases))
    (c.loop-case.invariant.cases n below) ∙ ap (λ (m : ℕ). own m c.args.heads.now (cases_in c.args.cases)) at)

pub returns : goal.returns
returns c =
    all_own (map cases_in c.loop-case.all.items) 0 c.args.heads.now (cases_in c.args.cases) c.args.stages.now (length-map c.loop-case.all.items cases_in ∙ c.loop-case.invariant.count)
    (λ n below. let at : n ≡ 0 + n = omega arith in whole (get_or (map cases_in c.loop-case.all.items) n []) (own n c.loop-case.rest.now (map case_content c.loop-case.case-iterator.rest.items)) _
    (ap (λ left. own n c.loop-case.rest.now (map case_content left)) (ended c.loop-case.case-iterator.rest.items c.loop-case.case-iterator.rest.len c.loop-case.case-iterator.rest.ok.0 c.in-None.ensures.steps.0) ∙ no_own n c.loop-case.rest.now)
    (c.loop-case.invariant.cases n below) ∙ ap (λ (m : ℕ). own m c.args.heads.now (cases_in c.args.cases)) at)
