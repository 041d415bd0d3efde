use Rattle.std.proofs.Common.{◌≡◌, ℕ, ◌+◌, ◌<◌, true, false, length, get_or, arith, sym, ap, subst, ◌∙◌}
use Rattle.std.proofs.lemmas.List.{get_or_default}
use Rattle.pass_table.specs.Readings.{Adds}
use Rattle.pass_table.specs.Rounds.{Round, flag_in}
use Rattle.pass_table.proofs.RoundLemmas.{either_long, set_there, adds_one, adds_none}
use Rattle.pass_table.proofs.rounds.Rounds.restore.Goals.{then-index, else-index}
use Rattle.pass_table.proofs.rounds.Rounds.restore.Goals as goal

pub insert-requires : goal.insert-requires
insert-requires c = omega (
  arith,
  c.loop-number-test.true,
  c.loop-number.auto.number-end,
  c.len-number-end.ensures,
  c.loop-number.invariant.0.long,
  ap (λ (r : Round). length r.flags) c.self.view_is,
  either_long c.self.inside.coming c.self.inside.waiting c.self.invariant.long,
  c.self.invariant.met_long,
)

pub loop-number-preserved : goal.loop-number-preserved
loop-number-preserved c = elim c.if-index.branch [
  | then-index w ↦
      subst G (sym (w.self-is ∙ w.insert.ensures)) (
        adds_one _ _ _ n c.loop-number.invariant.0 within (ap (λ x. get_or x n false) (sym c.loop-number.invariant.1) ∙ sym at ∙ w.if-index.true),
        set_there now.met n (sym at ∙ w.if-index.true) ∙ c.loop-number.invariant.1,
        c.loop-number.invariant.2,
      )
  | else-index w ↦
      subst G (sym w.self-is) (
        adds_none _ _ _ n c.loop-number.invariant.0 (ap (λ x. get_or x n false) (sym c.loop-number.invariant.1) ∙ sym at ∙ w.if-index.false),
        c.loop-number.invariant.1,
        c.loop-number.invariant.2,
      )
]
  where
    n : ℕ
    n = c.loop-number.number

    now : Round
    now = c.loop-number.self

    old : Round
    old = c.args.self.now

    G : Round → Type 0
    G r = Adds (λ k. (k < n + 1) × (flag_in old.met k ≡ true)) old.flags r.flags × (r.met ≡ old.met) × (r.waits ≡ old.waits)

    within : n < length now.flags
    within = omega (
      arith,
      c.loop-number-test.true,
      c.loop-number.auto.number-end,
      c.len-number-end.ensures,
      c.loop-number.invariant.0.long,
      ap (λ (r : Round). length r.flags) c.self.view_is,
      either_long c.self.inside.coming c.self.inside.waiting c.self.invariant.long,
      c.self.invariant.met_long,
    )

    at : c.index.result.now ≡ get_or now.met n false
    at = c.index.ensures ∙ get_or_default c.self-in-loop-number.inside.met.items n _ false (omega (
      arith,
      within,
      ap (λ (r : Round). length r.flags) c.self-in-loop-number.view_is,
      either_long c.self-in-loop-number.inside.coming c.self-in-loop-number.inside.waiting c.self-in-loop-number.invariant.long,
      c.self-in-loop-number.invariant.met_long,
    ))
        ∙ ap (λ (r : Round). get_or r.met n false) c.self-in-loop-number.view_is
