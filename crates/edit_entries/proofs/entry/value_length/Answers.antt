use Rattle.std.proofs.Common.{true, false, ◌≡◌, List, length, sym, ap, ◌∙◌}
use Rattle.rationals.specs.Rational.{zero_ℚ}
use Rattle.rationals.specs.Sparse.{Entry}
use Rattle.frac128.proofs.FormLemmas.{put_zero, put_nonzero}
use Rattle.edit_entries.proofs.entry.value_length.Goals as goal

pub returns-then-is_zero-clause-length : goal.returns-then-is_zero-clause-length
returns-then-is_zero-clause-length c = λ column. sym (ap (λ (f : List Entry). length f) (put_zero column c.args.value (c.is_zero.ensures.0 c.if-is_zero.true)))

pub returns-else-is_zero-clause-length : goal.returns-else-is_zero-clause-length
returns-else-is_zero-clause-length c =
    let n : c.args.value ≡ zero_ℚ → ⊥ = λ e. (let q : false ≡ true = sym c.if-is_zero.false ∙ c.is_zero.ensures.1 e in absurd (cc)) in
    λ column. sym (ap (λ (f : List Entry). length f) (put_nonzero column c.args.value n))
