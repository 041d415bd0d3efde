use Rattle.std.proofs.Common.{◌∙◌, ◌+◌, ◌-◌, ◌/◌, ◌%◌, ◌++◌, ◌∷◌, [], ap, sym, List, ℕ, append_assoc}
use Rattle.build_defs.specs.Digits.{digits_in}
use Rattle.tree_build.proofs.DigitLemmas.{digits_step}
use Rattle.tree_build.proofs.names.+push_digits.Goals as goal

pub returns : goal.returns
returns t c =
    let out = c.args.out.now.items in
    let front = digits_in (c.args.room - 1) (c.args.number / 10) in
    c.in_ok-push-2.ensures.items
    ∙ ap (λ (l : List ℕ). l ++ (48 + c.args.number % 10) ∷ []) c.in_ok-push_digits.ensures
    ∙ append_assoc out front ((48 + c.args.number % 10) ∷ [])
    ∙ ap (λ l. out ++ l) (sym (digits_step c.args.room c.args.number c.if-room-eq0.false c.if-number-lt10.false))
