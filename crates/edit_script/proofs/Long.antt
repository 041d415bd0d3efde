-- More than six fields fit no command.
use Rattle.std.proofs.Common.{◌≡◌, ℕ, List, [], ◌∷◌, length, Err, refl, arith}
use Rattle.refusals.specs.declared.cause.Cause.TheVariants as cause
use Rattle.scen_defs.specs.Program.{Program}
use Rattle.edit_script.specs.Commands.{set_line, prob_line, drop_line, add_line, work_line, solve_line}

pub long_set : (p : Program) (fields : List (List ℕ)) → length fields ≡ 7 → set_line p fields ≡ Err cause.FieldCount
unfolding set_line
long_set p [] seven = absurd (omega arith)
long_set p (_ ∷ []) seven = absurd (omega arith)
long_set p (_ ∷ _ ∷ []) seven = absurd (omega arith)
long_set p (_ ∷ _ ∷ _ ∷ []) seven = absurd (omega arith)
long_set p (_ ∷ _ ∷ _ ∷ _ ∷ []) seven = absurd (omega arith)
long_set p (_ ∷ _ ∷ _ ∷ _ ∷ _ ∷ []) seven = absurd (omega arith)
long_set p (_ ∷ _ ∷ _ ∷ _ ∷ _ ∷ _ ∷ _) seven = refl

pub long_prob : (p : Program) (fields : List (List ℕ)) → length fields ≡ 7 → prob_line p fields ≡ Err cause.FieldCount
unfolding prob_line
long_prob p [] seven = absurd (omega arith)
long_prob p (_ ∷ []) seven = absurd (omega arith)
long_prob p (_ ∷ _ ∷ []) seven = absurd (omega arith)
long_prob p (_ ∷ _ ∷ _ ∷ []) seven = absurd (omega arith)
long_prob p (_ ∷ _ ∷ _ ∷ _ ∷ _) seven = refl

pub long_drop : (p : Program) (fields : List (List ℕ)) → length fields ≡ 7 → drop_line p fields ≡ Err cause.FieldCount
unfolding drop_line
long_drop p [] seven = absurd (omega arith)
long_drop p (_ ∷ []) seven = absurd (omega arith)
long_drop p (_ ∷ _ ∷ []) seven = absurd (omega arith)
long_drop p (_ ∷ _ ∷ _ ∷ _) seven = refl

pub long_add : (p : Program) (fields : List (List ℕ)) → length fields ≡ 7 → add_line p fields ≡ Err cause.FieldCount
unfolding add_line
long_add p [] seven = absurd (omega arith)
long_add p (_ ∷ []) seven = absurd (omega arith)
long_add p (_ ∷ _ ∷ []) seven = absurd (omega arith)
long_add p (_ ∷ _ ∷ _ ∷ []) seven = absurd (omega arith)
long_add p (_ ∷ _ ∷ _ ∷ _ ∷ []) seven = absurd (omega arith)
long_add p (_ ∷ _ ∷ _ ∷ _ ∷ _ ∷ []) seven = absurd (omega arith)
long_add p (_ ∷ _ ∷ _ ∷ _ ∷ _ ∷ _ ∷ _) seven = refl

pub long_work : (fields : List (List ℕ)) → length fields ≡ 7 → work_line fields ≡ Err cause.FieldCount
unfolding work_line
long_work [] seven = absurd (omega arith)
long_work (_ ∷ []) seven = absurd (omega arith)
long_work (_ ∷ _ ∷ []) seven = absurd (omega arith)
long_work (_ ∷ _ ∷ _ ∷ _) seven = refl

pub long_solve : (fields : List (List ℕ)) → length fields ≡ 7 → solve_line fields ≡ Err cause.FieldCount
unfolding solve_line
long_solve [] seven = absurd (omega arith)
long_solve (_ ∷ []) seven = absurd (omega arith)
long_solve (_ ∷ _ ∷ _) seven = refl
