use Rattle.std.proofs.Common.{◌≡◌, ℕ, ◌+◌, ◌++◌, List, replicate, length, sym, ap, ◌∙◌, subst, arith}
use Rattle.std.specs.Vec.{with_items}
use Rattle.std.proofs.lemmas.List.{with_items_is}
use Rattle.rationals.specs.Rational.{ℚ, zero_ℚ, one_ℚ}
use Rattle.rationals.specs.Sparse.{Ascending}
use Rattle.rationals.specs.Forms.{EndsBelow}
use Rattle.lp_defs.specs.Linear.{AllLines}
use Rattle.lp_defs.specs.Phases.{priced, unit_costs}
use Rattle.simplex_core.specs.Dense.{gathered, less_rows}
use Rattle.simplex_core.proofs.Sweep.{gathered_rises, costs_long, objective_is, fault_of, made_of}
use Rattle.simplex_core.proofs.costs.first_objective.Goals as goal

pub subtract_rows-requires : goal.subtract_rows-requires
subtract_rows-requires c =
    let read : c.as_mut_slice.result.now ≡ replicate c.args.first zero_ℚ ++ replicate c.args.count one_ℚ = c.as_mut_slice.ensures.value ∙ c.in_ok-values.ensures in
    let long : length c.as_mut_slice.result.now ≡ c.args.first + c.args.count = ap (λ (l : List ℚ). length l) read ∙ costs_long c.args.first c.args.count in
    subst (λ (n : ℕ). AllLines (λ line. EndsBelow n line.entries) c.args.rows.now) (sym long) c.requires.below

pub returns-in_err-subtract_rows : goal.returns-in_err-subtract_rows
returns-in_err-subtract_rows c =
    fault_of (less_rows c.as_mut_slice.result.now c.args.rows.now) (priced (unit_costs c.args.first c.args.count) c.args.rows.now (unit_costs c.args.first c.args.count)) c.in_err-subtract_rows.field-0.0 _
    (objective_is c.args.first c.args.count c.as_mut_slice.result.now c.args.rows.now (c.as_mut_slice.ensures.value ∙ c.in_ok-values.ensures) c.requires.rise c.requires.below c.requires.basic)
    c.in_err-subtract_rows.ensures c.from_residual-in_err-subtract_rows.ensures.1

pub new-requires : goal.new-requires
new-requires c = subst (Ascending 0) (sym c.in_ok-terms.ensures) (gathered_rises 0 0 _ (omega arith))

pub returns : goal.returns
returns c =
    let back : (with_items c.in_ok-values.values c.subtract_rows.new.values).items ≡ c.subtract_rows.new.values = with_items_is c.in_ok-values.values c.subtract_rows.new.values (omega arith) in
    let read : c.as_slice.result.now ≡ c.subtract_rows.new.values = c.as_slice.ensures.value ∙ back in
    made_of (less_rows c.as_mut_slice.result.now c.args.rows.now) (priced (unit_costs c.args.first c.args.count) c.args.rows.now (unit_costs c.args.first c.args.count)) c.subtract_rows.new.values c.new.result
    (objective_is c.args.first c.args.count c.as_mut_slice.result.now c.args.rows.now (c.as_mut_slice.ensures.value ∙ c.in_ok-values.ensures) c.requires.rise c.requires.below c.requires.basic)
    c.in_ok-subtract_rows.ensures (c.new.ensures ∙ c.in_ok-terms.ensures ∙ ap (λ (l : List ℚ). gathered 0 l) read)
