use Rattle.std.proofs.Common.{rules, ◌≡◌, [], ◌∷◌, ◌++◌, sym, subst}
use Rattle.rationals.specs.Rational.{one_ℚ}
use Rattle.rationals.specs.Sparse.{Ascending}
use Rattle.simplex_core.proofs.Rises.{with_unit_rises}
use Rattle.simplex_core.proofs.start.artificial_row.Goals as goal

pub new-requires : goal.new-requires
new-requires c =
    let made : c.push.new.self.items ≡ c.args.form.now ++ record { column = c.args.column; value = one_ℚ } ∷ [] = search rules in
    subst (Ascending 0) (sym made) (with_unit_rises c.args.first c.args.column c.args.form.now c.args.right c.requires.column c.requires.below)
