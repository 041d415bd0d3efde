use Rattle.std.proofs.Common.{List, sym, ap₂, ◌∙◌}
use Rattle.rationals.specs.Rational.{ℚ}
use Rattle.rationals.specs.Sparse.{Entry}
use Rattle.simplex_core.specs.Checks.{is_program}
use Rattle.simplex_core.proofs.Checks.{program_of, program_to}
use Rattle.simplex_core.proofs.standard.Standard.checked.Goals as goal

pub new-requires : goal.new-requires
new-requires c =
    program_of c.args.columns c.args.rows.items c.args.right.items c.args.cost
    (sym (c.are_parts.ensures ∙ ap₂ (λ (f : List (List Entry)) (b : List ℚ). is_program c.args.columns f b c.args.cost) c.deref.ensures.value c.deref-2.ensures.value) ∙ c.if-are_parts.true)

pub returns-else-are_parts-clause-exact : goal.returns-else-are_parts-clause-exact
returns-else-are_parts-clause-exact c = (
  λ e. absurd (cc),
  λ h. sym c.if-are_parts.false
      ∙ (c.are_parts.ensures ∙ ap₂ (λ (f : List (List Entry)) (b : List ℚ). is_program c.args.columns f b c.args.cost) c.deref.ensures.value c.deref-2.ensures.value)
      ∙ program_to c.args.columns c.args.rows.items c.args.right.items c.args.cost h,
)
