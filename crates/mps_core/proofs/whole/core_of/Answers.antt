-- The last column is closed first; that changes no constraint, name or bound.
use Rattle.std.proofs.Common.{◌∙◌, ◌∷◌, ap, sym, subst₂, length, drop, List, ℕ, arith}
use Rattle.core_defs.specs.Core.{column_names, IsCore}
use Rattle.core_defs.specs.Filed.{Filed}
use Rattle.core_defs.specs.Stated.{name_of_set}
use Rattle.mps_core.specs.View.{filed}
use Rattle.mps_core.proofs.WholeLemmas.{same_row_defs, split_first}
use Rattle.mps_core.proofs.whole.core_of.Goals as goal

pub of_parts-requires-clause-columns : goal.of_parts-requires-clause-columns
of_parts-requires-clause-columns c =
    c.replace-column_names.ensures.value ∙ c.in_ok-columns.ensures.names ∙ sym (ap column_names c.in_ok-columns.ensures.columns ∙ c.requires.named)

pub of_parts-requires-clause-keeps : goal.of_parts-requires-clause-keeps
of_parts-requires-clause-keeps c =
    subst₂ IsCore (sym (c.in_ok-rows.ensures ∙ same_row_defs (filed c.args.draft.now) (filed c.columns_of.new.draft) c.in_ok-columns.ensures.rest)) (sym c.in_ok-columns.ensures.columns) c.requires.keeps

pub returns : goal.returns
returns c =
    let rest = c.in_ok-columns.ensures.rest in
    let first = c.of_parts.ensures.objective ∙ c.in_ok-objective.ensures ∙ c.name.ensures in
    let free = ap (λ (g : Filed). g.free) rest in
    record {
      free = rw (c.of_parts.ensures.skipped, c.in_ok-skipped.ensures)
          (sym free ∙ split_first c.columns_of.new.draft.free (omega (arith, ap length free, c.requires.some_free))
          ∙ ap (λ (name : List ℕ). name ∷ drop 1 c.columns_of.new.draft.free) (sym first));
      rhs_set = c.of_parts.ensures.rhs_set ∙ c.in_ok-rhs_set.ensures
          ∙ ap name_of_set (c.replace.ensures.value ∙ ap (λ (g : Filed). g.rhs_set) rest);
      rows = rw c.of_parts.ensures.rows (c.in_ok-rows.ensures ∙ same_row_defs (filed c.args.draft.now) (filed c.columns_of.new.draft) rest);
      columns = rw c.of_parts.ensures.columns c.in_ok-columns.ensures.columns;
    }
