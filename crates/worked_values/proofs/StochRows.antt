-- The rows of StochValues, computed; those on cores go by the names and the numbers that the file gives them.
use Rattle.std.proofs.Common.{[], take, refl, arith}
use Rattle.std.specs.Prelude.{◌^◌, codes, length}
use Rattle.std.proofs.lemmas.Bool.{ltb-true}
use Rattle.rationals.specs.Rational.{◌÷◌, ◌+ℚ◌, ◌*ℚ◌, neg_ℚ, zero_ℚ, reduce, smaller, divides, nat_divides}
use Rattle.smps_words.specs.Line.{line_of}
use Rattle.core_defs.proofs.Texts.{core_file_laws}
use Rattle.stoch_defs.specs.Section.{mode_of}
use Rattle.worked_values.specs.Told.{lines_told}
use Rattle.worked_values.specs.TimeValues.{mix}
use Rattle.worked_values.specs.StochValues.{column_rhs, StochSectionsAreAsDocumented, EntriesAreAsDocumented}
use Rattle.worked_values.proofs.NamedParts.{mix_named, column_rhs_named, entry_named, cost_named, value_named, rhs_named}

pub stoch_sections : StochSectionsAreAsDocumented
unfolding ◌÷◌ ◌+ℚ◌ neg_ℚ zero_ℚ reduce smaller divides nat_divides ◌*ℚ◌ mode_of
stoch_sections = record {
  stoch = refl;
  indep = refl;
  blocks = refl;
  scenarios = refl;
  end = refl;
  nodes = refl;
  chance = refl;
  small_letters = refl;
  replace = refl;
  add = refl;
  multiply = refl;
  other = refl;
  no_words = refl;
  discrete = refl;
  discrete_replace = refl;
  discrete_add = refl;
  discrete_multiply = refl;
  not_discrete = refl;
  add_alone = refl;
  third_unknown = refl;
  fourth = refl;
  replaced = λ base value. refl;
  added = λ base value. refl;
  multiplied = λ base value. refl;
  four_replaced = refl;
  four_added = refl;
  four_multiplied = refl;
  passing = refl;
}

pub entries : EntriesAreAsDocumented
unfolding ◌÷◌ ◌+ℚ◌ neg_ℚ zero_ℚ reduce smaller divides nat_divides
entries = record {
  cost = λ core means. entry_named core _ _ _ _ (mix_named core means) (codes "A") (codes "COST");
  second_cost = λ core means. entry_named core _ _ _ _ (mix_named core means) (codes "B") (codes "COST");
  entry = λ core means. entry_named core _ _ _ _ (mix_named core means) (codes "B") (codes "SUM");
  absent_entry = λ core means. entry_named core _ _ _ _ (mix_named core means) (codes "A") (codes "SUM");
  rhs = λ core means. entry_named core _ _ _ _ (mix_named core means) (codes "RHS") (codes "LIM1");
  named_rhs = λ core means. entry_named core _ _ _ _ (mix_named core means) (codes "NOW") (codes "NEED");
  other_set = λ core means. entry_named core _ _ _ _ (mix_named core means) (codes "LATER") (codes "LIM1");
  column_first = λ core means. entry_named core _ _ _ _ (column_rhs_named core means) (codes "RHS") (codes "LIM1");
  column_unknown = λ core means. entry_named core _ _ _ _ (mix_named core means) (codes "C") (codes "LIM1");
  row_unknown = λ core means. entry_named core _ _ _ _ (mix_named core means) (codes "A") (codes "LIM2");
  row_skipped = λ core means. entry_named core _ _ _ _ (mix_named core means) (codes "B") (codes "WEIGHT");
  rhs_of_objective = λ core means. entry_named core _ _ _ _ (mix_named core means) (codes "RHS") (codes "COST");
  cost_value = λ core means. cost_named (lines_told mix) core _ _ _ _ (mix_named core means) means 0 (omega arith);
  no_cost = λ core means. cost_named (lines_told mix) core _ _ _ _ (mix_named core means) means 1 (omega arith);
  entry_value = λ core means. value_named (lines_told mix) core _ _ _ _ (mix_named core means) means 2 1 (omega arith) (omega arith);
  no_entry = λ core means. value_named (lines_told mix) core _ _ _ _ (mix_named core means) means 2 0 (omega arith) (omega arith);
  zero_entry = λ core means. value_named (lines_told mix) core _ _ _ _ (mix_named core means) means 1 1 (omega arith) (omega arith);
  rhs_value = λ core means. rhs_named (lines_told mix) core _ _ _ _ (mix_named core means) means 1 (omega arith);
  no_rhs = λ core means. rhs_named (lines_told column_rhs) core _ _ _ _ (column_rhs_named core means) means 0 (omega arith);
  first_cost_period = refl;
  second_cost_period = refl;
  row_period = refl;
  rhs_period = refl;
  later_rhs_period = refl;
  earlier_column = refl;
  later_column = refl;
  a_core = (core_file_laws.meaning column_rhs (ltb-true (length column_rhs) (2 ^ 63) refl) (record {
    number = 6;
    read = lines_told column_rhs;
    whole = record {
      read = take 5 (lines_told column_rhs);
      line = line_of 6 (codes "ENDATA");
      rest = [];
      split = refl;
      fit = (refl, refl, (refl, refl, (refl, refl, (refl, refl, (refl, refl, (refl, refl, tt))))));
      end = refl;
      number_is = refl;
      is = refl;
    };
    columns = refl;
  }));
}
