-- The rows of EditValues, computed.
use Rattle.std.proofs.Common.{refl}
use Rattle.rationals.specs.Rational.{◌÷◌, ◌+ℚ◌, neg_ℚ, zero_ℚ, one_ℚ, reduce, smaller, divides, nat_divides}
use Rattle.edit_script.specs.Commands.{known_entry, set_edit, prob_edit, drop_edit, add_edit, set_line, prob_line, drop_line, add_line, work_line, solve_line, command_of}
use Rattle.edit_script.specs.Script.{step}
use Rattle.worked_values.specs.EditValues.{CommandsAreAsDocumented}

pub commands : CommandsAreAsDocumented
unfolding ◌÷◌ ◌+ℚ◌ neg_ℚ zero_ℚ reduce smaller divides nat_divides one_ℚ known_entry set_edit prob_edit drop_edit add_edit set_line prob_line drop_line add_line work_line solve_line command_of step
commands = record {
  other_word = refl;
  small_letters = refl;
  set_rhs = refl;
  set_cost = refl;
  set_entry = refl;
  prob = refl;
  drop = refl;
  add = refl;
  work = refl;
  solve = refl;
  unknown = refl;
  set_four = refl;
  prob_two = refl;
  drop_one = refl;
  add_four = refl;
  work_one = refl;
  solve_two = refl;
  scenario_unknown = refl;
  parent_unknown = refl;
  name_taken = refl;
  entry_unknown = refl;
  prob_zero = refl;
  prob_certain = refl;
  first_period = refl;
  no_work = refl;
  most_work = refl;
  too_much_work = refl;
  no_number = refl;
}
