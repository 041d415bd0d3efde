-- The rows of FileValues, computed.
use Rattle.std.proofs.Common.{refl, take, [], ◌∷◌, inl, inr}
use Rattle.std.specs.Prelude.{codes}
use Rattle.rationals.specs.Rational.{◌÷◌, ◌+ℚ◌, neg_ℚ, zero_ℚ, reduce, smaller, divides, nat_divides}
use Rattle.smps_words.specs.Line.{line_of}
use Rattle.worked_values.specs.Told.{lines_told}
use Rattle.worked_values.specs.FileValues.{whole_file, TheFileSays, MissingSectionsAreTold}

pub file_says : TheFileSays
unfolding ◌÷◌ ◌+ℚ◌ neg_ℚ zero_ℚ reduce smaller divides nat_divides
file_says = record {
  is_read = record {
    number = 19;
    read = lines_told whole_file;
    whole = record {
      read = take 18 (lines_told whole_file);
      line = line_of 19 (codes "ENDATA");
      rest = [];
      split = refl;
      fit = (refl, refl, (refl, refl, (refl, refl, (refl, refl, (refl, refl, (refl, refl, (refl, refl, (refl, refl, (refl, refl, (refl, refl, (refl, refl, (refl, refl, (refl, refl, (refl, refl, (refl, refl, (refl, refl, (refl, refl, (refl, refl, (refl, refl, tt)))))))))))))))))));
      end = refl;
      number_is = refl;
      is = refl;
    };
    columns = refl;
  };
  objective = refl;
  rows = refl;
  kinds = refl;
  named = refl;
  cost_a = refl;
  cost_b = refl;
  first_a = refl;
  first_b = refl;
  first_ends = refl;
  second_a = refl;
  second_b = refl;
  second_ends = refl;
  third_a = refl;
  third_b = refl;
  third_ends = refl;
  bounds_a = refl;
  bounds_b = refl;
}

pub missing : MissingSectionsAreTold
unfolding ◌÷◌ ◌+ℚ◌ neg_ℚ zero_ℚ reduce smaller divides nat_divides
missing = record {
  empty = inr (inl (record { fit = tt; open_ = refl; is = refl }));
  no_end = inr (inl (record { fit = (refl, refl, (refl, refl, (refl, refl, (refl, refl, (refl, refl, tt))))); open_ = refl; is = refl }));
  no_columns = inr (inr (record {
    number = 3;
    state = lines_told (codes "ROWS\n N COST\nENDATA\n");
    whole = record {
      read = lines_told (codes "ROWS\n N COST\n");
      line = line_of 3 (codes "ENDATA");
      rest = line_of 4 (codes "SOUP") ∷ [];
      split = refl;
      fit = (refl, refl, (refl, refl, (refl, refl, tt)));
      end = refl;
      number_is = refl;
      is = refl;
    };
    faulty = refl;
  }));
  line_first = inl (record {
    before = lines_told (codes "ROWS\n N COST\nCOLUMNS\n");
    line = line_of 4 (codes " X COST x");
    after = [];
    split = refl;
    fit = (refl, refl, (refl, refl, (refl, refl, tt)));
    open_ = refl;
    cause_is = refl;
    number_is = refl;
  });
  later_section = inl (record {
    before = lines_told (codes "ROWS\n N COST\nRHS\n");
    line = line_of 4 (codes " COST x");
    after = line_of 5 (codes "ENDATA") ∷ [];
    split = refl;
    fit = (refl, refl, (refl, refl, (refl, refl, tt)));
    open_ = refl;
    cause_is = refl;
    number_is = refl;
  });
  no_rows = inl (record {
    before = line_of 1 (codes "NAME MIX") ∷ [];
    line = line_of 3 (codes "COLUMNS");
    after = line_of 4 (codes " X COST 1") ∷ line_of 5 (codes "ENDATA") ∷ [];
    split = refl;
    fit = (refl, refl, tt);
    open_ = refl;
    cause_is = refl;
    number_is = refl;
  });
  neither = inr (inr (record {
    number = 2;
    state = lines_told (codes "NAME MIX\nENDATA\n");
    whole = record {
      read = line_of 1 (codes "NAME MIX") ∷ [];
      line = line_of 2 (codes "ENDATA");
      rest = [];
      split = refl;
      fit = (refl, refl, (refl, refl, tt));
      end = refl;
      number_is = refl;
      is = refl;
    };
    faulty = refl;
  }));
}
