-- Entries are equal in code where they are the same.
use Rattle.std.proofs.Common.{◌≡◌, Bool, refl}
use Rattle.smps_words.specs.declared.entry.Entry.{Entry}
use Rattle.smps_words.specs.declared.entry.Entry.TheVariants.{Cost, Matrix, Rhs}
use Rattle.smps_words.specs.contracts.entry.EntryPartialEq.TheImpl.{eq-value}
use Rattle.stoch_defs.specs.Entries.{same_entry}

abbrev pub derived : Entry → Entry → Bool
derived = eq-value.it

pub derived_is : (one other : Entry) → derived one other ≡ same_entry one other
derived_is (Cost a) (Cost b) = refl
derived_is (Cost a) (Matrix r c) = refl
derived_is (Cost a) (Rhs r) = refl
derived_is (Matrix r c) (Cost a) = refl
derived_is (Matrix r c) (Matrix s d) = refl
derived_is (Matrix r c) (Rhs s) = refl
derived_is (Rhs r) (Cost a) = refl
derived_is (Rhs r) (Matrix s c) = refl
derived_is (Rhs r) (Rhs s) = refl
