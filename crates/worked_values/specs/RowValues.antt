-- ROWS: what each kind says, and the example of the document.
use Rattle.std.specs.Prelude.{◌≡◌, ℕ, List, [], ◌∷◌, Some, None, codes}
use Rattle.smps_words.specs.declared.row_kind.RowKind.TheVariants.{Less, Greater, Equal}
use Rattle.core_defs.specs.declared.kinds.RowUse.TheVariants as uses
use Rattle.core_defs.specs.Stated.{use_of, free_rows, constraints, constraint_kinds}
use Rattle.worked_values.specs.Told.{lines_told, refused_behind}

abbrev pub example_rows : List ℕ
example_rows = codes "ROWS\n N COST\n L LIM1\n G NEED\n N WEIGHT\n E SUM\n"

pub record RowsAreAsDocumented : Type 0 where
  -- N is no constraint; L is at most, G at least, E equal to the right-hand side
  pub free : use_of (codes "N") ≡ Some uses.Free
  pub less : use_of (codes "L") ≡ Some (uses.Constraint Less)
  pub greater : use_of (codes "G") ≡ Some (uses.Constraint Greater)
  pub equal : use_of (codes "E") ≡ Some (uses.Constraint Equal)
  pub other : use_of (codes "Q") ≡ None
  pub small_letter : use_of (codes "n") ≡ None
  pub longer : use_of (codes "LE") ≡ None
  -- the first N row is the objective, a later one is skipped; the others are the constraints
  pub objective_first : free_rows (lines_told example_rows) ≡ codes "COST" ∷ codes "WEIGHT" ∷ []
  pub the_constraints : constraints (lines_told example_rows) ≡ codes "LIM1" ∷ codes "NEED" ∷ codes "SUM" ∷ []
  pub their_kinds : constraint_kinds (lines_told example_rows) ≡ Less ∷ Greater ∷ Equal ∷ []
  -- names differ, whatever the kinds
  pub new_name : refused_behind example_rows " L LIM2" ≡ None
  pub constraint_twice : refused_behind example_rows " G LIM1" ≡ Some 14
  pub constraint_as_free : refused_behind example_rows " N LIM1" ≡ Some 14
  pub objective_as_constraint : refused_behind example_rows " L COST" ≡ Some 14
  pub skipped_twice : refused_behind example_rows " N WEIGHT" ≡ Some 14
  -- an unknown kind, and numbers of fields
  pub kind_unknown : refused_behind example_rows " Q LIM2" ≡ Some 13
  pub one_field : refused_behind example_rows " L" ≡ Some 18
  pub three_fields : refused_behind example_rows " L LIM2 LIM3" ≡ Some 18
