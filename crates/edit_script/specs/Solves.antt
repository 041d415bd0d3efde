-- How many reports a script asks for.
use Rattle.std.specs.Prelude.{ℕ, suc, List, [], ◌∷◌}
use Rattle.edit_defs.specs.declared.edit.Act.TheVariants.{Change, Solve}
use Rattle.edit_defs.specs.declared.edit.Item.{Item}

-- how many SOLVEs these items have
abbrev pub solve_count : List Item → ℕ
solve_count [] = 0
solve_count (item ∷ items) = elim item.act [ Change e ↦ solve_count items | Solve ↦ suc (solve_count items) ]
