-- Scripts whose edits are allowed, and the program behind them.
use Rattle.std.specs.Prelude.{◌≡◌, ◌≤◌, ⊤, List, [], ◌∷◌, length, None}
use Rattle.scen_defs.specs.Program.{Program}
use Rattle.edit_defs.specs.declared.edit.Edit.{Edit}
use Rattle.edit_defs.specs.declared.edit.Act.TheVariants.{Change, Solve}
use Rattle.edit_defs.specs.declared.edit.Item.{Item}
use Rattle.edit_defs.specs.After.{after}
use Rattle.edit_defs.specs.Causes.{Asks, refused}

-- an edit of a program of at most 1,000,000 places has no cause to be refused
pub record IsAllowed (p : Program) (e : Edit) : Type 0 where
  pub places : length p.nodes ≤ 1000000
  pub asks : Asks p e
  pub no_cause : refused p e ≡ None

-- each edit of a script is allowed at the program after those before it
abbrev pub AreAllowed : Program → List Item → Type 0
AreAllowed p [] = ⊤
AreAllowed p (item ∷ items) = elim item.act [ Change e ↦ IsAllowed p e × AreAllowed (after p e) items | Solve ↦ AreAllowed p items ]

-- the program after all edits of a script
abbrev pub program_after : Program → List Item → Program
program_after p [] = p
program_after p (item ∷ items) = elim item.act [ Change e ↦ program_after (after p e) items | Solve ↦ program_after p items ]
