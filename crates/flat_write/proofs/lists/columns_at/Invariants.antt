use Rattle.std.proofs.Common.{◌≡◌, ◌++◌, eqb, drop}
use Rattle.scen_defs.specs.Lists.{places}
use Rattle.scen_defs.specs.declared.program.Column.{Column}
use Rattle.flat_write.proofs.lists.columns_at.Given as goal

abbrev pub invariant-loop-place : goal.invariant-loop-place
invariant-loop-place l =
    l.columns.items ++ places (λ (c : Column). eqb c.stage l.stage) l.place (drop l.place l.program.columns.items) ≡ places (λ (c : Column). eqb c.stage l.stage) 0 l.program.columns.items
