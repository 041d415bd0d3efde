-- A program whose decisions of the first period are fixed.
use Rattle.std.specs.Prelude.{ℕ, suc, eqb, List, [], ◌∷◌, Some}
use Rattle.rationals.specs.Choices.{pick}
use Rattle.scen_defs.specs.declared.program.Column.{Column}
use Rattle.scen_defs.specs.Program.{Program}
use Rattle.scen_defs.specs.Values.{At, at}

-- column j with both bounds at its value at the first node
abbrev pub held_at : List At → ℕ → Column → Column
held_at values j c = record {
  name = c.name;
  stage = c.stage;
  lower = Some (at values 0 j);
  upper = Some (at values 0 j);
}

-- columns from number j on, those of the first period held at their values
abbrev pub held_from : List At → ℕ → List Column → List Column
held_from values j [] = []
held_from values j (c ∷ cs) = pick (eqb c.stage 0) (held_at values j c) c ∷ held_from values (suc j) cs

-- the program with the first period's columns at the values of the first node
abbrev pub fixed_program : Program → List At → Program
fixed_program p values = record {
  objective = p.objective;
  rhs = p.rhs;
  periods = p.periods;
  columns = held_from values 0 p.columns;
  rows = p.rows;
  nodes = p.nodes;
  scenarios = p.scenarios;
}
