-- A small program, worked out: X costs 1 and Y 3/2, X + Y is at least 2 or 6, each with probability 1/2.
use Rattle.std.specs.Prelude.{◌≡◌, ℕ, pos, List, [], ◌∷◌, Option, Some, None, codes}
use Rattle.rationals.specs.Rational.{zero_ℚ, ◌÷◌}
use Rattle.smps_words.specs.declared.row_kind.RowKind.TheVariants.{Greater}
use Rattle.scen_defs.specs.Values.{At, at}
use Rattle.scen_defs.specs.Program.{Node, Program, view_of}
use Rattle.scen_defs.specs.Flat.{cost, value}
use Rattle.scen_defs.specs.Valid.{IsProgram}

abbrev pub demand : ℕ → Option Node
demand d = Some record {
  stage = 1;
  parent = Some 0;
  cost = record { column = 1; value = pos 3 ÷ 2 } ∷ [];
  rows = record {
    row = 0;
    entries = record { column = 0; value = pos 1 ÷ 1 } ∷ record { column = 1; value = pos 1 ÷ 1 } ∷ [];
    low =
        Some (pos d ÷ 1);
    high = None;
  } ∷ [];
}

abbrev pub cover : Program
cover = record {
  objective = codes "COST";
  rhs = codes "RHS";
  periods = codes "P1" ∷ codes "P2" ∷ [];
  rows = record { name = codes "DEMAND"; stage = 1; kind = Greater; range = None } ∷ [];
  columns = record { name = codes "X"; stage = 0; lower = Some zero_ℚ; upper = None }
      ∷ record { name = codes "Y"; stage = 1; lower = Some zero_ℚ; upper = None } ∷ [];
  nodes = Some record { stage = 0; parent = None; cost = record { column = 0; value = pos 1 ÷ 1 } ∷ []; rows = [] }
      ∷ demand 2 ∷ demand 6
      ∷ [];
  scenarios = record { name = codes "S1"; probability = pos 1 ÷ 2; path = 0 ∷ 1 ∷ [] }
      ∷ record { name = codes "S2"; probability = pos 1 ÷ 2; path = 0 ∷ 2 ∷ [] } ∷ [];
}

-- X is 2, and Y is 0 or 4
abbrev pub policy : List At
policy = record { node = 0; index = 0; value = pos 2 ÷ 1 } ∷ record { node = 2; index = 1; value = pos 4 ÷ 1 } ∷ []

abbrev pub dual : List At
dual = record { node = 1; index = 0; value = pos 1 ÷ 4 } ∷ record { node = 2; index = 0; value = pos 3 ÷ 4 } ∷ []

-- it is a program, the policy costs 5, and the dual is worth 5
pub record CoverLaws : Type 0 where
  pub program : IsProgram cover
  pub cost : cost (view_of cover) (at policy) ≡ pos 5 ÷ 1
  pub value : value (view_of cover) (at dual) ≡ pos 5 ÷ 1
