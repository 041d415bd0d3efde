-- What is asked of a record before a cut is made of it.
use Rattle.std.specs.Prelude.{◌≡◌, true, map}
use Rattle.rationals.specs.Rational.{zero_ℚ, ◌<ℚ◌}
use Rattle.scen_defs.specs.Lists.{is_in}
use Rattle.cut_defs.specs.declared.datum.Share.{Share}
use Rattle.cut_defs.specs.Data.{Datum}
use Rattle.cut_defs.specs.Stored.{Source, StoredUses, source_of, OnRows, WeightsFit}
use Rattle.cut_defs.specs.Stored.StoredUses.{No_stored, Use_stored}

-- each weight is above 0, and each used cut is about a child
abbrev pub UsesChildren : Datum → StoredUses → Type 0
UsesChildren d No_stored = Unit {0}
UsesChildren d (Use_stored weight cut uses) =
    (zero_ℚ <ℚ weight) × ((is_in (source_of cut).node (map (λ (s : Share). s.child) d.shares) ≡ true) × UsesChildren d uses)

-- the datum has the record's node and versions; each multiplier is of one of its rows; the weights on the Bound cuts of
-- each child add up to the child's share, and a Ray record uses no Bound cut
pub record MayBeMade (d : Datum) (s : Source) (uses : StoredUses) : Type 0 where
  pub node : d.node ≡ s.node
  pub rows_version : d.rows_version ≡ s.rows_version
  pub costs_version : d.costs_version ≡ s.costs_version
  pub on_rows : OnRows d s
  pub weights : WeightsFit d s.kind uses
  pub children : UsesChildren d uses
