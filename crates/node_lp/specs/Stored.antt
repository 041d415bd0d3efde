-- The record of a node's program as a record over a datum, with the forms of the used cuts as data.
use Rattle.std.specs.Prelude.{◌≡◌, List, [], ◌∷◌}
use Rattle.rationals.specs.Rational.{ℚ, zero_ℚ, ◌<ℚ◌}
use Rattle.rationals.specs.Forms.{is_zero}
use Rattle.scen_defs.specs.Lists.{Each}
use Rattle.scen_defs.specs.Ends.{IsGoodAt}
use Rattle.scen_defs.specs.declared.program.NodeRow.{NodeRow}
use Rattle.rationals.specs.Sparse.{coefficient}
use Rattle.rationals.specs.Choices.{pick}
use Rattle.cut_defs.specs.declared.kinds.CutKind.{CutKind}
use Rattle.cut_defs.specs.declared.datum.ColumnBounds.{ColumnBounds}
use Rattle.cut_defs.specs.Data.{Datum}
use Rattle.cut_defs.specs.Stored as stored
use Rattle.cut_defs.specs.Stored.{Stored}
use Rattle.node_lp.specs.Problem.{held, PlacedCut, Problem}
use Rattle.node_lp.specs.Records.{IsRecord}

-- the stored cuts are those of the program
abbrev pub AreStored : List PlacedCut → List Stored → Type 0
AreStored [] [] = Unit {0}
AreStored [] (d ∷ ds) = ⊥
AreStored (c ∷ cs) [] = ⊥
AreStored (c ∷ cs) (d ∷ ds) = (held d ≡ c.cut) × AreStored cs ds

-- the program is that of the datum
pub record IsStoredIn (d : Datum) (p : Problem) (cuts : List Stored) : Type 0 where
  pub rows : d.rows ≡ p.rows
  pub cost : d.cost ≡ p.cost
  pub bounds : d.bounds ≡ p.bounds
  pub shares : d.shares ≡ p.shares
  pub same : AreStored p.cuts cuts

-- the cuts with their weights, those with weight 0 left out
abbrev pub stored_uses : List ℚ → List Stored → stored.StoredUses
stored_uses ws [] = stored.StoredUses.No_stored
stored_uses [] (d ∷ ds) = stored.StoredUses.No_stored
stored_uses (w ∷ ws) (d ∷ ds) = pick (is_zero w) (stored_uses ws ds) (stored.StoredUses.Use_stored w d (stored_uses ws ds))

-- each weight is above 0
abbrev pub AreAbove : stored.StoredUses → Type 0
AreAbove stored.StoredUses.No_stored = Unit {0}
AreAbove (stored.StoredUses.Use_stored w cut uses) = (zero_ℚ <ℚ w) × AreAbove uses

-- what is asked of a record that is made from a datum, besides its constant and form: every used end is finite, and the weights fit
pub record IsGoodStored (d : Datum) (s : stored.Source) (uses : stored.StoredUses) : Type 0 where
  pub rows : Each (λ (r : NodeRow). IsGoodAt r.low r.high (coefficient s.multipliers r.row)) d.rows
  pub bounds : Each (λ (b : ColumnBounds). IsGoodAt b.lower b.upper (stored.reduced_of d s uses b.column)) d.bounds
  pub weights : stored.WeightsFit d s.kind uses
  pub above : AreAbove uses

abbrev pub StoredRecordsHold : Type 0
StoredRecordsHold = (d : Datum) (s : stored.Source) (p : Problem) (kind : CutKind) (cuts : List Stored) (ws : List ℚ)
    → s.kind ≡ kind → IsStoredIn d p cuts → IsRecord p kind s.multipliers ws
    → IsGoodStored d s (stored_uses ws cuts)
