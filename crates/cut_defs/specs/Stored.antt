-- Cuts as they are kept: a record with the versions that it speaks of, the cuts that it uses, and the sums.
use Rattle.std.proofs.Common.{◌≡◌, ℕ, suc, ◌&&◌, eqb, true, List, map}
use Rattle.rationals.specs.Rational.{ℚ, zero_ℚ, ◌+ℚ◌, ◌*ℚ◌, ◌-ℚ◌, ◌<ℚ◌}
use Rattle.rationals.specs.Sums.{sum_ℚ}
use Rattle.rationals.specs.Sparse.{Entry, coefficient, value_if}
use Rattle.scen_defs.specs.Lists.{Each, is_in}
use Rattle.scen_defs.specs.Ends.{IsGoodAt, worth}
use Rattle.scen_defs.specs.declared.program.NodeRow.{NodeRow}
use Rattle.cut_defs.specs.declared.kinds.CutKind.{CutKind}
use Rattle.cut_defs.specs.declared.kinds.CutKind.TheVariants.{Bound, Ray}
use Rattle.cut_defs.specs.declared.datum.ColumnBounds.{ColumnBounds}
use Rattle.cut_defs.specs.declared.datum.Share.{Share}
use Rattle.cut_defs.specs.Cuts.{is_bound}
use Rattle.cut_defs.specs.Data.{Datum, Book, datum_of}

-- a record's node, kind, versions and multipliers
pub record Source : Type 0 where
  pub node : ℕ
  pub kind : CutKind
  pub rows_version : ℕ
  pub costs_version : ℕ
  pub multipliers : List Entry

mutual
  -- source, used cuts, constant, form
  pub data Stored : Type 0 where
    Stored_of : Source → StoredUses → ℚ → List Entry → Stored

  -- each used cut with its weight
  pub data StoredUses : Type 0 where
    No_stored : StoredUses
    Use_stored : ℚ → Stored → StoredUses → StoredUses

abbrev pub source_of : Stored → Source
source_of (Stored_of s uses constant form) = s

abbrev pub uses_of : Stored → StoredUses
uses_of (Stored_of s uses constant form) = uses

abbrev pub constant_of : Stored → ℚ
constant_of (Stored_of s uses constant form) = constant

abbrev pub form_of : Stored → List Entry
form_of (Stored_of s uses constant form) = form

-- ---- the sums, over a datum
abbrev pub form_sum : StoredUses → ℕ → ℚ
form_sum No_stored j = zero_ℚ
form_sum (Use_stored weight cut uses) j = weight *ℚ coefficient (form_of cut) j +ℚ form_sum uses j

abbrev pub constant_sum : StoredUses → ℚ
constant_sum No_stored = zero_ℚ
constant_sum (Use_stored weight cut uses) = weight *ℚ constant_of cut +ℚ constant_sum uses

-- column j of the form: plus weight times the used cut's form, less entry times multiplier
abbrev pub slope_of : Datum → Source → StoredUses → ℕ → ℚ
slope_of d s uses j = form_sum uses j -ℚ sum_ℚ (λ (r : NodeRow). coefficient r.entries j *ℚ coefficient s.multipliers r.row) d.rows

-- what a column costs a cut of this kind
abbrev pub cost_of : Datum → CutKind → ℕ → ℚ
cost_of d Bound j = coefficient d.cost j
cost_of d Ray j = zero_ℚ

abbrev pub reduced_of : Datum → Source → StoredUses → ℕ → ℚ
reduced_of d s uses j = cost_of d s.kind j +ℚ slope_of d s uses j

-- ---- what is asked of a record
-- the weights on Bound cuts about node m
abbrev pub weight_on : StoredUses → ℕ → ℚ
weight_on No_stored m = zero_ℚ
weight_on (Use_stored weight cut uses) m =
    value_if (is_bound (source_of cut).kind && eqb (source_of cut).node m) weight +ℚ weight_on uses m

abbrev pub StoredRays : StoredUses → Type 0
StoredRays No_stored = Unit {0}
StoredRays (Use_stored weight cut uses) = ((source_of cut).kind ≡ Ray) × StoredRays uses

-- of a Bound record they add up to each child's share; a Ray record uses no Bound cut
abbrev pub WeightsFit : Datum → CutKind → StoredUses → Type 0
WeightsFit d Bound uses = Each (λ (s : Share). weight_on uses s.child ≡ s.share) d.shares
WeightsFit d Ray uses = StoredRays uses

-- each multiplier is of a row of the datum
abbrev pub OnRows : Datum → Source → Type 0
OnRows d s = Each (λ (e : Entry). is_in e.column (map (λ (r : NodeRow). r.row) d.rows) ≡ true) s.multipliers

-- no column of the node's stage is column j
abbrev pub IsEarlier : List ColumnBounds → ℕ → Type 0
IsEarlier bounds j = Each (λ (b : ColumnBounds). b.column ≡ j → ⊥) bounds

-- ---- the record with its sums is made from the datum
pub record IsMadeFrom (d : Datum) (s : Source) (uses : StoredUses) (constant : ℚ) (form : List Entry) : Type 0 where
  pub on_rows : OnRows d s
  pub weights : WeightsFit d s.kind uses
  -- every used end is finite
  pub rows : Each (λ (r : NodeRow). IsGoodAt r.low r.high (coefficient s.multipliers r.row)) d.rows
  pub bounds : Each (λ (b : ColumnBounds). IsGoodAt b.lower b.upper (reduced_of d s uses b.column)) d.bounds
  pub constant_is : constant ≡ sum_ℚ (λ (r : NodeRow). worth r.low r.high (coefficient s.multipliers r.row)) d.rows
      +ℚ sum_ℚ (λ (b : ColumnBounds). worth b.lower b.upper (reduced_of d s uses b.column)) d.bounds
      +ℚ constant_sum uses
  -- the form is over the columns of the stages before
  pub form_is : (j : ℕ) → IsEarlier d.bounds j → coefficient form j ≡ slope_of d s uses j

-- a used cut: its weight is above 0, and its node is a child of the record's
pub record IsStoredUse (book : Book) (n : ℕ) (w : ℚ) (m : ℕ) : Type 0 where
  pub weight : zero_ℚ <ℚ w
  pub parent : book.parent m ≡ n
  pub stage : book.stage m ≡ suc (book.stage n)

-- a cut is made for a book: its record and those of the cuts below it are made from the book's data of their versions
abbrev mutual
  pub IsMadeFor : Book → Stored → Type 0
  IsMadeFor book (Stored_of s uses constant form) =
      IsMadeFrom (datum_of book s.node s.rows_version s.costs_version) s uses constant form × AreMadeFor book s.node uses

  pub AreMadeFor : Book → ℕ → StoredUses → Type 0
  AreMadeFor book n No_stored = Unit {0}
  AreMadeFor book n (Use_stored weight cut uses) =
      IsStoredUse book n weight (source_of cut).node × IsMadeFor book cut × AreMadeFor book n uses

-- the parts of a record's datum that count: the rows and the bounds; the costs and the shares of a Bound record alone
pub record IsDatumFor (book : Book) (d : Datum) (s : Source) : Type 0 where
  pub rows : d.rows ≡ book.rows s.node s.rows_version
  pub bounds : d.bounds ≡ book.bounds s.node
  pub cost : s.kind ≡ Bound → d.cost ≡ book.cost s.node s.costs_version
  pub shares : s.kind ≡ Bound → d.shares ≡ book.shares s.node s.costs_version
