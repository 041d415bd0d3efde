-- What is proved of cuts.
use Rattle.std.proofs.Common.{◌≡◌, ℕ, eqb, List}
use Rattle.rationals.specs.Rational.{ℚ, zero_ℚ, one_ℚ, ◌+ℚ◌, ◌*ℚ◌, ◌≤ℚ◌, ◌<ℚ◌}
use Rattle.rationals.specs.Sums.{sum_ℚ}
use Rattle.rationals.specs.Sparse.{Entry, coefficient, value_if}
use Rattle.scen_defs.specs.Program.{View, IsLive, IsTree}
use Rattle.scen_defs.specs.Flat.{Feasible, node_cost, cost, IsGood, value, ShowsInfeasible, IsRoot, share, children}
use Rattle.cut_defs.specs.declared.versions.Shift.{Shift}
use Rattle.cut_defs.specs.Repairs.{IsShift, repair}
use Rattle.cut_defs.specs.declared.versions.Touch.{Touch}
use Rattle.cut_defs.specs.Data.{Datum, History, Book, IsBook}
use Rattle.cut_defs.specs.Stored.{Source, Stored, StoredUses, source_of, constant_of, IsMadeFrom, IsMadeFor, AreMadeFor, IsDatumFor}
use Rattle.cut_defs.specs.Stored.Stored.{Stored_of}
use Rattle.cut_defs.specs.Support.{support, cut_rests, reaches, StampsRise, RestsOnNone}
use Rattle.cut_defs.specs.Current.{IsTold, IsCurrent, SupportIsPresent, IsSoundFor, stored_flat}
use Rattle.cut_defs.specs.Cuts.{Cut, node_of, kind_of, constant, IsMade, IsSound, priced, flat, IsGround, Way, ways}
use Rattle.cut_defs.specs.declared.kinds.CutKind.TheVariants.{Bound, Ray}
use Rattle.scen_defs.specs.Lists.{Each}

abbrev pub CutsAreSound : Type 0
CutsAreSound = (v : View) (cut : Cut) → IsTree v → IsMade v cut → IsSound v cut

-- the flat dual of a root cut is good, and its value is at least the cut's constant; for a Ray cut with all costs 0
abbrev pub FlatsAreGood : Type 0
FlatsAreGood = (v : View) (cut : Cut) → IsTree v → IsMade v cut → IsRoot v (node_of cut)
    → IsGood (priced v (kind_of cut)) (flat cut) × (constant v cut ≤ℚ value (priced v (kind_of cut)) (flat cut))

-- the ground cut of a live node is made, and so sound, where the flat dual is good
abbrev pub GroundCutsAreMade : Type 0
GroundCutsAreMade =
    (v : View) (y : ℕ → ℕ → ℚ) (cut : Cut) → IsTree v → IsGood v y → IsLive v (node_of cut)
    → IsGround v y cut → IsMade v cut

-- a cut that is made for the data of a history is sound after every number of edits at which its support is present
abbrev pub StoredCutsAreSound : Type 0
StoredCutsAreSound = (h : History) (book : Book) (cut : Stored) → IsBook h book → IsMadeFor book cut → IsSoundFor h cut

-- and the flat dual of a stored root cut is good then, and worth at least its constant
abbrev pub StoredFlatsAreGood : Type 0
StoredFlatsAreGood = (h : History) (book : Book) (cut : Stored) → IsBook h book → IsMadeFor book cut
    → (k : ℕ) → SupportIsPresent h k cut
    → IsRoot (h.after k) (source_of cut).node
    → IsGood (priced (h.after k) (source_of cut).kind) (stored_flat cut)
    × (constant_of cut ≤ℚ value (priced (h.after k) (source_of cut).kind) (stored_flat cut))

-- the flat dual by ways: each way down to a record, with the product of its weights
abbrev pub FlatsAreSumsOverWays : Type 0
FlatsAreSumsOverWays = (cut : Cut) (n i : ℕ)
    → flat cut n i ≡ sum_ℚ (λ (w : Way). value_if (eqb w.node n) (w.weight *ℚ coefficient w.multipliers i)) (ways one_ℚ cut)

-- numbers for the nodes, each at least the cost of the node and, by their shares, the numbers of its children
abbrev pub CoversCosts : View → (ℕ → ℕ → ℚ) → (ℕ → ℚ) → Type 0
CoversCosts v x worth_of = Each (λ n. node_cost v x n +ℚ sum_ℚ (λ m. share v m *ℚ worth_of m) (children v n)
    ≤ℚ worth_of n) v.live

-- where such numbers of a feasible point meet a root cut at the root, the point's cost is the value of the cut's flat dual
abbrev pub EndsMeet : Type 0
EndsMeet = (v : View) (x : ℕ → ℕ → ℚ) (worth_of : ℕ → ℚ) (cut : Cut) → IsTree v
    → Feasible v x → CoversCosts v x worth_of → IsMade v cut
    → IsRoot v (node_of cut) → kind_of cut ≡ Bound
    → worth_of (node_of cut) ≤ℚ constant v cut → IsGood v (flat cut) × (value v (flat cut) ≡ cost v x)

-- the repair of a made cut is made
abbrev pub RepairsAreMade : Type 0
RepairsAreMade = (book : Book) (s : Shift) (cut : Stored) → IsShift book s → IsMadeFor book cut → IsMadeFor book (repair s cut)

-- a root Ray cut whose constant is above 0 shows that nothing is feasible
abbrev pub RaysShowInfeasible : Type 0
RaysShowInfeasible = (v : View) (cut : Cut) → IsTree v → IsMade v cut → IsRoot v (node_of cut) → kind_of cut ≡ Ray
    → zero_ℚ <ℚ constant v cut → ShowsInfeasible v (flat cut)

-- ---- what the support says
pub record SupportLaws : Type 0 where
  -- each stamp once, in rising order
  pub rises : (cut : Stored) → StampsRise (support cut)
  -- a cut rests on a touch exactly where a record below it does
  pub rests : (cut : Stored) (t : Touch) → cut_rests cut t ≡ reaches cut t
  -- the support is present exactly where each record below the cut is current
  pub current : (h : History) (k : ℕ) (cut : Stored) → SupportIsPresent h k cut → IsCurrent h k cut
  pub present : (h : History) (k : ℕ) (cut : Stored) → IsCurrent h k cut → SupportIsPresent h k cut
  -- where all is known that touched the nodes of the support, and the cut rests on none of it, the support is present
  pub untouched : (h : History) (k : ℕ) (known : List Touch) (cut : Stored)
      → Each (IsTold h k known) (support cut) → RestsOnNone cut known
      → SupportIsPresent h k cut

-- a record with sums that are made from its datum, and used cuts that are made for the book, is a cut that is made for the book
abbrev pub CutsAreMadeFor : Type 0
CutsAreMadeFor = (book : Book) (d : Datum) (s : Source) (uses : StoredUses) (constant : ℚ) (form : List Entry) → IsDatumFor book d s
    → IsMadeFrom d s uses constant form → AreMadeFor book s.node uses
    → IsMadeFor book (Stored_of s uses constant form)
