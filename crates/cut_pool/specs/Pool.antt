-- A pool: what an offer and a sweep leave.
use Rattle.std.specs.Prelude.{◌≡◌, ℕ, suc, ◌<◌, Bool, true, false, ◌&&◌, eqb, List, [], ◌∷◌, ◌++◌, Option, Some}
use Rattle.std.specs.Prelude.{None, Result, Ok, Err}
use Rattle.rationals.specs.Rational.{ℚ, zero_ℚ, at_most}
use Rattle.rationals.specs.Sparse.{Entry}
use Rattle.rationals.specs.Passes.{Operation, then_walk}
use Rattle.rationals.specs.Choices.{pick}
use Rattle.cut_defs.specs.declared.kinds.CutKind.{CutKind}
use Rattle.cut_defs.specs.declared.kinds.CutKind.TheVariants.{Bound, Ray}
use Rattle.cut_defs.specs.declared.versions.Stamp.{Stamp}
use Rattle.cut_defs.specs.declared.versions.Touch.{Touch}
use Rattle.cut_defs.specs.Cuts.{is_bound}
use Rattle.cut_defs.specs.Stored.{Stored, source_of}
use Rattle.cut_defs.specs.Support.{rank, support, cut_rests, first_stale}
use Rattle.cut_defs.specs.declared.versions.Shift.{Shift}
use Rattle.cut_defs.specs.Data.{Book}
use Rattle.cut_defs.specs.Repairs.{IsShift}
use Rattle.cut_proof.specs.Repairing.{touch_of, shifted_walk}
use Rattle.cut_sums.specs.Walks.{value_walk}
use Rattle.cut_pool.specs.declared.offer.Offer.{Offer}
use Rattle.cut_pool.specs.declared.offer.Offer.TheVariants.{Added, NotNeeded, Stale, Passed}
use Rattle.cut_pool.specs.Held.{Held}
use Rattle.cut_pool.specs.Known.{newest}

-- ---- an offer
abbrev pub greater : Option ℚ → ℚ → ℚ
greater None v = v
greater (Some b) v = pick (at_most b v) v b

abbrev pub same_kind : CutKind → CutKind → Bool
same_kind Bound k = is_bound k
same_kind Ray Bound = false
same_kind Ray Ray = true

-- the greatest value at the trial of the cuts of the kind, in their order
abbrev pub best_from : CutKind → List Entry → Option ℚ → List Stored → Result (Option ℚ) Operation
best_from kind trial best [] = Ok best
best_from kind trial best (c ∷ cs) = pick (same_kind kind (source_of c).kind)
    (then_walk (value_walk c trial) (λ v. best_from kind trial (Some (greater best v)) cs))
    (best_from kind trial best cs)

-- a Ray cut is worth holding only above 0
abbrev pub least_of : CutKind → Option ℚ
least_of Bound = None
least_of Ray = Some zero_ℚ

-- added where the value exceeds that of each held cut
abbrev pub judged : ℚ → Option ℚ → Offer
judged v None = Added
judged v (Some b) = pick (at_most v b) (NotNeeded b) Added

abbrev pub or_passed : Result Offer Operation → Offer
or_passed (Ok o) = o
or_passed (Err p) = Passed p

-- the offered cut's value first, and then those of the held cuts of its kind
abbrev pub judge : CutKind → Stored → List Stored → List Entry → Result Offer Operation
judge kind cut held trial =
    then_walk (value_walk cut trial) (λ v. then_walk (best_from kind trial (least_of kind) held) (λ best. Ok (judged v best)))

abbrev pub offer_by : Option Stamp → Held → Stored → List Entry → Offer
offer_by (Some a) p cut trial = Stale a.node a.part a.version (newest p.known a)
offer_by None p cut trial = or_passed (judge (source_of cut).kind cut p.cuts trial)

-- the answer to an offer
abbrev pub offer_of : Held → Stored → List Entry → Offer
offer_of p cut trial = offer_by (first_stale p.known (support cut)) p cut trial

-- with the cut last
abbrev pub with_cut : Held → Stored → Held
with_cut p cut = record p { cuts = p.cuts ++ cut ∷ []; number = suc p.number }

-- what an answer leaves
abbrev pub after_offer : Held → Stored → Offer → Held
after_offer p cut Added = with_cut p cut
after_offer p cut (NotNeeded v) = p
after_offer p cut (Stale n part seen known) = p
after_offer p cut (Passed op) = p

-- ---- a sweep
abbrev pub or_none : Result (Option Stored) Operation → Option Stored
or_none (Ok o) = o
or_none (Err p) = None

-- the repair of a cut, where there is a shift and a repair
abbrev pub repair_of : Option Shift → Stored → Option Stored
repair_of None cut = None
repair_of (Some s) cut = or_none (shifted_walk s cut)

abbrev pub repaired_on : Option Stored → List Stored → List Stored
repaired_on None cs = cs
repaired_on (Some r) cs = r ∷ cs

-- each cut that rests on the touch is replaced in its place by its repair, or goes
abbrev pub kept_of : Touch → Option Shift → List Stored → List Stored
kept_of t shift [] = []
kept_of t shift (c ∷ cs) = pick (cut_rests c t) (repaired_on (repair_of shift c) (kept_of t shift cs)) (c ∷ kept_of t shift cs)

-- the touch stands last among the known ones
abbrev pub swept : Held → Touch → Option Shift → Held
swept p t shift = record p { known = p.known ++ t ∷ []; cuts = kept_of t shift p.cuts; number = suc p.number }

abbrev pub VersionIsAbove : Option Shift → Type 0
VersionIsAbove None = Unit {0}
VersionIsAbove (Some s) = 0 < s.version

-- where there is a shift, the touch is of the rows of its node with its version
abbrev pub ShiftFits : Touch → Option Shift → Type 0
ShiftFits t None = Unit {0}
ShiftFits t (Some s) = t ≡ touch_of s

-- the same as a test
abbrev pub fits_shift : Touch → Shift → Bool
fits_shift t s = eqb t.node s.node && (eqb (rank t.part) 0 && eqb t.version s.version)

-- where there is a shift, it is one of the book
abbrev pub IsShiftOf : Book → Option Shift → Type 0
IsShiftOf book None = Unit {0}
IsShiftOf book (Some s) = IsShift book s
