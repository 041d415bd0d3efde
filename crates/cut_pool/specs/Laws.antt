-- What a pool keeps.
use Rattle.std.specs.Prelude.{Option}
use Rattle.scen_defs.specs.Lists.{Each}
use Rattle.cut_defs.specs.declared.versions.Shift.{Shift}
use Rattle.cut_defs.specs.declared.versions.Touch.{Touch}
use Rattle.cut_defs.specs.Data.{Book, History, IsBook}
use Rattle.cut_defs.specs.Stored.{Stored, IsMadeFor}
use Rattle.cut_defs.specs.Current.{IsSoundFor}
use Rattle.cut_pool.specs.declared.offer.Offer.{Offer}
use Rattle.cut_pool.specs.Held.{Held}
use Rattle.cut_pool.specs.Pool.{with_cut, after_offer, swept, IsShiftOf}

-- every cut of the pool is made for the book
abbrev pub AllMadeFor : Book → Held → Type 0
AllMadeFor book p = Each (IsMadeFor book) p.cuts

pub record PoolLaws : Type 0 where
  -- a pool of cuts that are made for a book keeps only such cuts
  pub grounded : (book : Book) (p : Held) (cut : Stored) → AllMadeFor book p → IsMadeFor book cut → AllMadeFor book (with_cut p cut)
  pub offered : (book : Book) (p : Held) (cut : Stored) (answer : Offer) → AllMadeFor book p → IsMadeFor book cut
      → AllMadeFor book (after_offer p cut answer)
  pub sweeps : (book : Book) (p : Held) (t : Touch) (shift : Option Shift) → AllMadeFor book p → IsShiftOf book shift
      → AllMadeFor book (swept p t shift)
  -- and so every cut of it is sound
  pub sound : (h : History) (book : Book) (p : Held) → IsBook h book → AllMadeFor book p → Each (IsSoundFor h) p.cuts
