-- All cuts are made for books where there are none, and behind an edit, whose sweeps repair by shifts of the books.
use Rattle.std.proofs.Common.{◌≡◌, ℕ, zero, suc, Bool, true, false, ◌&&◌, eqb, ltb, List, [], ◌∷◌, Option, Some, None, replicate, refl, sym, subst}
use Rattle.rationals.specs.Choices.{pick}
use Rattle.scen_defs.specs.Lists.{Each}
use Rattle.scen_defs.specs.Program.{Node, is_live}
use Rattle.scen_defs.specs.declared.report.Kind.{Kind}
use Rattle.cut_defs.specs.declared.kinds.Bank.{Bank}
use Rattle.cut_defs.specs.declared.kinds.Bank.TheVariants.{Plain, Cone}
use Rattle.cut_defs.specs.declared.versions.Touch.{Touch}
use Rattle.cut_defs.specs.declared.versions.Shift.{Shift}
use Rattle.cut_defs.specs.declared.versions.Due.{Due}
use Rattle.cut_defs.specs.Data.{Book}
use Rattle.cut_pool.specs.Held.{Held}
use Rattle.cut_pool.specs.Laws.{AllMadeFor}
use Rattle.cut_pool.specs.Pool.{fits_shift, swept, IsShiftOf}
use Rattle.cut_pool.proofs.Fresh.{pools_keep_what_is_made}
use Rattle.cut_banks.specs.declared.banks.Banks.{Banks}
use Rattle.cut_banks.specs.Banks.{empty_banks, edited_banks}
use Rattle.cut_banks.specs.Pools.{no_cuts, all_empty, fit_pools, may_change, fitting, swept_for, same_bank, is_due, pool_after, pools_after}
use Rattle.node_data.specs.Counts.{untouched, version_of}
use Rattle.found_ends.specs.declared.ends.Ends.{Ends}
use Rattle.found_ends.specs.Ends.{no_ends}
use Rattle.pass_core.specs.declared.state.State.{State}
use Rattle.pass_core.specs.Explained.{IsUnstopped}
use Rattle.pass_core.specs.Made.{BankBooks, bank_book, PoolsAreMade, EndsAreMade, CutsAreMade, HasShiftOf}

-- ---- before anything is done
empty_made : (book : Book) (n count : ℕ) → Each (AllMadeFor book) (all_empty n count)
empty_made book n zero = tt
empty_made book n (suc count) = (tt, empty_made book (suc n) count)

pub all_made_at_start : (b : BankBooks) (kind : Kind) (banks : Banks) (ends : Ends) (nodes : ℕ) → banks ≡ empty_banks nodes → ends ≡ no_ends
    → PoolsAreMade b banks × EndsAreMade b kind ends
all_made_at_start b kind banks ends nodes e f = (
  subst (PoolsAreMade b) (sym e) (record { plain = empty_made b.plain 0 nodes; cone = empty_made b.cone 0 nodes }),
  subst (EndsAreMade b kind) (sym f) (record { root = tt; lower = tt; nowhere = tt }),
)

pub never_touched : (nodes n : ℕ) → version_of (replicate nodes untouched) n ≡ untouched
never_touched zero n = refl
never_touched (suc nodes) zero = refl
never_touched (suc nodes) (suc n) = never_touched nodes n

-- ---- behind an edit
fitting_of : (book : Book) (t : Touch) (shift : Option Shift) → IsShiftOf book shift → IsShiftOf book (fitting t shift)
fitting_of book t None h = tt
fitting_of book t (Some s) h = go (ltb 0 s.version && fits_shift t s)
  where
    go : (fits : Bool) → IsShiftOf book (pick fits (Some s) None)
    go true = h
    go false = tt

-- a pool that is swept
swept_made : (book : Book) (due : Due) (p : Held) → IsShiftOf book due.shift → AllMadeFor book p → AllMadeFor book (swept_for due p)
swept_made book due p h all = go (may_change p)
  where
    go : (may : Bool) → AllMadeFor book (pick may (swept p due.touch (fitting due.touch due.shift)) p)
    go true = pools_keep_what_is_made.sweeps book p due.touch (fitting due.touch due.shift) all (fitting_of book due.touch due.shift h)
    go false = all

-- a due that is one of a bank's pools has a shift of the bank's book
in_bank_of : (b : BankBooks) (bank other : Bank) (n pool : ℕ) (shift : Option Shift) → (same_bank bank other && eqb pool n) ≡ true → IsShiftOf (bank_book other b) shift
    → IsShiftOf (bank_book bank b) shift
in_bank_of b Plain Plain n pool shift e h = h
in_bank_of b Plain Cone n pool shift e h = absurd (let no : false ≡ true = e in cc)
in_bank_of b Cone Plain n pool shift e h = absurd (let no : false ≡ true = e in cc)
in_bank_of b Cone Cone n pool shift e h = h

pool_made_after : (b : BankBooks) (bank : Bank) (n : ℕ) (dues : List Due) (p : Held) → Each (HasShiftOf b) dues → AllMadeFor (bank_book bank b) p
    → AllMadeFor (bank_book bank b) (pool_after bank n dues p)
pool_made_after b bank n [] p h all = all
pool_made_after b bank n (due ∷ dues) p h all = pool_made_after b bank n dues (pick (is_due bank n due) (swept_for due p) p) h.1 (go (is_due bank n due) refl)
  where
    go : (t : Bool) → is_due bank n due ≡ t → AllMadeFor (bank_book bank b) (pick t (swept_for due p) p)
    go true e = swept_made (bank_book bank b) due p (in_bank_of b bank due.bank n due.pool due.shift e h.0) all
    go false e = all

pools_made_after : (b : BankBooks) (bank : Bank) (n : ℕ) (dues : List Due) (pools : List Held) → Each (HasShiftOf b) dues → Each (AllMadeFor (bank_book bank b)) pools
    → Each (AllMadeFor (bank_book bank b)) (pools_after bank n dues pools)
pools_made_after b bank n dues [] h all = tt
pools_made_after b bank n dues (p ∷ pools) h all = (pool_made_after b bank n dues p h all.0, pools_made_after b bank (suc n) dues pools h all.1)

-- pools for other nodes
fit_made : (book : Book) (n : ℕ) (places : List (Option Node)) (pools : List Held) → Each (AllMadeFor book) pools → Each (AllMadeFor book) (fit_pools n places pools)
fit_made book n [] pools h = h
fit_made book n (place ∷ rest) [] h = (tt, fit_made book (suc n) rest [] tt)
fit_made book n (place ∷ rest) (p ∷ pools) h = (go (is_live place), fit_made book (suc n) rest pools h.1)
  where
    go : (lives : Bool) → AllMadeFor book (pick lives p (no_cuts n))
    go true = h.0
    go false = tt

edited_made : (b : BankBooks) (grown : Bool) (nodes : List (Option Node)) (dues : List Due) (banks : Banks) → Each (HasShiftOf b) dues → PoolsAreMade b banks
    → PoolsAreMade b (edited_banks grown nodes dues banks)
edited_made b true nodes dues banks h all = record {
  plain = pools_made_after b Plain 0 dues (fit_pools 0 nodes banks.plain) h (fit_made b.plain 0 nodes banks.plain all.plain);
  cone = pools_made_after b Cone 0 dues (fit_pools 0 nodes banks.cone) h (fit_made b.cone 0 nodes banks.cone all.cone);
}
edited_made b false nodes dues banks h all = record {
  plain = pools_made_after b Plain 0 dues banks.plain h all.plain;
  cone = pools_made_after b Cone 0 dues banks.cone h all.cone;
}

-- all cuts of a state behind an edit
pub all_made_behind : (b : BankBooks) (grown : Bool) (nodes : List (Option Node)) (dues : List Due) (banks : Banks) (new : State) → Each (HasShiftOf b) dues
    → PoolsAreMade b banks → new.banks ≡ edited_banks grown nodes dues banks → IsUnstopped new → CutsAreMade b new
all_made_behind b grown nodes dues banks new h all e none = (
  subst (PoolsAreMade b) (sym e) (edited_made b grown nodes dues banks h all),
  subst (EndsAreMade b new.kind) (sym none.ends) (record { root = tt; lower = tt; nowhere = tt }),
)
