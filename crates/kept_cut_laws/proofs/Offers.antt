-- Pools to which a cut that is up to date is offered stay up to date.
use Rattle.std.proofs.Common.{ℕ, zero, suc, ◌+◌, ◌<◌, List, Option, Some, None, IfSome, sym, subst, ◌∙◌, arith}
use Rattle.rationals.specs.Sparse.{Entry}
use Rattle.scen_defs.specs.Program.{Program}
use Rattle.scen_defs.specs.declared.report.Kind.{Kind}
use Rattle.cut_defs.specs.Stored.{Stored}
use Rattle.cut_pool.specs.Held.{Held}
use Rattle.cut_pool.specs.Pool.{with_cut}
use Rattle.cut_banks.specs.declared.banks.Banks.{Banks}
use Rattle.cut_banks.specs.Banks.{pools_of}
use Rattle.answer_laws.specs.Offers.{offered_pools, StaysOrGrows, stays, grows}
use Rattle.answer_laws.proofs.Offers.{offers_hold}
use Rattle.node_data.specs.declared.versions.Version.{Version}
use Rattle.pass_core.specs.Left.{offered_banks}
use Rattle.kept_cut_laws.specs.Kept.{IsCutNow, IsKeptAt, AreKept, BanksAreKept}
use Rattle.kept_cut_laws.specs.Laws.{OffersKeepCuts}
use Rattle.kept_cut_laws.proofs.Pools.{still_kept, with_cut_kept, still_all_kept, still_banks_kept, one_pool, both_change}

module _ (p : Program) (versions : List Version) (most : ℕ) where
  offered_kept : (n : ℕ) (cut : Stored) (trial : List Entry) (pools : List Held) → 0 < n → IsCutNow p versions n cut → AreKept p versions most pools
      → AreKept p versions (most + 1) (offered_pools cut trial pools)
  offered_kept n cut trial pools low now h j pool e = go (offers_hold.places cut trial pools j)
    where
      go : StaysOrGrows cut pools (offered_pools cut trial pools) j → IsKeptAt p versions (most + 1) j pool
      go (stays s) = still_kept p versions most (most + 1) j pool (omega arith) (h j pool (sym s ∙ e))
      go (grows q at there grown) = subst (IsKeptAt p versions (most + 1) j) (one_pool (with_cut q cut) pool (sym grown ∙ e))
          (with_cut_kept p versions most j q cut (omega (arith, low, now.node, at)) (subst (λ (k : ℕ). IsCutNow p versions k cut) (sym now.node ∙ sym at) now) (h j q there))

  offers_kept : (kind : Kind) (n : ℕ) (cut : Option Stored) (banks : Banks) → IfSome cut (IsCutNow p versions n)
      → BanksAreKept p versions most banks → (trial : List Entry) → BanksAreKept p versions (most + 1) (offered_banks kind n cut trial banks)
  offers_kept kind zero cut banks now h trial = still_banks_kept p versions most banks h
  offers_kept kind (suc n) None banks now h trial = still_banks_kept p versions most banks h
  offers_kept kind (suc n) (Some cut) banks now h trial =
      let both = both_change (AreKept p versions most) (AreKept p versions (most + 1)) kind (offered_pools cut trial (pools_of kind banks)) banks
      (still_all_kept p versions most) (offered_kept (suc n) cut trial (pools_of kind banks) (omega arith) now) h.plain h.cone in
      record { plain = both.0; cone = both.1 }

pub offers_keep_cuts : OffersKeepCuts
offers_keep_cuts p versions kind n most cut banks now h trial = offers_kept p versions most kind n cut banks now h trial
