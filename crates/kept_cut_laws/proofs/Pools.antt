-- Pools that gain a cut that is up to date.
use Rattle.std.proofs.Common.{◌≡◌, ℕ, ◌+◌, ◌<◌, ◌≤◌, List, Some, arith}
use Rattle.scen_defs.specs.Program.{Program}
use Rattle.scen_defs.specs.declared.report.Kind.{Kind}
use Rattle.scen_defs.specs.declared.report.Kind.TheVariants.{Feasible, Recession, Cost}
use Rattle.scen_defs.proofs.ValueLaws.{each-push}
use Rattle.cut_defs.specs.Stored.{Stored}
use Rattle.cut_pool.specs.Held.{Held}
use Rattle.cut_pool.specs.Pool.{with_cut}
use Rattle.cut_banks.specs.declared.banks.Banks.{Banks}
use Rattle.cut_banks.specs.Banks.{pools_of, with_pools}
use Rattle.node_data.specs.declared.versions.Version.{Version}
use Rattle.kept_cut_laws.specs.Kept.{IsCutNow, IsKeptAt, AreKept, BanksAreKept}

module _ (p : Program) (versions : List Version) where
  -- a pool that changed no more often
  pub still_kept : (a b n : ℕ) (pool : Held) → a ≤ b → IsKeptAt p versions a n pool → IsKeptAt p versions b n pool
  still_kept a b n pool less h = record {
    node = h.node;
    cuts = h.cuts;
    root = h.root;
    known = h.known;
    places = h.places;
    few = omega (arith, less, h.few);
  }

  -- a pool of another node than the root with one cut more
  pub with_cut_kept : (most n : ℕ) (pool : Held) (cut : Stored) → 0 < n → IsCutNow p versions n cut → IsKeptAt p versions most n pool
      → IsKeptAt p versions (most + 1) n (with_cut pool cut)
  with_cut_kept most n pool cut low now h = record {
    node = h.node;
    cuts = each-push (IsCutNow p versions n) pool.cuts cut h.cuts now;
    root = λ z. absurd (omega (arith, low, z));
    known = h.known;
    places = h.places;
    few = omega (arith, h.few);
  }

  pub still_all_kept : (most : ℕ) (pools : List Held) → AreKept p versions most pools → AreKept p versions (most + 1) pools
  still_all_kept most pools h n pool e = still_kept most (most + 1) n pool (omega arith) (h n pool e)

  pub still_banks_kept : (most : ℕ) (b : Banks) → BanksAreKept p versions most b → BanksAreKept p versions (most + 1) b
  still_banks_kept most b h = record { plain = still_all_kept most b.plain h.plain; cone = still_all_kept most b.cone h.cone }

pub one_pool : (p q : Held) → Some p ≡ Some q → p ≡ q
one_pool p q e = cc

-- where a change of the pools of a run leads from this to that, and so does none, it is so with both banks
pub both_change : (Old New : List Held → Type 0) (kind : Kind) (pools : List Held) (b : Banks) → ((ps : List Held) → Old ps → New ps)
    → (Old (pools_of kind b) → New pools) → Old b.plain → Old b.cone
    → New (with_pools kind pools b).plain × New (with_pools kind pools b).cone
both_change Old New Feasible pools b same step h k = (step h, same b.cone k)
both_change Old New Recession pools b same step h k = (same b.plain h, step k)
both_change Old New Cost pools b same step h k = (step h, same b.cone k)
