-- The first cuts of a run are up to date, and so are the pools with them, each of which gets one at most.
use Rattle.std.proofs.Common.{◌≡◌, ℕ, zero, suc, ◌+◌, ◌<◌, ◌≤◌, ◌⊎◌, inl, inr, List, [], ◌∷◌, Option, Some, None, IfSome, get_or, slice_get, slice_index_or, refl, sym, ap, subst, ◌∙◌, arith}
use Rattle.std.proofs.lemmas.Bool.{cases_lt, cases_eq}
use Rattle.rationals.specs.Rational.{zero_ℚ}
use Rattle.scen_defs.specs.Program.{Program}
use Rattle.scen_defs.specs.Valid.{IsProgram}
use Rattle.scen_defs.specs.Values.{At}
use Rattle.scen_defs.specs.declared.report.Kind.{Kind}
use Rattle.scen_tree.specs.Trees.{Tree}
use Rattle.cut_defs.specs.Stored.{Source, Stored, source_of}
use Rattle.cut_pool.specs.Held.{Held}
use Rattle.cut_pool.specs.Pool.{with_cut}
use Rattle.cut_banks.specs.declared.banks.Banks.{Banks}
use Rattle.cut_banks.specs.Banks.{pools_of}
use Rattle.cut_banks.specs.Pools.{may_put, with_pool}
use Rattle.answer_laws.proofs.Offers.{ChangesAt, changes_at, as_before, changed}
use Rattle.node_data.specs.declared.versions.Version.{Version}
use Rattle.node_data.specs.Counts.{version_of}
use Rattle.node_data.specs.Frames.{frame_of, children_in}
use Rattle.pass_core.specs.Grounds.{put_in_pool, put_cuts}
use Rattle.pass_core.specs.Made.{cuts_there}
use Rattle.pass_core.specs.Turns.{datum_in, IsFirstCut, AreFirstCuts}
use Rattle.pass_core.proofs.Making.{ground_parts}
use Rattle.kept_cut_laws.specs.Kept.{IsUpToDate, IsCutNow, IsKeptAt, AreKept, BanksAreKept}
use Rattle.kept_cut_laws.specs.Laws.{FirstCutsAreKept}
use Rattle.kept_cut_laws.proofs.Pools.{still_kept, with_cut_kept, one_pool, both_change}
use Rattle.kept_cut_laws.proofs.Records.{first_records}
use Rattle.kept_cut_laws.proofs.Solves.{cut_now}

-- ---- the cuts
first_about : (kind : Kind) (p : Program) (tree : Tree) (versions : List Version) (dual : List At) (cuts : List (Option Stored))
    → AreFirstCuts kind p tree versions dual cuts → (n : ℕ) → IfSome (slice_index_or cuts n None) (λ c. (source_of c).node ≡ n)
first_about kind p tree versions dual cuts are n = go (slice_index_or cuts n None) refl
  where
    of_walk : (cut : Stored) → slice_index_or cuts n None ≡ Some cut
        → (c : Stored) × ((slice_index_or cuts n None ≡ Some c) × IsFirstCut kind p tree versions dual cuts n c) → (source_of cut).node ≡ n
    of_walk cut e (c, (f, walk)) =
        let same : cut ≡ c = (let q : Some cut ≡ Some c = sym e ∙ f in cc) in
        ap (λ (x : Stored). (source_of x).node) same
        ∙ ap (λ (s : Source). s.node) (ground_parts (datum_in kind p n (version_of versions n)) (get_or tree.chances.totals n zero_ℚ) dual
        (cuts_there cuts (children_in (frame_of p) n)) c walk).1.0

    go : (o : Option Stored) → slice_index_or cuts n None ≡ o → IfSome o (λ c. (source_of c).node ≡ n)
    go None e = tt
    go (Some cut) e = of_walk cut e (are.there n (are.only n cut e))

first_now : (kind : Kind) (p : Program) (tree : Tree) (versions : List Version) (dual : List At) (cuts : List (Option Stored))
    → IsProgram p → AreFirstCuts kind p tree versions dual cuts → (n : ℕ) → IfSome (slice_index_or cuts n None) (IsCutNow p versions n)
first_now kind p tree versions dual cuts i are n =
    cut_now p versions n (slice_index_or cuts n None) (first_about kind p tree versions dual cuts are n)
    (first_records (IsUpToDate p versions) kind p i tree versions dual cuts are
    (λ m live y form. record { live = live; rows = refl; costs = λ e. refl; form = form }) n)

-- ---- the pools
module _ (p : Program) (versions : List Version) (most : ℕ) where
  -- a cut at each place of a list is one of the node of the place, the first of which is k
  abbrev AreNow : ℕ → List (Option Stored) → Type 0
  AreNow k [] = Unit {0}
  AreNow k (place ∷ places) = IfSome place (IsCutNow p versions k) × AreNow (suc k) places

  all_now : (k : ℕ) (places : List (Option Stored)) → ((i : ℕ) → IfSome (slice_index_or places i None) (IsCutNow p versions (k + i)))
      → AreNow k places
  all_now k [] h = tt
  all_now k (place ∷ places) h = (
    (let here : k + 0 ≡ k = omega arith in subst (λ (j : ℕ). IfSome place (IsCutNow p versions j)) here (h 0)),
    all_now (suc k) places (λ i. let next : k + suc i ≡ suc k + i = omega arith in
        subst (λ (j : ℕ). IfSome (slice_index_or places i None) (IsCutNow p versions j)) next (h (suc i))),
  )

  -- the pools of the nodes before node k have got their cuts, the others not yet
  record IsKeptTo (k n : ℕ) (pool : Held) : Type 0 where
    before : n < k → IsKeptAt p versions (most + 1) n pool
    from : k ≤ n → IsKeptAt p versions most n pool

  abbrev AreKeptTo : ℕ → List Held → Type 0
  AreKeptTo k pools = (n : ℕ) (pool : Held) → slice_get pools n ≡ Some pool → IsKeptTo k n pool

  begin : (pools : List Held) → AreKept p versions most pools → AreKeptTo 0 pools
  begin pools h n pool e = record { before = λ l. absurd (omega (arith, l)); from = λ l. h n pool e }

  finish : (k : ℕ) (pools : List Held) → AreKeptTo k pools → AreKept p versions (most + 1) pools
  finish k pools h n pool e = go (cases_lt n k)
    where
      go : (n < k) ⊎ (k ≤ n) → IsKeptAt p versions (most + 1) n pool
      go (inl l) = (h n pool e).before l
      go (inr l) = still_kept p versions most (most + 1) n pool (omega arith) ((h n pool e).from l)

  -- a pool that hasn't got its cut changes no more often without one
  skip : (k : ℕ) (pools : List Held) → AreKeptTo k pools → AreKeptTo (suc k) pools
  skip k pools h n pool e = record {
    before = λ l. go l (cases_eq n k);
    from = λ l. (h n pool e).from (omega (arith, l));
  }
    where
      go : n < suc k → (n ≡ k) ⊎ (n ≡ k → ⊥) → IsKeptAt p versions (most + 1) n pool
      go l (inl q) = still_kept p versions most (most + 1) n pool (omega arith) ((h n pool e).from (omega (arith, q)))
      go l (inr q) = (h n pool e).before (omega (arith, l, q))

  step : (k : ℕ) (cut : Stored) (pools : List Held) → 0 < k → IsCutNow p versions k cut → AreKeptTo k pools
      → AreKeptTo (suc k) (with_pool (may_put cut) (λ q. with_cut q cut) k pools)
  step k cut pools low now h n pool e = go (changes_at (may_put cut) (λ q. with_cut q cut) k n pools)
    where
      go : ChangesAt (λ q. with_cut q cut) pools (with_pool (may_put cut) (λ q. with_cut q cut) k pools) k n → IsKeptTo (suc k) n pool
      go (as_before s) = skip k pools h n pool (sym s ∙ e)
      go (changed q at there grown) = record {
        before = λ l. subst (IsKeptAt p versions (most + 1) n) (one_pool (with_cut q cut) pool (sym grown ∙ e))
            (with_cut_kept p versions most n q cut (omega (arith, low, at)) (subst (λ (j : ℕ). IsCutNow p versions j cut) (sym at) now)
            ((h n q there).from (omega (arith, at))));
        from = λ l. absurd (omega (arith, l, at));
      }

  put_kept : (kind : Kind) (k n : ℕ) (cut : Stored) (b : Banks) → n ≡ k → IsCutNow p versions k cut → AreKeptTo k b.plain → AreKeptTo k b.cone
      → AreKeptTo (suc k) (put_in_pool kind n cut b).plain × AreKeptTo (suc k) (put_in_pool kind n cut b).cone
  put_kept kind k zero cut b q now h g = (skip k b.plain h, skip k b.cone g)
  put_kept kind k (suc n) cut b q now h g =
      both_change (AreKeptTo k) (AreKeptTo (suc k)) kind (with_pool (may_put cut) (λ x. with_cut x cut) (suc n) (pools_of kind b)) b
      (skip k)
      (λ x. subst (λ (j : ℕ). AreKeptTo (suc k) (with_pool (may_put cut) (λ x. with_cut x cut) j (pools_of kind b))) (sym q)
      (step k cut (pools_of kind b) (omega (arith, q)) now x)) h g

  puts_kept : (kind : Kind) (k : ℕ) (places : List (Option Stored)) (b : Banks) → AreNow k places → AreKeptTo k b.plain → AreKeptTo k b.cone
      → BanksAreKept p versions (most + 1) (put_cuts kind places b)
  puts_kept kind k [] b now h g = record { plain = finish k b.plain h; cone = finish k b.cone g }
  puts_kept kind k (None ∷ places) b now h g = puts_kept kind (suc k) places b now.1 (skip k b.plain h) (skip k b.cone g)
  puts_kept kind k (Some cut ∷ places) b now h g =
      let both = put_kept kind k (source_of cut).node cut b now.0.node now.0 h g in
      puts_kept kind (suc k) places (put_in_pool kind (source_of cut).node cut b) now.1 both.0 both.1

pub first_cuts_are_kept : FirstCutsAreKept
first_cuts_are_kept = record {
  cuts = first_now;
  pools = λ kind p versions most cuts banks now h.
      puts_kept p versions most kind 0 cuts banks
      (all_now p versions most 0 cuts (λ i. let same : i ≡ 0 + i = omega arith in
      subst (λ (j : ℕ). IfSome (slice_index_or cuts i None) (IsCutNow p versions j)) same (now i)))
      (begin p versions most banks.plain h.plain) (begin p versions most banks.cone h.cone);
}
