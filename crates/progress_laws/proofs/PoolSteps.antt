-- The pools of both banks through the steps of runs: each is of its node, no edit touched it, and its number stays low.
use Rattle.std.proofs.Common.{◌≡◌, ℕ, zero, suc, ◌+◌, ◌<◌, ◌⊎◌, inl, inr, Bool, true, false, ◌&&◌, List, [], ◌∷◌, ◌++◌, Option, Some, None, Result, Ok, Err, IfSome, is_none, get_or, length, slice_get, slice_index_or, refl, sym, ap, ap₂, subst, ◌∙◌, arith, eq-eqb}
use Rattle.std.specs.List.{Contains}
use Rattle.std.proofs.lemmas.Bool.{lt-ltb}
use Rattle.scen_defs.specs.Lists.{passes_at}
use Rattle.scen_defs.specs.Program.{Program}
use Rattle.scen_defs.specs.declared.report.Kind.{Kind}
use Rattle.scen_defs.specs.declared.report.Kind.TheVariants.{Feasible, Recession, Cost}
use Rattle.rationals.specs.Sparse.{Entry}
use Rattle.rationals.specs.Rational.{ℚ, zero_ℚ, at_most}
use Rattle.rationals.specs.Passes.{Operation, then_walk}
use Rattle.rationals.specs.Choices.{pick}
use Rattle.cut_defs.specs.declared.kinds.Bank.{Bank}
use Rattle.cut_defs.specs.declared.kinds.Bank.TheVariants.{Plain, Cone}
use Rattle.cut_defs.specs.Stored.{Source, Stored, source_of}
use Rattle.scen_defs.specs.Values.{At}
use Rattle.scen_tree.specs.Trees.{Tree}
use Rattle.node_data.specs.declared.versions.Version.{Version}
use Rattle.node_data.specs.Counts.{version_of}
use Rattle.node_data.specs.Frames.{frame_of, children_in}
use Rattle.pass_core.specs.Made.{cuts_there}
use Rattle.pass_core.specs.Turns.{datum_in, IsFirstCut, AreFirstCuts}
use Rattle.answer_laws.proofs.Grounds.{parts}
use Rattle.cut_defs.specs.Support.{support, first_stale}
use Rattle.cut_pool.specs.Held.{Held}
use Rattle.cut_pool.specs.Pool.{with_cut, offer_of, offer_by, best_from, least_of, judged, or_passed}
use Rattle.cut_sums.specs.Walks.{value_walk}
use Rattle.cut_defs.specs.declared.versions.Stamp.{Stamp}
use Rattle.cut_pool.specs.declared.offer.Offer.TheVariants.{Added, NotNeeded}
use Rattle.cut_banks.specs.declared.banks.Banks.{Banks}
use Rattle.cut_banks.specs.Banks.{pools_of, with_pools, pools_in}
use Rattle.cut_banks.specs.Pools.{may_take, may_put, pool_if, with_pool}
use Rattle.pass_core.specs.Reasons.{IsStale, IsRefused, by_none, by_pool}
use Rattle.pass_core.specs.Grounds.{put_in_pool, put_cut, put_cuts, CanPutInPool, CanPutCut, CanPutCuts}
use Rattle.answer_laws.proofs.Offers.{placed, ChangesAt, changes_at, as_before, changed}
use Rattle.std.proofs.lemmas.List.{length-map}
use Rattle.scen_defs.specs.Program.{is_live}
use Rattle.scen_defs.specs.Valid.{Lives}
use Rattle.edit_defs.proofs.Lists.{passes-within}
use Rattle.pass_table.specs.Machine.{Machine}
use Rattle.node_data.specs.Frames.{Frame, parent_of}
use Rattle.pass_core.specs.declared.state.State.{State}
use Rattle.pass_core.specs.Desks.{IsDesk}
use Rattle.kept_cut_laws.specs.Kept.{IsCutNow, AreKept, BanksAreKept}
use Rattle.kept_cut_laws.proofs.Stale.{nothing_is_stale}
use Rattle.progress_laws.proofs.Standing.{HasMember, PoolStands}

-- ---- a bank and the kind of a run
bank_of : Kind → Bank
bank_of Feasible = Plain
bank_of Recession = Cone
bank_of Cost = Plain

-- a change of the pools of a run leaves the other bank
pub with_in : (kind : Kind) (bank : Bank) (pools : List Held) (b : Banks)
    → ((pools_in bank (with_pools kind pools b) ≡ pools) × (pools_in bank b ≡ pools_of kind b)) ⊎ (pools_in bank (with_pools kind pools b) ≡ pools_in bank b)
with_in Feasible Plain pools b = inl (refl, refl)
with_in Feasible Cone pools b = inr refl
with_in Recession Plain pools b = inr refl
with_in Recession Cone pools b = inl (refl, refl)
with_in Cost Plain pools b = inl (refl, refl)
with_in Cost Cone pools b = inr refl

-- a cut that is offered to such a pool isn't refused
pub never_refused : (p : Program) (versions : List Version) (most : ℕ) (pools : List Held) (trial : List Entry) (cut : Stored) (n : ℕ)
    → PoolStands p versions most pools n → IsCutNow p versions n cut → most < 18446744073709551615 → IsRefused pools trial cut → ⊥
never_refused p versions most pools trial cut n h now small refused = go refused
  where
    at : (source_of cut).node ≡ n
    at = now.node

    takes : may_take cut h.pool ≡ true
    takes = ap₂ ◌&&◌ (eq-eqb h.pool.node (source_of cut).node (h.kept.node ∙ sym at))
        (lt-ltb h.pool.number 18446744073709551615 (omega (arith, h.kept.few, small)))

    pool_there : (ps : List Held) (k : ℕ) → slice_get ps k ≡ Some h.pool → pool_if (may_take cut) k ps ≡ Some h.pool
    pool_there [] k e = absurd (cc)
    pool_there (p ∷ ps) zero e =
        let same : p ≡ h.pool = cc in
        ap (λ (b : Bool). pick b (Some p) None) (ap (may_take cut) same ∙ takes) ∙ ap Some same
    pool_there (p ∷ ps) (suc k) e = pool_there ps k e

    found : pool_if (may_take cut) (source_of cut).node pools ≡ Some h.pool
    found = ap (λ k. pool_if (may_take cut) k pools) at ∙ pool_there pools n h.there

    no_stale : (stale : Option Stamp) → stale ≡ None → IsStale (offer_by stale h.pool cut trial) → ⊥
    no_stale (Some a) e s = absurd (cc)
    no_stale None e s = by (value_walk cut trial) s
      where
        judged_not : (v : ℚ) (best : Option ℚ) → IsStale (judged v best) → ⊥
        judged_not v None s = s
        judged_not v (Some b) s = which (at_most v b) s
          where
            which : (t : Bool) → IsStale (pick t (NotNeeded b) Added) → ⊥
            which true s = s
            which false s = s

        by_best : (v : ℚ) (w : Result (Option ℚ) Operation) → IsStale (or_passed (then_walk w (λ best. Ok (judged v best)))) → ⊥
        by_best v (Ok best) s = judged_not v best s
        by_best v (Err o) s = s

        by : (w : Result ℚ Operation) → IsStale (or_passed (then_walk w (λ v. then_walk
            (best_from (source_of cut).kind trial (least_of (source_of cut).kind) h.pool.cuts) (λ best. Ok (judged v best))))) → ⊥
        by (Ok v) s = by_best v (best_from (source_of cut).kind trial (least_of (source_of cut).kind) h.pool.cuts) s
        by (Err o) s = s

    go : IsRefused pools trial cut → ⊥
    go (by_none e) = let q : None ≡ Some h.pool = sym e ∙ found in absurd (cc)
    go (by_pool pool e stale) =
        let same : pool ≡ h.pool = (let q : Some pool ≡ Some h.pool = sym e ∙ found in cc) in
        no_stale (first_stale h.pool.known (support cut)) (nothing_is_stale p versions most n n h.pool cut h.kept now)
        (subst (λ (p : Held). IsStale (offer_of p cut trial)) same stale)

-- ---- the first cuts of a run
-- a cut at each place of a list is about the node of the place, the first of which is k
abbrev pub AreAt : ℕ → List (Option Stored) → Type 0
AreAt k [] = Unit {0}
AreAt k (place ∷ places) = IfSome place (λ c. (source_of c).node ≡ k) × AreAt (suc k) places

-- the pool of another node stays
put_other : (kind : Kind) (n : ℕ) (cut : Stored) (b : Banks) (bank : Bank) (j : ℕ) → (j ≡ n → ⊥)
    → slice_get (pools_in bank (put_in_pool kind n cut b)) j ≡ slice_get (pools_in bank b) j
put_other kind zero cut b bank j ne = refl
put_other kind (suc n) cut b bank j ne = go (with_in kind bank (with_pool (may_put cut) (λ p. with_cut p cut) (suc n) (pools_of kind b)) b)
  where
    by : ChangesAt (λ p. with_cut p cut) (pools_of kind b) (with_pool (may_put cut) (λ p. with_cut p cut) (suc n) (pools_of kind b)) (suc n) j
        → slice_get (with_pool (may_put cut) (λ p. with_cut p cut) (suc n) (pools_of kind b)) j ≡ slice_get (pools_of kind b) j
    by (as_before e) = e
    by (changed p at there now) = absurd (ne at)

    go : ((pools_in bank (with_pools kind (with_pool (may_put cut) (λ p. with_cut p cut) (suc n) (pools_of kind b)) b)
        ≡ with_pool (may_put cut) (λ p. with_cut p cut) (suc n) (pools_of kind b)) × (pools_in bank b ≡ pools_of kind b))
        ⊎ (pools_in bank (with_pools kind (with_pool (may_put cut) (λ p. with_cut p cut) (suc n) (pools_of kind b)) b) ≡ pools_in bank b)
        → slice_get (pools_in bank (put_in_pool kind (suc n) cut b)) j ≡ slice_get (pools_in bank b) j
    go (inl (e, f)) = ap (λ ps. slice_get ps j) e ∙ by (changes_at (may_put cut) (λ p. with_cut p cut) (suc n) j (pools_of kind b))
        ∙ ap (λ ps. slice_get ps j) (sym f)
    go (inr e) = ap (λ ps. slice_get ps j) e

-- the pools of nodes before the first place stay
puts_before : (kind : Kind) (k : ℕ) (places : List (Option Stored)) (b : Banks) (bank : Bank) (j : ℕ) → AreAt k places → j < k
    → slice_get (pools_in bank (put_cuts kind places b)) j ≡ slice_get (pools_in bank b) j
puts_before kind k [] b bank j h less = refl
puts_before kind k (None ∷ places) b bank j h less = puts_before kind (suc k) places b bank j h.1 (omega (arith, less))
puts_before kind k (Some cut ∷ places) b bank j h less =
    puts_before kind (suc k) places (put_in_pool kind (source_of cut).node cut b) bank j h.1 (omega (arith, less))
    ∙ put_other kind (source_of cut).node cut b bank j (λ e. omega (arith, e, h.0, less))

stays_there : (p : Program) (versions : List Version) (most : ℕ) (old new : List Held) (j : ℕ) → slice_get new j ≡ slice_get old j
    → PoolStands p versions most old j → PoolStands p versions most new j
stays_there p versions most old new j e h = record { pool = h.pool; there = e ∙ h.there; kept = h.kept }

-- ---- the cut of each place is in its pool
-- where the pool may take it
put_there : (kind : Kind) (n : ℕ) (cut : Stored) (b : Banks) → 0 < n → CanPutInPool kind n cut b
    → HasMember (pools_of kind (put_in_pool kind n cut b)) n (λ c. c ≡ cut)
put_there kind zero cut b low can = absurd (omega (arith, low))
put_there kind (suc n) cut b low can =
    let p = test_there (pools_of kind b) (suc n) can in
    record {
      pool = with_cut p.0 cut;
      there = ap (λ ps. slice_get ps (suc n)) (pools_set kind _ b) ∙ placed (may_put cut) (λ p. with_cut p cut) (suc n) (pools_of kind b) p.0 p.1;
      cut = cut;
      member = last_member p.0.cuts;
      holds = refl;
    }
  where
    pools_set : (kind : Kind) (ps : List Held) (b : Banks) → pools_of kind (with_pools kind ps b) ≡ ps
    pools_set Feasible ps b = refl
    pools_set Recession ps b = refl
    pools_set Cost ps b = refl

    test_there : (ps : List Held) (k : ℕ) → passes_at (may_put cut) k ps ≡ true → (p : Held) × (pool_if (may_put cut) k ps ≡ Some p)
    test_there [] k e = absurd (cc)
    test_there (p ∷ ps) zero e = (p, ap (λ (t : Bool). pick t (Some p) None) e)
    test_there (p ∷ ps) (suc k) e = test_there ps k e

    last_member : (cs : List Stored) → Contains (cs ++ cut ∷ []) cut
    last_member [] = (0, omega arith, refl)
    last_member (c ∷ cs) = let r = last_member cs in (suc r.0, omega (arith, r.1), r.2)

same_member : (old new : List Held) (n : ℕ) (P : Stored → Type 0) → slice_get new n ≡ slice_get old n → HasMember old n P → HasMember new n P
same_member old new n P e h = record { pool = h.pool; there = e ∙ h.there; cut = h.cut; member = h.member; holds = h.holds }

of_kind : (kind : Kind) (b : Banks) → pools_in (bank_of kind) b ≡ pools_of kind b
unfolding bank_of
of_kind Feasible b = refl
of_kind Recession b = refl
of_kind Cost b = refl

before_of : (kind : Kind) (k : ℕ) (places : List (Option Stored)) (b : Banks) (j : ℕ) → AreAt k places → j < k
    → slice_get (pools_of kind (put_cuts kind places b)) j ≡ slice_get (pools_of kind b) j
before_of kind k places b j at less = ap (λ ps. slice_get ps j) (sym (of_kind kind (put_cuts kind places b)))
    ∙ puts_before kind k places b (bank_of kind) j at less ∙ ap (λ ps. slice_get ps j) (of_kind kind b)

pub puts_there : (kind : Kind) (k : ℕ) (places : List (Option Stored)) (b : Banks) → AreAt k places → CanPutCuts kind places b → (i n : ℕ) (cut : Stored)
    → slice_index_or places i None ≡ Some cut → n ≡ k + i → 0 < n → HasMember (pools_of kind (put_cuts kind places b)) n (λ c. c ≡ cut)
puts_there kind k [] b at can i n cut e f low = absurd (cc)
puts_there kind k (place ∷ places) b at can zero n cut e f low =
    let same : place ≡ Some cut = e in
    let node : (source_of cut).node ≡ k = subst (λ o. IfSome o (λ c. (source_of c).node ≡ k)) same at.0 in
    let here : n ≡ k = omega (arith, f) in
    subst (λ o. HasMember (pools_of kind (put_cuts kind places (put_cut kind o b))) n (λ c. c ≡ cut)) (sym same)
    (same_member (pools_of kind (put_in_pool kind (source_of cut).node cut b)) _ n (λ c. c ≡ cut)
    (before_of kind (suc k) places (put_in_pool kind (source_of cut).node cut b) n at.1 (omega (arith, here)))
    (subst (λ j. HasMember (pools_of kind (put_in_pool kind (source_of cut).node cut b)) j (λ c. c ≡ cut)) (node ∙ sym here)
    (put_there kind (source_of cut).node cut b (omega (arith, node, here, low)) (subst (λ o. CanPutCut kind o b) same can.0))))
puts_there kind k (place ∷ places) b at can (suc i) n cut e f low =
    puts_there kind (suc k) places (put_cut kind place b) at.1 can.1 i n cut e (omega (arith, f)) low

-- the cuts that a run begins with stand at the places of their nodes
at_places : (k : ℕ) (places : List (Option Stored)) → ((i : ℕ) (cut : Stored) → slice_index_or places i None ≡ Some cut → (source_of cut).node ≡ k + i)
    → AreAt k places
at_places k [] h = tt
at_places k (place ∷ places) h = (
  own place (λ cut e. h 0 cut e),
  at_places (suc k) places (λ i cut e. h (suc i) cut e ∙ (let q : k + suc i ≡ suc k + i = omega arith in q)),
)
  where
    own : (o : Option Stored) → ((cut : Stored) → o ≡ Some cut → (source_of cut).node ≡ k + 0) → IfSome o (λ c. (source_of c).node ≡ k)
    own None f = tt
    own (Some cut) f = f cut refl ∙ (let q : k + 0 ≡ k = omega arith in q)

pub first_at : (kind : Kind) (p : Program) (tree : Tree) (versions : List Version) (dual : List At) (cuts : List (Option Stored))
    → AreFirstCuts kind p tree versions dual cuts → AreAt 0 cuts
first_at kind p tree versions dual cuts h = at_places 0 cuts (λ i cut e. go i cut e (h.there i (h.only i cut e)))
  where
    go : (i : ℕ) (cut : Stored) → slice_index_or cuts i None ≡ Some cut
        → (c : Stored) × ((slice_index_or cuts i None ≡ Some c) × IsFirstCut kind p tree versions dual cuts i c) → (source_of cut).node ≡ 0 + i
    go i cut e (c, (f, walk)) =
        let same : cut ≡ c = (let q : Some cut ≡ Some c = sym e ∙ f in cc) in
        ap (λ (x : Stored). (source_of x).node) same
        ∙ ap (λ (s : Source). s.node) (parts (datum_in kind p i (version_of versions i)) (get_or tree.chances.totals i zero_ℚ) dual
        (cuts_there cuts (children_in (frame_of p) i)) c walk).1
        ∙ (let q : i ≡ 0 + i = omega arith in q)

-- ---- the pools take the cuts that a run begins with
takes_first : (p : Program) (versions : List Version) (most : ℕ) (pools : List Held) (cut : Stored) (n : ℕ) → PoolStands p versions most pools n
    → IsCutNow p versions n cut → most < 18446744073709551615 → passes_at (may_put cut) n pools ≡ true
takes_first p versions most pools cut n h now small = there pools n h.there
  where
    passes : may_put cut h.pool ≡ true
    passes = ap₂ ◌&&◌
        (ap₂ ◌&&◌ (eq-eqb h.pool.node (source_of cut).node (h.kept.node ∙ sym now.node))
        (lt-ltb h.pool.number 18446744073709551615 (omega (arith, h.kept.few, small))))
        (ap (λ (o : Option Stamp). is_none o) (nothing_is_stale p versions most n n h.pool cut h.kept now))

    there : (ps : List Held) (k : ℕ) → slice_get ps k ≡ Some h.pool → passes_at (may_put cut) k ps ≡ true
    there [] k e = absurd (cc)
    there (q ∷ ps) zero e = let same : q ≡ h.pool = cc in ap (may_put cut) same ∙ passes
    there (q ∷ ps) (suc k) e = there ps k e

module _ (p : Program) (versions : List Version) (kind : Kind) (most : ℕ) (small : most < 18446744073709551615) where
  pub can_put_all : (k : ℕ) (places : List (Option Stored)) (b : Banks) → AreAt k places
      → ((i : ℕ) (cut : Stored) → slice_index_or places i None ≡ Some cut → IsCutNow p versions (k + i) cut)
      → ((i : ℕ) (cut : Stored) → slice_index_or places i None ≡ Some cut → PoolStands p versions most (pools_of kind b) (k + i))
      → CanPutCuts kind places b
  can_put_all k [] b at now stands = tt
  can_put_all k (place ∷ places) b at now stands = (
    own place at.0 (λ cut e. now 0 cut e) (λ cut e. stands 0 cut e),
    can_put_all (suc k) places (put_cut kind place b) at.1
        (λ i cut e. let q : k + suc i ≡ suc k + i = omega arith in subst (λ (j : ℕ). IsCutNow p versions j cut) q (now (suc i) cut e))
        (λ i cut e. later place at.0 i (stands (suc i) cut e)),
  )
    where
      in_pool : (cut : Stored) (n : ℕ) → (source_of cut).node ≡ n → n ≡ k + 0 → IsCutNow p versions (k + 0) cut
          → PoolStands p versions most (pools_of kind b) (k + 0) → CanPutInPool kind n cut b
      in_pool cut zero e q c h = tt
      in_pool cut (suc n) e q c h =
          takes_first p versions most (pools_of kind b) cut (suc n) (subst (PoolStands p versions most (pools_of kind b)) (sym q) h)
          (subst (λ (j : ℕ). IsCutNow p versions j cut) (sym q) c) small

      own : (o : Option Stored) → IfSome o (λ c. (source_of c).node ≡ k) → ((cut : Stored) → o ≡ Some cut → IsCutNow p versions (k + 0) cut)
          → ((cut : Stored) → o ≡ Some cut → PoolStands p versions most (pools_of kind b) (k + 0)) → CanPutCut kind o b
      own None a c f = tt
      own (Some cut) a c f = in_pool cut (source_of cut).node refl (omega (arith, a)) (c cut refl) (f cut refl)

      later : (o : Option Stored) → IfSome o (λ c. (source_of c).node ≡ k) → (i : ℕ) → PoolStands p versions most (pools_of kind b) (k + suc i)
          → PoolStands p versions most (pools_of kind (put_cut kind o b)) (suc k + i)
      later None a i h = let q : k + suc i ≡ suc k + i = omega arith in subst (PoolStands p versions most (pools_of kind b)) q h
      later (Some cut) a i h =
          let q : k + suc i ≡ suc k + i = omega arith in
          subst (PoolStands p versions most (pools_of kind (put_in_pool kind (source_of cut).node cut b))) q
          (stays_there p versions most (pools_of kind b) (pools_of kind (put_in_pool kind (source_of cut).node cut b)) (k + suc i)
          (ap (λ ps. slice_get ps (k + suc i)) (sym (of_kind kind (put_in_pool kind (source_of cut).node cut b)))
          ∙ put_other kind (source_of cut).node cut b (bank_of kind) (k + suc i) (λ e. omega (arith, e, a))
          ∙ ap (λ ps. slice_get ps (k + suc i)) (of_kind kind b)) h)

-- ---- each live node has a pool
pool_there : (pools : List Held) (n : ℕ) → n < length pools → (pool : Held) × (slice_get pools n ≡ Some pool)
pool_there [] n less = absurd (omega (arith, less))
pool_there (q ∷ ps) zero less = (q, refl)
pool_there (q ∷ ps) (suc n) less = pool_there ps n (omega (arith, less))

kept_there : (p : Program) (versions : List Version) (most : ℕ) (pools : List Held) (n : ℕ) → n < length pools → AreKept p versions most pools
    → PoolStands p versions most pools n
kept_there p versions most pools n less kept = let q = pool_there pools n less in
    record { pool = q.0; there = q.1; kept = kept n q.0 q.1 }

pub pool_stands : (p : Program) (s : State) (most : ℕ) → s.frame ≡ frame_of p → (m : Machine) → IsDesk p s m → BanksAreKept p s.versions most s.banks
    → (kind : Kind) (n : ℕ) → Lives p n → PoolStands p s.versions most (pools_of kind s.banks) n
pool_stands p s most frame m table kept kind n l = go kind
  where
    within : n < length s.frame.parents
    within = omega (arith, passes-within is_live n p.nodes l, ap (λ (f : Frame). length f.parents) frame, length-map p.nodes parent_of)

    go : (kind : Kind) → PoolStands p s.versions most (pools_of kind s.banks) n
    go Feasible = kept_there p s.versions most s.banks.plain n (omega (arith, within, table.pools.plain)) kept.plain
    go Recession = kept_there p s.versions most s.banks.cone n (omega (arith, within, table.pools.cone)) kept.cone
    go Cost = kept_there p s.versions most s.banks.plain n (omega (arith, within, table.pools.plain)) kept.plain
