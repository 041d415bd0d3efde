-- What the parts of a commit leave, put together; and the same of a state that differs in nothing that it is told of.
use Rattle.std.proofs.Common.{◌≡◌, ◌↔◌, ℕ, zero, suc, ◌<◌, Bool, true, false, IsTrue, List, Option, Some, None, Result, Ok, Err, OnOk}
use Rattle.std.proofs.Common.{inl, inr, refl, sym, ap, subst, ◌∙◌, arith}
use Rattle.std.specs.Option.{option_map}
use Rattle.rationals.specs.Rational.{ℚ}
use Rattle.rationals.specs.Sparse.{Entry}
use Rattle.scen_defs.specs.Program.{Program}
use Rattle.scen_defs.specs.declared.report.Kind.{Kind}
use Rattle.scen_defs.specs.declared.report.Place.TheVariants.{Cut}
use Rattle.scen_tree.specs.Trees.{Tree}
use Rattle.cut_defs.specs.Stored.{Stored, source_of}
use Rattle.cut_pool.specs.Held.{Held}
use Rattle.cut_pool.specs.Pool.{offer_of, after_offer}
use Rattle.cut_pool.specs.declared.offer.Offer.{Offer}
use Rattle.cut_pool.specs.declared.offer.Offer.TheVariants as offer
use Rattle.cut_banks.specs.declared.banks.Banks.{Banks}
use Rattle.cut_banks.specs.Banks.{pools_of, with_pools}
use Rattle.cut_banks.specs.Pools.{may_take, pool_if, with_pool}
use Rattle.node_lp.specs.declared.solved.Solved.{Solved}
use Rattle.node_lp.specs.declared.solved.Solved.TheVariants as solved
use Rattle.pass_table.specs.declared.table.Table.{Table}
use Rattle.pass_table.specs.Machine.{Machine, IsComplete}
use Rattle.pass_table.specs.Fits.{Fits}
use Rattle.proved_report.specs.declared.open.Open.{Open}
use Rattle.proved_report.specs.declared.open.Open.TheVariants as reason
use Rattle.found_ends.specs.declared.ends.Ends.{Ends}
use Rattle.found_ends.specs.declared.last.Last.{Last}
use Rattle.found_ends.specs.declared.last.Lasts.{Lasts}
use Rattle.found_ends.specs.Ends.{after_root}
use Rattle.found_ends.specs.Lasts.{kept}
use Rattle.pass_core.specs.declared.budget.Budget.{Budget}
use Rattle.pass_core.specs.declared.state.Counts.{Counts}
use Rattle.pass_core.specs.declared.state.State.{State}
use Rattle.pass_core.specs.Counting.{first_stop, first_or, after_answer}
use Rattle.pass_core.specs.Tabled.{KeepsPools}
use Rattle.pass_core.specs.Left.{StaysInRun, IsTaken, IsOffered, OffersCut, ends_behind, ends_without, TakesComplete, TakesPoint}
use Rattle.pass_core.specs.Left.{LeavesPoint, LeavesBy, IsOpenOrStuck, StopsAsStuck, HaltsBy, LeavesAnyhow, OpensRun}
use Rattle.pass_core.specs.Turns.{AreReady}

-- ---- the run
pub stays_then : (a b c : State) → StaysInRun a b → StaysInRun b c → StaysInRun a c
stays_then a b c x y = record {
  kind = y.kind ∙ x.kind;
  frame = y.frame ∙ x.frame;
  budget = y.budget ∙ x.budget;
  versions = y.versions ∙ x.versions;
}

-- by what a call tells of the state
pub stays_as : (old mid new : State) → new ≡ mid → StaysInRun old mid → StaysInRun old new
stays_as old mid new e h = subst (StaysInRun old) (sym e) h

-- what stopped the method, and the table, are others
pub stopped_stays : (s new : State) (why : Option Open) (table : Table) → new ≡ record s { stop = why; table = table } → StaysInRun s new
stopped_stays s new why table e =
    stays_as s (record s { stop = why; table = table }) new e (record { kind = refl; frame = refl; budget = refl; versions = refl })

-- the last solves are others
pub lasts_stays : (s new : State) (lasts : Lasts) → new ≡ record s { lasts = lasts } → StaysInRun s new
lasts_stays s new lasts e =
    stays_as s (record s { lasts = lasts }) new e (record { kind = refl; frame = refl; budget = refl; versions = refl })

-- the table is another one
pub table_stays : (s new : State) (table : Table) → new ≡ record s { table = table } → StaysInRun s new
table_stays s new table e =
    stays_as s (record s { table = table }) new e (record { kind = refl; frame = refl; budget = refl; versions = refl })

-- the ends are others
pub ends_stays : (s new : State) (ends : Ends) → new ≡ record s { ends = ends } → StaysInRun s new
ends_stays s new ends e =
    stays_as s (record s { ends = ends }) new e (record { kind = refl; frame = refl; budget = refl; versions = refl })

-- there are places for last solves, and something is done from now on
pub ready_stays : (old s : State) → s ≡ record old { lasts = s.lasts; is_begun = s.is_begun } → StaysInRun old s
ready_stays old s e =
    stays_as old (record old { lasts = s.lasts; is_begun = s.is_begun }) s e
    (record { kind = refl; frame = refl; budget = refl; versions = refl })

-- ---- where nothing stops the method
pub stops_first : (o : Option Open) (w : Open) → first_stop o w ≡ None → ⊥
stops_first None w e = absurd (cc)
stops_first (Some f) w e = absurd (cc)

pub stops_run : (o lasting : Option Open) (w : Open) → first_or o (first_stop lasting w) ≡ None → ⊥
stops_run None lasting w e = stops_first lasting w e
stops_run (Some f) lasting w e = absurd (cc)

-- a state that stops for this reason
pub not_stopped : (s new : State) (why : Open) → new.stop ≡ first_stop s.stop why → new.stop ≡ None → ⊥
not_stopped s new why e stop = stops_first s.stop why (sym e ∙ stop)

-- ---- an offer
-- an answer that stops nothing
unstopped_answer : (o : Offer) (s : State) → (after_answer o s).stop ≡ None → IsTaken o
unstopped_answer offer.Added s e = tt
unstopped_answer (offer.NotNeeded value) s e = tt
unstopped_answer (offer.Stale node part seen known) s e = stops_first s.stop (reason.Solves s.budget.solves) e
unstopped_answer (offer.Passed o) s e = stops_run s.stop s.lasting (reason.Passed (Cut s.counts.all) o) e

pub answer_stays : (o : Offer) (s : State) → StaysInRun s (after_answer o s)
answer_stays offer.Added s = record { kind = refl; frame = refl; budget = refl; versions = refl }
answer_stays (offer.NotNeeded value) s = record { kind = refl; frame = refl; budget = refl; versions = refl }
answer_stays (offer.Stale node part seen known) s = record { kind = refl; frame = refl; budget = refl; versions = refl }
answer_stays (offer.Passed o) s = record { kind = refl; frame = refl; budget = refl; versions = refl }

pub answer_ends : (o : Offer) (s : State) → (after_answer o s).ends ≡ s.ends
answer_ends offer.Added s = refl
answer_ends (offer.NotNeeded value) s = refl
answer_ends (offer.Stale node part seen known) s = refl
answer_ends (offer.Passed o) s = refl

answer_banks : (o : Offer) (s : State) → (after_answer o s).banks ≡ s.banks
answer_banks offer.Added s = refl
answer_banks (offer.NotNeeded value) s = refl
answer_banks (offer.Stale node part seen known) s = refl
answer_banks (offer.Passed o) s = refl

-- the pool that gave the answer
pub answering : (answer : Held → Offer) (found : Option Held) (o : Offer) → Some o ≡ option_map answer found
    → (pool : Held) × ((found ≡ Some pool) × (answer pool ≡ o))
answering answer None o e = absurd (cc)
answering answer (Some pool) o e = (pool, (refl, let same : answer pool ≡ o = cc in same))

pub offered_taken : (old new : State) (cut : Stored) (trial : List Entry) (banks : Banks) (o : Offer)
    → Some o ≡ option_map (λ p. offer_of p cut trial) (pool_if (may_take cut) (source_of cut).node (pools_of old.kind old.banks))
    → banks ≡ with_pools old.kind (with_pool (may_take cut) (λ p. after_offer p cut (offer_of p cut trial)) (source_of cut).node
    (pools_of old.kind old.banks)) old.banks
    → new ≡ after_answer o (record old { banks = banks }) → new.stop ≡ None → IsOffered old.kind cut trial old.banks new.banks
offered_taken old new cut trial banks o e b n stop =
    let s : State = record old { banks = banks } in
    let found = answering (λ p. offer_of p cut trial) (pool_if (may_take cut) (source_of cut).node (pools_of old.kind old.banks)) o e in
    record {
      pool = found.0;
      there = found.1.0;
      taken = subst IsTaken (sym found.1.1) (unstopped_answer o s (sym (ap (λ (x : State). x.stop) n) ∙ stop));
      banks = ap (λ (x : State). x.banks) n ∙ answer_banks o s ∙ b;
    }

-- ---- the cut of a node
pub offers_above : (kind : Kind) (n : ℕ) (o : Option Stored) (cut : Stored) (trial : List Entry) (old new : Banks) → 0 < n → o ≡ Some cut
    → IsOffered kind cut trial old new → OffersCut kind n o trial old new
offers_above kind zero o cut trial old new low e h = absurd (omega (arith, low))
offers_above kind (suc n) o cut trial old new low e h =
    subst (λ (x : Option Stored). OffersCut kind (suc n) x trial old new) (sym e) h

pub root_offers : (kind : Kind) (n : ℕ) (o : Option Stored) (trial : List Entry) (old new : Banks) → n ≡ 0 → new ≡ old
    → OffersCut kind n o trial old new
root_offers kind zero o trial old new z e = e
root_offers kind (suc n) o trial old new z e = absurd (omega (arith, z))

pub none_offers : (kind : Kind) (n : ℕ) (o : Option Stored) (trial : List Entry) (old new : Banks) → o ≡ None → new ≡ old
    → OffersCut kind n o trial old new
none_offers kind zero o trial old new z e = e
none_offers kind (suc n) o trial old new z e = subst (λ (x : Option Stored). OffersCut kind (suc n) x trial old new) (sym z) e

-- the same where the kind and the banks are given otherwise
pub offers_as : (n : ℕ) (o : Option Stored) (trial : List Entry) (kind kind' : Kind) (old old' new new' : Banks) → kind ≡ kind'
    → old ≡ old' → new ≡ new' → OffersCut kind n o trial old new → OffersCut kind' n o trial old' new'
offers_as n o trial kind kind' old old' new new' k e f h =
    subst (λ (x : Kind). OffersCut x n o trial old' new') k
    (subst (λ (x : Banks). OffersCut kind n o trial x new') e (subst (λ (x : Banks). OffersCut kind n o trial old x) f h))

-- ---- the ends
pub behind_above : (kind : Kind) (n : ℕ) (value : ℚ) (o : Option Stored) (e : Ends) → 0 < n → ends_behind kind n value o e ≡ e
behind_above kind zero value o e low = absurd (omega (arith, low))
behind_above kind (suc n) value o e low = refl

pub behind_root : (kind : Kind) (n : ℕ) (value : ℚ) (o : Option Stored) (cut : Stored) (e : Ends) → n ≡ 0 → o ≡ Some cut
    → ends_behind kind n value o e ≡ after_root kind e value cut
behind_root kind zero value o cut e z some = ap (λ (x : Option Stored). ends_behind kind 0 value x e) some
behind_root kind (suc n) value o cut e z some = absurd (omega (arith, z))

pub behind_none : (kind : Kind) (n : ℕ) (value : ℚ) (o : Option Stored) (e : Ends) → o ≡ None → ends_behind kind n value o e ≡ e
behind_none kind zero value o e none = ap (λ (x : Option Stored). ends_behind kind 0 value x e) none
behind_none kind (suc n) value o e none = refl

pub without_above : (n : ℕ) (cut : Stored) (e : Ends) → 0 < n → ends_without n cut e ≡ e
without_above zero cut e low = absurd (omega (arith, low))
without_above (suc n) cut e low = refl

pub without_root : (n : ℕ) (cut : Stored) (e : Ends) → n ≡ 0 → ends_without n cut e ≡ record e { nowhere = Some cut }
without_root zero cut e z = refl
without_root (suc n) cut e z = absurd (omega (arith, z))

-- ---- a complete run
-- the answer of the table is its own flag
pub complete_flag : (t : Table) (m : Machine) (r : Bool) → Fits t m → IsTrue r ↔ IsComplete m → t.complete ≡ r
complete_flag t m r fits h = go t.complete r fits.complete h
  where
    go : (a b : Bool) → (a ≡ true) ↔ IsComplete m → IsTrue b ↔ IsComplete m → a ≡ b
    go true true x y = refl
    go true false x y = absurd (let no : false ≡ true = y.1 (x.0 refl) in cc)
    go false true x y = absurd (let no : false ≡ true = x.1 (y.0 refl) in cc)
    go false false x y = refl

complete_as : (p : Program) (tree : Tree) (flag flag' : Bool) (kind kind' : Kind) (lasts lasts' : List (Option Last)) (old old' new : Ends)
    → flag ≡ flag' → kind ≡ kind' → lasts ≡ lasts' → old ≡ old' → TakesComplete flag p tree kind lasts old new
    → TakesComplete flag' p tree kind' lasts' old' new
complete_as p tree flag flag' kind kind' lasts lasts' old old' new f k l e h =
    subst (λ (x : Bool). TakesComplete x p tree kind' lasts' old' new) f
    (subst (λ (x : Kind). TakesComplete flag p tree x lasts' old' new) k
    (subst (λ (x : List (Option Last)). TakesComplete flag p tree kind x old' new) l
    (subst (λ (x : Ends). TakesComplete flag p tree kind lasts x new) e h)))

-- ---- a point
-- it is kept, its cut is offered, and the table goes on
pub point_taken : (n : ℕ) (trial x : List Entry) (value : ℚ) (cut : Option Stored) (a b c d : State) (lasts : Lasts) (table : Table)
    → b ≡ record a { lasts = lasts } → d ≡ record c { table = table } → kept a.lasts.nodes.items n trial x ≡ Ok b.lasts.nodes.items
    → c.lasts ≡ b.lasts → OffersCut b.kind n cut trial b.banks c.banks → c.ends ≡ ends_behind b.kind n value cut b.ends
    → TakesPoint n trial x value cut a d
point_taken n trial x value cut a b c d lasts table e f k l o h = record {
  lasts = k ∙ ap (λ (y : Lasts). Ok y.nodes.items) (sym (ap (λ (s : State). s.lasts) f ∙ l));
  banks = offers_as n cut trial b.kind a.kind b.banks a.banks c.banks d.banks (ap (λ (s : State). s.kind) e) (ap (λ (s : State). s.banks) e)
      (sym (ap (λ (s : State). s.banks) f)) o;
  ends = ap (λ (s : State). s.ends) f ∙ h ∙ ap (λ (s : State). ends_behind s.kind n value cut s.ends) e;
}

-- and the points of all nodes may be a policy
point_left : (p : Program) (tree : Tree) (n : ℕ) (trial x : List Entry) (value : ℚ) (cut : Option Stored) (a b c : State)
    → TakesPoint n trial x value cut a b → StaysInRun a b → c.lasts ≡ b.lasts → c.banks ≡ b.banks → c.table ≡ b.table
    → TakesComplete b.table.complete p tree b.kind b.lasts.nodes.items b.ends c.ends → LeavesPoint p tree n trial x value cut a c
point_left p tree n trial x value cut a b c h stays l s t k = record {
  lasts = h.lasts ∙ ap (λ (y : Lasts). Ok y.nodes.items) (sym l);
  banks = offers_as n cut trial a.kind a.kind a.banks a.banks b.banks c.banks refl refl (sym s) h.banks;
  ends = complete_as p tree b.table.complete c.table.complete b.kind a.kind b.lasts.nodes.items c.lasts.nodes.items b.ends
      (ends_behind a.kind n value cut a.ends) c.ends (ap (λ (y : Table). y.complete) (sym t)) stays.kind
      (ap (λ (y : Lasts). y.nodes.items) (sym l)) h.ends k;
}

-- ---- what a solve leaves is told of the run, and not of the counts, the table and whether anything was done
pub leaves_before : (p : Program) (tree : Tree) (n : ℕ) (trial : List Entry) (all : Solved) (s : State) (counts : Counts) (table : Table)
    (is_begun : Bool) (new : State) → LeavesBy p tree n trial all (record s { counts = counts; table = table; is_begun = is_begun }) new
    → LeavesBy p tree n trial all s new
leaves_before p tree n trial (solved.Point x value cut) s counts table is_begun new h =
    record { lasts = h.lasts; banks = h.banks; ends = h.ends }
leaves_before p tree n trial (solved.NoPoint cut) s counts table is_begun new h =
    record { lasts = h.lasts; banks = h.banks; ends = h.ends }
leaves_before p tree n trial solved.Loose s counts table is_begun new h = h
leaves_before p tree n trial solved.PivotsEnded s counts table is_begun new h = h
leaves_before p tree n trial (solved.Passed in_cut o) s counts table is_begun new h = h
leaves_before p tree n trial solved.NotGood s counts table is_begun new h = h

pub leaves_ready : (p : Program) (tree : Tree) (n : ℕ) (trial : List Entry) (all : Solved) (old s new : State)
    → s ≡ record old { lasts = s.lasts; is_begun = s.is_begun } → LeavesBy p tree n trial all s new
    → LeavesBy p tree n trial all (record old { lasts = s.lasts }) new
leaves_ready p tree n trial all old s new e h =
    leaves_before p tree n trial all (record old { lasts = s.lasts }) old.counts old.table s.is_begun new
    (subst (λ (x : State). LeavesBy p tree n trial all x new) e h)

-- of a case that comes of a solve
pub left_by : (p : Program) (tree : Tree) (n : ℕ) (trial : List Entry) (a b : Solved) (old new : State) → a ≡ b
    → LeavesBy p tree n trial b old new → LeavesBy p tree n trial a old new
left_by p tree n trial a b old new e h = subst (λ (x : Solved). LeavesBy p tree n trial x old new) (sym e) h

pub point_completed : {X E : Type 0} (r : Result X E) (p : Program) (tree : Tree) (n : ℕ) (trial x : List Entry) (value : ℚ)
    (cut : Option Stored) (all : Solved) (a b c : State) → all ≡ solved.Point x value cut
    → (b.stop ≡ None → TakesPoint n trial x value cut a b) → StaysInRun a b
    → OnOk r (c.lasts ≡ b.lasts) → OnOk r (c.banks ≡ b.banks) → OnOk r (KeepsPools b c)
    → OnOk r (c.stop ≡ None → (b.stop ≡ None) × TakesComplete b.table.complete p tree b.kind b.lasts.nodes.items b.ends c.ends)
    → OnOk r (c.stop ≡ None → LeavesBy p tree n trial all a c)
point_completed (Ok done) p tree n trial x value cut all a b c e h stays l s t k = λ stop.
    let both = k stop in
    left_by p tree n trial all (solved.Point x value cut) a c e
    (point_left p tree n trial x value cut a b c (h both.0) stays l s t.kept.table both.1)
point_completed (Err o) p tree n trial x value cut all a b c e h stays l s t k = tt

-- ---- nor is what it leaves whatever stops the method
halts_before : (all : Solved) (s : State) (counts : Counts) (table : Table) (is_begun : Bool) (new : State)
    → HaltsBy all (record s { counts = counts; table = table; is_begun = is_begun }) new → HaltsBy all s new
halts_before (solved.Point x value cut) s counts table is_begun new h = h
halts_before (solved.NoPoint cut) s counts table is_begun new h = h
halts_before solved.Loose s counts table is_begun new h =
    record { lasts = h.lasts; banks = h.banks; ends = h.ends; lasting = h.lasting }
halts_before solved.PivotsEnded s counts table is_begun new h =
    record { lasts = h.lasts; banks = h.banks; ends = h.ends; lasting = h.lasting }
halts_before (solved.Passed in_cut o) s counts table is_begun new h =
    record { lasts = h.lasts; banks = h.banks; ends = h.ends; lasting = h.lasting }
halts_before solved.NotGood s counts table is_begun new h =
    record { lasts = h.lasts; banks = h.banks; ends = h.ends; lasting = h.lasting }

pub anyhow_before : (n : ℕ) (trial : List Entry) (all : Solved) (s : State) (counts : Counts) (table : Table) (is_begun : Bool) (new : State)
    → LeavesAnyhow n trial all (record s { counts = counts; table = table; is_begun = is_begun }) new → LeavesAnyhow n trial all s new
anyhow_before n trial all s counts table is_begun new h =
    record { banks = h.banks; lasting = h.lasting; halts = halts_before all s counts table is_begun new h.halts }

pub anyhow_ready : (n : ℕ) (trial : List Entry) (all : Solved) (old s new : State)
    → s ≡ record old { lasts = s.lasts; is_begun = s.is_begun } → LeavesAnyhow n trial all s new
    → LeavesAnyhow n trial all (record old { lasts = s.lasts }) new
anyhow_ready n trial all old s new e h =
    anyhow_before n trial all (record old { lasts = s.lasts }) old.counts old.table s.is_begun new
    (subst (λ (x : State). LeavesAnyhow n trial all x new) e h)

-- ---- the opening of a run
-- what stopped the method does so still, or it is stuck
pub stuck_then : (a b c : State) → b.budget ≡ a.budget → StopsAsStuck a b → StopsAsStuck b c → StopsAsStuck a c
stuck_then a b c same (inl e) (inl f) = inl (f ∙ e)
stuck_then a b c same (inl e) (inr f) =
    inr (f ∙ ap (λ (o : Option Open). first_stop o (reason.Solves b.budget.solves)) e
    ∙ ap (λ (x : Budget). first_stop a.stop (reason.Solves x.solves)) same)
stuck_then a b c same (inr e) (inl f) = inr (f ∙ e)
stuck_then a b c same (inr e) (inr f) =
    inr (f ∙ ap (λ (o : Option Open). first_stop o (reason.Solves b.budget.solves)) e
    ∙ ap (λ (x : Budget). first_stop (first_stop a.stop (reason.Solves a.budget.solves)) (reason.Solves x.solves)) same
    ∙ twice a.stop (reason.Solves a.budget.solves))
  where
    twice : (o : Option Open) (w : Open) → first_stop (first_stop o w) w ≡ first_stop o w
    twice None w = refl
    twice (Some first) w = refl

pub open_or_stuck : (old new : State) → StopsAsStuck old new → old.stop ≡ None → IsOpenOrStuck old new
open_or_stuck old new (inl e) none = inl (e ∙ none)
open_or_stuck old new (inr e) none = inr (e ∙ ap (λ (o : Option Open). first_stop o (reason.Solves old.budget.solves)) none)

-- where something was done before, places for last solves are there already
pub ready_same : (old s : State) → s ≡ record old { lasts = s.lasts; is_begun = s.is_begun } → AreReady old s.lasts → s.is_begun ≡ true
    → old.is_begun ≡ true → s ≡ old
ready_same old s e ready begun was =
    e ∙ ap (λ (l : Lasts). let x : State = record old { lasts = l; is_begun = s.is_begun } in x) (ready.same was)
    ∙ ap (λ (b : Bool). let x : State = record old { is_begun = b } in x) (begun ∙ sym was)

-- a cut is put into a pool, or the method is stuck
pub put_others : (s new : State) (banks : Banks) (why : Option Open) → new ≡ record s { banks = banks; stop = why }
    → new ≡ record s { banks = new.banks; stop = new.stop }
put_others s new banks why e =
    subst (λ (x : State). x ≡ record s { banks = x.banks; stop = x.stop }) (sym e) refl

pub others_then : (a b c : State) → b ≡ record a { banks = b.banks; stop = b.stop } → c ≡ record b { banks = c.banks; stop = c.stop }
    → c ≡ record a { banks = c.banks; stop = c.stop }
others_then a b c e f = f ∙ ap (λ (x : State). let y : State = record x { banks = c.banks; stop = c.stop } in y) e

pub ready_opens : (old s new : State) → s ≡ record old { lasts = s.lasts; is_begun = s.is_begun } → OpensRun s new → OpensRun old new
ready_opens old s new e h = let k = subst (λ (x : State). OpensRun x new) e h in record {
  kind = k.kind;
  lasts = k.lasts;
  ends = k.ends;
  lasting = k.lasting;
  frame = k.frame;
  budget = k.budget;
  versions = k.versions;
}
