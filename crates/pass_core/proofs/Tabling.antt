-- What the parts of a step leave of the table, the run and the pools.
use Rattle.std.proofs.Common.{◌≡◌, ℕ, ◌+◌, ◌<◌, ◌⊎◌, inl, inr, ◌^◌, Bool, true, false, not, List, Option, Some, None, length, get_or, slice_index, arith, refl, sym, ap, subst, ◌∙◌}
use Rattle.std.specs.Option.{option_map}
use Rattle.std.proofs.lemmas.Bool.{cases_eq}
use Rattle.std.proofs.lemmas.List.{length-map}
use Rattle.rationals.specs.Sparse.{Entry}
use Rattle.scen_defs.specs.Program.{Program}
use Rattle.scen_defs.specs.declared.report.Kind.{Kind}
use Rattle.scen_defs.specs.declared.report.Kind.TheVariants as run_kind
use Rattle.cut_defs.specs.Stored.{Stored, source_of}
use Rattle.cut_pool.specs.Held.{Held}
use Rattle.cut_pool.specs.Pool.{offer_of, after_offer, with_cut}
use Rattle.cut_pool.specs.declared.offer.Offer.{Offer}
use Rattle.cut_pool.specs.declared.offer.Offer.TheVariants as offer
use Rattle.cut_banks.specs.declared.banks.Banks.{Banks}
use Rattle.cut_banks.specs.Banks.{pools_of, with_pools}
use Rattle.cut_banks.specs.Pools.{numbers_of, may_take, may_put, pool_if, with_pool}
use Rattle.cut_banks.proofs.Places.{change_length}
use Rattle.node_data.specs.Frames.{Frame}
use Rattle.node_lp.specs.declared.solved.Solved.{Solved}
use Rattle.node_lp.specs.declared.solved.Solved.TheVariants as solved
use Rattle.pass_table.specs.declared.table.Reading.{Reading}
use Rattle.pass_table.specs.declared.table.Table.{Table}
use Rattle.pass_table.specs.Machine.{Flight, Machine, IsLive, IsClosed, IsFlown, MayBegin, IsValid, with_at, dropped, committed, raised, opened}
use Rattle.pass_table.specs.Fits.{Fits, IsStart, HasRead}
use Rattle.pass_table.specs.Readings.{reading_at, AreWithin}
use Rattle.pass_table.proofs.Stale.{same_at, other_at}
use Rattle.pass_table.proofs.Valid.{valid_committed, valid_opened}
use Rattle.crew_turns.specs.Turn.{EndsTurn, drops, commits, adds}
use Rattle.proved_report.specs.declared.open.Open.{Open}
use Rattle.found_ends.specs.declared.ends.Ends.{Ends}
use Rattle.found_ends.specs.declared.last.Lasts.{Lasts}
use Rattle.pass_core.specs.declared.state.State.{State}
use Rattle.pass_core.specs.Counting.{is_added, after_answer, after_report}
use Rattle.pass_core.specs.Turns.{EndsBy}
use Rattle.pass_core.specs.Tabled.{pool_number, HasPools, IsTabledBy, KeepsRun, KeepsTable, KeepsPools, RaisesPool, Drops, IsSolving, committed_by, EndsSolve, Opens, HasRoom, StepsTo, GoesBySteps}
use Rattle.pass_core.specs.Tabled.TakesStep.{rests, waits, opens}
use Rattle.pass_core.specs.Tabled.TakesSteps.{stays, goes}
use Rattle.pass_core.specs.Tabled.Opens.{not_opened, is_opened}
use Rattle.pass_core.proofs.Pooling.{tells, offered_risen, offered_others}

-- ---- one change behind another
pub run_then : (a b c : State) → KeepsRun a b → KeepsRun b c → KeepsRun a c
run_then a b c x y = record {
  frame = y.frame ∙ x.frame;
  kind = y.kind ∙ x.kind;
  is_begun = y.is_begun ∙ x.is_begun;
  plain = y.plain ∙ x.plain;
  cone = y.cone ∙ x.cone;
}

pub table_then : (a b c : State) → KeepsTable a b → KeepsTable b c → KeepsTable a c
table_then a b c x y = record { run = run_then a b c x.run y.run; table = y.table ∙ x.table }

pub pools_then : (a b c : State) → KeepsPools a b → KeepsPools b c → KeepsPools a c
pools_then a b c x y = record { kept = table_then a b c x.kept y.kept; number = λ k. y.number k ∙ x.number k }

pub raise_then : (told : Bool) (n : ℕ) (a b c : State) → RaisesPool told n a b → KeepsPools b c → RaisesPool told n a c
raise_then told n a b c x y = record {
  kept = table_then a b c x.kept y.kept;
  risen = λ e. y.number n ∙ x.risen e;
  others = λ k ne. y.number k ∙ x.others k ne;
}

pub then_raise : (told : Bool) (n : ℕ) (a b c : State) → KeepsPools a b → RaisesPool told n b c → RaisesPool told n a c
then_raise told n a b c x y = record {
  kept = table_then a b c x.kept y.kept;
  risen = λ e. y.risen e ∙ ap (λ k. k + 1) (x.number n);
  others = λ k ne. y.others k ne ∙ x.number k;
}

pub not_raised : (n : ℕ) (a b : State) → KeepsPools a b → RaisesPool false n a b
not_raised n a b x = record { kept = x.kept; risen = λ e. absurd (let no : false ≡ true = e in cc); others = λ k ne. x.number k }

-- ---- nothing of these changes
pub same_run : (s : State) → KeepsRun s s
same_run s = record { frame = refl; kind = refl; is_begun = refl; plain = refl; cone = refl }

pub same_pools : (s : State) → KeepsPools s s
same_pools s = record { kept = record { run = same_run s; table = refl }; number = λ k. refl }

pub pools_by : (old new : State) → new.frame ≡ old.frame → new.kind ≡ old.kind → new.is_begun ≡ old.is_begun → new.table ≡ old.table → new.banks ≡ old.banks → KeepsPools old new
pools_by old new f k b t s = record {
  kept = record {
    run = record { frame = f; kind = k; is_begun = b; plain = ap (λ (x : Banks). length x.plain) s; cone = ap (λ (x : Banks). length x.cone) s };
    table = t;
  };
  number = λ n. ap (λ (x : Banks). get_or (numbers_of (pools_of new.kind x)) n 0) s ∙ ap (λ (x : Kind). get_or (numbers_of (pools_of x old.banks)) n 0) k;
}

-- the table alone changes, with others that don't matter here
pub run_by : (old new : State) → new.frame ≡ old.frame → new.kind ≡ old.kind → new.is_begun ≡ old.is_begun → new.banks ≡ old.banks
    → KeepsRun old new × ((n : ℕ) → pool_number new n ≡ pool_number old n)
run_by old new f k b s =
    let h = pools_by old (record new { table = old.table }) f k b refl s in (
      record { frame = f; kind = k; is_begun = b; plain = h.kept.run.plain; cone = h.kept.run.cone },
      h.number,
    )

-- a reason to stop
pub stop_keeps : (s new : State) (why : Option Open) → new ≡ record s { stop = why } → KeepsPools s new
stop_keeps s new why e = subst (KeepsPools s) (sym e) (pools_by s (record s { stop = why }) refl refl refl refl refl)

pub run_stop_keeps : (s new : State) (why lasting : Option Open) → new ≡ record s { stop = why; lasting = lasting } → KeepsPools s new
run_stop_keeps s new why lasting e = subst (KeepsPools s) (sym e) (pools_by s (record s { stop = why; lasting = lasting }) refl refl refl refl refl)

-- other ends
pub ends_keeps : (s new : State) (ends : Ends) → new ≡ record s { ends = ends } → KeepsPools s new
ends_keeps s new ends e = subst (KeepsPools s) (sym e) (pools_by s (record s { ends = ends }) refl refl refl refl refl)

-- other last solves
pub lasts_keeps : (s new : State) (lasts : Lasts) → new ≡ record s { lasts = lasts } → KeepsPools s new
lasts_keeps s new lasts e = subst (KeepsPools s) (sym e) (pools_by s (record s { lasts = lasts }) refl refl refl refl refl)

-- another table
pub table_keeps : (s new : State) (table : Table) → new ≡ record s { table = table } → KeepsRun s new × ((n : ℕ) → pool_number new n ≡ pool_number s n)
table_keeps s new table e =
    subst (λ (x : State). KeepsRun s x × ((n : ℕ) → pool_number x n ≡ pool_number s n)) (sym e) (run_by s (record s { table = table }) refl refl refl refl)

pub stopped_keeps : (s new : State) (why : Option Open) (table : Table) → new ≡ record s { stop = why; table = table }
    → KeepsRun s new × ((n : ℕ) → pool_number new n ≡ pool_number s n)
stopped_keeps s new why table e =
    subst (λ (x : State). KeepsRun s x × ((n : ℕ) → pool_number x n ≡ pool_number s n)) (sym e)
    (run_by s (record s { stop = why; table = table }) refl refl refl refl)

-- ---- a cut comes to a pool
pub answer_keeps : (o : Offer) (s : State) → KeepsPools s (after_answer o s)
answer_keeps offer.Added s = same_pools s
answer_keeps (offer.NotNeeded value) s = same_pools s
answer_keeps (offer.Stale node part seen known) s = pools_by s (after_answer (offer.Stale node part seen known) s) refl refl refl refl refl
answer_keeps (offer.Passed o) s = pools_by s (after_answer (offer.Passed o) s) refl refl refl refl refl

pub pools_there : (kind : Kind) (ps : List Held) (b : Banks) → pools_of kind (with_pools kind ps b) ≡ ps
pools_there run_kind.Feasible ps b = refl
pools_there run_kind.Recession ps b = refl
pools_there run_kind.Cost ps b = refl

-- one bank changes, and not how many pools it has
pub banks_long : (kind : Kind) (ps : List Held) (old : State) → length ps ≡ length (pools_of kind old.banks)
    → KeepsTable old (record old { banks = with_pools kind ps old.banks })
banks_long run_kind.Feasible ps old e = record { run = record { frame = refl; kind = refl; is_begun = refl; plain = e; cone = refl }; table = refl }
banks_long run_kind.Recession ps old e = record { run = record { frame = refl; kind = refl; is_begun = refl; plain = refl; cone = e }; table = refl }
banks_long run_kind.Cost ps old e = record { run = record { frame = refl; kind = refl; is_begun = refl; plain = e; cone = refl }; table = refl }

module _ (old : State) (cut : Stored) (trial : List Entry) (n : ℕ) where
  abbrev pools : List Held
  pools = pools_of old.kind old.banks

  abbrev after : List Held
  after = with_pool (may_take cut) (λ p. after_offer p cut (offer_of p cut trial)) n pools

  abbrev offered_state : State
  offered_state = record old { banks = with_pools old.kind after old.banks }

  at : (k : ℕ) → pool_number offered_state k ≡ get_or (numbers_of after) k 0
  at k = ap (λ (ps : List Held). get_or (numbers_of ps) k 0) (pools_there old.kind after old.banks)

  offer_raises : RaisesPool (tells (may_take cut) cut (λ p. offer_of p cut trial) (option_map (λ p. offer_of p cut trial) (pool_if (may_take cut) n pools))) n old offered_state
  offer_raises = record {
    kept = banks_long old.kind after old (change_length (may_take cut) (λ p. after_offer p cut (offer_of p cut trial)) n pools);
    risen = λ e. at n ∙ offered_risen (may_take cut) cut (λ p. offer_of p cut trial) n pools e;
    others = λ k ne. at k ∙ offered_others (may_take cut) cut (λ p. offer_of p cut trial) n k pools ne;
  }

  -- where the pool answers
  pub answered_raises : (banks : Banks) (answer : Option Offer) → answer ≡ option_map (λ p. offer_of p cut trial) (pool_if (may_take cut) n pools)
      → banks ≡ with_pools old.kind after old.banks
      → RaisesPool (tells (may_take cut) cut (λ p. offer_of p cut trial) answer) n old (record old { banks = banks })
  answered_raises banks answer e b =
      subst (λ (x : Banks). RaisesPool (tells (may_take cut) cut (λ p. offer_of p cut trial) answer) n old (record old { banks = x })) (sym b)
      (subst (λ (x : Option Offer). RaisesPool (tells (may_take cut) cut (λ p. offer_of p cut trial) x) n old offered_state) (sym e) offer_raises)

-- ---- the end of a solve
-- what a table leaves where it forgets the solve in flight
pub drop_by : (w : ℕ) (old mid new : Table) → mid ≡ old → ((m : Machine) (f : Flight) → IsValid m → Fits mid m → m.flight w ≡ Some f → IsLive m f.node → m.commits + 1 < 2 ^ 64
    → Fits new (dropped m w)) → Drops w old new
drop_by w old mid new e h m f valid fits flown room = h m f valid (subst (λ (t : Table). Fits t m) (sym e) fits) flown.flight (valid.flown_live f.node w f flown) room

-- no last solve is left
pub drop_ends : (w : ℕ) (Way : Machine → Flight → Bool → Machine → Type 0) (old new : State) (m : Machine) (f : Flight) (rs : List Reading) → IsSolving old w m f rs → ((k : ℕ) → m.number k ≡ pool_number old k)
    → Drops w old.table new.table → KeepsRun old new → ((k : ℕ) → pool_number new k ≡ pool_number old k) → Way m f false (dropped m w) → EndsSolve w Way old new m f
drop_ends w Way old new m f rs s number drop run same way = record {
  machine = dropped m w;
  added = false;
  ends = drops;
  way = way;
  fits = drop m f s.valid s.fits s.flown s.room;
  number = λ k. number k ∙ sym (same k);
  run = run;
}

-- a table commits, and the number of the node's pool rises, where that is told
pub commit_fits : (w : ℕ) (told point : Bool) (n : ℕ) (s : State) (m : Machine) (f : Flight) (rs : List Reading) (mid new : Table) → IsSolving s w m f rs → f.node ≡ n
    → (told ≡ true → 0 < n)
    → ((m : Machine) (f : Flight) → IsValid m → Fits s.table m → IsFlown m f.node w f → HasRead m f (numbers_of (pools_of s.kind s.banks)) rs
    → AreWithin rs (length (numbers_of (pools_of s.kind s.banks))) → m.commits + 1 < 2 ^ 64 → Fits mid (committed m w f point))
    → (told ≡ true → (m : Machine) → IsValid m → Fits mid m → IsLive m n → 0 < n → Fits new (raised m n)) → (told ≡ false → new ≡ mid)
    → Fits new (committed_by w m f point told)
commit_fits w true point n s m f rs mid new solving node low commit raise same =
    subst (λ (k : ℕ). Fits new (raised (committed m w f point) k)) (sym node)
    (raise refl (committed m w f point) (valid_committed m w f point solving.valid solving.flown)
    (commit m f solving.valid solving.fits solving.flown solving.read solving.within solving.room)
    (subst (IsLive m) node (solving.valid.flown_live f.node w f solving.flown)) (low refl))
commit_fits w false point n s m f rs mid new solving node low commit raise same =
    subst (λ (t : Table). Fits t (committed m w f point)) (sym (same refl))
    (commit m f solving.valid solving.fits solving.flown solving.read solving.within solving.room)

-- the same where the numbers and the readings were handed on
pub commit_given : (w : ℕ) (point : Bool) (old mid : Table) (ns ns' : List ℕ) (rs rs' : List Reading) → ns ≡ ns' → rs ≡ rs'
    → ((m : Machine) (f : Flight) → IsValid m → Fits old m → IsFlown m f.node w f → HasRead m f ns rs → AreWithin rs (length ns) → m.commits + 1 < 2 ^ 64
    → Fits mid (committed m w f point))
    → (m : Machine) (f : Flight) → IsValid m → Fits old m → IsFlown m f.node w f → HasRead m f ns' rs' → AreWithin rs' (length ns') → m.commits + 1 < 2 ^ 64
    → Fits mid (committed m w f point)
commit_given w point old mid ns ns' rs rs' n r h = λ m f valid fits flown read within room.
    h m f valid fits flown
    (subst (λ (x : List ℕ). HasRead m f x rs) (sym n) (subst (λ (x : List Reading). HasRead m f ns' x) (sym r) read))
    (subst (λ (x : List ℕ). AreWithin rs (length x)) (sym n) (subst (λ (x : List Reading). AreWithin x (length ns')) (sym r) within)) room

-- a solve goes on in flight while the pools but its node's own stay
pub still_solving : (w : ℕ) (told : Bool) (n : ℕ) (old new : State) (m : Machine) (f : Flight) (rs : List Reading) → IsSolving old w m f rs
    → ((k : ℕ) → m.number k ≡ pool_number old k) → f.node ≡ n → RaisesPool told n old new → IsSolving new w m f rs
still_solving w told n old new m f rs s number node raise = record {
  valid = s.valid;
  fits = subst (λ (t : Table). Fits t m) (sym raise.kept.table) s.fits;
  flown = s.flown;
  read = record {
    whole = s.read.whole;
    child = s.read.child;
    read = s.read.read;
    present = λ i less. raise.others (reading_at rs i).child (λ e same. apart i less same) ∙ s.read.present i less;
  };
  within = λ i less. omega (arith, s.within i less, long);
  room = s.room;
}
  where
    -- a child has a greater number than its parent
    apart : (i : ℕ) → i < length rs → (reading_at rs i).child ≡ n → ⊥
    apart i less same = let c = s.read.child i less in omega (arith, s.valid.lower (reading_at rs i).child c.lower c.live, c.parent, node, same)

    as_many : (kind : Kind) → length (pools_of kind new.banks) ≡ length (pools_of kind old.banks)
    as_many run_kind.Feasible = raise.kept.run.plain
    as_many run_kind.Recession = raise.kept.run.cone
    as_many run_kind.Cost = raise.kept.run.plain

    long : length (numbers_of (pools_of new.kind new.banks)) ≡ length (numbers_of (pools_of old.kind old.banks))
    long = length-map (pools_of new.kind new.banks) (λ (p : Held). p.number)
        ∙ as_many new.kind ∙ ap (λ (k : Kind). length (pools_of k old.banks)) raise.kept.run.kind
        ∙ sym (length-map (pools_of old.kind old.banks) (λ (p : Held). p.number))

-- its node has a last solve from now on, and the number of the node's pool rose, where that is told
pub commit_ends : (w : ℕ) (Way : Machine → Flight → Bool → Machine → Type 0) (told point : Bool) (n : ℕ) (old mid new : State) (m : Machine) (f : Flight) → ((k : ℕ) → m.number k ≡ pool_number old k) → f.node ≡ n
    → RaisesPool told n old mid → (told ≡ true → 0 < n) → Fits new.table (committed_by w m f point told)
    → KeepsRun mid new → ((k : ℕ) → pool_number new k ≡ pool_number mid k) → Way m f told (committed_by w m f point told) → EndsSolve w Way old new m f
commit_ends w Way true point n old mid new m f number node raise low fits run same way = record {
  machine = raised (committed m w f point) f.node;
  added = true;
  ends = adds point (omega (arith, low refl, node));
  way = way;
  fits = fits;
  number = λ k. go k (cases_eq k f.node);
  run = run_then old mid new raise.kept.run run;
}
  where
    go : (k : ℕ) → (k ≡ f.node) ⊎ (k ≡ f.node → ⊥) → with_at m.number f.node (m.number f.node + 1) k ≡ pool_number new k
    go k (inl e) =
        same_at m.number f.node (m.number f.node + 1) k e ∙ ap (λ j. j + 1) (number f.node ∙ ap (pool_number old) node) ∙ sym (raise.risen refl)
        ∙ sym (same n) ∙ ap (pool_number new) (sym (e ∙ node))
    go k (inr ne) =
        other_at m.number f.node (m.number f.node + 1) k ne ∙ number k ∙ sym (raise.others k (λ t e. ne (e ∙ sym node))) ∙ sym (same k)
commit_ends w Way false point n old mid new m f number node raise low fits run same way = record {
  machine = committed m w f point;
  added = false;
  ends = commits point;
  way = way;
  fits = fits;
  number = λ k. number k ∙ sym (raise.others k (λ t e. let no : false ≡ true = t in absurd (cc))) ∙ sym (same k);
  run = run_then old mid new raise.kept.run run;
}

-- what follows leaves the table and the pools
pub ends_then : (w : ℕ) (Way : Machine → Flight → Bool → Machine → Type 0) (old mid new : State) (m : Machine) (f : Flight) → EndsSolve w Way old mid m f → KeepsPools mid new → EndsSolve w Way old new m f
ends_then w Way old mid new m f e k = record {
  machine = e.machine;
  added = e.added;
  ends = e.ends;
  way = e.way;
  fits = subst (λ (t : Table). Fits t e.machine) (sym k.kept.table) e.fits;
  number = λ n. e.number n ∙ sym (k.number n);
  run = run_then old mid new e.run k.kept.run;
}

-- how many pools there are
pub pools_kept : (old new : State) → KeepsRun old new → HasPools (length old.frame.parents) old.banks → HasPools (length new.frame.parents) new.banks
pools_kept old new k h =
    let same : length new.frame.parents ≡ length old.frame.parents = ap (λ (g : Frame). length g.parents) k.frame in
    record { plain = omega (arith, same, k.plain, h.plain); cone = omega (arith, same, k.cone, h.cone) }

pub ends_keep : (w : ℕ) (m : Machine) (f : Flight) (told : Bool) (k : Machine) → EndsTurn w m f told k → (k.live ≡ m.live) × (k.parent ≡ m.parent)
ends_keep w m f told k drops = (refl, refl)
ends_keep w m f told k (commits point) = (refl, refl)
ends_keep w m f told k (adds point low) = (refl, refl)

-- ---- a step
-- nothing of the run changes
pub still_tabled : (p : Program) (m : Machine) (old new : State) → IsTabledBy p old m → KeepsPools old new → IsTabledBy p new m
still_tabled p m old new t k = record {
  valid = t.valid;
  fits = subst (λ (x : Table). Fits x m) (sym k.kept.table) t.fits;
  idle = t.idle;
  machine = record {
    live = t.machine.live;
    parent = t.machine.parent ∙ ap (λ (g : Frame). slice_index g.parents) (sym k.kept.run.frame);
    number = λ n. t.machine.number n ∙ sym (k.number n);
  };
  pools = pools_kept old new k.kept.run t.pools;
  unused = λ z.
      let u = t.unused (sym k.kept.run.is_begun ∙ z) in
      subst (λ (x : Table). (j : Machine) → IsStart new.frame.parents j → Fits x j) (sym k.kept.table)
      (subst (λ (g : Frame). (j : Machine) → IsStart g.parents j → Fits old.table j) (sym k.kept.run.frame) u);
}

-- there are places for last solves, and something is done from now on
pub ready_tabled : (p : Program) (m : Machine) (old new : State) → IsTabledBy p old m → new ≡ record old { lasts = new.lasts; is_begun = new.is_begun }
    → new.is_begun ≡ true → IsTabledBy p new m
ready_tabled p m old new t e z = subst (λ (x : State). IsTabledBy p x m) (sym e) (record {
  valid = t.valid;
  fits = t.fits;
  idle = t.idle;
  machine = record { live = t.machine.live; parent = t.machine.parent; number = t.machine.number };
  pools = t.pools;
  unused = λ y. let no : false ≡ true = sym y ∙ z in absurd (cc);
})

-- a report: what stopped the method and how many solves there were are in no table
pub closed_tabled : (p : Program) (m : Machine) (old new : State) → IsTabledBy p old m
    → new ≡ record old { stop = old.lasting; counts = after_report old.counts } → IsTabledBy p new m
closed_tabled p m old new t e = subst (λ (x : State). IsTabledBy p x m) (sym e) (record {
  valid = t.valid;
  fits = t.fits;
  idle = t.idle;
  machine = record { live = t.machine.live; parent = t.machine.parent; number = t.machine.number };
  pools = t.pools;
  unused = t.unused;
})

-- then the table may be another one that fits
pub refit : (p : Program) (m : Machine) (s : State) (table : Table) → IsTabledBy p s m → s.is_begun ≡ true → Fits table m
    → IsTabledBy p (record s { table = table }) m
refit p m s table t z fits = record {
  valid = t.valid;
  fits = fits;
  idle = t.idle;
  machine = record { live = t.machine.live; parent = t.machine.parent; number = t.machine.number };
  pools = t.pools;
  unused = λ y. let no : false ≡ true = sym y ∙ z in absurd (cc);
}

-- the table is one with room where the machine has it
pub room_of : (m : Machine) (table : Table) → Fits table m → (table.commits + 1 < 2 ^ 64) × (table.run + 1 < 2 ^ 64) → HasRoom m
room_of m table fits room = (omega (arith, fits.agrees.commits, room.0), omega (arith, fits.agrees.run, room.1))

pub room_in : (m : Machine) (table : Table) → Fits table m → HasRoom m → (table.commits + 1 < 2 ^ 64) × (table.run + 1 < 2 ^ 64)
room_in m table fits room = (omega (arith, fits.agrees.commits, room.0), omega (arith, fits.agrees.run, room.1))

-- nothing may be begun, or there is no room for it
pub rested : (p : Program) (m : Machine) (s : State) → (HasRoom m → (n : ℕ) → MayBegin m n → ⊥) → IsTabledBy p s m → StepsTo p m false s
rested p m s none t = record { machine = m; step = rests none; tabled = t }

-- a run was to open
pub opening : (p : Program) (m : Machine) (s : State) → IsClosed m → Opens p m s → StepsTo p m true s
opening p m s closed (not_opened stops t) = record { machine = m; step = waits closed; tabled = t }
opening p m s closed (is_opened number t) = record { machine = opened m number; step = opens closed number; tabled = t }

-- the next run opened
pub run_opened : (p : Program) (m : Machine) (old mid new : State) → IsTabledBy p old m → old.is_begun ≡ true → KeepsTable old mid
    → new.frame ≡ mid.frame → new.banks ≡ mid.banks → new.is_begun ≡ mid.is_begun
    → ((number : ℕ → ℕ) → Fits mid.table m → Fits new.table (opened m number)) → Opens p m new
run_opened p m old mid new t z k f b i by = is_opened (pool_number new) (record {
  valid = valid_opened m (pool_number new) t.valid;
  fits = by (pool_number new) (subst (λ (x : Table). Fits x m) (sym k.table) t.fits);
  idle = t.idle;
  machine = record {
    live = t.machine.live;
    parent = t.machine.parent ∙ ap (λ (g : Frame). slice_index g.parents) (sym (f ∙ k.run.frame));
    number = λ n. refl;
  };
  pools = let h = pools_kept old mid k.run t.pools in
      subst (λ (g : Frame). HasPools (length g.parents) new.banks) (sym f) (subst (HasPools (length mid.frame.parents)) (sym b) h);
  unused = λ y. let no : false ≡ true = sym y ∙ i ∙ k.run.is_begun ∙ z in absurd (cc);
})

-- ---- what an offer answers
pub offered : (old new : State) (cut : Stored) (trial : List Entry) (banks : Banks) (o : Offer) (told : Bool)
    → Some o ≡ option_map (λ p. offer_of p cut trial) (pool_if (may_take cut) (source_of cut).node (pools_of old.kind old.banks))
    → banks ≡ with_pools old.kind (with_pool (may_take cut) (λ p. after_offer p cut (offer_of p cut trial)) (source_of cut).node (pools_of old.kind old.banks)) old.banks
    → told ≡ is_added o → new ≡ after_answer o (record old { banks = banks }) → RaisesPool told (source_of cut).node old new
offered old new cut trial banks o told e b t n =
    subst (λ (x : Bool). RaisesPool x (source_of cut).node old new) (sym t)
    (raise_then (is_added o) (source_of cut).node old (record old { banks = banks }) new
    (answered_raises old cut trial (source_of cut).node banks (Some o) e b)
    (subst (KeepsPools (record old { banks = banks })) (sym n) (answer_keeps o (record old { banks = banks }))))

pub unanswered : (old new : State) (cut : Stored) (trial : List Entry) (banks : Banks)
    → None ≡ option_map (λ p. offer_of p cut trial) (pool_if (may_take cut) (source_of cut).node (pools_of old.kind old.banks))
    → banks ≡ with_pools old.kind (with_pool (may_take cut) (λ p. after_offer p cut (offer_of p cut trial)) (source_of cut).node (pools_of old.kind old.banks)) old.banks
    → KeepsPools (record old { banks = banks }) new → RaisesPool false (source_of cut).node old new
unanswered old new cut trial banks e b k =
    raise_then false (source_of cut).node old (record old { banks = banks }) new
    (answered_raises old cut trial (source_of cut).node banks None e b) k

-- a cut is put into a pool
pub put_keeps : (old : State) (kind : Kind) (cut : Stored) (banks : Banks)
    → banks ≡ with_pools kind (with_pool (may_put cut) (λ p. with_cut p cut) (source_of cut).node (pools_of kind old.banks)) old.banks
    → KeepsTable old (record old { banks = banks })
put_keeps old kind cut banks b = subst (λ (x : Banks). KeepsTable old (record old { banks = x })) (sym b)
    (banks_long kind (with_pool (may_put cut) (λ p. with_cut p cut) (source_of cut).node (pools_of kind old.banks)) old
    (change_length (may_put cut) (λ p. with_cut p cut) (source_of cut).node (pools_of kind old.banks)))

-- ---- how a solve ends
-- one that leaves no last solve
pub left_ends : (w : ℕ) (Way : Machine → Flight → Bool → Machine → Type 0) (s new : State) (m : Machine) (f : Flight) (rs : List Reading) (why : Option Open) (table : Table) → IsSolving s w m f rs
    → ((k : ℕ) → m.number k ≡ pool_number s k) → Drops w s.table new.table → new ≡ record s { stop = why; table = table } → Way m f false (dropped m w) → EndsSolve w Way s new m f
left_ends w Way s new m f rs why table solving number drop e way =
    let k = stopped_keeps s new why table e in drop_ends w Way s new m f rs solving number drop k.0 k.1 way

-- one whose cut was offered
pub offered_ends : (w : ℕ) (Way : Machine → Flight → Bool → Machine → Type 0) (told point : Bool) (n : ℕ) (a b c d : State) (m : Machine) (f : Flight) (rs : List Reading) (table : Table) → IsSolving a w m f rs
    → ((k : ℕ) → m.number k ≡ pool_number a k) → f.node ≡ n → KeepsPools a b → RaisesPool told n b c → (told ≡ true → 0 < n)
    → d ≡ record c { table = table } → (IsSolving c w m f rs → Fits d.table (committed_by w m f point told)) → Way m f told (committed_by w m f point told) → EndsSolve w Way a d m f
offered_ends w Way told point n a b c d m f rs table solving number node kept raise low e commit way =
    let r = then_raise told n a b c kept raise in
    let k = table_keeps c d table e in
    commit_ends w Way told point n a c d m f number node r low (commit (still_solving w told n a c m f rs solving number node r)) k.0 k.1 way

pub not_true : (b : Bool) → not b ≡ true → b ≡ false
not_true true e = absurd (let no : false ≡ true = e in cc)
not_true false e = refl

pub not_false : (b : Bool) → not b ≡ false → b ≡ true
not_false true e = refl
not_false false e = absurd (let no : true ≡ false = e in cc)

-- by what is told of the solve
pub told_ends : (w : ℕ) (trial : List Entry) (a b : Solved) (old new : State) (m : Machine) (f : Flight) → a ≡ b → EndsSolve w (EndsBy w trial b) old new m f
    → EndsSolve w (EndsBy w trial a) old new m f
told_ends w trial a b old new m f e h = subst (λ (all : Solved). EndsSolve w (EndsBy w trial all) old new m f) (sym e) h

-- there is no least cost, or a used end isn't finite
pub neither_ends : (w : ℕ) (trial : List Entry) (a : Solved) (s new : State) (m : Machine) (f : Flight) (rs : List Reading) (why : Option Open) (table : Table) → IsSolving s w m f rs
    → ((k : ℕ) → m.number k ≡ pool_number s k) → Drops w s.table new.table → new ≡ record s { stop = why; table = table }
    → (a ≡ solved.Loose) ⊎ (a ≡ solved.NotGood) → EndsSolve w (EndsBy w trial a) s new m f
neither_ends w trial a s new m f rs why table solving number drop e (inl q) =
    told_ends w trial a solved.Loose s new m f q (left_ends w (EndsBy w trial solved.Loose) s new m f rs why table solving number drop e (refl, refl))
neither_ends w trial a s new m f rs why table solving number drop e (inr q) =
    told_ends w trial a solved.NotGood s new m f q (left_ends w (EndsBy w trial solved.NotGood) s new m f rs why table solving number drop e (refl, refl))

-- one more step
pub goes_further : (p : Program) (m : Machine) (old new : State) (told : Bool) → GoesBySteps p m old
    → ((j : Machine) → IsTabledBy p old j → StepsTo p j told new) → GoesBySteps p m new
goes_further p m old new told g step =
    let s = step g.machine g.tabled in
    record { machine = s.machine; steps = goes told g.machine s.machine g.steps s.step; tabled = s.tabled }

-- none
pub goes_nowhere : (p : Program) (m : Machine) (s : State) → IsTabledBy p s m → GoesBySteps p m s
goes_nowhere p m s h = record { machine = m; steps = stays; tabled = h }
