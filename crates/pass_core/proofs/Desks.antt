-- What a Begin and the end of a solve leave of a desk.
use Rattle.std.proofs.Common.{◌≡◌, ℕ, suc, ◌+◌, ◌<◌, ◌≤◌, inl, inr, ◌^◌, Bool, true, false, List, [], ◌∷◌, Option, Some, None, length, get_or, slice_index, arith, refl, sym, ap, subst, ◌∙◌}
use Rattle.std.specs.List.{Contains}
use Rattle.std.proofs.lemmas.List.{length-map}
use Rattle.rationals.specs.Sparse.{Entry}
use Rattle.scen_defs.specs.Lists.{Each}
use Rattle.scen_defs.specs.Program.{Program, is_live}
use Rattle.scen_defs.specs.Valid.{IsProgram, Lives}
use Rattle.scen_defs.specs.declared.report.Kind.{Kind}
use Rattle.scen_defs.specs.declared.report.Kind.TheVariants as run_kind
use Rattle.cut_pool.specs.Held.{Held}
use Rattle.cut_banks.specs.Banks.{pools_of}
use Rattle.cut_banks.specs.Pools.{numbers_of, numbers_read}
use Rattle.edit_defs.proofs.Lists.{passes-within}
use Rattle.node_data.specs.Frames.{Frame, parent_of, frame_of, children_in}
use Rattle.node_lp.specs.declared.solved.Solved.{Solved}
use Rattle.node_lp.specs.declared.solved.Solved.TheVariants as solved
use Rattle.pass_table.specs.declared.table.Reading.{Reading}
use Rattle.pass_table.specs.declared.table.Table.{Table}
use Rattle.pass_table.specs.Machine.{Flight, Machine, IsLive, IsChild, IsFlown, IsNext, MayBegin, with_at, begun, dropped}
use Rattle.pass_table.specs.Fits.{Fits, HasRead, AnswersBegin}
use Rattle.pass_table.specs.Readings.{reading_at}
use Rattle.pass_table.proofs.Stale.{same_at}
use Rattle.crew_turns.specs.Turn.{IsIdle, AreChildren, first_flight, read_by_each, read_each, EndsTurn, drops, commits, adds, TakesTurn}
use Rattle.crew_turns.specs.Besides.{FitsBesides, BeginsBesides}
use Rattle.crew_turns.proofs.Turning.{AreReads, node_read, run_read, readings_of, turn_reads, turn_keeps}
use Rattle.crew_turns.proofs.Turned.{child_to}
use Rattle.crew_turns.proofs.Reading.{HasReadAll, has_read_all, reads_alone, present_read}
use Rattle.crew_turns.proofs.Beside.{starts, starts_there, live_to, children_from, fit_besides, turn_of, TurnsBeside, commit_beside, add_beside, drop_beside}
use Rattle.proved_report.specs.declared.open.Open.{Open}
use Rattle.pass_core.specs.declared.state.Counts.{Counts}
use Rattle.pass_core.specs.declared.state.State.{State}
use Rattle.pass_core.specs.Tabled.{pool_number, IsTabledBy, IsSolving, Drops, committed_by, EndsSolve, EndsBegun, StepsTo}
use Rattle.pass_core.specs.Tabled.TakesStep.{turns}
use Rattle.pass_core.specs.Desks.{IsDesk, HasFlying, with_solve, BeginsNode, BeginsOn, IsBegunBy, EndsOn}
use Rattle.pass_core.specs.Turns.{EndsWithout, EndsAnyhow, EndsBy, SolvesNode, SolvesOn}
use Rattle.pass_core.proofs.Pooling.{all_numbers}
use Rattle.pass_core.proofs.Parentage.{children_are}
use Rattle.pass_core.proofs.Tabling.{pools_kept, ends_keep, left_ends}

-- ---- what stands at a desk
module _ (p : Program) (s : State) (m : Machine) (i : IsProgram p) (frame : s.frame ≡ frame_of p) (d : IsDesk p s m) where
  pub lives : (n : ℕ) → IsLive m n → Lives p n
  lives n live = sym (d.machine.live n) ∙ live

  pub are_children : (n : ℕ) → IsLive m n → AreChildren m n (children_in s.frame n)
  are_children n live = subst (λ (g : Frame). AreChildren m n (children_in g n)) (sym frame)
      (children_are p m i d.machine.live (λ k. ap (λ (g : ℕ → ℕ). g k) d.machine.parent ∙ ap (λ (g : Frame). get_or g.parents k 0) frame) n
      (lives n live))

  pools_long : (kind : Kind) → length s.frame.parents ≤ length (pools_of kind s.banks)
  pools_long run_kind.Feasible = d.pools.plain
  pools_long run_kind.Recession = d.pools.cone
  pools_long run_kind.Cost = d.pools.plain

  pub child_within : (n c : ℕ) → IsChild m n c → c < length (pools_of s.kind s.banks)
  child_within n c child =
      let place : c < length p.nodes = passes-within is_live c p.nodes (sym (d.machine.live c) ∙ child.live) in
      let long : length s.frame.parents ≡ length p.nodes = ap (λ (g : Frame). length g.parents) frame ∙ length-map p.nodes parent_of in
      omega (arith, pools_long s.kind, place, long)

  -- each child has a pool
  pub children_within : (n : ℕ) → IsLive m n → Each (λ (c : ℕ). c < length (pools_of s.kind s.banks)) (children_in s.frame n)
  children_within n live = within (children_in s.frame n) (λ c k. child_within n c ((are_children n live c).1 k))
    where
      within : (cs : List ℕ) → ((c : ℕ) → Contains cs c → c < length (pools_of s.kind s.banks)) → Each (λ (c : ℕ). c < length (pools_of s.kind s.banks)) cs
      within [] h = tt
      within (c ∷ cs) h = (h c (0, omega arith, refl), within cs (λ e k. h e (suc k.0, omega (arith, k.1), k.2)))

-- ---- a Begin
something_done : {A : Type 0} (b : Bool) → b ≡ true → b ≡ false → A
something_done b z y = let no : false ≡ true = sym y ∙ z in absurd (cc)

-- another table that fits beside the idle machine
abbrev desk_with : (p : Program) (s : State) (m : Machine) (table : Table) → IsDesk p s m → s.is_begun ≡ true → FitsBesides table m
    → IsDesk p (record s { table = table }) m
desk_with p s m table d z fits = record {
  valid = d.valid;
  fits = fits;
  idle = d.idle;
  machine = record { live = d.machine.live; parent = d.machine.parent; number = d.machine.number };
  pools = d.pools;
  unused = λ y. something_done s.is_begun z y;
}

pub begins_on : (p : Program) (s : State) (m : Machine) (w : ℕ) (i : IsProgram p) (frame : s.frame ≡ frame_of p) (z : s.is_begun ≡ true)
    (d : IsDesk p s m) → d.fits.flying.flight w ≡ None → (table : Table) (r : Option ℕ) → AnswersBegin d.fits.flying w r table
    → BeginsOn p m d.fits.flying w r (record s { table = table })
begins_on p s m w i frame z d free table None a = (
  a.0,
  record {
    desk = desk_with p s m table d z (record {
      flying = d.fits.flying;
      fits = a.1;
      valid = d.fits.valid;
      fair = d.fits.fair;
      reads = d.fits.reads;
      sheltered = d.fits.sheltered;
      alike = d.fits.alike;
    });
    is = refl;
  },
)
begins_on p s m w i frame z d free table (Some n) a =
    let live : IsLive m n = live_to d.fits.flying m d.fits.alike n a.0.may.live in
    let b : BeginsBesides d.fits.flying w n (children_in s.frame n) table m =
    fit_besides.begin s.table table m w n (children_in s.frame n) d.fits d.idle free a (are_children p s m i frame d n live) in
    record { next = a.0; may = b.may; behind = record { desk = desk_with p s m table d z b.fits; is = b.flying } }

-- a solve that was begun is in flight
pub record HasBegun (p : Program) (s : State) (m flying : Machine) (w n : ℕ) : Type 0 where
  pub begun : IsBegunBy p s m w n
  pub is : begun.desk.fits.flying ≡ with_solve s flying w n

pub begun_by : (p : Program) (s : State) (m flying : Machine) (w n : ℕ) → BeginsNode p m flying w n s → s.is_begun ≡ true
    → m.commits + 1 < 2 ^ 64 → HasBegun p s m flying w n
begun_by p s m flying w n b z room = record {
  begun = record {
    desk = b.behind.desk;
    flight = flight;
    flown = subst (λ (k : Machine). IsFlown k n w flight) (sym b.behind.is) (record {
      flight = reads.mine;
      run = run_read flying.number (first_flight flying n) (children_in s.frame n) ∙ sym reads.run;
      node = node_read flying.number (first_flight flying n) (children_in s.frame n);
    });
    is_begun = z;
    room = room;
  };
  is = b.behind.is;
}
  where
    flight : Flight
    flight = read_by_each flying.number (first_flight flying n) (children_in s.frame n)

    reads : HasReadAll (begun flying w n) (with_solve s flying w n) w (first_flight flying n) (children_in s.frame n)
    reads = has_read_all (begun flying w n) w (first_flight flying n) (children_in s.frame n) (same_at flying.flight w _ w refl)

-- and solves are counted since
abbrev pub begun_counted : (p : Program) (s : State) (m : Machine) (w n : ℕ) (counts : Counts) → IsBegunBy p s m w n
    → IsBegunBy p (record s { counts = counts }) m w n
begun_counted p s m w n counts b = record {
  desk = record {
    valid = b.desk.valid;
    fits = b.desk.fits;
    idle = b.desk.idle;
    machine = record { live = b.desk.machine.live; parent = b.desk.machine.parent; number = b.desk.machine.number };
    pools = b.desk.pools;
    unused = b.desk.unused;
  };
  flight = b.flight;
  flown = b.flown;
  is_begun = b.is_begun;
  room = b.room;
}

-- ---- an end
low_of : (w : ℕ) (m : Machine) (f : Flight) (added : Bool) (k : Machine) → EndsTurn w m f added k → added ≡ true → 0 < f.node
low_of w m f added k drops e = absurd (let no : false ≡ true = e in cc)
low_of w m f added k (commits point) e = absurd (let no : false ≡ true = e in cc)
low_of w m f added k (adds point low) e = low

frees : (w : ℕ) (m : Machine) (f : Flight) (added : Bool) (k : Machine) → EndsTurn w m f added k → (v : ℕ) → k.flight v ≡ with_at m.flight w None v
frees w m f added k drops v = refl
frees w m f added k (commits point) v = refl
frees w m f added k (adds point low) v = refl

-- in whatever way
pub anyhow : (Way : Machine → Flight → Bool → Machine → Type 0) (p : Program) (old : State) (m flying : Machine) (w n : ℕ) (new : State)
    → EndsOn Way p old m flying w n new → EndsOn EndsAnyhow p old m flying w n new
anyhow Way p old m flying w n new e = record {
  machine = e.machine;
  turn = e.turn;
  node = e.node;
  way = tt;
  desk = e.desk;
  flight = e.flight;
  flown = e.flown;
  ended = e.ended;
  flights = e.flights;
  alone = e.alone;
  begun = e.begun;
}

-- before the solve was counted
pub ends_before : (Way : Machine → Flight → Bool → Machine → Type 0) (p : Program) (s : State) (counts : Counts) (m flying : Machine) (w n : ℕ)
    (new : State) → EndsOn Way p (record s { counts = counts }) m flying w n new → EndsOn Way p s m flying w n new
ends_before Way p s counts m flying w n new e = record {
  machine = e.machine;
  turn = e.turn;
  node = e.node;
  way = e.way;
  desk = e.desk;
  flight = e.flight;
  flown = e.flown;
  ended = e.ended;
  flights = e.flights;
  alone = e.alone;
  begun = e.begun;
}

module _ (p : Program) (s : State) (m : Machine) (w n : ℕ) (i : IsProgram p) (frame : s.frame ≡ frame_of p) (b : IsBegunBy p s m w n) where
  abbrev pub flying : Machine
  flying = b.desk.fits.flying

  abbrev cs : List ℕ
  cs = children_in s.frame n

  mine : IsFlown flying b.flight.node w b.flight
  mine = record { flight = b.flown.flight; run = b.flown.run; node = refl }

  live : IsLive m n
  live = live_to flying m b.desk.fits.alike n (b.desk.fits.valid.flown_live n w b.flight b.flown)

  pub solved_lives : Lives p n
  solved_lives = lives p s m i frame b.desk n live

  pub within_pools : Each (λ (c : ℕ). c < length (pools_of s.kind s.banks)) (children_in s.frame n)
  within_pools = children_within p s m i frame b.desk n live

  -- the numbers of the pools are the machine's
  pub flying_number : (k : ℕ) → flying.number k ≡ pool_number s k
  flying_number k = ap (λ (g : ℕ → ℕ). g k) (sym b.desk.fits.alike.number) ∙ b.desk.machine.number k

  idle_children : AreChildren m b.flight.node cs
  idle_children = subst (λ j. AreChildren m j cs) (sym b.flown.node) (are_children p s m i frame b.desk n live)

  flying_children : AreChildren flying b.flight.node cs
  flying_children = children_from flying m b.desk.fits.alike b.flight.node cs idle_children

  given : HasRead flying b.flight (numbers_of (pools_of s.kind s.banks)) (readings_of flying.number cs)
  given = present_read flying b.flight cs (numbers_of (pools_of s.kind s.banks)) flying_children
      (b.desk.fits.reads n w b.flight b.flown) (λ j less. sym (flying_number (get_or cs j 0)))

  -- the solve in flight has read the pools of the node's children
  pub solving : (rs : List Reading) → rs ≡ numbers_read (pools_of s.kind s.banks) (children_in s.frame n) → IsSolving s w flying b.flight rs
  solving rs e = subst (IsSolving s w flying b.flight) (sym all) (record {
    valid = b.desk.fits.valid;
    fits = b.desk.fits.fits;
    flown = mine;
    read = given;
    within = λ j less.
        let child : IsChild m b.flight.node (reading_at (readings_of flying.number cs) j).child =
        child_to flying m b.desk.fits.alike b.flight.node _ (given.child j less) in
        omega (arith, child_within p s m i frame b.desk b.flight.node _ child, length-map (pools_of s.kind s.banks) (λ (h : Held). h.number));
    room = omega (arith, b.desk.fits.alike.commits, b.room);
  })
    where
      all : rs ≡ readings_of flying.number cs
      all = e ∙ all_numbers (pools_of s.kind s.banks) flying.number cs within_pools (λ c. sym (flying_number c))

  -- ---- behind it
  module _ (new : State) where
    abbrev reads : Machine
    reads = read_each (begun m 0 b.flight.node) (first_flight m b.flight.node) cs

    abbrev flight : Flight
    flight = read_by_each m.number (first_flight m b.flight.node) cs

    -- the turn of the idle machine beside the end in the other one
    abbrev Turns : Bool → Machine → Machine → Type 0
    Turns added machine k = TurnsBeside s.table new.table m w b.flight cs b.desk.fits b.desk.valid b.desk.idle mine idle_children added machine k

    committed_part : (point added : Bool) (k : Machine) → (added ≡ true → 0 < b.flight.node) → k ≡ committed_by w flying b.flight point added
        → Fits new.table k → Turns added (committed_by 0 reads flight point added) k
    committed_part point true k low e fits = subst (Turns true (committed_by 0 reads flight point true)) (sym e)
        (add_beside s.table new.table m w b.flight cs b.desk.fits b.desk.valid b.desk.idle mine idle_children point (low refl)
        (subst (Fits new.table) e fits))
    committed_part point false k low e fits = subst (Turns false (committed_by 0 reads flight point false)) (sym e)
        (commit_beside s.table new.table m w b.flight cs b.desk.fits b.desk.valid b.desk.idle mine idle_children point
        (subst (Fits new.table) e fits))

    dropped_part : (added : Bool) (k : Machine) → EndsWithout w flying b.flight added k → Fits new.table k → Turns added (dropped reads 0) k
    dropped_part added k e fits = subst (λ a. Turns a (dropped reads 0) k) (sym e.0) (subst (Turns false (dropped reads 0)) (sym e.1)
        (drop_beside s.table new.table m w b.flight cs b.desk.fits b.desk.valid b.desk.idle mine idle_children (subst (Fits new.table) e.1 fits)))

    record Part (trial : List Entry) (all : Solved) (added : Bool) (k : Machine) : Type 0 where
      machine : Machine
      turns : Turns added machine k
      way : EndsBy 0 trial all reads flight added machine

    part : (trial : List Entry) (all : Solved) (added : Bool) (k : Machine) → (added ≡ true → 0 < b.flight.node)
        → EndsBy w trial all flying b.flight added k → Fits new.table k → Part trial all added k
    part trial (solved.Point x value cut) added k low (inl e) fits =
        record { machine = committed_by 0 reads flight true added; turns = committed_part true added k low e fits; way = inl refl }
    part trial (solved.Point x value cut) added k low (inr (passes, e)) fits =
        record { machine = dropped reads 0; turns = dropped_part added k e fits; way = inr (passes, (e.0, refl)) }
    part trial (solved.NoPoint cut) added k low e fits =
        record { machine = committed_by 0 reads flight false added; turns = committed_part false added k low e fits; way = refl }
    part trial solved.Loose added k low e fits = record { machine = dropped reads 0; turns = dropped_part added k e fits; way = (e.0, refl) }
    part trial solved.PivotsEnded added k low e fits = record { machine = dropped reads 0; turns = dropped_part added k e fits; way = (e.0, refl) }
    part trial (solved.Passed in_cut o) added k low e fits = record { machine = dropped reads 0; turns = dropped_part added k e fits; way = (e.0, refl) }
    part trial solved.NotGood added k low e fits = record { machine = dropped reads 0; turns = dropped_part added k e fits; way = (e.0, refl) }

    -- where the solve ends, the idle machine takes the worker's turn
    pub ends_on : (trial : List Entry) (all : Solved) → EndsSolve w (EndsBy w trial all) s new flying b.flight → EndsOn (EndsBy 0 trial all) p s m flying w n new
    ends_on trial all e =
        let h : Part trial all e.added e.machine =
        part trial all e.added e.machine (low_of w flying b.flight e.added e.machine e.ends) e.way e.fits in
        let turn : TakesTurn m h.machine = record {
          node = b.flight.node;
          may = may;
          children = cs;
          are_children = idle_children;
          added = e.added;
          ends = h.turns.ends;
        } in
        record {
          machine = h.machine;
          turn = turn;
          node = b.flown.node;
          way = h.way;
          desk = record {
            valid = (turn_keeps m h.machine b.desk.valid b.desk.idle turn).0;
            fits = h.turns.fits;
            idle = (turn_keeps m h.machine b.desk.valid b.desk.idle turn).1;
            machine = record {
              live = λ k. ap (λ (l : ℕ → Bool). l k) ((ends_keep 0 _ _ _ _ h.turns.ends).0 ∙ kept.live) ∙ b.desk.machine.live k;
              parent = (ends_keep 0 _ _ _ _ h.turns.ends).1 ∙ kept.parent ∙ b.desk.machine.parent
                  ∙ ap (λ (g : Frame). slice_index g.parents) (sym e.run.frame);
              number = λ k. ap (λ (g : ℕ → ℕ). g k) h.turns.fits.alike.number ∙ ap (λ (x : Machine). x.number k) h.turns.flying ∙ e.number k;
            };
            pools = pools_kept s new e.run b.desk.pools;
            unused = λ z. let no : false ≡ true = sym z ∙ e.run.is_begun ∙ b.is_begun in absurd (cc);
          };
          begun = e.run.is_begun ∙ b.is_begun;
          flight = b.flight;
          flown = mine;
          ended = subst (EndsTurn w flying b.flight e.added) (sym h.turns.flying) e.ends;
          flights = λ v. ap (λ (x : Machine). x.flight v) h.turns.flying ∙ frees w flying b.flight e.added e.machine e.ends v;
          alone = λ first alone. subst (Fits new.table) (sym (h.turns.alone (first, alone_reads first alone))) e.fits;
        }
      where
        alone_reads : w ≡ 0 → flying ≡ with_solve s m w n → flying ≡ reads
        alone_reads first alone =
            alone ∙ ap (λ v. with_solve s m v n) first ∙ reads_alone (begun m 0 n) (first_flight m n) cs
            ∙ ap (λ j. read_each (begun m 0 j) (first_flight m j) cs) (sym b.flown.node)

        may : MayBegin m b.flight.node
        may = (turn_of s.table new.table m w b.flight cs b.desk.fits b.desk.valid b.desk.idle mine idle_children true).may

        kept : AreReads (begun m 0 b.flight.node) (first_flight m b.flight.node) cs reads
        kept = turn_reads m b.flight.node cs b.desk.valid b.desk.idle may

  -- where the node has no program
  pub stuck_ends : (new : State) (why : Option Open) (table : Table) → Drops w s.table new.table → new ≡ record s { stop = why; table = table }
      → EndsOn EndsAnyhow p s m flying w n new
  stuck_ends new why table drop e =
      anyhow (EndsBy 0 [] solved.Loose) p s m flying w n new
      (ends_on new [] solved.Loose
      (left_ends w (EndsBy w [] solved.Loose) s new flying b.flight (numbers_read (pools_of s.kind s.banks) (children_in s.frame n)) why table
      (solving (numbers_read (pools_of s.kind s.banks) (children_in s.frame n)) refl) flying_number drop e (refl, refl)))

-- ---- where no other solve is in flight
-- the idle machine that the table fits is a desk
pub at_desk : (p : Program) (s : State) (m : Machine) → IsTabledBy p s m → HasFlying p s m m
at_desk p s m t = record {
  desk = record {
    valid = t.valid;
    fits = starts s.table m t.valid t.idle t.fits;
    idle = t.idle;
    machine = record { live = t.machine.live; parent = t.machine.parent; number = t.machine.number };
    pools = t.pools;
    unused = t.unused;
  };
  is = starts_there s.table m t.valid t.idle t.fits;
}

pub desk_at : (p : Program) (s : State) (m : Machine) → IsTabledBy p s m → IsDesk p s m
desk_at p s m t = (at_desk p s m t).desk

-- what its Begin comes to
pub alone_begins : (p : Program) (s new : State) (m : Machine) (r : Option ℕ) → IsTabledBy p s m
    → ((d : IsDesk p s m) → d.fits.flying.flight 0 ≡ None → 0 < length s.table.flights.items → BeginsOn p m d.fits.flying 0 r new)
    → 0 < length s.table.flights.items → BeginsOn p m m 0 r new
alone_begins p s new m r t begins low =
    let a : HasFlying p s m m = at_desk p s m t in
    subst (λ (k : Machine). BeginsOn p m k 0 r new) a.is (begins a.desk (ap (λ (k : Machine). k.flight 0) a.is ∙ t.idle 0) low)

-- where none is in flight
pub rests_at : (p : Program) (s : State) (m : Machine) → HasFlying p s m m → IsTabledBy p s m
rests_at p s m h = record {
  valid = h.desk.valid;
  fits = subst (Fits s.table) h.is h.desk.fits.fits;
  idle = h.desk.idle;
  machine = record { live = h.desk.machine.live; parent = h.desk.machine.parent; number = h.desk.machine.number };
  pools = h.desk.pools;
  unused = h.desk.unused;
}

-- so the machine with the solves in flight, where it has none, is one that the table fits
pub lands : (p : Program) (s : State) (m : Machine) (d : IsDesk p s m) → IsIdle d.fits.flying → IsTabledBy p s d.fits.flying
lands p s m d idle = record {
  valid = d.fits.valid;
  fits = d.fits.fits;
  idle = idle;
  machine = record {
    live = λ n. ap (λ (l : ℕ → Bool). l n) (sym d.fits.alike.live) ∙ d.machine.live n;
    parent = sym d.fits.alike.parent ∙ d.machine.parent;
    number = λ n. ap (λ (g : ℕ → ℕ). g n) (sym d.fits.alike.number) ∙ d.machine.number n;
  };
  pools = d.pools;
  unused = d.unused;
}

-- the worker that was alone took its turn
pub alone_ends : (Way : Machine → Flight → Bool → Machine → Type 0) (p : Program) (s : State) (m k : Machine) (n : ℕ) (new : State)
    → k ≡ with_solve s m 0 n → EndsOn Way p s m k 0 n new → EndsBegun Way p m n new
alone_ends Way p s m k n new alone e = record {
  machine = e.machine;
  turn = e.turn;
  node = e.node;
  way = e.way;
  tabled = record {
    valid = e.desk.valid;
    fits = e.alone refl alone;
    idle = e.desk.idle;
    machine = record { live = e.desk.machine.live; parent = e.desk.machine.parent; number = e.desk.machine.number };
    pools = e.desk.pools;
    unused = e.desk.unused;
  };
}

-- in which the program of the node was solved
pub alone_solves : (p : Program) (s : State) (m k : Machine) (n : ℕ) (new : State) → k ≡ with_solve s m 0 n
    → SolvesOn p s m k 0 n new → SolvesNode p s m n new
alone_solves p s m k n new alone h = record {
  task = h.task;
  is_task = h.is_task;
  fits = h.fits;
  all = h.all;
  told = h.told;
  ends = alone_ends (EndsBy 0 h.task.trial h.all) p s m k n new alone h.ends;
  points = h.points;
  reasons = record { counts = h.reasons.counts; stop = h.reasons.stop; lasting = h.reasons.lasting };
  stays = h.stays;
  answer = h.answer;
  leaves = h.leaves;
  anyhow = h.anyhow;
}

-- a node was solved
pub turned : (Way : Machine → Flight → Bool → Machine → Type 0) (p : Program) (m : Machine) (n : ℕ) (s : State) → IsNext m n → EndsBegun Way p m n s → StepsTo p m true s
turned Way p m n s next e = record { machine = e.machine; step = turns e.machine e.turn (subst (IsNext m) (sym e.node) next); tabled = e.tabled }
