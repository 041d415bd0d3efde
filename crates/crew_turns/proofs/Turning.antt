-- What Reads leave, what a commit is given behind them, and that a turn keeps a machine valid and idle.
use Rattle.std.proofs.Common.{◌≡◌, ℕ, zero, suc, ◌<◌, ◌⊎◌, inl, inr, Bool, Option, Some, None, List, [], ◌∷◌, length, get_or, map, arith, refl, sym, ap, subst, ◌∙◌}
use Rattle.std.specs.List.{Contains}
use Rattle.std.proofs.lemmas.Bool.{cases_eq}
use Rattle.std.proofs.lemmas.List.{get_or-map, length-map, get_or_default}
use Rattle.pass_table.specs.declared.table.Reading.{Reading}
use Rattle.pass_table.specs.declared.table.Table.{Table}
use Rattle.pass_table.specs.Machine.{Flight, Machine, IsChild, IsFlown, IsFlying, MayBegin, IsFree, HasNoNext, IsValid, with_at, begun, read_by, read, committed}
use Rattle.pass_table.specs.Fits.{Fits, HasRead}
use Rattle.pass_table.specs.Readings.{reading_at, no_reading, IsRead}
use Rattle.pass_table.proofs.Stale.{same_at, other_at}
use Rattle.pass_table.proofs.Valid.{valid_begun, valid_read, valid_committed, valid_dropped, valid_raised}
use Rattle.pass_table.proofs.ReadLaws.{read_fits}
use Rattle.crew_turns.specs.Turn.{IsIdle, AreChildren, first_flight, read_by_each, read_each, EndsTurn, drops, commits, adds, TakesTurn}

-- ---- Reads
-- what Reads leave as it was, and the flight
pub record AreReads (m : Machine) (f : Flight) (cs : List ℕ) (k : Machine) : Type 0 where
  pub live : k.live ≡ m.live
  pub parent : k.parent ≡ m.parent
  pub run : k.run ≡ m.run
  pub commits : k.commits ≡ m.commits
  pub last : k.last ≡ m.last
  pub number : k.number ≡ m.number
  pub waits : k.waits ≡ m.waits
  pub flight : k.flight 0 ≡ Some (read_by_each m.number f cs)
  pub others : (w : ℕ) → (w ≡ 0 → ⊥) → k.flight w ≡ m.flight w
  pub valid : IsValid k
  pub fits : (t : Table) → Fits t m → Fits t k

pub reads_are : (m : Machine) (f : Flight) (cs : List ℕ) → IsValid m → m.flight 0 ≡ Some f → AreReads m f cs (read_each m f cs)
reads_are m f [] valid has = record {
  live = refl;
  parent = refl;
  run = refl;
  commits = refl;
  last = refl;
  number = refl;
  waits = refl;
  flight = has;
  others = λ w ne. refl;
  valid = valid;
  fits = λ t fits. fits;
}
reads_are m f (c ∷ cs) valid has =
    let rest = reads_are (read m 0 f c) (read_by f c (m.number c)) cs (valid_read m 0 f c valid has) (same_at m.flight 0 _ 0 refl) in
    record {
      live = rest.live;
      parent = rest.parent;
      run = rest.run;
      commits = rest.commits;
      last = rest.last;
      number = rest.number;
      waits = rest.waits;
      flight = rest.flight;
      others = λ w ne. rest.others w ne ∙ other_at m.flight 0 _ w ne;
      valid = rest.valid;
      fits = λ t fits. rest.fits t (read_fits t m 0 f c has fits);
    }

pub node_read : (number : ℕ → ℕ) (f : Flight) (cs : List ℕ) → (read_by_each number f cs).node ≡ f.node
node_read number f [] = refl
node_read number f (c ∷ cs) = node_read number (read_by f c (number c)) cs

pub run_read : (number : ℕ → ℕ) (f : Flight) (cs : List ℕ) → (read_by_each number f cs).run ≡ f.run
run_read number f [] = refl
run_read number f (c ∷ cs) = run_read number (read_by f c (number c)) cs

-- a pool that was read, or comes to be
below_stays : (number : ℕ → ℕ) (f : Flight) (cs : List ℕ) (d : ℕ) → f.below d ≡ number d → (read_by_each number f cs).below d ≡ number d
below_stays number f [] d e = e
below_stays number f (c ∷ cs) d e = below_stays number (read_by f c (number c)) cs d (here (cases_eq d c))
  where
    here : (d ≡ c) ⊎ (d ≡ c → ⊥) → with_at f.below c (number c) d ≡ number d
    here (inl same) = same_at f.below c (number c) d same ∙ ap number (sym same)
    here (inr ne) = other_at f.below c (number c) d ne ∙ e

pub below_read : (number : ℕ → ℕ) (f : Flight) (cs : List ℕ) (d i : ℕ) → i < length cs → get_or cs i d ≡ d → (read_by_each number f cs).below d ≡ number d
below_read number f [] d i less e = absurd (omega arith)
below_read number f (c ∷ cs) d zero less e = below_stays number (read_by f c (number c)) cs d (same_at f.below c (number c) d (sym e) ∙ ap number e)
below_read number f (c ∷ cs) d (suc i) less e = below_read number (read_by f c (number c)) cs d i (omega arith) e

-- ---- readings
-- the pools of these nodes with these numbers
abbrev pub readings_of : (ℕ → ℕ) → List ℕ → List Reading
readings_of number cs = map (λ c. record { child = c; number = number c }) cs

-- what a Read of the children leaves is what a commit asks for, where these are the numbers
pub has_read : (m k : Machine) (f : Flight) (cs : List ℕ) (numbers : List ℕ) → AreChildren m f.node cs → AreReads m f cs k
    → ((i : ℕ) → i < length cs → get_or numbers (get_or cs i 0) 0 ≡ m.number (get_or cs i 0))
    → HasRead k (read_by_each m.number f cs) numbers (readings_of m.number cs)
has_read m k f cs numbers children reads present = record {
  whole = λ c child. whole c (child_before c child);
  child = λ i less. child_at i (long i less);
  read = λ i less. read_at i (long i less);
  present = λ i less. present_at i (long i less);
}
  where
    g : ℕ → Reading
    g c = record { child = c; number = m.number c }

    long : (i : ℕ) → i < length (readings_of m.number cs) → i < length cs
    long i less = omega (arith, length-map cs g, less)

    at : (i : ℕ) → i < length cs → reading_at (readings_of m.number cs) i ≡ g (get_or cs i 0)
    at i less = get_or-map g cs i 0 no_reading less

    child_before : (c : ℕ) → IsChild k (read_by_each m.number f cs).node c → IsChild m f.node c
    child_before c h = record {
      live = ap (λ (l : ℕ → Bool). l c) (sym reads.live) ∙ h.live;
      lower = h.lower;
      parent = ap (λ (p : ℕ → ℕ). p c) (sym reads.parent) ∙ h.parent ∙ node_read m.number f cs;
    }

    child_after : (c : ℕ) → IsChild m f.node c → IsChild k (read_by_each m.number f cs).node c
    child_after c h = record {
      live = ap (λ (l : ℕ → Bool). l c) reads.live ∙ h.live;
      lower = h.lower;
      parent = ap (λ (p : ℕ → ℕ). p c) reads.parent ∙ h.parent ∙ sym (node_read m.number f cs);
    }

    whole : (c : ℕ) → IsChild m f.node c → IsRead (readings_of m.number cs) c
    whole c h = let here = (children c).0 h in (
      here.0,
      (omega (arith, length-map cs g, here.1), ap (λ (r : Reading). r.child) (get_or-map g cs here.0 c no_reading here.1) ∙ here.2),
    )

    stands : (i : ℕ) → i < length cs → Contains cs (get_or cs i 0)
    stands i less = (i, less, get_or_default cs i _ 0 less)

    child_at : (i : ℕ) → i < length cs → IsChild k (read_by_each m.number f cs).node (reading_at (readings_of m.number cs) i).child
    child_at i less =
        let P : ℕ → Type 0 = λ c. IsChild k (read_by_each m.number f cs).node c in
        subst P (ap (λ (r : Reading). r.child) (sym (at i less))) (child_after _ ((children _).1 (stands i less)))

    read_at : (i : ℕ) → i < length cs
        → (reading_at (readings_of m.number cs) i).number ≡ (read_by_each m.number f cs).below (reading_at (readings_of m.number cs) i).child
    read_at i less =
        let P : Reading → Type 0 = λ r. r.number ≡ (read_by_each m.number f cs).below r.child in
        subst P (sym (at i less)) (sym (below_read m.number f cs (get_or cs i 0) i less (get_or_default cs i _ 0 less)))

    present_at : (i : ℕ) → i < length cs
        → get_or numbers (reading_at (readings_of m.number cs) i).child 0 ≡ k.number (reading_at (readings_of m.number cs) i).child
    present_at i less =
        let P : Reading → Type 0 = λ r. get_or numbers r.child 0 ≡ k.number r.child in
        subst P (sym (at i less)) (present i less ∙ ap (λ (n : ℕ → ℕ). n (get_or cs i 0)) (sym reads.number))

-- ---- a whole turn
none_flown : (x : Option Flight) (f : Flight) → x ≡ None → x ≡ Some f → ⊥
none_flown x f e d = cc

-- where no solve is in flight a node that may be begun is free
pub idle_free : (m : Machine) (n : ℕ) → IsIdle m → MayBegin m n → IsFree m n
idle_free m n idle may = record { may = may; above = λ a up (w, (f, flown)). none_flown (m.flight w) f (idle w) flown.flight }

-- and where none is next none may be begun
pub none_next : (m : Machine) → IsIdle m → HasNoNext m → (n : ℕ) → MayBegin m n → ⊥
none_next m idle none n may = by (none n (idle_free m n idle may)).1
  where
    by : (k : ℕ) × IsFlying m k → ⊥
    by (k, (w, (f, flown))) = none_flown (m.flight w) f (idle w) flown.flight

-- behind a Begin: no other worker has a solve in flight
pub begun_others : (m : Machine) (n w : ℕ) → IsIdle m → (w ≡ 0 → ⊥) → (begun m 0 n).flight w ≡ None
begun_others m n w idle ne = other_at m.flight 0 _ w ne ∙ idle w

pub turn_reads : (m : Machine) (n : ℕ) (cs : List ℕ) → IsValid m → IsIdle m → MayBegin m n
    → AreReads (begun m 0 n) (first_flight m n) cs (read_each (begun m 0 n) (first_flight m n) cs)
turn_reads m n cs valid idle may =
    reads_are (begun m 0 n) (first_flight m n) cs (valid_begun m 0 n valid (idle 0) may) (same_at m.flight 0 _ 0 refl)

-- the solve that read is in flight
pub turn_flown : (m : Machine) (n : ℕ) (cs : List ℕ) (k : Machine) → AreReads (begun m 0 n) (first_flight m n) cs k
    → IsFlown k (read_by_each m.number (first_flight m n) cs).node 0 (read_by_each m.number (first_flight m n) cs)
turn_flown m n cs k reads = record {
  flight = reads.flight;
  run = run_read m.number (first_flight m n) cs ∙ sym reads.run;
  node = refl;
}

-- a turn keeps a machine valid, and leaves no solve in flight
ends_valid : (m : Machine) (f : Flight) (added : Bool) (k : Machine) → IsValid m → IsFlown m f.node 0 f → EndsTurn 0 m f added k → IsValid k
ends_valid m f added k valid flown drops = valid_dropped m 0 valid
ends_valid m f added k valid flown (commits point) = valid_committed m 0 f point valid flown
ends_valid m f added k valid flown (adds point low) = valid_raised (committed m 0 f point) f.node (valid_committed m 0 f point valid flown)

pub freed : (m : Machine) → ((w : ℕ) → (w ≡ 0 → ⊥) → m.flight w ≡ None) → (w : ℕ) → with_at m.flight 0 None w ≡ None
freed m others w = go (cases_eq w 0)
  where
    go : (w ≡ 0) ⊎ (w ≡ 0 → ⊥) → with_at m.flight 0 None w ≡ None
    go (inl same) = same_at m.flight 0 None w same
    go (inr ne) = other_at m.flight 0 None w ne ∙ others w ne

ends_idle : (m : Machine) (f : Flight) (added : Bool) (k : Machine) → ((w : ℕ) → (w ≡ 0 → ⊥) → m.flight w ≡ None) → EndsTurn 0 m f added k → IsIdle k
ends_idle m f added k others drops = freed m others
ends_idle m f added k others (commits point) = freed m others
ends_idle m f added k others (adds point low) = freed m others

pub turn_keeps : (m k : Machine) → IsValid m → IsIdle m → TakesTurn m k → IsValid k × IsIdle k
turn_keeps m k valid idle turn =
    let reads = turn_reads m turn.node turn.children valid idle turn.may in (
      ends_valid _ _ _ k reads.valid (turn_flown m turn.node turn.children _ reads) turn.ends,
      ends_idle _ _ _ k (λ w ne. reads.others w ne ∙ begun_others m turn.node w idle ne) turn.ends,
    )
