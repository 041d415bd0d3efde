-- What solves in flight have read stays so until they end.
use Rattle.std.proofs.Common.{◌≡◌, ℕ, ◌<◌, ◌⊎◌, inl, inr, Bool, Some, List, [], ◌∷◌, length, get_or, arith, refl, sym, ap, subst, ◌∙◌}
use Rattle.std.proofs.lemmas.Bool.{cases_eq}
use Rattle.std.proofs.lemmas.List.{get_or-map, length-map, get_or_default}
use Rattle.std.specs.List.{Contains}
use Rattle.pass_table.specs.declared.table.Reading.{Reading}
use Rattle.pass_table.specs.Fits.{HasRead}
use Rattle.pass_table.specs.Readings.{reading_at, no_reading}
use Rattle.pass_table.specs.Machine.{next, Flight, Machine, IsChild, IsFlown, IsFlying, IsValid, begun, read_by, read, dropped, committed, raised, opened}
use Rattle.pass_table.proofs.Stale.{same_at, other_at}
use Rattle.pass_table.proofs.Events.{some_same, flight_left, flight_not}
use Rattle.crew_turns.specs.Turn.{AreChildren, first_flight, read_by_each, read_each}
use Rattle.crew_turns.specs.Alike.{ReadsArePresent}
use Rattle.crew_turns.proofs.Turning.{node_read, below_read, readings_of}
use Rattle.crew_turns.specs.Clear.{IsFair}
use Rattle.crew_turns.specs.Reads.{read_all, AllReadsArePresent, ReadsStay}

-- what a worker's Reads leave
pub record HasReadAll (m k : Machine) (v : ℕ) (f : Flight) (cs : List ℕ) : Type 0 where
  pub live : k.live ≡ m.live
  pub parent : k.parent ≡ m.parent
  pub run : k.run ≡ m.run
  pub number : k.number ≡ m.number
  pub mine : k.flight v ≡ Some (read_by_each m.number f cs)
  pub others : (u : ℕ) → (u ≡ v → ⊥) → k.flight u ≡ m.flight u

pub has_read_all : (m : Machine) (v : ℕ) (f : Flight) (cs : List ℕ) → m.flight v ≡ Some f → HasReadAll m (read_all m v f cs) v f cs
has_read_all m v f [] has = record { live = refl; parent = refl; run = refl; number = refl; mine = has; others = λ u ne. refl }
has_read_all m v f (c ∷ cs) has =
    let rest = has_read_all (read m v f c) v (read_by f c (m.number c)) cs (same_at m.flight v _ v refl) in record {
      live = rest.live;
      parent = rest.parent;
      run = rest.run;
      number = rest.number;
      mine = rest.mine;
      others = λ u ne. rest.others u ne ∙ other_at m.flight v _ u ne;
    }

begin_reads : (m : Machine) (v n : ℕ) (cs : List ℕ) → AllReadsArePresent m → AreChildren m n cs
    → AllReadsArePresent (read_all (begun m v n) v (first_flight m n) cs)
begin_reads m v n cs all children d u f flown c child = go (cases_eq u v)
  where
    k : Machine
    k = read_all (begun m v n) v (first_flight m n) cs

    h : HasReadAll (begun m v n) k v (first_flight m n) cs
    h = has_read_all (begun m v n) v (first_flight m n) cs (same_at m.flight v _ v refl)

    was_child : (j : ℕ) → IsChild k j c → IsChild m j c
    was_child j q = record {
      live = ap (λ (l : ℕ → Bool). l c) (sym h.live) ∙ q.live;
      lower = q.lower;
      parent = ap (λ (p : ℕ → ℕ). p c) (sym h.parent) ∙ q.parent;
    }

    go : (u ≡ v) ⊎ (u ≡ v → ⊥) → f.below c ≡ k.number c
    go (inl same) =
        let e : read_by_each m.number (first_flight m n) cs ≡ f = some_same _ f (sym h.mine ∙ (ap k.flight (sym same) ∙ flown.flight)) in
        let node : f.node ≡ n = ap (λ (x : Flight). x.node) (sym e) ∙ node_read m.number (first_flight m n) cs in
        let in_list : Contains cs c = (children c).0 (was_child n (subst (λ (j : ℕ). IsChild k j c) node child)) in
        ap (λ (x : Flight). x.below c) (sym e) ∙ below_read m.number (first_flight m n) cs c in_list.0 in_list.1 in_list.2
        ∙ ap (λ (q : ℕ → ℕ). q c) (sym h.number)
    go (inr other) =
        all d u f (record {
          flight = sym (h.others u other ∙ other_at m.flight v _ u other) ∙ flown.flight;
          run = flown.run ∙ h.run;
          node = flown.node;
        }) c (was_child f.node child) ∙ ap (λ (q : ℕ → ℕ). q c) (sym h.number)

commit_reads : (m : Machine) (v : ℕ) (f : Flight) (p : Bool) → AllReadsArePresent m → AllReadsArePresent (committed m v f p)
commit_reads m v f p all d u g flown c child =
    all d u g (record { flight = flight_left m v u g flown.flight; run = flown.run; node = flown.node }) c
    (record { live = child.live; lower = child.lower; parent = child.parent })

drop_reads : (m : Machine) (v : ℕ) → AllReadsArePresent m → AllReadsArePresent (dropped m v)
drop_reads m v all d u g flown c child =
    all d u g (record { flight = flight_left m v u g flown.flight; run = flown.run; node = flown.node }) c
    (record { live = child.live; lower = child.lower; parent = child.parent })

raise_reads : (m : Machine) (q : ℕ) → (IsFlying m (m.parent q) → ⊥) → AllReadsArePresent m → AllReadsArePresent (raised m q)
raise_reads m q free all d u g flown c child =
    let was : IsFlown m d u g = record { flight = flown.flight; run = flown.run; node = flown.node } in
    all d u g was c (record { live = child.live; lower = child.lower; parent = child.parent }) ∙ sym (other_at m.number q _ c (away was))
  where
    away : IsFlown m d u g → c ≡ q → ⊥
    away was e = free (
      u,
      (
        g,
        record {
          flight = was.flight;
          run = was.run;
          node = sym child.parent ∙ ap m.parent e;
        },
      ),
    )

reopen_reads : (m : Machine) (number : ℕ → ℕ) → IsValid m → AllReadsArePresent (opened m number)
reopen_reads m number valid d u g flown c child = absurd (let e = valid.earlier u g flown.flight in let r = flown.run in omega arith)

free_above : (m : Machine) (v : ℕ) (f : Flight) (p : Bool) → IsFair m → IsFlown m f.node v f → 0 < f.node → IsFlying (committed m v f p) (m.parent f.node) → ⊥
free_above m v f p fair mine low (u, (g, flown)) =
    flight_not m v u g flown.flight (sym (fair.apart f.node (m.parent f.node) v u f g mine
    (record { flight = flight_left m v u g flown.flight; run = flown.run; node = flown.node }) (inr (inr (next f.node low refl)))))

pub stays_read : ReadsStay
stays_read = record {
  begin = begin_reads;
  commit = commit_reads;
  drop = drop_reads;
  raise = raise_reads;
  reopen = reopen_reads;
  free = free_above;
}

-- the worker of turns reads in the same way
pub reads_alone : (m : Machine) (f : Flight) (cs : List ℕ) → read_all m 0 f cs ≡ read_each m f cs
reads_alone m f [] = refl
reads_alone m f (c ∷ cs) = reads_alone (read m 0 f c) (read_by f c (m.number c)) cs

-- what a solve whose reads are present read is what a commit asks for, where these are the numbers
pub present_read : (m : Machine) (f : Flight) (cs numbers : List ℕ) → AreChildren m f.node cs → ReadsArePresent m f
    → ((i : ℕ) → i < length cs → get_or numbers (get_or cs i 0) 0 ≡ m.number (get_or cs i 0)) → HasRead m f numbers (readings_of m.number cs)
present_read m f cs numbers children reads present = record {
  whole = λ c child. let here = (children c).0 child in (
    here.0,
    (omega (arith, length-map cs g, here.1), ap (λ (r : Reading). r.child) (get_or-map g cs here.0 c no_reading here.1) ∙ here.2),
  );
  child = λ i less. child_at i (long i less);
  read = λ i less. read_at i (long i less);
  present = λ i less. present_at i (long i less);
}
  where
    g : ℕ → Reading
    g c = record { child = c; number = m.number c }

    long : (i : ℕ) → i < length (readings_of m.number cs) → i < length cs
    long i less = omega (arith, length-map cs g, less)

    at : (i : ℕ) → i < length cs → reading_at (readings_of m.number cs) i ≡ g (get_or cs i 0)
    at i less = get_or-map g cs i 0 no_reading less

    child_in : (i : ℕ) → i < length cs → IsChild m f.node (get_or cs i 0)
    child_in i less = (children (get_or cs i 0)).1 (i, less, get_or_default cs i _ 0 less)

    child_at : (i : ℕ) → i < length cs → IsChild m f.node (reading_at (readings_of m.number cs) i).child
    child_at i less = subst (IsChild m f.node) (ap (λ (r : Reading). r.child) (sym (at i less))) (child_in i less)

    read_at : (i : ℕ) → i < length cs
        → (reading_at (readings_of m.number cs) i).number ≡ f.below (reading_at (readings_of m.number cs) i).child
    read_at i less =
        let P : Reading → Type 0 = λ r. r.number ≡ f.below r.child in
        subst P (sym (at i less)) (sym (reads (get_or cs i 0) (child_in i less)))

    present_at : (i : ℕ) → i < length cs
        → get_or numbers (reading_at (readings_of m.number cs) i).child 0 ≡ m.number (reading_at (readings_of m.number cs) i).child
    present_at i less =
        let P : Reading → Type 0 = λ r. get_or numbers r.child 0 ≡ m.number r.child in subst P (sym (at i less)) (present i less)
