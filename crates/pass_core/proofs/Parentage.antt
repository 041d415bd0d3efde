-- The machine of a program before any event, and the children of its nodes.
use Rattle.std.proofs.Common.{◌≡◌, ℕ, zero, suc, ◌+◌, ◌<◌, Bool, true, false, List, [], ◌∷◌, Option, Some, None, length, get_or, map, arith, refl, sym, ap, subst, ◌∙◌, nat_eq, slice_index, ◌-◌, ◌^◌, min, IfSome, IsSome, ◌↔◌, Result, Ok, Err, OnOk}
use Rattle.std.specs.List.{Contains}
use Rattle.std.proofs.lemmas.Bool.Decides.{nat_tests}
use Rattle.std.proofs.lemmas.List.{length-map}
use Rattle.rationals.specs.Rational.{one_ℚ, ne_of_gt_ℚ, zero_lt_one_ℚ}
use Rattle.rationals.specs.Sums.{sum_ℚ}
use Rattle.rationals.specs.Choices.{pick}
use Rattle.scen_defs.specs.Lists.{Each, places, passes_at}
use Rattle.scen_defs.specs.Program.{Node, Scenario, Program, is_live, node_at, or_root}
use Rattle.scen_defs.specs.Valid.{Lives, HasParent, Follows, FitsScenario, IsProgram}
use Rattle.scen_tree.specs.Trees.{position_by, position_of, is_below, children_of}
use Rattle.node_data.specs.Frames.{Frame, parent_of, frame_of, children_in}
use Rattle.node_data.proofs.TreeReads.{children_at}
use Rattle.edit_defs.proofs.Lists.{passes-within}
use Rattle.cut_defs.specs.declared.versions.Due.{Due}
use Rattle.cut_banks.specs.declared.banks.Banks.{Banks}
use Rattle.cut_banks.specs.Banks.{empty_banks, edited_banks}
use Rattle.pass_table.specs.Marks.{nothing}
use Rattle.pass_table.specs.Walks.{IsRising}
use Rattle.pass_table.specs.Machine.{Machine, unsolved, IsLive, IsChild}
use Rattle.pass_table.specs.declared.table.Table.{Table}
use Rattle.pass_table.specs.Fits.{IsStart, Fits}
use Rattle.pass_table.proofs.Valid.{valid_start}
use Rattle.crew_table.specs.Parents.{AreParents}
use Rattle.crew_turns.specs.Turn.{AreChildren}
use Rattle.pass_core.specs.declared.state.State.{State}
use Rattle.pass_core.proofs.Pooling.{empty_length, edited_pools}
use Rattle.pass_core.specs.Tabled.{pool_number, HasPools, IsUnused, IsTabled, IsTabledBy}

no : {A : Type 0} → false ≡ true → A
no e = absurd (cc)

-- ---- the root
root_of : (p : Program) → IsProgram p → (ss : List Scenario) → Each (FitsScenario p) ss → sum_ℚ (λ (s : Scenario). s.probability) ss ≡ one_ℚ → Lives p 0
root_of p i [] h e = absurd (ne_of_gt_ℚ zero_lt_one_ℚ (sym e))
root_of p i (s ∷ ss) h e = starts s.path h.0.path
  where
    first : (n stage : ℕ) (parent : Option ℕ) → HasParent p n stage parent → parent ≡ None → n ≡ 0
    first n stage None h e = h.0
    first n stage (Some m) h e = absurd (cc)

    starts : (path : List ℕ) → Follows p 0 None path → Lives p 0
    starts [] f = absurd (let q : 0 < length p.periods = i.periods in let z : 0 ≡ length p.periods = f in omega (arith, q, z))
    starts (n ∷ path) f =
        let z : n ≡ 0 = first n (node_at p.nodes n).stage (node_at p.nodes n).parent (i.nodes n f.0).parent f.2 in
        subst (Lives p) z f.0

pub root_lives : (p : Program) → IsProgram p → Lives p 0
root_lives p i = root_of p i p.scenarios i.scenarios i.certain

-- ---- parents
-- the parent at a place, of a live node
parent_at : (nodes : List (Option Node)) (n : ℕ) → passes_at is_live n nodes ≡ true → get_or (map parent_of nodes) n 0 ≡ or_root (node_at nodes n).parent
parent_at [] n h = no h
parent_at (None ∷ nodes) zero h = no h
parent_at (Some node ∷ nodes) zero h = refl
parent_at (None ∷ nodes) (suc n) h = parent_at nodes n h
parent_at (Some node ∷ nodes) (suc n) h = parent_at nodes n h

-- and of one that was dropped
parent_gone : (nodes : List (Option Node)) (n : ℕ) → passes_at is_live n nodes ≡ false → get_or (map parent_of nodes) n 0 ≡ 0
parent_gone [] n h = refl
parent_gone (None ∷ nodes) zero h = refl
parent_gone (Some node ∷ nodes) zero h = absurd (let q : true ≡ false = h in cc)
parent_gone (None ∷ nodes) (suc n) h = parent_gone nodes n h
parent_gone (Some node ∷ nodes) (suc n) h = parent_gone nodes n h

-- a live node but the root has a live parent of a smaller number
pub record IsBelow (p : Program) (n m : ℕ) : Type 0 where
  pub parent : (node_at p.nodes n).parent ≡ Some m
  pub live : Lives p m
  pub smaller : m < n

below_of : (p : Program) (n stage : ℕ) (parent : Option ℕ) → HasParent p n stage parent → (node_at p.nodes n).parent ≡ parent → 0 < n
    → (m : ℕ) × (IsBelow p n m × (or_root parent ≡ m))
below_of p n stage None h e low = absurd (omega (arith, h.0, low))
below_of p n stage (Some m) h e low = (m, (record { parent = e; live = h.live; smaller = h.smaller }, refl))

live_below : (p : Program) → IsProgram p → (n : ℕ) → Lives p n → 0 < n → (m : ℕ) × (IsBelow p n m × (or_root (node_at p.nodes n).parent ≡ m))
live_below p i n l low = below_of p n (node_at p.nodes n).stage (node_at p.nodes n).parent (i.nodes n l).parent refl low

rising_at : (p : Program) → IsProgram p → (n : ℕ) → 0 < n → (b : Bool) → passes_at is_live n p.nodes ≡ b → get_or (map parent_of p.nodes) n 0 < n
rising_at p i n low true l = let h = live_below p i n l low in omega (arith, parent_at p.nodes n l, h.1.1, h.1.0.smaller)
rising_at p i n low false l = omega (arith, parent_gone p.nodes n l, low)

pub are_parents : (p : Program) → IsProgram p → length p.nodes < nothing → AreParents (frame_of p).parents
are_parents p i few = record {
  rooted = omega (arith, length-map p.nodes parent_of, passes-within is_live 0 p.nodes (root_lives p i));
  few = omega (arith, length-map p.nodes parent_of, few);
  rising = λ n low less. rising_at p i n low (passes_at is_live n p.nodes) refl;
}

-- ---- children
-- where a test passes, its place stands in the list
placed : {A : Type 0} (test : A → Bool) (i k n : ℕ) (xs : List A) → n ≡ k + i → passes_at test i xs ≡ true → Contains (places test k xs) n
placed test i k n [] e h = no h
placed {A} test zero k n (x ∷ xs) e h = go (test x) h
  where
    go : (b : Bool) → b ≡ true → Contains (elim b [ true ↦ k ∷ places test (suc k) xs | false ↦ places test (suc k) xs ]) n
    go true q = (0, omega arith, omega (arith, e))
    go false q = no q
placed {A} test (suc i) k n (x ∷ xs) e h = go (test x) (placed test i (suc k) n xs (omega (arith, e)) h)
  where
    go : (b : Bool) → Contains (places test (suc k) xs) n → Contains (elim b [ true ↦ k ∷ places test (suc k) xs | false ↦ places test (suc k) xs ]) n
    go true c = (suc c.0, omega (arith, c.1), c.2)
    go false c = c

-- and only there
places_pass : {A : Type 0} (test : A → Bool) (k n : ℕ) (xs : List A) → Contains (places test k xs) n → (i : ℕ) × ((n ≡ k + i) × (passes_at test i xs ≡ true))
places_pass test k n [] c = absurd (omega (arith, c.1))
places_pass {A} test k n (x ∷ xs) c = go (test x) refl (places_pass test (suc k) n xs) c
  where
    later : (Contains (places test (suc k) xs) n → (i : ℕ) × ((n ≡ suc k + i) × (passes_at test i xs ≡ true))) → Contains (places test (suc k) xs) n
        → (i : ℕ) × ((n ≡ k + i) × (passes_at test i (x ∷ xs) ≡ true))
    later rest c = let r = rest c in (suc r.0, (omega (arith, r.1.0), r.1.1))

    first : (Contains (places test (suc k) xs) n → (i : ℕ) × ((n ≡ suc k + i) × (passes_at test i xs ≡ true)))
        → (j : ℕ) → test x ≡ true → j < length (k ∷ places test (suc k) xs) → get_or (k ∷ places test (suc k) xs) j n ≡ n
        → (i : ℕ) × ((n ≡ k + i) × (passes_at test i (x ∷ xs) ≡ true))
    first rest zero q less e = (0, (omega (arith, e), q))
    first rest (suc j) q less e = later rest (j, omega arith, e)

    go : (b : Bool) → test x ≡ b → (Contains (places test (suc k) xs) n → (i : ℕ) × ((n ≡ suc k + i) × (passes_at test i xs ≡ true)))
        → Contains (elim b [ true ↦ k ∷ places test (suc k) xs | false ↦ places test (suc k) xs ]) n
        → (i : ℕ) × ((n ≡ k + i) × (passes_at test i (x ∷ xs) ≡ true))
    go true q rest c = first rest c.0 q c.1 c.2
    go false q rest c = later rest c

-- a place is below n where a live node there has the parent n
pub below_live : (n i : ℕ) (nodes : List (Option Node)) → passes_at (is_below n) i (map position_of nodes) ≡ true
    → (passes_at is_live i nodes ≡ true) × ((node_at nodes i).parent ≡ Some n)
below_live n i [] h = no h
below_live n zero (None ∷ nodes) h = no h
below_live n zero (Some node ∷ nodes) h = (refl, go node.parent h)
  where
    go : (parent : Option ℕ) → is_below n (position_by parent) ≡ true → parent ≡ Some n
    go None h = no h
    go (Some m) h = let e : m ≡ n = grind (arith, nat_tests) in ap (λ (k : ℕ). Some k) e
below_live n (suc i) (None ∷ nodes) h = below_live n i nodes h
below_live n (suc i) (Some node ∷ nodes) h = below_live n i nodes h

live_is_below : (n i : ℕ) (nodes : List (Option Node)) → passes_at is_live i nodes ≡ true → (node_at nodes i).parent ≡ Some n
    → passes_at (is_below n) i (map position_of nodes) ≡ true
live_is_below n i [] h e = no h
live_is_below n zero (None ∷ nodes) h e = no h
live_is_below n zero (Some node ∷ nodes) h e = ap (λ (o : Option ℕ). is_below n (position_by o)) e ∙ same n
  where
    same : (m : ℕ) → nat_eq m m ≡ true
    same m = grind (arith, nat_tests)
live_is_below n (suc i) (None ∷ nodes) h e = live_is_below n i nodes h e
live_is_below n (suc i) (Some node ∷ nodes) h e = live_is_below n i nodes h e

-- the frame's children are the machine's
pub children_are : (p : Program) (m : Machine) → IsProgram p → ((n : ℕ) → m.live n ≡ passes_at is_live n p.nodes)
    → ((n : ℕ) → m.parent n ≡ get_or (frame_of p).parents n 0) → (n : ℕ) → Lives p n → AreChildren m n (children_in (frame_of p) n)
children_are p m i live parent n l = λ c. (to c, from c)
  where
    all : children_in (frame_of p) n ≡ places (is_below n) 0 (map position_of p.nodes)
    all = let step : 0 + n ≡ n = omega arith in
        children_at (map position_of p.nodes) 0 n (map position_of p.nodes) (omega (arith, length-map p.nodes position_of, passes-within is_live n p.nodes l))
        ∙ ap (children_of (map position_of p.nodes)) step

    to : (c : ℕ) → IsChild m n c → Contains (children_in (frame_of p) n) c
    to c child =
        let lives : Lives p c = sym (live c) ∙ child.live in
        let h = live_below p i c lives child.lower in
        let same : h.0 ≡ n = sym h.1.1 ∙ sym (parent_at p.nodes c lives) ∙ sym (parent c) ∙ child.parent in
        let e : (node_at p.nodes c).parent ≡ Some n = h.1.0.parent ∙ ap (λ (k : ℕ). Some k) same in
        subst (λ (xs : List ℕ). Contains xs c) (sym all) (placed (is_below n) c 0 c (map position_of p.nodes) (omega arith) (live_is_below n c p.nodes lives e))

    above : (c stage : ℕ) (parent : Option ℕ) → HasParent p c stage parent → parent ≡ Some n → 0 < c
    above c stage None h e = absurd (cc)
    above c stage (Some q) h e = omega (arith, h.smaller)

    child_by : (c : ℕ) → Lives p c → (node_at p.nodes c).parent ≡ Some n → IsChild m n c
    child_by c lives e = record {
      live = live c ∙ lives;
      lower = above c (node_at p.nodes c).stage (node_at p.nodes c).parent (i.nodes c lives).parent e;
      parent = parent c ∙ parent_at p.nodes c lives ∙ ap or_root e;
    }

    from : (c : ℕ) → Contains (children_in (frame_of p) n) c → IsChild m n c
    from c h =
        let r = places_pass (is_below n) 0 c (map position_of p.nodes) (subst (λ (xs : List ℕ). Contains xs c) all h) in
        let q = below_live n r.0 p.nodes r.1.1 in
        let same : r.0 ≡ c = omega (arith, r.1.0) in
        subst (IsChild m n) same (child_by r.0 q.0 q.1)

-- ---- the machine before any event
abbrev pub first_machine : Program → State → Machine
first_machine p s = record {
  live = λ n. passes_at is_live n p.nodes;
  parent = slice_index s.frame.parents;
  run = 1;
  commits = 0;
  last = λ n. unsolved;
  number = pool_number s;
  flight = λ w. None;
  waits = λ n. false;
}

pub first_tabled : (p : Program) (s : State) → IsProgram p → s.frame ≡ frame_of p → HasPools (length s.frame.parents) s.banks → IsUnused s
    → IsTabledBy p s (first_machine p s)
first_tabled p s i f pools unused = record {
  valid = valid_start s.frame.parents (first_machine p s) rising start rooted;
  fits = unused (first_machine p s) start;
  idle = λ w. refl;
  machine = record { live = λ n. refl; parent = refl; number = λ n. refl };
  pools = pools;
  unused = λ e. unused;
}
  where
    at : (n : ℕ) → get_or s.frame.parents n 0 ≡ get_or (map parent_of p.nodes) n 0
    at n = ap (λ (x : Frame). get_or x.parents n 0) f

    long : length s.frame.parents ≡ length p.nodes
    long = ap (λ (x : Frame). length x.parents) f ∙ length-map p.nodes parent_of

    rising : IsRising s.frame.parents
    rising n low less = omega (arith, at n, rising_at p i n low (passes_at is_live n p.nodes) refl)

    start : IsStart s.frame.parents (first_machine p s)
    start = record {
      parent = refl;
      places = λ n l. omega (arith, long, passes-within is_live n p.nodes l);
      root = root_lives p i;
      run = refl;
      commits = refl;
      last = λ n. refl;
      flight = λ w. refl;
      waits = λ n. refl;
    }

    rooted : (n : ℕ) → 0 < n → IsLive (first_machine p s) n → IsLive (first_machine p s) ((first_machine p s).parent n)
    rooted n low l =
        let h = live_below p i n l low in
        let e : h.0 ≡ get_or s.frame.parents n 0 = sym h.1.1 ∙ sym (parent_at p.nodes n l) ∙ sym (at n) in
        subst (λ (k : ℕ). passes_at is_live k p.nodes ≡ true) e h.1.0.live

unused_tabled : (p : Program) (s : State) → IsProgram p → s.frame ≡ frame_of p → HasPools (length s.frame.parents) s.banks → IsUnused s → IsTabled p s
unused_tabled p s i f pools unused = (first_machine p s, first_tabled p s i f pools unused)

-- the table of one worker, and empty pools
pub started : (p : Program) (s : State) (frame : Frame) (parents : List ℕ) (nodes : ℕ) (table : Option Table) → IsProgram p → s.frame ≡ frame → frame ≡ frame_of p
    → parents ≡ frame.parents → table ≡ Some s.table → IfSome table (λ t. (m : Machine) → IsStart parents m → Fits t m)
    → s.banks ≡ empty_banks nodes → nodes ≡ min (length frame.parents) (2 ^ 32 - 1) → IsTabled p s
started p s frame parents nodes table i f is ps t fits b n = unused_tabled p s i (f ∙ is) pools unused
  where
    same : s.frame.parents ≡ parents
    same = ap (λ (x : Frame). x.parents) f ∙ sym ps

    long : length s.frame.parents ≡ nodes
    long =
        let e : length s.frame.parents ≡ length frame.parents = ap (λ (x : Frame). length x.parents) f in
        let g : length frame.parents ≡ length p.nodes = ap (λ (x : Frame). length x.parents) is ∙ length-map p.nodes parent_of in
        omega (arith, e, g, n, i.small.nodes)

    pools : HasPools (length s.frame.parents) s.banks
    pools = record {
      plain = omega (arith, long, ap (λ (x : Banks). length x.plain) b, empty_length 0 nodes);
      cone = omega (arith, long, ap (λ (x : Banks). length x.cone) b, empty_length 0 nodes);
    }

    unused : IsUnused s
    unused m start =
        let all = subst (λ (x : Option Table). IfSome x (λ t. (m : Machine) → IsStart parents m → Fits t m)) t fits in
        all m (subst (λ (x : List ℕ). IsStart x m) same start)

-- ---- behind an edit
-- a table that was made of the parents
pub unused_by : (frame : Frame) (parents : List ℕ) (table : Option Table) (made : Table) → parents ≡ frame.parents → table ≡ Some made
    → IfSome table (λ t. (m : Machine) → IsStart parents m → Fits t m) → (m : Machine) → IsStart frame.parents m → Fits made m
unused_by frame parents table made ps e fits m start =
    let all = subst (λ (x : Option Table). IfSome x (λ t. (m : Machine) → IsStart parents m → Fits t m)) e fits in
    all m (subst (λ (x : List ℕ). IsStart x m) (sym ps) start)

none_made : (table : Option Table) (A : Type 0) → (IsSome table ↔ A) → table ≡ None → A → ⊥
none_made None A h e a = let no : false ≡ true = h.1 a in absurd (cc)
none_made (Some t) A h e a = absurd (cc)

-- none is wanting
pub made_one : {B : Type 0} (table : Option Table) (parents parents' : List ℕ) → (IsSome table ↔ AreParents parents) → parents ≡ parents' → table ≡ None
    → AreParents parents' → B
made_one table parents parents' h e t a = absurd (none_made table (AreParents parents) h t (subst AreParents (sym e) a))

-- the frame is the program's
frame_behind : (p : Program) (old mid : State) (grown : Bool) → (grown ≡ false → frame_of p ≡ old.frame)
    → mid.frame ≡ pick grown (frame_of p) old.frame → mid.frame ≡ frame_of p
frame_behind p old mid true same f = f
frame_behind p old mid false same f = f ∙ sym (same refl)

pub parents_behind : (p : Program) (old mid : State) (grown : Bool) → IsProgram p → (grown ≡ false → frame_of p ≡ old.frame)
    → length p.nodes < nothing → mid.frame ≡ pick grown (frame_of p) old.frame → AreParents mid.frame.parents
parents_behind p old mid grown i same few f =
    subst (λ (x : Frame). AreParents x.parents) (sym (frame_behind p old mid grown same f)) (are_parents p i few)

pub edited_tabled : (p q : Program) (old mid new : State) (grown : Bool) (dues : List Due) → IsProgram p → IsTabled q old
    → (grown ≡ false → frame_of p ≡ old.frame) → length p.nodes < nothing → mid.frame ≡ pick grown (frame_of p) old.frame → mid.table ≡ old.table
    → mid.is_begun ≡ old.is_begun → new.frame ≡ mid.frame → new.banks ≡ edited_banks grown p.nodes dues old.banks
    → (AreParents mid.frame.parents → (mid.is_begun ≡ false → grown ≡ false → IsUnused mid) → IsUnused new) → IsTabled p new
edited_tabled p q old mid new grown dues i t same few f b z n banks unused =
    unused_tabled p new i (n ∙ mid_is) pools
    (unused (parents_behind p old mid grown i same few f) kept)
  where
    mid_is : mid.frame ≡ frame_of p
    mid_is = frame_behind p old mid grown same f

    pools : HasPools (length new.frame.parents) new.banks
    pools = subst (HasPools (length new.frame.parents)) (sym banks) (edited_pools grown p.nodes dues old.banks (length new.frame.parents)
        (λ e. subst (λ (x : Frame). HasPools (length x.parents) old.banks) (sym (n ∙ mid_is ∙ same e)) t.1.pools)
        (λ e. ap (λ (x : Frame). length x.parents) (n ∙ mid_is) ∙ length-map p.nodes parent_of))

    kept : mid.is_begun ≡ false → grown ≡ false → IsUnused mid
    kept y e =
        subst (λ (x : Frame). (m : Machine) → IsStart x.parents m → Fits mid.table m) (sym (mid_is ∙ same e))
        (subst (λ (x : Table). (m : Machine) → IsStart old.frame.parents m → Fits x m) (sym b) (t.1.unused (sym z ∙ y)))

-- what holds under two premises where a call gives Ok
pub each_ok : {X E : Type 0} (r : Result X E) (A B C : Type 0) → (A → B → OnOk r C) → OnOk r (B → A → C)
each_ok (Ok x) A B C h = λ b a. h a b
each_ok (Err e) A B C h = tt
