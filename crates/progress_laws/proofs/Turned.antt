-- The machine behind a turn that leaves a last solve.
use Rattle.std.proofs.Common.{◌≡◌, ℕ, ◌+◌, ◌<◌, Bool, true, false, List, refl, sym, ap, subst, ◌∙◌, arith}
use Rattle.pass_table.specs.Machine.{IsAbove, Last, Flight, Machine, IsMade, MayBegin, IsValid, begun}
use Rattle.pass_table.proofs.Stale.{same_at, other_at}
use Rattle.crew_turns.specs.Turn.{IsIdle, first_flight, read_by_each, read_each, EndsTurn, drops, commits, adds, TakesTurn}
use Rattle.crew_turns.proofs.Turning.{node_read, turn_reads}
use Rattle.pass_core.specs.Tabled.{committed_by}

-- node n has another last solve, of the commit that comes next, and no other node has
pub record IsTurned (m k : Machine) (n : ℕ) (point : Bool) : Type 0 where
  pub live : k.live ≡ m.live
  pub parent : k.parent ≡ m.parent
  pub commits : k.commits ≡ m.commits + 1
  pub commit : (k.last n).commit ≡ m.commits + 1
  pub has_point : (k.last n).point ≡ point
  pub others : (j : ℕ) → (j ≡ n → ⊥) → k.last j ≡ m.last j

-- a commit, with the rise of a pool's number or without it
committed_turns : (m : Machine) (f : Flight) (point added : Bool) (n : ℕ) → f.node ≡ n → IsTurned m (committed_by 0 m f point added) n point
committed_turns m f point true n e = record {
  live = refl;
  parent = refl;
  commits = refl;
  commit = ap (λ (l : Last). l.commit) (same_at m.last f.node _ n (sym e));
  has_point = ap (λ (l : Last). l.point) (same_at m.last f.node _ n (sym e));
  others = λ j ne. other_at m.last f.node _ j (λ q. ne (q ∙ e));
}
committed_turns m f point false n e = record {
  live = refl;
  parent = refl;
  commits = refl;
  commit = ap (λ (l : Last). l.commit) (same_at m.last f.node _ n (sym e));
  has_point = ap (λ (l : Last). l.point) (same_at m.last f.node _ n (sym e));
  others = λ j ne. other_at m.last f.node _ j (λ q. ne (q ∙ e));
}

-- behind the Reads of a turn
pub turned : (m k : Machine) (n : ℕ) (cs : List ℕ) (point added : Bool) → IsValid m → IsIdle m → MayBegin m n
    → k ≡ committed_by 0 (read_each (begun m 0 n) (first_flight m n) cs) (read_by_each m.number (first_flight m n) cs) point added
    → IsTurned m k n point
turned m k n cs point added valid idle may e =
    let reads = turn_reads m n cs valid idle may in
    let c = committed_turns (read_each (begun m 0 n) (first_flight m n) cs) (read_by_each m.number (first_flight m n) cs) point added n
    (node_read m.number (first_flight m n) cs) in
    subst (λ (k : Machine). IsTurned m k n point) (sym e) (record {
      live = c.live ∙ reads.live;
      parent = c.parent ∙ reads.parent;
      commits = c.commits ∙ ap (λ (x : ℕ). x + 1) reads.commits;
      commit = c.commit ∙ ap (λ (x : ℕ). x + 1) reads.commits;
      has_point = c.has_point;
      others = λ j ne. c.others j ne ∙ ap (λ (l : ℕ → Last). l j) reads.last;
    })

-- what is made behind the turn doesn't stand below the node, and was made before
pub made_before : (m k : Machine) (n j : ℕ) (point : Bool) → IsValid m → IsTurned m k n point → (j ≡ n → ⊥) → IsMade k j
    → IsMade m j × (IsAbove m.parent n j → ⊥)
made_before m k n j point valid turn ne made = (
  record {
    solved = subst (λ (l : Last). 0 < l.commit) (turn.others j ne) made.solved;
    above = λ a up. go a up;
  },
  below,
)
  where
    seen : (a : ℕ) → IsAbove m.parent a j → (k.last a).commit ≡ (m.last j).above a
    seen a up = made.above a (subst (λ (p : ℕ → ℕ). IsAbove p a j) (sym turn.parent) up) ∙ ap (λ (l : Last). l.above a) (turn.others j ne)

    below : IsAbove m.parent n j → ⊥
    below up = omega (arith, seen n up, turn.commit, valid.seen j n)

    go : (a : ℕ) → IsAbove m.parent a j → (m.last a).commit ≡ (m.last j).above a
    go a up = ap (λ (l : Last). l.commit) (sym (turn.others a (λ e. below (subst (λ (x : ℕ). IsAbove m.parent x j) e up)))) ∙ seen a up

-- a turn is one commit, however it ends
ends_commits : (m : Machine) (f : Flight) (added : Bool) (k : Machine) → EndsTurn 0 m f added k → k.commits ≡ m.commits + 1
ends_commits m f added k drops = refl
ends_commits m f added k (commits point) = refl
ends_commits m f added k (adds point low) = refl

pub turn_commits : (m k : Machine) → IsValid m → IsIdle m → TakesTurn m k → k.commits ≡ m.commits + 1
turn_commits m k valid idle turn =
    let reads = turn_reads m turn.node turn.children valid idle turn.may in
    ends_commits (read_each (begun m 0 turn.node) (first_flight m turn.node) turn.children)
    (read_by_each m.number (first_flight m turn.node) turn.children) turn.added k turn.ends ∙ ap (λ (x : ℕ). x + 1) reads.commits

-- in the same run
ends_run : (m : Machine) (f : Flight) (added : Bool) (k : Machine) → EndsTurn 0 m f added k → k.run ≡ m.run
ends_run m f added k drops = refl
ends_run m f added k (commits point) = refl
ends_run m f added k (adds point low) = refl

pub turn_run : (m k : Machine) → IsValid m → IsIdle m → TakesTurn m k → k.run ≡ m.run
turn_run m k valid idle turn =
    ends_run (read_each (begun m 0 turn.node) (first_flight m turn.node) turn.children)
    (read_by_each m.number (first_flight m turn.node) turn.children) turn.added k turn.ends
    ∙ (turn_reads m turn.node turn.children valid idle turn.may).run
