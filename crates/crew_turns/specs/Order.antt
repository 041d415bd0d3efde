-- The order in which the one worker takes nodes: by rising numbers from the one on behind the node that was begun last, and then again from
-- the root on.
use Rattle.std.specs.Prelude.{◌≡◌, ◌⊎◌, ◌↔◌, ℕ, ◌+◌, ◌<◌, ◌≤◌, true, false}
use Rattle.pass_table.specs.Machine.{Machine, MayBegin, IsNext, IsValid}
use Rattle.crew_turns.specs.Turn.{IsIdle, TakesTurn}

-- number k comes before number n in rounds that go on from this number: those from it on come first, and then those below it
abbrev pub ComesFrom : ℕ → ℕ → ℕ → Type 0
ComesFrom from k n = ((from ≤ k) × ((k < n) ⊎ (n < from))) ⊎ ((k < n) × (n < from))

-- no other node that may be begun comes before this one
pub record IsNextFrom (m : Machine) (from n : ℕ) : Type 0 where
  pub may : MayBegin m n
  pub first : (k : ℕ) → ComesFrom from k n → ¬ MayBegin m k

-- the nodes that wait for the next round are those below this number, as far as they may be begun
pub record GoesFrom (m : Machine) (from : ℕ) : Type 0 where
  pub low : (k : ℕ) → m.waits k ≡ true → k < from
  pub wait : (k : ℕ) → MayBegin m k → k < from → m.waits k ≡ true

-- rounds of one worker are those that go on from the number behind the node that was begun last
pub record TurnsGoRound : Type 0 where
  -- a run begins with the root
  pub start : (m : Machine) → ((n : ℕ) → m.waits n ≡ false) → GoesFrom m 0
  pub next : (m : Machine) (from n : ℕ) → IsIdle m → GoesFrom m from → IsNext m n ↔ IsNextFrom m from n
  pub turn : (m k : Machine) (from : ℕ) → IsValid m → IsIdle m → GoesFrom m from → (turn : TakesTurn m k) → IsNext m turn.node
      → GoesFrom k (turn.node + 1)
