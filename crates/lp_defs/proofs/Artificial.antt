-- Artificial columns with a right side above 0, and pivots where none has one.
use Rattle.std.proofs.Common.{◌≡◌, ℕ, ◌<◌, ◌≤◌, ◌&&◌, ◌||◌, not, Bool, true, false, ltb, List, [], ◌∷◌, refl, arith}
use Rattle.std.proofs.lemmas.Bool.{ltb-true, ltb-false}
use Rattle.rationals.specs.Rational.{ℚ, zero_ℚ, neg_ℚ, one_ℚ, ◌≤ℚ◌, ◌<ℚ◌, le_antisym_ℚ, by_eqs, terms}
use Rattle.rationals.specs.Ring.Eqs.{done, by_eq}
use Rattle.lp_defs.specs.Tests.{is_above_zero, is_above_zero_true, is_above_zero_false}
use Rattle.lp_defs.specs.Lines.{Line, value_at}
use Rattle.lp_defs.specs.Path.{Row}
use Rattle.lp_defs.specs.Linear.{AllLines, AllRows}
use Rattle.lp_defs.specs.Phases.{has_artificial_above}
use Rattle.lp_defs.proofs.Rows.{Each}

-- each artificial column that is basic is 0
abbrev pub IsNone : ℕ → Row → Type 0
IsNone n r = (r.basic < n → ⊥) → r.line.right ≡ zero_ℚ

pub none_above : (n : ℕ) (rows : List Row) → AllLines (λ line. zero_ℚ ≤ℚ line.right) rows → has_artificial_above n rows ≡ false → AllRows (IsNone n) rows
none_above n [] h e = tt
none_above n (r ∷ rows) h e = go (ltb r.basic n) refl (is_above_zero r.line.right) refl e (none_above n rows h.1)
  where
    go : (b : Bool) → ltb r.basic n ≡ b → (c : Bool) → is_above_zero r.line.right ≡ c → (not b && c) || has_artificial_above n rows ≡ false
        → (has_artificial_above n rows ≡ false → AllRows (IsNone n) rows) → AllRows (IsNone n) (r ∷ rows)
    go true p c q e ih = ((λ k. absurd (k (ltb-true r.basic n p))), ih e)
    go false p true q e ih = absurd (cc)
    go false p false q e ih = ((λ k. le_antisym_ℚ (is_above_zero_false r.line.right q) h.0), ih e)

-- a column from n on that is above 0 at x
pub record Above (n all : ℕ) (x : ℕ → ℚ) : Type 0 where
  pub column : ℕ
  pub artificial : n ≤ column
  pub within : column < all
  pub above : zero_ℚ <ℚ x column

pub some_above : (n all : ℕ) (x : ℕ → ℚ) (rows : List Row) → AllRows (λ r. x r.basic ≡ r.line.right) rows → AllRows (λ r. r.basic < all) rows → has_artificial_above n rows ≡ true → Above n all x
some_above n all x [] h b e = absurd (cc)
some_above n all x (r ∷ rows) h b e = go (ltb r.basic n) refl (is_above_zero r.line.right) refl e (some_above n all x rows h.1 b.1)
  where
    go : (d : Bool) → ltb r.basic n ≡ d → (c : Bool) → is_above_zero r.line.right ≡ c → (not d && c) || has_artificial_above n rows ≡ true
        → (has_artificial_above n rows ≡ true → Above n all x) → Above n all x
    go true p c q e ih = ih e
    go false p true q e ih = record { column = r.basic; artificial = ltb-false r.basic n p; within = b.0; above = rw h.0 (is_above_zero_true r.line.right q) }
    go false p false q e ih = ih e

-- a pivot on a row with right side 0 leaves the right sides as they are
pub each_none : (n j : ℕ) (pivot : Line) (rows new : List Row) → Each j pivot rows new → pivot.right ≡ zero_ℚ → AllRows (IsNone n) rows → AllRows (IsNone n) new
each_none n j pivot [] [] e z h = tt
each_none n j pivot [] (s ∷ ns) e z h = absurd e
each_none n j pivot (r ∷ rs) [] e z h = absurd e
each_none n j pivot (r ∷ rs) (s ∷ ns) e z h = (
  (λ k. by_eqs (s.line.right ∷ r.line.right ∷ value_at r.line.entries j ∷ pivot.right ∷ [])
      (by_eq one_ℚ e.1.right (by_eq (neg_ℚ (value_at r.line.entries j)) z (by_eq one_ℚ (h.0 (λ l. k (let m : s.basic ≡ r.basic = e.0 in omega arith))) done))) (search terms depth 40) tt),
  each_none n j pivot rs ns e.2 z h.1,
)
