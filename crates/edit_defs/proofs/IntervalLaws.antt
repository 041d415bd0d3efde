-- The ends of a row by its kind, its right-hand side and its range.
use Rattle.std.proofs.Common.{◌≡◌, Bool, true, false, is_some, [], ◌∷◌, Option, Some, None, Result, Ok, IfOk, refl, sym, subst, ap, ◌∙◌}
use Rattle.rationals.specs.declared.Op.TheVariants.{Add, Sub}
use Rattle.rationals.specs.Passes.{Operation, answer, passes, then_walk}
use Rattle.scen_defs.specs.declared.program.Row.{Row}
use Rattle.rationals.specs.Rational.{ℚ, zero_ℚ, neg_ℚ, ◌+ℚ◌, ◌≤ℚ◌, by_ring, by_linear, terms, at_most, at_most_true, at_most_false, lt_le_ℚ, le_refl_ℚ, add_zero_ℚ}
use Rattle.rationals.specs.Ring.Given.{nothing, fact}
use Rattle.smps_words.specs.declared.row_kind.RowKind.{RowKind}
use Rattle.smps_words.specs.declared.row_kind.RowKind.TheVariants.{Less, Greater, Equal}
use Rattle.rationals.specs.Intervals.{InOrder}
use Rattle.rationals.specs.Choices.{pick}
use Rattle.scen_defs.specs.Valid.{has_low, has_high}
use Rattle.smps_build.specs.Ends.{size, Interval, interval_walk}
use Rattle.edit_defs.specs.Intervals.{interval, right_side, right_walk, width, Apart}

size-nonneg : (r : ℚ) → zero_ℚ ≤ℚ size r
size-nonneg r = go (at_most zero_ℚ r) refl
  where
    go : (b : Bool) → at_most zero_ℚ r ≡ b → zero_ℚ ≤ℚ pick b r (neg_ℚ r)
    go true e = at_most_true zero_ℚ r e
    go false e = let h : r ≤ℚ zero_ℚ = lt_le_ℚ (at_most_false zero_ℚ r e) in by_linear (r ∷ []) (fact h nothing) (search terms depth 40) tt

-- in order, there where the kind and the range have them, and the width apart
pub record IsInterval (kind : RowKind) (range : Option ℚ) (ends : Interval) : Type 0 where
  pub in_order : InOrder ends.0 ends.1
  pub low : is_some ends.0 ≡ has_low kind range
  pub high : is_some ends.1 ≡ has_high kind range
  pub apart : Apart ends.0 ends.1 (width range)

pub interval-is : (kind : RowKind) (b : ℚ) (range : Option ℚ) → IsInterval kind range (interval kind b range)
interval-is Less b None = record { in_order = tt; low = refl; high = refl; apart = tt }
interval-is Less b (Some r) = record {
  in_order = (let s : zero_ℚ ≤ℚ size r = size-nonneg r in by_linear (b ∷ size r ∷ []) (fact s nothing) (search terms depth 40) tt);
  low = refl;
  high = refl;
  apart = by_ring (b ∷ size r ∷ []) (search terms depth 40) tt;
}
interval-is Greater b None = record { in_order = tt; low = refl; high = refl; apart = tt }
interval-is Greater b (Some r) = record {
  in_order = (let s : zero_ℚ ≤ℚ size r = size-nonneg r in by_linear (b ∷ size r ∷ []) (fact s nothing) (search terms depth 40) tt);
  low = refl;
  high = refl;
  apart = refl;
}
interval-is Equal b None = record { in_order = le_refl_ℚ b; low = refl; high = refl; apart = sym (add_zero_ℚ b) }
interval-is Equal b (Some r) = go (at_most zero_ℚ r) refl
  where
    go : (t : Bool) → at_most zero_ℚ r ≡ t → IsInterval Equal (Some r) (pick t (Some b, Some (b +ℚ r)) (Some (b +ℚ r), Some b))
    go true e = let h : zero_ℚ ≤ℚ r = at_most_true zero_ℚ r e in record {
      in_order = by_linear (b ∷ r ∷ []) (fact h nothing) (search terms depth 40) tt;
      low = refl;
      high = refl;
      apart = ap (λ t. b +ℚ pick t r (neg_ℚ r)) (sym e);
    }
    go false e = let h : r ≤ℚ zero_ℚ = lt_le_ℚ (at_most_false zero_ℚ r e) in record {
      in_order = by_linear (b ∷ r ∷ []) (fact h nothing) (search terms depth 40) tt;
      low = refl;
      high = refl;
      apart = by_ring (b ∷ r ∷ []) (search terms depth 40) tt ∙ ap (λ t. b +ℚ r +ℚ pick t r (neg_ℚ r)) (sym e);
    }

-- ---- the walk to an interval
walked : {Y : Type 0} (t : Bool) (o : Operation) (x : ℚ) (f : ℚ → Result Y Operation) → (P : Y → Type 0) → IfOk (f x) P → IfOk (then_walk (answer t o x) f) P
walked true o x f P h = tt
walked false o x f P h = h

abbrev reached : Interval → Result Interval Operation
reached ends = Ok ends

walk-is : (kind : RowKind) (b : ℚ) (range : Option ℚ) → IfOk (interval_walk kind b range) (λ ends. ends ≡ interval kind b range)
walk-is Less b None = refl
walk-is Less b (Some r) = walked (passes Sub b (size r)) _ _ (λ low. Ok (Some low, Some b)) _ refl
walk-is Greater b None = refl
walk-is Greater b (Some r) = walked (passes Add b (size r)) _ _ (λ high. Ok (Some b, Some high)) _ refl
walk-is Equal b None = refl
walk-is Equal b (Some r) = walked (passes Add b r) _ _ (λ other. pick (at_most zero_ℚ r) (Ok (Some b, Some other)) (Ok (Some other, Some b))) _ (go (at_most zero_ℚ r) _ _)
  where
    go : (t : Bool) (x y : Interval) → IfOk (pick t (reached x) (reached y)) (λ ends. ends ≡ pick t x y)
    go true x y = refl
    go false x y = refl

pub right-is : (row : Row) (b : ℚ) (result : Result Interval Operation) → result ≡ right_walk row b → IfOk result (λ ends. ends ≡ right_side row b)
right-is row b result e = subst (λ r. IfOk r (λ ends. ends ≡ right_side row b)) (sym e) (walk-is row.kind b row.range)
