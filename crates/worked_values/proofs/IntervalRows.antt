-- The rows of IntervalValues, computed; those with any range go by its sign.
use Rattle.std.proofs.Common.{◌≡◌, ◌∙◌, Bool, true, false, Some, Result, Ok, refl, sym, [], ◌∷◌, ap, subst}
use Rattle.rationals.specs.declared.Op.TheVariants.{Add, Sub}
use Rattle.rationals.specs.Rational.{ℚ, ◌÷◌, ◌+ℚ◌, ◌-ℚ◌, ◌≤ℚ◌, ◌<ℚ◌, neg_ℚ, zero_ℚ, reduce, smaller, divides, nat_divides, at_most, at_most_true, at_most_false, not_le_of_lt_ℚ, by_ring, terms}
use Rattle.rationals.specs.Passes.{Operation, too_wide, answer, then_walk}
use Rattle.rationals.specs.Choices.{pick}
use Rattle.smps_words.specs.declared.row_kind.RowKind.TheVariants.{Less, Greater, Equal}
use Rattle.smps_build.specs.Ends.{Interval, size, interval_walk}
use Rattle.worked_values.specs.IntervalValues.{IntervalsAreAsDocumented}

is_upward : (r : ℚ) → zero_ℚ ≤ℚ r → at_most zero_ℚ r ≡ true
is_upward r h = go (at_most zero_ℚ r) refl
  where
    go : (up : Bool) → at_most zero_ℚ r ≡ up → up ≡ true
    go true e = refl
    go false e = absurd (not_le_of_lt_ℚ (at_most_false zero_ℚ r e) h)

is_downward : (r : ℚ) → r <ℚ zero_ℚ → at_most zero_ℚ r ≡ false
is_downward r h = go (at_most zero_ℚ r) refl
  where
    go : (up : Bool) → at_most zero_ℚ r ≡ up → up ≡ false
    go true e = absurd (not_le_of_lt_ℚ h (at_most_true zero_ℚ r e))
    go false e = refl

less_neg : (b r : ℚ) → b -ℚ neg_ℚ r ≡ b +ℚ r
less_neg b r = by_ring (b ∷ r ∷ []) (search terms depth 40) tt

add_neg : (b r : ℚ) → b +ℚ neg_ℚ r ≡ b -ℚ r
add_neg b r = by_ring (b ∷ r ∷ []) (search terms depth 40) tt

-- the end that fits
fits : (p : Operation) (v u : ℚ) (go : ℚ → Result Interval Operation) → v ≡ u → too_wide u ≡ false → then_walk (answer (too_wide v) p v) go ≡ go u
fits p v u go same fine = subst (λ (x : ℚ). then_walk (answer (too_wide x) p x) go ≡ go u) (sym same) (ap (λ (wide : Bool). then_walk (answer wide p u) go) fine)

less_from : (b r : ℚ) → zero_ℚ ≤ℚ r → too_wide (b -ℚ r) ≡ false → interval_walk Less b (Some r) ≡ Ok (Some (b -ℚ r), Some b)
less_from b r up fine =
    let same : size r ≡ r = ap (λ (t : Bool). pick t r (neg_ℚ r)) (is_upward r up) in
    fits (record { op = Sub; a = b; b = size r }) (b -ℚ size r) (b -ℚ r) (λ low. Ok (Some low, Some b)) (ap (λ (x : ℚ). b -ℚ x) same) fine

less_from_size : (b r : ℚ) → r <ℚ zero_ℚ → too_wide (b +ℚ r) ≡ false → interval_walk Less b (Some r) ≡ Ok (Some (b +ℚ r), Some b)
less_from_size b r down fine =
    let same : size r ≡ neg_ℚ r = ap (λ (t : Bool). pick t r (neg_ℚ r)) (is_downward r down) in
    fits (record { op = Sub; a = b; b = size r }) (b -ℚ size r) (b +ℚ r) (λ low. Ok (Some low, Some b)) (ap (λ (x : ℚ). b -ℚ x) same ∙ less_neg b r) fine

greater_to : (b r : ℚ) → zero_ℚ ≤ℚ r → too_wide (b +ℚ r) ≡ false → interval_walk Greater b (Some r) ≡ Ok (Some b, Some (b +ℚ r))
greater_to b r up fine =
    let same : size r ≡ r = ap (λ (t : Bool). pick t r (neg_ℚ r)) (is_upward r up) in
    fits (record { op = Add; a = b; b = size r }) (b +ℚ size r) (b +ℚ r) (λ high. Ok (Some b, Some high)) (ap (λ (x : ℚ). b +ℚ x) same) fine

greater_to_size : (b r : ℚ) → r <ℚ zero_ℚ → too_wide (b -ℚ r) ≡ false → interval_walk Greater b (Some r) ≡ Ok (Some b, Some (b -ℚ r))
greater_to_size b r down fine =
    let same : size r ≡ neg_ℚ r = ap (λ (t : Bool). pick t r (neg_ℚ r)) (is_downward r down) in
    fits (record { op = Add; a = b; b = size r }) (b +ℚ size r) (b -ℚ r) (λ high. Ok (Some b, Some high)) (ap (λ (x : ℚ). b +ℚ x) same ∙ add_neg b r) fine

equal_ends : (b r : ℚ) (up : Bool) → at_most zero_ℚ r ≡ up → too_wide (b +ℚ r) ≡ false → interval_walk Equal b (Some r) ≡ pick up (Ok (Some b, Some (b +ℚ r))) (Ok (Some (b +ℚ r), Some b))
equal_ends b r up is fine =
    fits (record { op = Add; a = b; b = r }) (b +ℚ r) (b +ℚ r) (λ other. pick (at_most zero_ℚ r) (Ok (Some b, Some other)) (Ok (Some other, Some b))) refl fine
    ∙ ap (λ (t : Bool). pick {X = Result Interval Operation} t (Ok (Some b, Some (b +ℚ r))) (Ok (Some (b +ℚ r), Some b))) is

pub intervals : IntervalsAreAsDocumented
unfolding ◌÷◌ ◌+ℚ◌ neg_ℚ zero_ℚ reduce smaller divides nat_divides
intervals = record {
  less = λ b. refl;
  greater = λ b. refl;
  equal = λ b. refl;
  less_from = less_from;
  greater_to = greater_to;
  equal_to = λ b r up. equal_ends b r true (is_upward r up);
  less_from_size = less_from_size;
  greater_to_size = greater_to_size;
  equal_from = λ b r down. equal_ends b r false (is_downward r down);
  less_above = refl;
  less_below = refl;
  less_zero = refl;
  greater_above = refl;
  greater_below = refl;
  greater_zero = refl;
  equal_above = refl;
  equal_below = refl;
  equal_zero = refl;
  passing = refl;
}
