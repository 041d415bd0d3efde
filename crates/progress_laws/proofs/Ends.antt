-- The ends behind a policy and behind a root value.
use Rattle.std.proofs.Common.{◌≡◌, Option, Some, None, IfSome, refl, sym}
use Rattle.std.specs.declared.cmp.Ordering.{Ordering}
use Rattle.std.specs.declared.cmp.Ordering.TheVariants.{Less, Equal, Greater}
use Rattle.std.specs.Ordering.{is_lt, MatchOrdering}
use Rattle.rationals.specs.Rational.{◌≤ℚ◌, ◌<ℚ◌, lt_le_ℚ, le_refl_ℚ, le_of_same_ℚ}
use Rattle.rationals.specs.Order.{compare}
use Rattle.rationals.proofs.OrderMeaning.{compare_means}
use Rattle.rationals.specs.Choices.{pick}
use Rattle.found_ends.specs.declared.ends.Priced.{Priced}
use Rattle.found_ends.specs.declared.ends.Bounded.{Bounded}
use Rattle.found_ends.specs.Ends.{cheaper, greater_end}

-- the cheaper of two policies costs at most what the second does
pub cheaper_most : (best : Option Priced) (found : Priced) → (u : Priced) × ((cheaper best found ≡ Some u) × (u.cost ≤ℚ found.cost))
cheaper_most None found = (found, (refl, le_refl_ℚ found.cost))
cheaper_most (Some best) found = go (compare found.cost best.cost) (compare_means found.cost best.cost)
  where
    go : (o : Ordering) → MatchOrdering o (found.cost <ℚ best.cost) (found.cost ≡ best.cost) (best.cost <ℚ found.cost)
        → (u : Priced) × ((pick (is_lt o) (Some found) (Some best) ≡ Some u) × (u.cost ≤ℚ found.cost))
    go Less h = (found, (refl, le_refl_ℚ found.cost))
    go Equal h = (best, (refl, le_of_same_ℚ (sym h)))
    go Greater h = (best, (refl, lt_le_ℚ h))

-- and is one of the two
pub cheaper_holds : (P : Priced → Type 0) (best : Option Priced) (found : Priced) → IfSome best P → P found → IfSome (cheaper best found) P
cheaper_holds P None found b f = f
cheaper_holds P (Some best) found b f = go (compare found.cost best.cost)
  where
    go : (o : Ordering) → IfSome (pick (is_lt o) (Some found) (Some best)) P
    go Less = f
    go Equal = b
    go Greater = b

-- the greater of two lower ends is at least the second
pub greater_most : (best : Option Bounded) (found : Bounded) → (l : Bounded) × ((greater_end best found ≡ Some l) × (found.value ≤ℚ l.value))
greater_most None found = (found, (refl, le_refl_ℚ found.value))
greater_most (Some best) found = go (compare best.value found.value) (compare_means best.value found.value)
  where
    go : (o : Ordering) → MatchOrdering o (best.value <ℚ found.value) (best.value ≡ found.value) (found.value <ℚ best.value)
        → (l : Bounded) × ((pick (is_lt o) (Some found) (Some best) ≡ Some l) × (found.value ≤ℚ l.value))
    go Less h = (found, (refl, le_refl_ℚ found.value))
    go Equal h = (best, (refl, le_of_same_ℚ (sym h)))
    go Greater h = (best, (refl, lt_le_ℚ h))

-- and is one of the two
pub greater_holds : (P : Bounded → Type 0) (best : Option Bounded) (found : Bounded) → IfSome best P → P found → IfSome (greater_end best found) P
greater_holds P None found b f = f
greater_holds P (Some best) found b f = go (compare best.value found.value)
  where
    go : (o : Ordering) → IfSome (pick (is_lt o) (Some found) (Some best)) P
    go Less = f
    go Equal = b
    go Greater = b
