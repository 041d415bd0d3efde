-- The ends of a row's interval.
use Rattle.std.proofs.Common.{◌≡◌, Bool, true, false, [], ◌∷◌, is_some, Option, Some, None, Result, Ok, Err, refl, sym, subst}
use Rattle.rationals.specs.declared.Op.TheVariants.{Add, Sub}
use Rattle.rationals.specs.Rational.{ℚ, zero_ℚ, neg_ℚ, ◌+ℚ◌, ◌-ℚ◌, ◌≤ℚ◌, at_most, at_most_true, at_most_false, lt_le_ℚ, le_refl_ℚ, by_linear, terms}
use Rattle.rationals.specs.Ring.Given.{nothing, fact, equal}
use Rattle.rationals.specs.Passes.{Operation, add_walk, sub_walk, then_walk}
use Rattle.rationals.specs.Intervals.{InOrder}
use Rattle.rationals.specs.Choices.{pick}
use Rattle.rationals.proofs.WalkLaws.{walk_value}
use Rattle.smps_words.specs.declared.row_kind.RowKind.{RowKind}
use Rattle.smps_words.specs.declared.row_kind.RowKind.TheVariants.{Less, Greater, Equal}
use Rattle.scen_defs.specs.Valid.{has_low, has_high}
use Rattle.smps_build.specs.Ends.{size, Interval, interval_walk}

size-nonneg : (r : ℚ) → zero_ℚ ≤ℚ size r
size-nonneg r = go (at_most zero_ℚ r) refl
  where
    go : (b : Bool) → at_most zero_ℚ r ≡ b → zero_ℚ ≤ℚ pick b r (neg_ℚ r)
    go true e = at_most_true zero_ℚ r e
    go false e = let h : r ≤ℚ zero_ℚ = lt_le_ℚ (at_most_false zero_ℚ r e) in by_linear (r ∷ []) (fact h nothing) (search terms depth 40) tt

-- its ends are in order, and those that the kind and the range give
pub record IsInterval (kind : RowKind) (range : Option ℚ) (ends : Interval) : Type 0 where
  pub in_order : InOrder ends.0 ends.1
  pub low : is_some ends.0 ≡ has_low kind range
  pub high : is_some ends.1 ≡ has_high kind range

two_ends : (kind : RowKind) (range : Option ℚ) (l h : ℚ) → l ≤ℚ h → has_low kind range ≡ true → has_high kind range ≡ true → IsInterval kind range (Some l, Some h)
two_ends kind range l h k a b = record { in_order = k; low = sym a; high = sym b }

abbrev given : Interval → Result Interval Operation
given ends = Ok ends

pub interval_is : (kind : RowKind) (b : ℚ) (range : Option ℚ) (ends : Interval) → interval_walk kind b range ≡ Ok ends → IsInterval kind range ends
interval_is Less b None ends e = let q : (None, Some b) ≡ ends = cc in subst (IsInterval Less None) q (record { in_order = tt; low = refl; high = refl })
interval_is Greater b None ends e = let q : (Some b, None) ≡ ends = cc in subst (IsInterval Greater None) q (record { in_order = tt; low = refl; high = refl })
interval_is Equal b None ends e = let q : (Some b, Some b) ≡ ends = cc in subst (IsInterval Equal None) q (two_ends Equal None b b (le_refl_ℚ b) refl refl)
interval_is Less b (Some r) ends e = go (sub_walk b (size r)) refl e
  where
    go : (w : Result ℚ Operation) → sub_walk b (size r) ≡ w → then_walk w (λ low. Ok (Some low, Some b)) ≡ Ok ends → IsInterval Less (Some r) ends
    go (Ok low) d k =
        let v : low ≡ b -ℚ size r = walk_value Sub b (size r) low d in
        let s : zero_ℚ ≤ℚ size r = size-nonneg r in
        let q : (Some low, Some b) ≡ ends = cc in
        subst (IsInterval Less (Some r)) q (two_ends Less (Some r) low b (by_linear (low ∷ b ∷ size r ∷ []) (equal v (fact s nothing)) (search terms depth 40) tt) refl refl)
    go (Err p) d k = absurd (cc)
interval_is Greater b (Some r) ends e = go (add_walk b (size r)) refl e
  where
    go : (w : Result ℚ Operation) → add_walk b (size r) ≡ w → then_walk w (λ high. Ok (Some b, Some high)) ≡ Ok ends → IsInterval Greater (Some r) ends
    go (Ok high) d k =
        let v : high ≡ b +ℚ size r = walk_value Add b (size r) high d in
        let s : zero_ℚ ≤ℚ size r = size-nonneg r in
        let q : (Some b, Some high) ≡ ends = cc in
        subst (IsInterval Greater (Some r)) q (two_ends Greater (Some r) b high (by_linear (high ∷ b ∷ size r ∷ []) (equal v (fact s nothing)) (search terms depth 40) tt) refl refl)
    go (Err p) d k = absurd (cc)
interval_is Equal b (Some r) ends e = go (add_walk b r) refl e
  where
    ordered : (other : ℚ) → other ≡ b +ℚ r → (t : Bool) → at_most zero_ℚ r ≡ t → pick t (given (Some b, Some other)) (given (Some other, Some b)) ≡ given ends → IsInterval Equal (Some r) ends
    ordered other v true t k =
        let h : zero_ℚ ≤ℚ r = at_most_true zero_ℚ r t in
        let q : (Some b, Some other) ≡ ends = cc in
        subst (IsInterval Equal (Some r)) q (two_ends Equal (Some r) b other (by_linear (other ∷ b ∷ r ∷ []) (equal v (fact h nothing)) (search terms depth 40) tt) refl refl)
    ordered other v false t k =
        let h : r ≤ℚ zero_ℚ = lt_le_ℚ (at_most_false zero_ℚ r t) in
        let q : (Some other, Some b) ≡ ends = cc in
        subst (IsInterval Equal (Some r)) q (two_ends Equal (Some r) other b (by_linear (other ∷ b ∷ r ∷ []) (equal v (fact h nothing)) (search terms depth 40) tt) refl refl)

    go : (w : Result ℚ Operation) → add_walk b r ≡ w → then_walk w (λ other. pick (at_most zero_ℚ r) (Ok (Some b, Some other)) (Ok (Some other, Some b))) ≡ Ok ends → IsInterval Equal (Some r) ends
    go (Ok other) d k = ordered other (walk_value Add b r other d) (at_most zero_ℚ r) refl k
    go (Err p) d k = absurd (cc)
