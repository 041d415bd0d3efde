-- Walks: chains of operations that end at the first one that passes 128 bits.
use Rattle.std.specs.Prelude.{◌≡◌, Result, Ok, Err}
use Rattle.std.proofs.Common.{refl}
use Rattle.rationals.specs.declared.Op.TheVariants.{Sub, Div}
use Rattle.rationals.specs.Rational.{ℚ, ◌-ℚ◌, ◌/ℚ◌}
use Rattle.rationals.specs.Passes.{Operation, then_walk, sub_walk, div_walk}
use Rattle.rationals.proofs.WalkLaws.{walk_value}

abbrev pub Walk : Type 0 → Type 0
Walk A = Result A Operation

-- a walk that ends well was well all along
pub after_ok : {A B : Type 0} (w : Walk A) (go : A → Walk B) (v : B) → then_walk w go ≡ Ok v
    → (u : A) × (w ≡ Ok u) × (go u ≡ Ok v)
after_ok (Ok u) go v h = (u, refl, h)
after_ok (Err e) go v h = absurd (cc)

-- ---- what a walk gives
pub sub_walk_is : (a b v : ℚ) → sub_walk a b ≡ Ok v → v ≡ a -ℚ b
sub_walk_is a b v e = walk_value Sub a b v e

pub div_walk_is : (a b v : ℚ) → div_walk a b ≡ Ok v → v ≡ a /ℚ b
div_walk_is a b v e = walk_value Div a b v e
