-- The cases that a scenario has, one by one.
use Rattle.std.proofs.Common.{◌≡◌, ◌∙◌, ap, ap₂, sym, refl, ℕ, ◌+◌, ◌<◌, ◌≤◌, List, [], ◌∷◌, ◌++◌, length, get_or, drop, Ok, drop_of_length-le, arith}
use Rattle.rationals.specs.Rational.{ℚ}
use Rattle.rationals.specs.Passes.{mul_walk, then_walk}
use Rattle.core_defs.specs.declared.program.Core.{Core}
use Rattle.time_defs.specs.Means.{Stages}
use Rattle.stoch_defs.specs.Random.{Sets, Block}
use Rattle.build_defs.specs.Built.{product_from}
use Rattle.tree_build.specs.declared.wheels.Wheel.{Wheel}
use Rattle.tree_build.specs.Values.{Values, with_set, with_sets}
use Rattle.tree_build.specs.Choices.{case_at, chances_of, sets_of}
use Rattle.tree_build.proofs.WheelLemmas.{no_wheel, read_wheel, read_digit}

no_chances : (blocks : List Block) (wheels : List Wheel) → chances_of blocks wheels [] ≡ []
no_chances blocks [] = refl
no_chances blocks (w ∷ wheels) = refl

no_sets : (blocks : List Block) (wheels : List Wheel) → sets_of blocks wheels [] ≡ []
no_sets blocks [] = refl
no_sets blocks (w ∷ wheels) = refl

pub chances_read : (blocks : List Block) (wheels : List Wheel) (digits : List ℕ) (i : ℕ) → i < length wheels → i < length digits →
    chances_of blocks (drop i wheels) (drop i digits) ≡ (case_at blocks (get_or wheels i no_wheel).block (get_or digits i 0)).probability ∷ chances_of blocks (drop (i + 1) wheels) (drop (i + 1) digits)
chances_read blocks wheels digits i a b = ap₂ (λ (ws : List Wheel) (ds : List ℕ). chances_of blocks ws ds) (read_wheel wheels i a) (read_digit digits i b)

pub sets_read : (blocks : List Block) (wheels : List Wheel) (digits : List ℕ) (i : ℕ) → i < length wheels → i < length digits →
    sets_of blocks (drop i wheels) (drop i digits)
    ≡ ((case_at blocks (get_or wheels i no_wheel).block 0).sets ++ (case_at blocks (get_or wheels i no_wheel).block (get_or digits i 0)).sets) ++ sets_of blocks (drop (i + 1) wheels) (drop (i + 1) digits)
sets_read blocks wheels digits i a b = ap₂ (λ (ws : List Wheel) (ds : List ℕ). sets_of blocks ws ds) (read_wheel wheels i a) (read_digit digits i b)

none_left : (digits : List ℕ) (i : ℕ) → length digits ≤ i → drop i digits ≡ []
none_left digits i past = drop_of_length-le digits past

pub chances_past : (blocks : List Block) (wheels : List Wheel) (digits : List ℕ) (i : ℕ) → length digits ≤ i → chances_of blocks (drop (i + 1) wheels) (drop (i + 1) digits) ≡ chances_of blocks (drop i wheels) (drop i digits)
chances_past blocks wheels digits i past =
    ap (chances_of blocks (drop (i + 1) wheels)) (none_left digits (i + 1) (omega (arith, past))) ∙ no_chances blocks (drop (i + 1) wheels)
    ∙ sym (ap (chances_of blocks (drop i wheels)) (none_left digits i past) ∙ no_chances blocks (drop i wheels))

pub sets_past : (blocks : List Block) (wheels : List Wheel) (digits : List ℕ) (i : ℕ) → length digits ≤ i → sets_of blocks (drop (i + 1) wheels) (drop (i + 1) digits) ≡ sets_of blocks (drop i wheels) (drop i digits)
sets_past blocks wheels digits i past =
    ap (sets_of blocks (drop (i + 1) wheels)) (none_left digits (i + 1) (omega (arith, past))) ∙ no_sets blocks (drop (i + 1) wheels)
    ∙ sym (ap (sets_of blocks (drop i wheels)) (none_left digits i past) ∙ no_sets blocks (drop i wheels))

pub with_append : (core : Core) (p : Stages) (stage : ℕ) (d : Values) (one other : Sets) → with_sets core p stage d (one ++ other) ≡ with_sets core p stage (with_sets core p stage d one) other
with_append core p stage d [] other = refl
with_append core p stage d (pair ∷ one) other = with_append core p stage (with_set core p stage d pair.0 pair.1) one other

pub product_more : (product next p : ℚ) (rest : List ℚ) → mul_walk product p ≡ Ok next → product_from product (p ∷ rest) ≡ product_from next rest
product_more product next p rest e = ap (λ w. then_walk w (λ n. product_from n rest)) e
