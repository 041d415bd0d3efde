-- Blocks: the key at a stage tells the numbers of the cases up to it, and they tell the key.
use Rattle.std.proofs.Common.{◌≡◌, ◌∙◌, ap, ap₂, sym, refl, ℕ, zero, suc, ◌+◌, ◌*◌, ◌<◌, Bool, true, false, not, List, [], ◌∷◌, ◌++◌, map, flat_map, nat_lt, nat_le, arith, if◌then◌else◌}
use Rattle.std.proofs.lemmas.Bool.Decides.{nat_tests}
use Rattle.rationals.specs.Rational.{ℚ}
use Rattle.stoch_defs.specs.Random.{Sets, Block}
use Rattle.scen_defs.specs.Lists.{Each}
use Rattle.build_defs.specs.Scenarios.{Choice, numbers_to}
use Rattle.tree_build.specs.declared.wheels.Wheel.{Wheel}
use Rattle.tree_build.specs.Wheels.{sizes_of, IsWithin, key_to}
use Rattle.tree_build.specs.Choices.{chances_of, sets_of}
use Rattle.build_laws.proofs.Choices.{choice_at, chosen}
use Rattle.build_laws.proofs.Turns.{block_of, HasStage}

abbrev chosen_by : List Block → List Wheel → List ℕ → List Choice
chosen_by blocks wheels ds = chosen (map (block_of blocks) wheels) ds

-- ---- what the cases state

pub chances_are : (blocks : List Block) (wheels : List Wheel) (ds : List ℕ) → map (λ (c : Choice). c.probability) (chosen (map (block_of blocks) wheels) ds) ≡ chances_of blocks wheels ds
chances_are blocks [] ds = refl
chances_are blocks (w ∷ wheels) [] = refl
chances_are blocks (w ∷ wheels) (d ∷ ds) = ap (λ (rest : List ℚ). (choice_at (block_of blocks w) d).probability ∷ rest) (chances_are blocks wheels ds)

pub sets_are : (blocks : List Block) (wheels : List Wheel) (ds : List ℕ) → flat_map (λ (c : Choice). c.sets) (chosen (map (block_of blocks) wheels) ds) ≡ sets_of blocks wheels ds
sets_are blocks [] ds = refl
sets_are blocks (w ∷ wheels) [] = refl
sets_are blocks (w ∷ wheels) (d ∷ ds) = ap (λ (rest : Sets). (choice_at (block_of blocks w) d).sets ++ rest) (sets_are blocks wheels ds)

-- ---- numbers up to a stage

-- the digits of the wheels up to a stage
abbrev digits_to : ℕ → List Wheel → List ℕ → List ℕ
digits_to stage [] ds = []
digits_to stage (w ∷ wheels) [] = []
digits_to stage (w ∷ wheels) (d ∷ ds) = if nat_le w.stage stage then d ∷ digits_to stage wheels ds else digits_to stage wheels ds

later_or_not : (stage at : ℕ) → nat_lt stage at ≡ not (nat_le at stage)
later_or_not stage at = go (nat_lt stage at) (nat_le at stage) refl refl
  where
    go : (a b : Bool) → nat_lt stage at ≡ a → nat_le at stage ≡ b → nat_lt stage at ≡ not (nat_le at stage)
    go true true is js = absurd (grind (arith, nat_tests, is, js))
    go true false is js = is ∙ sym (ap not js)
    go false true is js = is ∙ sym (ap not js)
    go false false is js = absurd (grind (arith, nat_tests, is, js))

numbers_are : (blocks : List Block) (stage : ℕ) (wheels : List Wheel) (ds : List ℕ) → Each (HasStage blocks) wheels → numbers_to stage (chosen_by blocks wheels ds) ≡ digits_to stage wheels ds
numbers_are blocks stage [] ds all = refl
numbers_are blocks stage (w ∷ wheels) [] all = refl
numbers_are blocks stage (w ∷ wheels) (d ∷ ds) all =
    ap (λ (b : Bool). if b then numbers_to stage (chosen_by blocks wheels ds) else d ∷ numbers_to stage (chosen_by blocks wheels ds)) (ap (nat_lt stage) all.0 ∙ later_or_not stage w.stage)
    ∙ ap (λ (rest : List ℕ). if not (nat_le w.stage stage) then rest else d ∷ rest) (numbers_are blocks stage wheels ds all.1)
    ∙ turn (nat_le w.stage stage)
  where
    turn : (b : Bool) → (if not b then digits_to stage wheels ds else d ∷ digits_to stage wheels ds) ≡ (if b then d ∷ digits_to stage wheels ds else digits_to stage wheels ds)
    turn true = refl
    turn false = refl

-- ---- keys

-- digits are told by the number that they make
digit_is : (a b s d e : ℕ) → d < s → e < s → a * s + d ≡ b * s + e → a ≡ b
digit_is zero zero s d e low high same = refl
digit_is zero (suc b) s d e low high same = absurd (let more : suc b * s ≡ b * s + s = omega arith in omega (arith, same, more, low))
digit_is (suc a) zero s d e low high same = absurd (let more : suc a * s ≡ a * s + s = omega arith in omega (arith, same, more, high))
digit_is (suc a) (suc b) s d e low high same =
    let one : suc a * s ≡ a * s + s = omega arith in
    let other : suc b * s ≡ b * s + s = omega arith in
    ap suc (digit_is a b s d e low high (omega (arith, same, one, other)))

last_is : (a b s d e : ℕ) → a ≡ b → a * s + d ≡ b * s + e → d ≡ e
last_is a b s d e same all = let times : a * s ≡ b * s = ap (λ (n : ℕ). n * s) same in omega (arith, times, all)

-- a key tells what stood before its digits, and the digits
abbrev Told : ℕ → List Wheel → List ℕ → List ℕ → ℕ → ℕ → Type 0
Told stage wheels ds es a b = (a ≡ b) × (digits_to stage wheels ds ≡ digits_to stage wheels es)

keys_tell : (stage : ℕ) (wheels : List Wheel) (ds es : List ℕ) (a b : ℕ) → IsWithin (sizes_of wheels) ds → IsWithin (sizes_of wheels) es → key_to stage wheels ds a ≡ key_to stage wheels es b → Told stage wheels ds es a b
keys_tell stage [] ds es a b one other same = (same, refl)
keys_tell stage (w ∷ wheels) [] es a b one other same = absurd one
keys_tell stage (w ∷ wheels) (d ∷ ds) [] a b one other same = absurd other
keys_tell stage (w ∷ wheels) (d ∷ ds) (e ∷ es) a b one other same =
    go (nat_le w.stage stage)
    (keys_tell stage wheels ds es (if nat_le w.stage stage then a * w.size + d else a) (if nat_le w.stage stage then b * w.size + e else b) one.1 other.1 same)
  where
    go : (t : Bool) → Told stage wheels ds es (if t then a * w.size + d else a) (if t then b * w.size + e else b) →
        (a ≡ b) × ((if t then d ∷ digits_to stage wheels ds else digits_to stage wheels ds) ≡ (if t then e ∷ digits_to stage wheels es else digits_to stage wheels es))
    go true h = let first = digit_is a b w.size d e one.0 other.0 h.0 in (first, ap₂ ◌∷◌ (last_is a b w.size d e first h.0) h.1)
    go false h = h

heads : (d e : ℕ) (xs ys : List ℕ) → d ∷ xs ≡ e ∷ ys → d ≡ e
heads d e xs ys same = cc

tails : (d e : ℕ) (xs ys : List ℕ) → d ∷ xs ≡ e ∷ ys → xs ≡ ys
tails d e xs ys same = cc

-- the digits tell the key
digits_tell : (stage : ℕ) (wheels : List Wheel) (ds es : List ℕ) (a b : ℕ) → a ≡ b → IsWithin (sizes_of wheels) ds → IsWithin (sizes_of wheels) es → digits_to stage wheels ds ≡ digits_to stage wheels es → key_to stage wheels ds a ≡ key_to stage wheels es b
digits_tell stage [] ds es a b first one other same = first
digits_tell stage (w ∷ wheels) [] es a b first one other same = absurd one
digits_tell stage (w ∷ wheels) (d ∷ ds) [] a b first one other same = absurd other
digits_tell stage (w ∷ wheels) (d ∷ ds) (e ∷ es) a b first one other same = go (nat_le w.stage stage) same (λ x y h r. digits_tell stage wheels ds es x y h one.1 other.1 r)
  where
    go : (t : Bool) → (if t then d ∷ digits_to stage wheels ds else digits_to stage wheels ds) ≡ (if t then e ∷ digits_to stage wheels es else digits_to stage wheels es) →
        ((x y : ℕ) → x ≡ y → digits_to stage wheels ds ≡ digits_to stage wheels es → key_to stage wheels ds x ≡ key_to stage wheels es y) →
        key_to stage wheels ds (if t then a * w.size + d else a) ≡ key_to stage wheels es (if t then b * w.size + e else b)
    go true h rest = rest (a * w.size + d) (b * w.size + e) (ap₂ (λ (n m : ℕ). n * w.size + m) first (heads d e (digits_to stage wheels ds) (digits_to stage wheels es) h)) (tails d e (digits_to stage wheels ds) (digits_to stage wheels es) h)
    go false h rest = rest a b first h

pub keys_to_marks : (blocks : List Block) (stage : ℕ) (wheels : List Wheel) (ds es : List ℕ) → Each (HasStage blocks) wheels → IsWithin (sizes_of wheels) ds → IsWithin (sizes_of wheels) es →
    key_to stage wheels ds 0 ≡ key_to stage wheels es 0 → numbers_to stage (chosen (map (block_of blocks) wheels) ds) ≡ numbers_to stage (chosen (map (block_of blocks) wheels) es)
keys_to_marks blocks stage wheels ds es all one other same =
    numbers_are blocks stage wheels ds all ∙ (keys_tell stage wheels ds es 0 0 one other same).1 ∙ sym (numbers_are blocks stage wheels es all)

pub marks_to_keys : (blocks : List Block) (stage : ℕ) (wheels : List Wheel) (ds es : List ℕ) → Each (HasStage blocks) wheels → IsWithin (sizes_of wheels) ds → IsWithin (sizes_of wheels) es →
    numbers_to stage (chosen (map (block_of blocks) wheels) ds) ≡ numbers_to stage (chosen (map (block_of blocks) wheels) es) → key_to stage wheels ds 0 ≡ key_to stage wheels es 0
marks_to_keys blocks stage wheels ds es all one other same =
    digits_tell stage wheels ds es 0 0 refl one other (sym (numbers_are blocks stage wheels ds all) ∙ same ∙ numbers_are blocks stage wheels es all)
