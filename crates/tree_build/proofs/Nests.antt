-- Rows of keys: scenarios that have one key at a stage have one key at the stage before, and all have one at the first stage.
use Rattle.std.proofs.Common.{◌≡◌, ◌∙◌, ap, sym, refl, ℕ, zero, suc, ◌+◌, ◌*◌, ◌<◌, ◌≤◌, Bool, true, false, List, [], ◌∷◌, ◌++◌, map, length, get_or, nat_eq, nat_lt, nat_le, arith, Option, Some, None, ◌⊎◌, inl, inr, if◌then◌else◌}
use Rattle.std.proofs.Math.Seq.{get_or-append_seam}
use Rattle.std.proofs.lemmas.List.{get_or_append_left, get_or-map, length_push, length-map}
use Rattle.std.proofs.lemmas.Bool.Decides.{nat_tests}
use Rattle.stoch_defs.specs.Random.{Branch}
use Rattle.scen_defs.specs.Lists.{Each}
use Rattle.build_defs.specs.Scenarios.{stages_from}
use Rattle.tree_build.specs.declared.wheels.Wheel.{Wheel}
use Rattle.tree_build.specs.Wheels.{product, sizes_of, digits_of, IsWithin, key_to, key_row}
use Rattle.tree_build.specs.Branches.{key_above, branch_key, branch_rows}
use Rattle.tree_build.specs.Walks.{block_rows}
use Rattle.tree_build.proofs.WheelLemmas.{digits_within}
use Rattle.tree_build.proofs.Lists.{past_end}

-- what holds of the rows of all scenarios
pub record Nest (count : ℕ) (rows : List (List ℕ)) : Type 0 where
  pub one_root : (s : ℕ) → s < length rows → get_or (get_or rows s []) 0 0 ≡ 0
  pub nested : (s t k : ℕ) → s < length rows → t < length rows → suc k < count → get_or (get_or rows s []) (suc k) 0 ≡ get_or (get_or rows t []) (suc k) 0 → get_or (get_or rows s []) k 0 ≡ get_or (get_or rows t []) k 0

-- ---- blocks

-- digits are told by the number that they make
digit_is : (a b s d e : ℕ) → d < s → e < s → a * s + d ≡ b * s + e → a ≡ b
digit_is zero zero s d e low high same = refl
digit_is zero (suc b) s d e low high same = absurd (let more : suc b * s ≡ b * s + s = omega arith in omega (arith, same, more, low))
digit_is (suc a) zero s d e low high same = absurd (let more : suc a * s ≡ a * s + s = omega arith in omega (arith, same, more, high))
digit_is (suc a) (suc b) s d e low high same =
    let one : suc a * s ≡ a * s + s = omega arith in
    let other : suc b * s ≡ b * s + s = omega arith in
    ap suc (digit_is a b s d e low high (omega (arith, same, one, other)))

-- a number tells what stood before its digits
before_is : (stage : ℕ) (wheels : List Wheel) (ds es : List ℕ) (a b : ℕ) → IsWithin (sizes_of wheels) ds → IsWithin (sizes_of wheels) es → key_to stage wheels ds a ≡ key_to stage wheels es b → a ≡ b
before_is stage [] ds es a b one other same = same
before_is stage (w ∷ wheels) [] es a b one other same = absurd one
before_is stage (w ∷ wheels) (d ∷ ds) [] a b one other same = absurd other
before_is stage (w ∷ wheels) (d ∷ ds) (e ∷ es) a b one other same =
    go (nat_le w.stage stage)
    (before_is stage wheels ds es (if nat_le w.stage stage then a * w.size + d else a) (if nat_le w.stage stage then b * w.size + e else b) one.1 other.1 same)
  where
    go : (t : Bool) → (if t then a * w.size + d else a) ≡ (if t then b * w.size + e else b) → a ≡ b
    go true h = digit_is a b w.size d e one.0 other.0 h
    go false h = h

up_to : (n k : ℕ) → nat_le n k ≡ true → nat_le n (suc k) ≡ true
up_to n k h = grind (arith, nat_tests, h)

-- the digits up to a stage tell those up to the stage before
keys_nest : (k : ℕ) (wheels : List Wheel) (ds es : List ℕ) (a b : ℕ) → IsWithin (sizes_of wheels) ds → IsWithin (sizes_of wheels) es → key_to (suc k) wheels ds a ≡ key_to (suc k) wheels es a → key_to k wheels ds b ≡ key_to k wheels es b
keys_nest k [] ds es a b one other same = refl
keys_nest k (w ∷ wheels) [] es a b one other same = absurd one
keys_nest k (w ∷ wheels) (d ∷ ds) [] a b one other same = absurd other
keys_nest k (w ∷ wheels) (d ∷ ds) (e ∷ es) a b one other same =
    go (nat_le w.stage k) refl (nat_le w.stage (suc k)) refl same (λ a b h. keys_nest k wheels ds es a b one.1 other.1 h)
  where
    go : (t : Bool) → nat_le w.stage k ≡ t → (u : Bool) → nat_le w.stage (suc k) ≡ u →
        key_to (suc k) wheels ds (if u then a * w.size + d else a) ≡ key_to (suc k) wheels es (if u then a * w.size + e else a) →
        ((a b : ℕ) → key_to (suc k) wheels ds a ≡ key_to (suc k) wheels es a → key_to k wheels ds b ≡ key_to k wheels es b) →
        key_to k wheels ds (if t then b * w.size + d else b) ≡ key_to k wheels es (if t then b * w.size + e else b)
    go true is true js same rest =
        let digit : a * w.size + d ≡ a * w.size + e = before_is (suc k) wheels ds es (a * w.size + d) (a * w.size + e) one.1 other.1 same in
        let equal : d ≡ e = omega (arith, digit) in
        let tail : key_to (suc k) wheels ds (a * w.size + d) ≡ key_to (suc k) wheels es (a * w.size + d) = same ∙ ap (λ (n : ℕ). key_to (suc k) wheels es n) (sym digit) in
        rest (a * w.size + d) (b * w.size + d) tail ∙ ap (λ (x : ℕ). key_to k wheels es (b * w.size + x)) equal
    go true is false js same rest = absurd (let yes = up_to w.stage k is in let clash : true ≡ false = sym yes ∙ js in cc)
    go false is true js same rest =
        let digit : a * w.size + d ≡ a * w.size + e = before_is (suc k) wheels ds es (a * w.size + d) (a * w.size + e) one.1 other.1 same in
        rest (a * w.size + d) b (same ∙ ap (λ (n : ℕ). key_to (suc k) wheels es n) (sym digit))
    go false is false js same rest = rest a b same

-- ---- lists by stages

stages_length : (first count : ℕ) → length (stages_from first count) ≡ count
stages_length first zero = refl
stages_length first (suc count) = ap suc (stages_length (first + 1) count)

stages_at : (first count i : ℕ) → i < count → get_or (stages_from first count) i 0 ≡ first + i
stages_at first zero i below = absurd (omega (arith, below))
stages_at first (suc count) zero below = omega arith
stages_at first (suc count) (suc i) below = let rest = stages_at (first + 1) count i (omega (arith, below)) in omega (arith, rest)

by_stage : {A : Type 0} (f : ℕ → A) (count i : ℕ) (d : A) → i < count → get_or (map f (stages_from 0 count)) i d ≡ f i
by_stage f count i d below =
    get_or-map f (stages_from 0 count) i 0 d (omega (arith, below, stages_length 0 count)) ∙ ap f (stages_at 0 count i below ∙ (let e : 0 + i ≡ i = omega arith in e))

-- all wheels are behind the first stage
abbrev pub AreLater : List Wheel → Type 0
AreLater wheels = Each (λ (w : Wheel). 0 < w.stage) wheels

no_digit : (wheels : List Wheel) (ds : List ℕ) (a : ℕ) → AreLater wheels → key_to 0 wheels ds a ≡ a
no_digit [] ds a later = refl
no_digit (w ∷ wheels) [] a later = refl
no_digit (w ∷ wheels) (d ∷ ds) a later = go (nat_le w.stage 0) refl (λ b. no_digit wheels ds b later.1)
  where
    not_yet : (n : ℕ) → 0 < n → nat_le n 0 ≡ true → ⊥
    not_yet n some h = grind (arith, nat_tests, some, h)

    go : (t : Bool) → nat_le w.stage 0 ≡ t → ((b : ℕ) → key_to 0 wheels ds b ≡ b) → key_to 0 wheels ds (if t then a * w.size + d else a) ≡ a
    go true is rest = absurd (not_yet w.stage later.0 is)
    go false is rest = rest a

pub blocks_nest : (count : ℕ) (wheels : List Wheel) → AreLater wheels → 0 < count → Nest count (block_rows count wheels)
blocks_nest count wheels later some = record {
  one_root = λ s below. key s 0 (inside s below) some ∙ no_digit wheels (digits_of (sizes_of wheels) s) 0 later;
  nested = λ s t k one other low same.
      let a = inside s one in
      let b = inside t other in
      key s k a (omega (arith, low))
      ∙ keys_nest k wheels (digits_of (sizes_of wheels) s) (digits_of (sizes_of wheels) t) 0 0 (digits_within (sizes_of wheels) s a) (digits_within (sizes_of wheels) t b) (sym (key s (suc k) a low) ∙ same ∙ key t (suc k) b low)
      ∙ sym (key t k b (omega (arith, low)));
}
  where
    inside : (s : ℕ) → s < length (block_rows count wheels) → s < product (sizes_of wheels)
    inside s below =
        let long : length (block_rows count wheels) ≡ product (sizes_of wheels) = length-map (stages_from 0 (product (sizes_of wheels))) (λ number. key_row wheels count (digits_of (sizes_of wheels) number)) ∙ stages_length 0 (product (sizes_of wheels)) in
        omega (arith, below, long)

    key : (s k : ℕ) → s < product (sizes_of wheels) → k < count → get_or (get_or (block_rows count wheels) s []) k 0 ≡ key_to k wheels (digits_of (sizes_of wheels) s) 0
    key s k below low =
        ap (λ (row : List ℕ). get_or row k 0) (by_stage (λ number. key_row wheels count (digits_of (sizes_of wheels) number)) (product (sizes_of wheels)) s [] below)
        ∙ by_stage (λ stage. key_to stage wheels (digits_of (sizes_of wheels) s) 0) count k 0 low

-- ---- scenarios that are stated

-- the key at a stage of the scenario whose own key this is; 0 on the core's own path
abbrev owner_key : List (List ℕ) → ℕ → ℕ → ℕ
owner_key rows zero k = 0
owner_key rows (suc i) k = get_or (get_or rows i []) k 0

-- what holds of the rows so far
record Grown (count : ℕ) (rows : List (List ℕ)) : Type 0 where
  one_root : (s : ℕ) → get_or (get_or rows s []) 0 0 ≡ 0
  known : (s k : ℕ) → get_or (get_or rows s []) k 0 ≤ length rows
  owned : (s k : ℕ) → suc k < count → get_or (get_or rows s []) k 0 ≡ owner_key rows (get_or (get_or rows s []) (suc k) 0) k

abbrev pub AreLaterBranches : List Branch → Type 0
AreLaterBranches branches = Each (λ (b : Branch). 0 < b.stage) branches

-- the rows behind a further one: an earlier row, the new one, or none
abbrev Reads : List (List ℕ) → List ℕ → ℕ → Type 0
Reads rows row s = (get_or (rows ++ row ∷ []) s [] ≡ get_or rows s []) ⊎ (get_or (rows ++ row ∷ []) s [] ≡ row)

reads : (rows : List (List ℕ)) (row : List ℕ) (s : ℕ) → Reads rows row s
reads rows row s = go (nat_lt s (length rows)) refl (nat_eq s (length rows)) refl
  where
    go : (b : Bool) → nat_lt s (length rows) ≡ b → (a : Bool) → nat_eq s (length rows) ≡ a → Reads rows row s
    go true low a at = inl (get_or_append_left rows (row ∷ []) [] s (grind (arith, nat_tests, low)))
    go false high true at =
        let same : s ≡ length rows = grind (arith, nat_tests, at) in
        inr (ap (λ (k : ℕ). get_or (rows ++ row ∷ []) k []) same ∙ get_or-append_seam rows row [] [])
    go false high false at =
        let past : length rows + 1 ≤ s = grind (arith, nat_tests, high, at) in
        inl (past_end (rows ++ row ∷ []) s [] (omega (arith, past, length_push rows row)) ∙ sym (past_end rows s [] (omega (arith, past))))

module _ (count : ℕ) (rows : List (List ℕ)) (branch : Branch) (grown : Grown count rows) (later : 0 < branch.stage) where
  abbrev new : List ℕ
  new = map (branch_key rows branch (suc (length rows))) (stages_from 0 count)

  -- what is above is one of the rows so far
  above_known : (parent : Option ℕ) (k : ℕ) → key_above rows parent k ≤ length rows
  above_known None k = omega arith
  above_known (Some m) k = grown.known m k

  above_root : (parent : Option ℕ) → key_above rows parent 0 ≡ 0
  above_root None = refl
  above_root (Some m) = grown.one_root m

  above_owned : (parent : Option ℕ) (k : ℕ) → suc k < count → key_above rows parent k ≡ owner_key rows (key_above rows parent (suc k)) k
  above_owned None k low = refl
  above_owned (Some m) k low = grown.owned m k low

  new_past : (k : ℕ) → count ≤ k → get_or new k 0 ≡ 0
  new_past k past = past_end new k 0 (omega (arith, past, length-map (stages_from 0 count) (branch_key rows branch (suc (length rows))), stages_length 0 count))

  new_at : (k : ℕ) → k < count → get_or new k 0 ≡ branch_key rows branch (suc (length rows)) k
  new_at k low = by_stage (branch_key rows branch (suc (length rows))) count k 0 low

  key_known : (k : ℕ) → branch_key rows branch (suc (length rows)) k ≤ suc (length rows)
  key_known k = go (nat_lt k branch.stage)
    where
      go : (b : Bool) → (if b then key_above rows branch.parent k else suc (length rows)) ≤ suc (length rows)
      go true = omega (arith, above_known branch.parent k)
      go false = omega arith

  new_known : (k : ℕ) → get_or new k 0 ≤ suc (length rows)
  new_known k = go (nat_lt k count) refl
    where
      go : (b : Bool) → nat_lt k count ≡ b → get_or new k 0 ≤ suc (length rows)
      go true is = omega (arith, new_at k (grind (arith, nat_tests, is)), key_known k)
      go false is = omega (arith, new_past k (grind (arith, nat_tests, is)))

  new_root : get_or new 0 0 ≡ 0
  new_root = go (nat_lt 0 count) refl
    where
      first : (if nat_lt 0 branch.stage then key_above rows branch.parent 0 else suc (length rows)) ≡ 0
      first = ap (λ (b : Bool). if b then key_above rows branch.parent 0 else suc (length rows)) (let e : nat_lt 0 branch.stage ≡ true = grind (arith, nat_tests, later) in e) ∙ above_root branch.parent

      go : (b : Bool) → nat_lt 0 count ≡ b → get_or new 0 0 ≡ 0
      go true is = new_at 0 (grind (arith, nat_tests, is)) ∙ first
      go false is = new_past 0 (grind (arith, nat_tests, is))

  -- what an earlier row owns it still owns
  owner_kept : (v k : ℕ) → v ≤ length rows → owner_key (rows ++ new ∷ []) v k ≡ owner_key rows v k
  owner_kept zero k low = refl
  owner_kept (suc i) k low = ap (λ (row : List ℕ). get_or row k 0) (get_or_append_left rows (new ∷ []) [] i (omega (arith, low)))

  new_owned : (k : ℕ) → suc k < count → get_or new k 0 ≡ owner_key (rows ++ new ∷ []) (get_or new (suc k) 0) k
  new_owned k low = go (nat_lt (suc k) branch.stage) refl
    where
      earlier : nat_lt (suc k) branch.stage ≡ true → nat_lt k branch.stage ≡ true
      earlier is = grind (arith, nat_tests, is)

      go : (b : Bool) → nat_lt (suc k) branch.stage ≡ b → get_or new k 0 ≡ owner_key (rows ++ new ∷ []) (get_or new (suc k) 0) k
      go true is =
          let here : get_or new k 0 ≡ key_above rows branch.parent k = new_at k (omega (arith, low)) ∙ ap (λ (b : Bool). if b then key_above rows branch.parent k else suc (length rows)) (earlier is) in
          let next : get_or new (suc k) 0 ≡ key_above rows branch.parent (suc k) = new_at (suc k) low ∙ ap (λ (b : Bool). if b then key_above rows branch.parent (suc k) else suc (length rows)) is in
          here ∙ above_owned branch.parent k low ∙ sym (owner_kept (key_above rows branch.parent (suc k)) k (above_known branch.parent (suc k)))
          ∙ sym (ap (λ (v : ℕ). owner_key (rows ++ new ∷ []) v k) next)
      go false is =
          let next : get_or new (suc k) 0 ≡ suc (length rows) = new_at (suc k) low ∙ ap (λ (b : Bool). if b then key_above rows branch.parent (suc k) else suc (length rows)) is in
          sym (ap (λ (v : ℕ). owner_key (rows ++ new ∷ []) v k) next ∙ ap (λ (row : List ℕ). get_or row k 0) (get_or-append_seam rows new [] []))

  grown_one : Grown count (rows ++ new ∷ [])
  grown_one = record {
    one_root = λ s. root s (reads rows new s);
    known = λ s k. small s k (reads rows new s);
    owned = λ s k low. own s k low (reads rows new s);
  }
    where
      root : (s : ℕ) → Reads rows new s → get_or (get_or (rows ++ new ∷ []) s []) 0 0 ≡ 0
      root s (inl is) = ap (λ (row : List ℕ). get_or row 0 0) is ∙ grown.one_root s
      root s (inr is) = ap (λ (row : List ℕ). get_or row 0 0) is ∙ new_root

      small : (s k : ℕ) → Reads rows new s → get_or (get_or (rows ++ new ∷ []) s []) k 0 ≤ length (rows ++ new ∷ [])
      small s k (inl is) = omega (arith, ap (λ (row : List ℕ). get_or row k 0) is, grown.known s k, length_push rows new)
      small s k (inr is) = omega (arith, ap (λ (row : List ℕ). get_or row k 0) is, new_known k, length_push rows new)

      own : (s k : ℕ) → suc k < count → Reads rows new s → get_or (get_or (rows ++ new ∷ []) s []) k 0 ≡ owner_key (rows ++ new ∷ []) (get_or (get_or (rows ++ new ∷ []) s []) (suc k) 0) k
      own s k low (inl is) =
          ap (λ (row : List ℕ). get_or row k 0) is ∙ grown.owned s k low ∙ sym (owner_kept (get_or (get_or rows s []) (suc k) 0) k (grown.known s (suc k)))
          ∙ sym (ap (λ (row : List ℕ). owner_key (rows ++ new ∷ []) (get_or row (suc k) 0) k) is)
      own s k low (inr is) = ap (λ (row : List ℕ). get_or row k 0) is ∙ new_owned k low ∙ sym (ap (λ (row : List ℕ). owner_key (rows ++ new ∷ []) (get_or row (suc k) 0) k) is)

grown_all : (count : ℕ) (rows : List (List ℕ)) (branches : List Branch) → Grown count rows → AreLaterBranches branches → Grown count (branch_rows count rows branches)
grown_all count rows [] grown later = grown
grown_all count rows (branch ∷ branches) grown later =
    grown_all count (rows ++ map (branch_key rows branch (suc (length rows))) (stages_from 0 count) ∷ []) branches (grown_one count rows branch grown later.0) later.1

pub branches_nest : (count : ℕ) (branches : List Branch) → AreLaterBranches branches → Nest count (branch_rows count [] branches)
branches_nest count branches later =
    let rows = branch_rows count [] branches in
    let all = grown_all count [] branches (record { one_root = λ s. refl; known = λ s k. omega arith; owned = λ s k low. refl }) later in
    record {
      one_root = λ s below. all.one_root s;
      nested = λ s t k one other low same. all.owned s k low ∙ ap (λ (v : ℕ). owner_key rows v k) same ∙ sym (all.owned t k low);
    }
