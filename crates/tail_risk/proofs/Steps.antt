-- Steps of the loops, and what calls need.
use Rattle.std.proofs.Common.{◌≡◌, ℕ, suc, ◌+◌, ◌-◌, ◌<◌, ◌≤◌, Bool, true, false, ◌||◌, List, [], ◌∷◌, ◌++◌, length, map, drop, get_or, Option, Result, Ok, Err, IsErrAnd, MatchResult, eqb, leb, ◌⊎◌, inl, inr, sym, ap, ap₂, subst, ◌∙◌, arith, append_assoc, append-nil}
use Rattle.std.proofs.Common.{take}
use Rattle.std.proofs.Math.Seq.{take-length}
use Rattle.std.proofs.lemmas.List.{length-drop}
use Rattle.rationals.specs.Rational.{ℚ, zero_ℚ, one_ℚ, neg_ℚ, ◌-ℚ◌, ◌<ℚ◌, by_eqs, terms, le_of_same_ℚ, not_le_of_lt_ℚ}
use Rattle.rationals.specs.Ring.Eqs.{done, by_eq}
use Rattle.rationals.specs.declared.Op.TheVariants.{Sub}
use Rattle.rationals.specs.Passes.{Operation, sub_walk, then_walk, then_value}
use Rattle.rationals.proofs.WalkLaws.{walk_value}
use Rattle.frac128.specs.declared.fault.ArithmeticFault.{ArithmeticFault}
use Rattle.frac128.specs.declared.fault.ArithmeticFault.TheVariants.{Passed, Memory}
use Rattle.frac128.specs.Faults.{FaultOf}
use Rattle.rationals.specs.Choices.{pick}
use Rattle.rationals.specs.Sparse.{Entry}
use Rattle.rationals.specs.Forms.{EndsBelow, put, put_unless, is_zero}
use Rattle.smps_words.specs.Names.{same_name}
use Rattle.scen_defs.specs.declared.program.Column.{Column}
use Rattle.scen_defs.specs.Program.{Node, Program, node_at, or_root}
use Rattle.scen_defs.specs.Valid.{Lives, IsProgram}
use Rattle.scen_defs.proofs.SumLaws.{each-map}
use Rattle.edit_defs.proofs.Lists.{passes-within}
use Rattle.tail_risk.specs.TailRow.{merged, costs_up, path_costs, with_other_signs}
use Rattle.tail_risk.specs.Paths.{MeetApart}
use Rattle.tail_risk.proofs.Merges.{merged_nothing, turned_each, ends_below}
use Rattle.tail_risk.proofs.Scaled.{scaled_walk_is, scaled_each}
use Rattle.tail_risk.proofs.PathLaws.{path_up_to, path_meets_apart, up_length}
use Rattle.scen_defs.proofs.NodeReads.{drop_read}
use Rattle.edit_defs.specs.Limits.{counts, place_counts}
use Rattle.tail_risk.specs.TailNames.{has_name}
use Rattle.tail_risk.specs.TailProgram.{scaled_form, tail_nodes, tail_place}
use Rattle.tail_risk.specs.TailWalk.{scaled_form_walk, place_walk, nodes_walk}
use Rattle.tail_risk.specs.declared.rates.Rates.{Rates}

-- what is left of 1 isn't 0
pub rest_nonzero : (a v : ℚ) → a <ℚ one_ℚ → sub_walk one_ℚ a ≡ Ok v → v ≡ zero_ℚ → ⊥
rest_nonzero a v h e z =
    let is : v ≡ one_ℚ -ℚ a = walk_value Sub one_ℚ a v e in
    let same : one_ℚ ≡ a = by_eqs (a ∷ v ∷ []) (by_eq (neg_ℚ one_ℚ) is (by_eq one_ℚ z done)) (search terms depth 40) tt in
    not_le_of_lt_ℚ h (le_of_same_ℚ same)

-- ---- names
module _ {A : Type 0} (name_of : A → List ℕ) (name : List ℕ) (xs : List A) (k : ℕ) (x : A) (h : k < length xs) (is : x ≡ get_or xs k x) where
  here : has_name name (map name_of (drop k xs)) ≡ (same_name (name_of x) name || has_name name (map name_of (drop (k + 1) xs)))
  here = ap (λ l. has_name name (map name_of l)) (drop_read xs k x h is)

  pub name_found : (whole : Bool) → same_name (name_of x) name ≡ true → has_name name (map name_of (drop k xs)) ≡ whole → whole ≡ true
  name_found whole e so = sym so ∙ here ∙ ap (λ b. b || has_name name (map name_of (drop (k + 1) xs))) e

  pub name_passed : (whole : Bool) → same_name (name_of x) name ≡ false → has_name name (map name_of (drop k xs)) ≡ whole → has_name name (map name_of (drop (k + 1) xs)) ≡ whole
  name_passed whole e so = sym (ap (λ b. b || has_name name (map name_of (drop (k + 1) xs))) e) ∙ sym here ∙ so

-- ---- nodes, a number at a time
fault_then : {X Y : Type 0} (first : Result X Operation) (next : X → Result Y Operation) (fault : ArithmeticFault) → FaultOf first fault → FaultOf (then_walk first next) fault
fault_then first next (Passed p) h = ap (λ r. then_walk r next) h
fault_then first next Memory h = tt

pub fault_value : {X Y : Type 0} (walk : Result X Operation) (f : X → Y) (fault : ArithmeticFault) → FaultOf walk fault → FaultOf (then_value f walk) fault
fault_value walk f (Passed p) h = ap (then_value f) h
fault_value walk f Memory h = tt

value_then : {A : Type 0} (all : List A) (x : A) (rest whole : Result (List A) Operation) → then_value (λ l. all ++ l) (then_value (λ l. x ∷ l) rest) ≡ whole → then_value (λ l. (all ++ x ∷ []) ++ l) rest ≡ whole
value_then all x (Ok l) whole h = ap Ok (append_assoc all (x ∷ []) l) ∙ h
value_then all x (Err p) whole h = h

module _ (p : Program) (rates : Rates) (count : ℕ) where
  module _ (whole : Result (List (Option Node)) Operation) where
    abbrev left : ℕ → Result (List (Option Node)) Operation
    left k = nodes_walk p rates k (count - k)

    next : (k : ℕ) → k < count → left k ≡ then_walk (place_walk p rates k) (λ place. then_value (λ rest. place ∷ rest) (left (k + 1)))
    next k h =
        let one : suc k ≡ k + 1 = omega arith in
        let less : count - k ≡ suc (count - (k + 1)) = omega (arith, h) in
        ap (nodes_walk p rates k) less ∙ ap (λ m. then_walk (place_walk p rates k) (λ place. then_value (λ rest. place ∷ rest) (nodes_walk p rates m (count - (k + 1))))) one

    pub nodes_more : (all more : List (Option Node)) (k : ℕ) (place : Option Node) → k < count → place_walk p rates k ≡ Ok place → more ≡ all ++ place ∷ []
        → then_value (λ l. all ++ l) (left k) ≡ whole → then_value (λ l. more ++ l) (left (k + 1)) ≡ whole
    nodes_more all more k place h made m so =
        ap (λ q. then_value (λ l. q ++ l) (left (k + 1))) m
        ∙ value_then all place (left (k + 1)) whole
        (ap (λ q. then_value (λ l. all ++ l) (then_walk q (λ x. then_value (λ l. x ∷ l) (left (k + 1))))) (sym made)
        ∙ ap (then_value (λ l. all ++ l)) (sym (next k h)) ∙ so)

    pub nodes_fail : (all : List (Option Node)) (k : ℕ) (fault : ArithmeticFault) → k < count
        → then_value (λ l. all ++ l) (left k) ≡ whole → FaultOf (place_walk p rates k) fault → FaultOf whole fault
    nodes_fail all k fault h so f =
        subst (λ q. FaultOf q fault) (ap (then_value (λ l. all ++ l)) (sym (next k h)) ∙ so)
        (fault_value _ (λ l. all ++ l) fault (fault_then (place_walk p rates k) (λ x. then_value (λ l. x ∷ l) (left (k + 1))) fault f))

    pub nodes_end : (all : List (Option Node)) (k : ℕ) → count ≤ k → then_value (λ l. all ++ l) (left k) ≡ whole → whole ≡ Ok all
    nodes_end all k h so =
        let none : count - k ≡ 0 = omega (arith, h) in
        sym so ∙ ap (λ m. then_value (λ l. all ++ l) (nodes_walk p rates k m)) none ∙ ap Ok (append-nil all)

  -- ---- entries
  pub entries_more : (k now : ℕ) (whole : ℕ) → k < count → now ≡ (place_counts (tail_place p rates k)).entries → (so : ℕ) → so + (counts (tail_nodes p rates k (count - k))).entries ≡ whole
      → (so + now) + (counts (tail_nodes p rates (k + 1) (count - (k + 1)))).entries ≡ whole
  entries_more k now whole h e so kept =
      let less : count - k ≡ suc (count - (k + 1)) = omega (arith, h) in
      let one : suc k ≡ k + 1 = omega arith in
      let split : (counts (tail_nodes p rates k (count - k))).entries ≡ (place_counts (tail_place p rates k)).entries + (counts (tail_nodes p rates (k + 1) (count - (k + 1)))).entries =
      ap (λ m. (counts (tail_nodes p rates k m)).entries) less ∙ ap (λ m. (place_counts (tail_place p rates k)).entries + (counts (tail_nodes p rates m (count - (k + 1)))).entries) one in
      omega (arith, e, kept, split)

  pub entries_first : length p.nodes ≡ count → 0 + (counts (tail_nodes p rates 0 (count - 0))).entries ≡ (counts (tail_nodes p rates 0 (length p.nodes))).entries
  entries_first e =
      let same : (counts (tail_nodes p rates 0 (count - 0))).entries ≡ (counts (tail_nodes p rates 0 (length p.nodes))).entries = ap (λ m. (counts (tail_nodes p rates 0 m)).entries) (let d : count - 0 ≡ length p.nodes = omega (arith, e) in d) in
      omega (arith, same)

  pub entries_end : (k so whole : ℕ) → count ≤ k → so + (counts (tail_nodes p rates k (count - k))).entries ≡ whole → so ≡ whole
  entries_end k so whole h kept =
      let none : count - k ≡ 0 = omega (arith, h) in
      let zero : (counts (tail_nodes p rates k (count - k))).entries ≡ 0 = ap (λ m. (counts (tail_nodes p rates k m)).entries) none in
      omega (arith, kept, zero)

-- ---- the costs of a node
pub ends_behind : (h : ℕ) (costs first : List Entry) (b : Bool) (r : ℚ) → EndsBelow h costs → first ≡ costs ++ pick b (put h r []) [] → EndsBelow (h + 1) first
ends_behind h costs first b r k e = subst (EndsBelow (h + 1)) (sym e) (go costs k)
  where
    one : (t : Bool) → EndsBelow (h + 1) (put_unless t h r [])
    one true = tt
    one false = (omega arith, tt)

    there : (b : Bool) → EndsBelow (h + 1) (pick b (put h r []) [])
    there true = one (is_zero r)
    there false = tt

    go : (f : List Entry) → EndsBelow h f → EndsBelow (h + 1) (f ++ pick b (put h r []) [])
    go [] k = there b
    go (x ∷ f) k = ((let l : x.column < h = k.0 in omega (arith, l)), go f k.1)

pub costs_joined : (costs first all a b : List Entry) → first ≡ costs ++ a → all ≡ first ++ b → all ≡ costs ++ (a ++ b)
costs_joined costs first all a b e k = k ∙ ap (λ l. l ++ b) e ∙ append_assoc costs a b

-- ---- what calls of forms need
-- the rest of a list is as long as it is
pub rest_taken : (xs : List Entry) (i : ℕ) → take (length xs - i) (drop i xs) ≡ drop i xs
rest_taken xs i = ap (λ n. take n (drop i xs)) (sym (length-drop i xs)) ∙ take-length (drop i xs)

pub merged_over : (all one two f g whole : List Entry) → one ≡ all ++ f → two ≡ one ++ g → all ++ merged f g ≡ whole → (g ≡ []) ⊎ (f ≡ []) → two ≡ whole
merged_over all one two f g whole a b kept over = b ∙ ap (λ l. l ++ g) a ∙ append_assoc all f g ∙ ap (λ l. all ++ l) (go over) ∙ kept
  where
    go : (g ≡ []) ⊎ (f ≡ []) → f ++ g ≡ merged f g
    go (inl e) = ap (λ l. f ++ l) e ∙ append-nil f ∙ sym (merged_nothing f) ∙ ap (merged f) (sym e)
    go (inr e) = ap (λ l. l ++ g) e ∙ ap (λ l. merged l g) (sym e)

pub ends_pushed : (b : ℕ) (f g : List Entry) (v : ℚ) → EndsBelow b f → g ≡ f ++ record { column = b; value = v } ∷ [] → EndsBelow (b + 1) g
ends_pushed b f g v k e = subst (EndsBelow (b + 1)) (sym e) (go f k)
  where
    go : (f : List Entry) → EndsBelow b f → EndsBelow (b + 1) (f ++ record { column = b; value = v } ∷ [])
    go [] k = (omega arith, tt)
    go (x ∷ f) k = ((let l : x.column < b = k.0 in omega (arith, l)), go f k.1)

module _ (p : Program) (i : IsProgram p) (n : ℕ) (l : Lives p n) where
  pub row_ends : (entries costs : List Entry) (b : ℕ) → entries ≡ with_other_signs costs → costs ≡ path_costs p.nodes n → b ≡ length p.columns → EndsBelow b entries
  row_ends entries costs b e k h =
      subst (λ c. EndsBelow c entries) (sym h) (subst (EndsBelow (length p.columns)) (sym (e ∙ ap with_other_signs k))
      (ends_below (length p.columns) (with_other_signs (path_costs p.nodes n)) (turned_each (λ j. j < length p.columns) (path_costs p.nodes n)
      (each-map (λ (e : Entry) k. passes-within (λ (c : Column). leb c.stage (node_at p.nodes n).stage) e.column p.columns k) (path_costs p.nodes n) (path_up_to p i n l)))))

  pub scaled_ends : (k : ℚ) (f r : List Entry) → f ≡ (node_at p.nodes n).cost → scaled_form_walk k f ≡ Ok r → EndsBelow (length p.columns) r
  scaled_ends k f r e h =
      subst (EndsBelow (length p.columns)) (sym (scaled_walk_is k f r h ∙ ap (scaled_form k) e))
      (ends_below (length p.columns) (scaled_form k (node_at p.nodes n).cost) (scaled_each (λ j. j < length p.columns) k (node_at p.nodes n).cost
      (each-map (λ (e : Entry) k. passes-within (λ (c : Column). eqb c.stage (node_at p.nodes n).stage) e.column p.columns k) (node_at p.nodes n).cost (i.nodes n l).cost)))

  -- ---- the way up
  pub path_starts : (f : List Entry) (count : ℕ) → f ≡ [] → count ≡ suc (node_at p.nodes n).stage → MeetApart p.nodes f count n
  path_starts f count e k = subst (λ g. MeetApart p.nodes g count n) (sym e) (subst (λ c. MeetApart p.nodes [] c n) (sym k) (path_meets_apart p i n l))

module _ (nodes : List (Option Node)) where
  pub path_first : (n : ℕ) (f : List Entry) (count : ℕ) → f ≡ [] → count ≡ suc (node_at nodes n).stage → costs_up nodes f count n ≡ path_costs nodes n
  path_first n f count e k = ap₂ (λ g c. costs_up nodes g c n) e k

  pub next_apart : (f g : List Entry) (count k at m : ℕ) → k < count → g ≡ merged (node_at nodes at).cost f → m ≡ or_root (node_at nodes at).parent → MeetApart nodes f (count - k) at → MeetApart nodes g (count - (k + 1)) m
  next_apart f g count k at m h e d a =
      let less : count - k ≡ suc (count - (k + 1)) = omega (arith, h) in
      subst (λ x. MeetApart nodes x (count - (k + 1)) m) (sym e) (subst (MeetApart nodes (merged (node_at nodes at).cost f) (count - (k + 1))) (sym d) (subst (λ c. MeetApart nodes f c at) less a).1)

  pub next_costs : (f g : List Entry) (count k at m : ℕ) (whole : List Entry) → k < count → g ≡ merged (node_at nodes at).cost f → m ≡ or_root (node_at nodes at).parent → costs_up nodes f (count - k) at ≡ whole → costs_up nodes g (count - (k + 1)) m ≡ whole
  next_costs f g count k at m whole h e d a =
      let less : count - k ≡ suc (count - (k + 1)) = omega (arith, h) in
      ap₂ (λ x y. costs_up nodes x (count - (k + 1)) y) e d ∙ sym (ap (λ c. costs_up nodes f c at) less) ∙ a

  pub next_length : (count k at m so now add whole : ℕ) → k < count → add ≡ length (node_at nodes at).cost → now ≡ so + add → m ≡ or_root (node_at nodes at).parent
      → so + length (costs_up nodes [] (count - k) at) ≡ whole → now + length (costs_up nodes [] (count - (k + 1)) m) ≡ whole
  next_length count k at m so now add whole h e d q a =
      let less : count - k ≡ suc (count - (k + 1)) = omega (arith, h) in
      let c : List Entry = (node_at nodes at).cost in
      let split : length (costs_up nodes [] (count - k) at) ≡ length (costs_up nodes (merged c []) (count - (k + 1)) (or_root (node_at nodes at).parent)) = ap (λ c. length (costs_up nodes [] c at)) less in
      let parts = up_length nodes (merged c []) (count - (k + 1)) (or_root (node_at nodes at).parent) in
      let own : length (merged c []) ≡ length c = ap length (merged_nothing c) in
      let there : length (costs_up nodes [] (count - (k + 1)) m) ≡ length (costs_up nodes [] (count - (k + 1)) (or_root (node_at nodes at).parent)) = ap (λ x. length (costs_up nodes [] (count - (k + 1)) x)) q in
      omega (arith, e, d, a, split, parts, own, there)

-- a call hands on what an error says of a walk
pub handed : {X Y : Type 0} (result : Result X ArithmeticFault) (walk : Result Y Operation) (fault : ArithmeticFault) (Q : X → Type 0) → IsErrAnd result (λ e. e ≡ fault) → FaultOf walk fault → MatchResult result Q (FaultOf walk)
handed (Ok x) walk fault Q is f = absurd is
handed (Err e) walk fault Q is f = subst (FaultOf walk) (sym is) f
