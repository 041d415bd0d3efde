-- What sums over nodes come to: columns of forms, numbers in order, and totals that aren't below 0.
use Rattle.std.proofs.Common.{◌≡◌, ℕ, zero, suc, Bool, true, false, List, [], ◌∷◌, ◌++◌, get_or, map, Result, Ok, Err, refl, sym, ap, subst, ◌∙◌}
use Rattle.std.specs.declared.cmp.Ordering.{Ordering}
use Rattle.std.specs.declared.cmp.Ordering.TheVariants.{Less, Equal, Greater}
use Rattle.std.specs.Ordering.{nat_cmp}
use Rattle.rationals.specs.declared.Op.TheVariants.{Add}
use Rattle.rationals.specs.Rational.{ℚ, zero_ℚ, ◌+ℚ◌, ◌*ℚ◌, ◌≤ℚ◌, ◌<ℚ◌, le_add_ℚ, le_refl_ℚ, le_of_same_ℚ, le_trans_ℚ, lt_le_ℚ, mul_mono_ℚ, zero_add_ℚ}
use Rattle.rationals.specs.Choices.{pick}
use Rattle.rationals.specs.Sparse.{Entry}
use Rattle.rationals.specs.Forms.{add_scaled_walk, by_order, merge_at, put, put_unless, is_zero, scaled_walk}
use Rattle.rationals.specs.Passes.{Operation, add_product_walk, add_walk, mul_walk, then_walk, then_value}
use Rattle.rationals.proofs.WalkLaws.{ended, walk_value, step_value}
use Rattle.scen_defs.specs.Lists.{Each, is_in}
use Rattle.scen_defs.specs.Program.{Scenario, Program}
use Rattle.scen_defs.specs.Walks.{total_from}
use Rattle.scen_defs.proofs.ValueLaws.{each-push}
use Rattle.scen_tree.specs.declared.position.Position.{Position}
use Rattle.scen_tree.specs.declared.position.Position.TheVariants.{Dropped, Root, Below}
use Rattle.scen_tree.specs.Chances.{Sum, Chances, gathered_from, live_sum, live_sums_from, shares_walk, totals_walk, chances_walk}
use Rattle.scen_tree.specs.Trees.{Tree, position_of, tree_by, tree_walk}
use Rattle.value_programs.specs.Mean.{mean_form, mean_number, node_by_node}

-- ---- each column of a sum of forms is one of them
module _ (Q : ℕ → Type 0) where
  abbrev pub Within : List Entry → Type 0
  Within f = Each (λ (e : Entry). Q e.column) f

  put_within : (b : Bool) (c : ℕ) (v : ℚ) (r : List Entry) → Q c → Within r → Within (put_unless b c v r)
  put_within true c v r q h = h
  put_within false c v r q h = (q, h)

  scaled_within : (w : ℚ) (g r : List Entry) → Within g → scaled_walk w g ≡ Ok r → Within r
  scaled_within w [] r h e = let same : [] ≡ r = cc in subst Within same tt
  scaled_within w (d ∷ g) r h e =
      let m = ended (mul_walk w d.value) (λ v. then_value (put d.column v) (scaled_walk w g)) r e in
      go (scaled_walk w g) refl (λ x is. scaled_within w g x h.1 is) m.result m.next_is
    where
      go : (walk : Result (List Entry) Operation) → scaled_walk w g ≡ walk → ((x : List Entry) → scaled_walk w g ≡ Ok x → Within x) → (v : ℚ) → then_value (put d.column v) walk ≡ Ok r → Within r
      go (Ok x) is again v k = let same : put d.column v x ≡ r = cc in subst Within same (put_within (is_zero v) d.column v x h.0 (again x is))
      go (Err p) is again v k = absurd (cc)

  module _ (w : ℚ) (e : Entry) (rest : List Entry → Result (List Entry) Operation) (q : Q e.column) (ih : (g r : List Entry) → Within g → rest g ≡ Ok r → Within r) where
    behind_within : (f : List Entry → List Entry) → ((x : List Entry) → Within x → Within (f x)) → (g r : List Entry) → Within g → then_value f (rest g) ≡ Ok r → Within r
    behind_within f k g r h m = go (rest g) refl m
      where
        go : (walk : Result (List Entry) Operation) → rest g ≡ walk → then_value f walk ≡ Ok r → Within r
        go (Ok x) is m = let same : f x ≡ r = cc in subst Within same (k x (ih g x h is))
        go (Err p) is m = absurd (cc)

    merge_within : (g r : List Entry) → Within g → merge_at w e rest g ≡ Ok r → Within r
    merge_within [] r h m = behind_within (λ r. e ∷ r) (λ x k. (q, k)) [] r h m
    merge_within (d ∷ g) r h m = go (nat_cmp e.column d.column) m (merge_within g)
      where
        go : (o : Ordering)
            → by_order o (then_value (λ r. e ∷ r) (rest (d ∷ g))) (then_walk (add_product_walk e.value w d.value) (λ v. then_value (put e.column v) (rest g))) (then_walk (mul_walk w d.value) (λ v. then_value (put d.column v) (merge_at w e rest g))) ≡ Ok r
            → ((r : List Entry) → Within g → merge_at w e rest g ≡ Ok r → Within r) → Within r
        go Less m again = behind_within (λ r. e ∷ r) (λ x k. (q, k)) (d ∷ g) r h m
        go Equal m again =
            let s = ended (add_product_walk e.value w d.value) (λ v. then_value (put e.column v) (rest g)) r m in
            behind_within (put e.column s.result) (λ x k. put_within (is_zero s.result) e.column s.result x q k) g r h.1 s.next_is
        go Greater m again =
            let s = ended (mul_walk w d.value) (λ v. then_value (put d.column v) (merge_at w e rest g)) r m in
            last (merge_at w e rest g) refl s.result s.next_is
          where
            last : (walk : Result (List Entry) Operation) → merge_at w e rest g ≡ walk → (v : ℚ) → then_value (put d.column v) walk ≡ Ok r → Within r
            last (Ok x) is v k = let same : put d.column v x ≡ r = cc in subst Within same (put_within (is_zero v) d.column v x h.0 (again x h.1 is))
            last (Err p) is v k = absurd (cc)

  sum_within : (f : List Entry) (w : ℚ) (g r : List Entry) → Within f → Within g → add_scaled_walk f w g ≡ Ok r → Within r
  sum_within [] w g r a b e = scaled_within w g r b e
  sum_within (e ∷ f) w g r a b h = merge_within w e (add_scaled_walk f w) a.0 (λ g r k m. sum_within f w g r a.1 k m) g r b h

  forms_within : (w : ℕ → ℚ) (form : ℕ → List Entry) (ns : List ℕ) (sum r : List Entry) → Each (λ n. Within (form n)) ns → Within sum
      → node_by_node (λ sum n. add_scaled_walk sum (w n) (form n)) sum ns ≡ Ok r → Within r
  forms_within w form [] sum r h a e = let same : sum ≡ r = cc in subst Within same a
  forms_within w form (n ∷ ns) sum r h a e =
      let m = ended (add_scaled_walk sum (w n) (form n)) (λ y. node_by_node (λ sum n. add_scaled_walk sum (w n) (form n)) y ns) r e in
      forms_within w form ns m.result r h.1 (sum_within sum (w n) (form n) m.result a h.0 m.first_is) m.next_is

  pub mean_within : (w : ℕ → ℚ) (form : ℕ → List Entry) (ns : List ℕ) (r : List Entry) → Each (λ n. Within (form n)) ns → mean_form w form ns ≡ Ok r → Within r
  mean_within w form ns r h e = forms_within w form ns [] r h tt e

-- ---- sums of numbers in order are in order
module _ (w low high : ℕ → ℚ) where
  numbers_ordered : (ns : List ℕ) (a b l h : ℚ) → Each (λ n. (zero_ℚ ≤ℚ w n) × (low n ≤ℚ high n)) ns → a ≤ℚ b
      → node_by_node (λ sum n. add_product_walk sum (w n) (low n)) a ns ≡ Ok l → node_by_node (λ sum n. add_product_walk sum (w n) (high n)) b ns ≡ Ok h → l ≤ℚ h
  numbers_ordered [] a b l h each le e k = let one : a ≡ l = cc in let two : b ≡ h = cc in le_trans_ℚ (le_of_same_ℚ (sym one)) (le_trans_ℚ le (le_of_same_ℚ two))
  numbers_ordered (n ∷ ns) a b l h each le e k =
      let x = ended (add_product_walk a (w n) (low n)) (λ y. node_by_node (λ sum n. add_product_walk sum (w n) (low n)) y ns) l e in
      let y = ended (add_product_walk b (w n) (high n)) (λ y. node_by_node (λ sum n. add_product_walk sum (w n) (high n)) y ns) h k in
      let first : x.result ≡ a +ℚ w n *ℚ low n = step_value Add a (w n) (low n) x.result x.first_is in
      let second : y.result ≡ b +ℚ w n *ℚ high n = step_value Add b (w n) (high n) y.result y.first_is in
      numbers_ordered ns x.result y.result l h each.1
      (le_trans_ℚ (le_of_same_ℚ first) (le_trans_ℚ (le_add_ℚ a b (w n *ℚ low n) (w n *ℚ high n) le (mul_mono_ℚ each.0.0 each.0.1)) (le_of_same_ℚ (sym second))))
      x.next_is y.next_is

  pub means_ordered : (ns : List ℕ) (l h : ℚ) → Each (λ n. (zero_ℚ ≤ℚ w n) × (low n ≤ℚ high n)) ns → mean_number w low ns ≡ Ok l → mean_number w high ns ≡ Ok h → l ≤ℚ h
  means_ordered ns l h each e k = numbers_ordered ns zero_ℚ zero_ℚ l h each (le_refl_ℚ zero_ℚ) e k

-- ---- no total is below 0
total_nonneg : (n : ℕ) (cs : List Scenario) (s v : ℚ) → Each (λ (c : Scenario). zero_ℚ <ℚ c.probability) cs → zero_ℚ ≤ℚ s → total_from n s cs ≡ Ok v → zero_ℚ ≤ℚ v
total_nonneg n [] s v each le e = let same : s ≡ v = cc in le_trans_ℚ le (le_of_same_ℚ same)
total_nonneg n (c ∷ cs) s v each le e = go (is_in n c.path) (λ t below k. total_nonneg n cs t v each.1 below k) e
  where
    go : (b : Bool) → ((t : ℚ) → zero_ℚ ≤ℚ t → total_from n t cs ≡ Ok v → zero_ℚ ≤ℚ v) → pick b (then_walk (add_walk s c.probability) (λ t. total_from n t cs)) (total_from n s cs) ≡ Ok v → zero_ℚ ≤ℚ v
    go true again e =
        let x = ended (add_walk s c.probability) (λ t. total_from n t cs) v e in
        let is : x.result ≡ s +ℚ c.probability = walk_value Add s c.probability x.result x.first_is in
        again x.result
        (le_trans_ℚ (le_of_same_ℚ (sym (zero_add_ℚ zero_ℚ))) (le_trans_ℚ (le_add_ℚ zero_ℚ s zero_ℚ c.probability le (lt_le_ℚ each.0)) (le_of_same_ℚ (sym is)))) x.next_is
    go false again e = again s le e

sums_nonneg : (n : ℕ) (positions : List Position) (cs : List Scenario) → Each (λ (c : Scenario). zero_ℚ <ℚ c.probability) cs
    → Each (λ (sum : Sum). (v : ℚ) → sum ≡ Ok v → zero_ℚ ≤ℚ v) (live_sums_from n positions cs)
sums_nonneg n [] cs each = tt
sums_nonneg n (position ∷ positions) cs each = (go position, sums_nonneg (suc n) positions cs each)
  where
    go : (position : Position) (v : ℚ) → live_sum position (total_from n zero_ℚ cs) ≡ Ok v → zero_ℚ ≤ℚ v
    go Dropped v e = let same : zero_ℚ ≡ v = cc in le_of_same_ℚ same
    go Root v e = total_nonneg n cs zero_ℚ v each (le_refl_ℚ zero_ℚ) e
    go (Below m) v e = total_nonneg n cs zero_ℚ v each (le_refl_ℚ zero_ℚ) e

gathered_nonneg : (built : List ℚ) (sums : List Sum) (all : List ℚ) → Each (λ v. zero_ℚ ≤ℚ v) built → Each (λ (sum : Sum). (v : ℚ) → sum ≡ Ok v → zero_ℚ ≤ℚ v) sums
    → gathered_from built sums ≡ Ok all → Each (λ v. zero_ℚ ≤ℚ v) all
gathered_nonneg built [] all b each e = let same : built ≡ all = cc in subst (Each (λ v. zero_ℚ ≤ℚ v)) same b
gathered_nonneg built (sum ∷ sums) all b each e =
    let x = ended sum (λ value. gathered_from (built ++ value ∷ []) sums) all e in
    gathered_nonneg (built ++ x.result ∷ []) sums all (each-push (λ v. zero_ℚ ≤ℚ v) built x.result b (each.0 x.result x.first_is)) each.1 x.next_is

each_get : (vs : List ℚ) (n : ℕ) → Each (λ v. zero_ℚ ≤ℚ v) vs → zero_ℚ ≤ℚ get_or vs n zero_ℚ
each_get [] n h = le_refl_ℚ zero_ℚ
each_get (v ∷ vs) zero h = h.0
each_get (v ∷ vs) (suc n) h = each_get vs n h.1

pub totals_nonneg : (p : Program) (tree : Tree) → tree_walk p ≡ Ok tree → Each (λ (c : Scenario). zero_ℚ <ℚ c.probability) p.scenarios → (n : ℕ) → zero_ℚ ≤ℚ get_or tree.chances.totals n zero_ℚ
totals_nonneg p tree e each n =
    let positions : List Position = map position_of p.nodes in
    let all = ended (chances_walk positions p.scenarios) (λ chances. Ok (tree_by positions chances)) tree e in
    let made : tree_by positions all.result ≡ tree = made_is (tree_by positions all.result) all.next_is in
    let first = ended (totals_walk positions p.scenarios)
    (λ totals. then_walk (shares_walk totals positions) (λ shares. let c : Chances = record { totals = totals; shares = shares } in Ok c)) all.result all.first_is in
    let next = ended (shares_walk first.result positions) (λ shares. let c : Chances = record { totals = first.result; shares = shares } in Ok c) all.result first.next_is in
    let is : (let c : Chances = record { totals = first.result; shares = next.result } in c) ≡ all.result = chances_is _ _ next.next_is in
    let totals : first.result ≡ tree.chances.totals = ap (λ (c : Chances). c.totals) is ∙ ap (λ (t : Tree). t.chances.totals) made in
    subst (λ (vs : List ℚ). zero_ℚ ≤ℚ get_or vs n zero_ℚ) totals
    (each_get first.result n (gathered_nonneg [] (live_sums_from 0 positions p.scenarios) first.result tt (sums_nonneg 0 positions p.scenarios each) first.first_is))
  where
    made_is : (t : Tree) → (let r : Result Tree Operation = Ok t in r) ≡ Ok tree → t ≡ tree
    made_is t e = cc

    chances_is : (a b : Chances) → (let r : Result Chances Operation = Ok a in r) ≡ Ok b → a ≡ b
    chances_is a b e = cc
