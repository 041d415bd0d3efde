-- The costs along a path of a program: what columns they have, and that no two nodes share one.
use Rattle.std.proofs.Common.{◌≡◌, ℕ, zero, suc, ◌+◌, ◌<◌, ◌≤◌, Bool, true, eqb, leb, ltb, List, [], ◌∷◌, length, Option, Some, None, refl, sym, subst, arith, eqb-true}
use Rattle.std.proofs.lemmas.Bool.{ltb-true, lt-ltb, le-leb}
use Rattle.rationals.specs.Rational.{ℚ, neg_ℚ, ◌+ℚ◌, by_eqs, terms, one_ℚ, add_zero_ℚ}
use Rattle.rationals.specs.Ring.Eqs.{done, by_eq}
use Rattle.rationals.specs.Sparse.{Entry, product}
use Rattle.scen_defs.specs.Lists.{Each, passes_at}
use Rattle.scen_defs.specs.declared.program.Column.{Column}
use Rattle.scen_defs.specs.Program.{Node, Program, node_at, or_root}
use Rattle.scen_defs.specs.Valid.{Lives, HasParent, IsProgram}
use Rattle.scen_defs.proofs.SumLaws.{each-map}
use Rattle.scen_defs.proofs.Subtrees.{no}
use Rattle.tail_risk.specs.TailRow.{merged, costs_up, path_costs}
use Rattle.tail_risk.specs.Paths.{HaveNoCommonColumn, MeetApart}
use Rattle.tail_risk.proofs.Merges.{merged_each, merged_length, merged_product}

-- ---- a column that passes one test and another
pub passes_both : {A : Type 0} (one other : A → Bool) (j : ℕ) (xs : List A) → ((x : A) → one x ≡ true → other x ≡ true) → passes_at one j xs ≡ true → passes_at other j xs ≡ true
passes_both one other j [] h k = absurd (no refl k)
passes_both one other zero (x ∷ xs) h k = h x k
passes_both one other (suc j) (x ∷ xs) h k = passes_both one other j xs h k

passes_never : {A : Type 0} (one other : A → Bool) (j : ℕ) (xs : List A) → ((x : A) → one x ≡ true → other x ≡ true → ⊥) → passes_at one j xs ≡ true → passes_at other j xs ≡ true → ⊥
passes_never one other j [] h k l = no refl k
passes_never one other zero (x ∷ xs) h k l = h x k l
passes_never one other (suc j) (x ∷ xs) h k l = passes_never one other j xs h k l

-- ---- upwards from a node
pub record Above (p : Program) (n m : ℕ) : Type 0 where
  pub live : Lives p m
  pub stage : (node_at p.nodes n).stage ≡ suc (node_at p.nodes m).stage

-- a node that isn't of the first stage has one above it
pub above_of : (p : Program) → IsProgram p → (n : ℕ) → Lives p n → 0 < (node_at p.nodes n).stage → Above p n (or_root (node_at p.nodes n).parent)
above_of p i n l h = go (node_at p.nodes n).parent (i.nodes n l).parent
  where
    go : (parent : Option ℕ) → HasParent p n (node_at p.nodes n).stage parent → Above p n (or_root parent)
    go None k = absurd (let e : (node_at p.nodes n).stage ≡ 0 = k.1 in omega (arith, e, h))
    go (Some m) k = record { live = k.live; stage = k.earlier }

-- ---- entries of columns of later stages, and of stages up to one
abbrev pub IsLater : Program → ℕ → Entry → Type 0
IsLater p s e = passes_at (λ (c : Column). ltb s c.stage) e.column p.columns ≡ true

abbrev pub IsUpTo : Program → ℕ → Entry → Type 0
IsUpTo p s e = passes_at (λ (c : Column). leb c.stage s) e.column p.columns ≡ true

module _ (p : Program) (i : IsProgram p) where
  abbrev cost : ℕ → List Entry
  cost n = (node_at p.nodes n).cost

  abbrev stage : ℕ → ℕ
  stage n = (node_at p.nodes n).stage

  cost_later : (n s : ℕ) → Lives p n → s < stage n → Each (IsLater p s) (cost n)
  cost_later n s l h = each-map (λ e k. passes_both (λ (c : Column). eqb c.stage (stage n)) (λ (c : Column). ltb s c.stage) e.column p.columns
      (λ c q. lt-ltb s c.stage (let d : c.stage ≡ stage n = eqb-true c.stage (stage n) q in omega (arith, d, h))) k) (cost n) (i.nodes n l).cost

  cost_up_to : (n s : ℕ) → Lives p n → stage n ≤ s → Each (IsUpTo p s) (cost n)
  cost_up_to n s l h = each-map (λ e k. passes_both (λ (c : Column). eqb c.stage (stage n)) (λ (c : Column). leb c.stage s) e.column p.columns
      (λ c q. le-leb c.stage s (let d : c.stage ≡ stage n = eqb-true c.stage (stage n) q in omega (arith, d, h))) k) (cost n) (i.nodes n l).cost

  later_earlier : (s t : ℕ) → t ≤ s → (f : List Entry) → Each (IsLater p s) f → Each (IsLater p t) f
  later_earlier s t h f k = each-map (λ e q. passes_both (λ (c : Column). ltb s c.stage) (λ (c : Column). ltb t c.stage) e.column p.columns
      (λ c r. lt-ltb t c.stage (let d : s < c.stage = ltb-true s c.stage r in omega (arith, d, h))) q) f k

  none_common : (n : ℕ) → Lives p n → (f : List Entry) → Each (IsLater p (stage n)) f → HaveNoCommonColumn (cost n) f
  none_common n l f h = each-map (λ e k. each-map (λ d q same. passes_never (λ (c : Column). eqb c.stage (stage n)) (λ (c : Column). ltb (stage n) c.stage) e.column p.columns
      (λ c a b. let x : c.stage ≡ stage n = eqb-true c.stage (stage n) a in let y : stage n < c.stage = ltb-true (stage n) c.stage b in omega (arith, x, y)) k
      (subst (λ (j : ℕ). passes_at (λ (c : Column). ltb (stage n) c.stage) j p.columns ≡ true) same q)) f h) (cost n) (i.nodes n l).cost

  meet_apart : (count n : ℕ) (f : List Entry) → Lives p n → count ≤ suc (stage n) → Each (IsLater p (stage n)) f → MeetApart p.nodes f count n
  meet_apart zero n f l h k = tt
  meet_apart (suc zero) n f l h k = (none_common n l f k, tt)
  meet_apart (suc (suc count)) n f l h k =
      let m : ℕ = or_root (node_at p.nodes n).parent in
      let a : Above p n m = above_of p i n l (omega (arith, h)) in
      let s = a.stage in (
        none_common n l f k,
        meet_apart (suc count) m (merged (cost n) f) a.live (omega (arith, h, s))
            (merged_each (IsLater p (stage m)) (cost n) f (cost_later n (stage m) l (omega (arith, s))) (later_earlier (stage n) (stage m) (omega (arith, s)) f k)),
      )

  -- no two nodes of a path share a column
  pub path_meets_apart : (n : ℕ) → Lives p n → MeetApart p.nodes [] (suc (stage n)) n
  path_meets_apart n l = meet_apart (suc (stage n)) n [] l (omega arith) tt

  up_to : (s count n : ℕ) (f : List Entry) → Lives p n → count ≤ suc (stage n) → stage n ≤ s → Each (IsUpTo p s) f → Each (IsUpTo p s) (costs_up p.nodes f count n)
  up_to s zero n f l h t k = k
  up_to s (suc zero) n f l h t k = merged_each (IsUpTo p s) (cost n) f (cost_up_to n s l t) k
  up_to s (suc (suc count)) n f l h t k =
      let m : ℕ = or_root (node_at p.nodes n).parent in
      let a : Above p n m = above_of p i n l (omega (arith, h)) in
      let q = a.stage in
      up_to s (suc count) m (merged (cost n) f) a.live (omega (arith, h, q)) (omega (arith, t, q)) (merged_each (IsUpTo p s) (cost n) f (cost_up_to n s l t) k)

  -- its columns are of its stages
  pub path_up_to : (n : ℕ) → Lives p n → Each (IsUpTo p (stage n)) (path_costs p.nodes n)
  path_up_to n l = up_to (stage n) (suc (stage n)) n [] l (omega arith) (omega arith) tt

-- ---- length and product of what is gathered
pub up_length : (nodes : List (Option Node)) (f : List Entry) (count n : ℕ) → length (costs_up nodes f count n) ≡ length f + length (costs_up nodes [] count n)
up_length nodes f zero n = let e : length f ≡ length f + 0 = omega arith in e
up_length nodes f (suc count) n =
    let c : List Entry = (node_at nodes n).cost in
    let m : ℕ = or_root (node_at nodes n).parent in
    let a = up_length nodes (merged c f) count m in
    let b = up_length nodes (merged c []) count m in
    let d = merged_length c f in
    let e = merged_length c [] in
    let g : length (merged c []) ≡ length c + 0 = e in
    omega (arith, a, b, d, g)

pub up_product : (nodes : List (Option Node)) (x : ℕ → ℚ) (f : List Entry) (count n : ℕ) → product (costs_up nodes f count n) x ≡ product f x +ℚ product (costs_up nodes [] count n) x
up_product nodes x f zero n = sym (add_zero_ℚ (product f x))
up_product nodes x f (suc count) n =
    let c : List Entry = (node_at nodes n).cost in
    let m : ℕ = or_root (node_at nodes n).parent in
    by_eqs (product f x ∷ product c x ∷ product (costs_up nodes [] count m) x ∷ product (merged c f) x ∷ product (merged c []) x ∷ product (costs_up nodes (merged c f) count m) x ∷ product (costs_up nodes (merged c []) count m) x ∷ [])
    (by_eq one_ℚ (up_product nodes x (merged c f) count m) (by_eq (neg_ℚ one_ℚ) (up_product nodes x (merged c []) count m) (by_eq one_ℚ (merged_product x c f) (by_eq (neg_ℚ one_ℚ) (merged_product x c []) done)))) (search terms depth 60) tt
