-- The walks of lines are linear.
use Rattle.std.proofs.Common.{◌≡◌, ℕ, Bool, true, false, List, [], ◌∷◌, ◌++◌, Ok, ltb, refl, sym, ap, ◌∙◌, arith}
use Rattle.std.proofs.lemmas.Bool.{ltb-false}
use Rattle.rationals.specs.declared.Op.TheVariants.{Sub}
use Rattle.rationals.specs.Passes.{then_walk, less_product_walk, div_walk}
use Rattle.rationals.proofs.WalkLaws.{step_value}
use Rattle.rationals.specs.Rational.{ℚ, zero_ℚ, one_ℚ, ◌+ℚ◌, ◌-ℚ◌, ◌*ℚ◌, neg_ℚ, inv_ℚ, by_ring, by_eqs, terms}
use Rattle.rationals.specs.Ring.Eqs.{done, by_eq}
use Rattle.rationals.specs.Sums.{sum-append}
use Rattle.lp_defs.specs.Tests.{is_zero, is_zero_true}
use Rattle.lp_defs.specs.Walks.{Walk, after_ok, div_walk_is}
use Rattle.rationals.specs.Sparse.{Entry, product}
use Rattle.lp_defs.specs.Lines.{Line, keep, less_right, less_meet, less_entries, cleared_form, cleared_by, divided_entries, divided}
use Rattle.lp_defs.specs.Linear.{FormLess, Less, Times}

pub product-append : (f g : List Entry) (x : ℕ → ℚ) → product (f ++ g) x ≡ product f x +ℚ product g x
product-append f g x = sum-append (λ (e : Entry). e.value *ℚ x e.column) f g

product-one : (e : Entry) (f : List Entry) (x : ℕ → ℚ) → product (f ++ e ∷ []) x ≡ product f x +ℚ e.value *ℚ x e.column
product-one e f x = product-append f (e ∷ []) x ∙ by_ring (product f x ∷ e.value ∷ x e.column ∷ []) (search terms depth 40) tt

product-keep : (f : List Entry) (j : ℕ) (v : ℚ) (x : ℕ → ℚ) → product (keep f j v) x ≡ product f x +ℚ v *ℚ x j
product-keep f j v x = go (is_zero v) refl
  where
    go : (b : Bool) → is_zero v ≡ b → product (elim b [ true ↦ f | false ↦ f ++ record { column = j; value = v } ∷ [] ]) x ≡ product f x +ℚ v *ℚ x j
    go true e = by_eqs (product f x ∷ v ∷ x j ∷ []) (by_eq (neg_ℚ (x j)) (is_zero_true v e) done) (search terms depth 40) tt
    go false e = product-one (record { column = j; value = v }) f x

less_is : (f x y v : ℚ) → less_product_walk x f y ≡ Ok v → v ≡ x -ℚ f *ℚ y
less_is f x y v e = step_value Sub x f y v e

right_is : (f : ℚ) (ys d v : List Entry) (x : ℕ → ℚ) → less_right f ys d ≡ Ok v → product v x ≡ product d x +ℚ (zero_ℚ -ℚ f *ℚ product ys x)
right_is f [] d v x e = let h : v ≡ d = cc in ap (λ (l : List Entry). product l x) h ∙ by_ring (product d x ∷ f ∷ []) (search terms depth 40) tt
right_is f (y ∷ ys) d v x e =
    let u = after_ok (less_product_walk zero_ℚ f y.value) (λ w. less_right f ys (keep d y.column w)) v e in
    let h : product v x ≡ product (keep d y.column u.0) x +ℚ (zero_ℚ -ℚ f *ℚ product ys x) = right_is f ys (keep d y.column u.0) v x u.2 in
    let k : product (keep d y.column u.0) x ≡ product d x +ℚ u.0 *ℚ x y.column = product-keep d y.column u.0 x in
    let l : u.0 ≡ zero_ℚ -ℚ f *ℚ y.value = less_is f zero_ℚ y.value u.0 u.1 in
    by_eqs (product v x ∷ product (keep d y.column u.0) x ∷ product d x ∷ u.0 ∷ f ∷ y.value ∷ x y.column ∷ product ys x ∷ [])
    (by_eq one_ℚ h (by_eq one_ℚ k (by_eq (x y.column) l done))) (search terms depth 40) tt

-- what is left to do with the rest of a row gives this much more
abbrev Adds : ℚ → ℚ → (ℕ → ℚ) → (List Entry → List Entry → Walk (List Entry)) → Type 0
Adds f rest x next = (ys d v : List Entry) → next ys d ≡ Ok v → product v x ≡ product d x +ℚ (rest -ℚ f *ℚ product ys x)

step_left : (pv pd d a xc rest f py : ℚ) → pv ≡ pd +ℚ (rest -ℚ f *ℚ py) → pd ≡ d +ℚ a *ℚ xc → pv ≡ d +ℚ ((a *ℚ xc +ℚ rest) -ℚ f *ℚ py)
step_left pv pd d a xc rest f py h k = by_eqs (pv ∷ pd ∷ d ∷ a ∷ xc ∷ rest ∷ f ∷ py ∷ []) (by_eq one_ℚ h (by_eq one_ℚ k done)) (search terms depth 40) tt

step_right : (pv pd d w yc whole f b py : ℚ) → pv ≡ pd +ℚ (whole -ℚ f *ℚ py) → pd ≡ d +ℚ w *ℚ yc → w ≡ zero_ℚ -ℚ f *ℚ b → pv ≡ d +ℚ (whole -ℚ f *ℚ (b *ℚ yc +ℚ py))
step_right pv pd d w yc whole f b py h k l = by_eqs (pv ∷ pd ∷ d ∷ w ∷ yc ∷ whole ∷ f ∷ b ∷ py ∷ []) (by_eq one_ℚ h (by_eq one_ℚ k (by_eq yc l done))) (search terms depth 40) tt

step_both : (pv pd d w xc a rest f b py : ℚ) → pv ≡ pd +ℚ (rest -ℚ f *ℚ py) → pd ≡ d +ℚ w *ℚ xc → w ≡ a -ℚ f *ℚ b → pv ≡ d +ℚ ((a *ℚ xc +ℚ rest) -ℚ f *ℚ (b *ℚ xc +ℚ py))
step_both pv pd d w xc a rest f b py h k l = by_eqs (pv ∷ pd ∷ d ∷ w ∷ xc ∷ a ∷ rest ∷ f ∷ b ∷ py ∷ []) (by_eq one_ℚ h (by_eq one_ℚ k (by_eq xc l done))) (search terms depth 40) tt

meet_is : (f : ℚ) (a : Entry) (next : List Entry → List Entry → Walk (List Entry)) (rest : ℚ) (x : ℕ → ℚ) → Adds f rest x next → Adds f (a.value *ℚ x a.column +ℚ rest) x (less_meet f a next)
meet_is f a next rest x g [] d v e =
    step_left (product v x) (product (d ++ a ∷ []) x) (product d x) a.value (x a.column) rest f zero_ℚ (g [] (d ++ a ∷ []) v e) (product-one a d x)
meet_is f a next rest x g (y ∷ ys) d v e = go (ltb a.column y.column) refl (ltb y.column a.column) refl e (meet_is f a next rest x g ys)
  where
    go : (b : Bool) → ltb a.column y.column ≡ b → (c : Bool) → ltb y.column a.column ≡ c
        → ◌≡◌ {A = Walk (List Entry)} (elim b [
          | true ↦ next (y ∷ ys) (d ++ a ∷ [])
          | false ↦ elim c [
            | true ↦ then_walk (less_product_walk zero_ℚ f y.value) (λ v. less_meet f a next ys (keep d y.column v))
            | false ↦ then_walk (less_product_walk a.value f y.value) (λ v. next ys (keep d a.column v))
          ]
        ]) (Ok v)
        → ((d v : List Entry) → less_meet f a next ys d ≡ Ok v → product v x ≡ product d x +ℚ ((a.value *ℚ x a.column +ℚ rest) -ℚ f *ℚ product ys x))
        → product v x ≡ product d x +ℚ ((a.value *ℚ x a.column +ℚ rest) -ℚ f *ℚ (y.value *ℚ x y.column +ℚ product ys x))
    go true p c q e ih = step_left (product v x) (product (d ++ a ∷ []) x) (product d x) a.value (x a.column) rest f (y.value *ℚ x y.column +ℚ product ys x) (g (y ∷ ys) (d ++ a ∷ []) v e) (product-one a d x)
    go false p true q e ih =
        let u = after_ok (less_product_walk zero_ℚ f y.value) (λ w. less_meet f a next ys (keep d y.column w)) v e in
        step_right (product v x) (product (keep d y.column u.0) x) (product d x) u.0 (x y.column) (a.value *ℚ x a.column +ℚ rest) f y.value (product ys x)
        (ih (keep d y.column u.0) v u.2) (product-keep d y.column u.0 x) (less_is f zero_ℚ y.value u.0 u.1)
    go false p false q e ih =
        let u = after_ok (less_product_walk a.value f y.value) (λ w. next ys (keep d a.column w)) v e in
        let same : a.column ≡ y.column = omega (arith, ltb-false a.column y.column p, ltb-false y.column a.column q) in
        rw (← same) (step_both (product v x) (product (keep d a.column u.0) x) (product d x) u.0 (x a.column) a.value rest f y.value (product ys x)
        (g ys (keep d a.column u.0) v u.2) (product-keep d a.column u.0 x) (less_is f a.value y.value u.0 u.1))

pub less_entries_is : (f : ℚ) (xs : List Entry) (x : ℕ → ℚ) → Adds f (product xs x) x (less_entries f xs)
less_entries_is f [] x ys d v e = right_is f ys d v x e
less_entries_is f (a ∷ xs) x ys d v e = meet_is f a (less_entries f xs) (product xs x) x (less_entries_is f xs x) ys d v e

pub cleared_form_is : (f : ℚ) (pivot form new : List Entry) → cleared_form f pivot form ≡ Ok new → FormLess f form pivot new
cleared_form_is f pivot form new e x = go (is_zero f) refl e
  where
    go : (b : Bool) → is_zero f ≡ b → ◌≡◌ {A = Walk (List Entry)} (elim b [ true ↦ Ok form | false ↦ less_entries f form pivot [] ]) (Ok new) → product new x ≡ product form x -ℚ f *ℚ product pivot x
    go true z e =
        let h : form ≡ new = cc in
        ap (λ (l : List Entry). product l x) (sym h) ∙ by_eqs (product form x ∷ product pivot x ∷ f ∷ []) (by_eq (product pivot x) (is_zero_true f z) done) (search terms depth 40) tt
    go false z e = less_entries_is f form x pivot [] new e ∙ by_ring (product form x ∷ product pivot x ∷ f ∷ []) (search terms depth 40) tt

pub cleared_is : (f : ℚ) (pivot line new : Line) → cleared_by f pivot line ≡ Ok new → Less f line pivot new
cleared_is f pivot line new e = go (is_zero f) refl e
  where
    go : (b : Bool) → is_zero f ≡ b → ◌≡◌ {A = Walk Line} (elim b [
      | true ↦ Ok line
      | false ↦ then_walk (less_entries f line.entries pivot.entries []) (λ entries. then_walk (less_product_walk line.right f pivot.right) (λ right. Ok (record { entries = entries; right = right })))
    ]) (Ok new) → Less f line pivot new
    go true z e =
        let h : line ≡ new = cc in
        let k : f ≡ zero_ℚ = is_zero_true f z in
        record {
          entries = λ x. ap (λ (l : Line). product l.entries x) (sym h) ∙ by_eqs (product line.entries x ∷ product pivot.entries x ∷ f ∷ []) (by_eq (product pivot.entries x) k done) (search terms depth 40) tt;
          right = ap (λ (l : Line). l.right) (sym h) ∙ by_eqs (line.right ∷ pivot.right ∷ f ∷ []) (by_eq pivot.right k done) (search terms depth 40) tt;
        }
    go false z e =
        let u = after_ok (less_entries f line.entries pivot.entries []) (λ entries. then_walk (less_product_walk line.right f pivot.right) (λ right. Ok (record { entries = entries; right = right }))) new e in
        let w = after_ok (less_product_walk line.right f pivot.right) (λ right. Ok (record { entries = u.0; right = right })) new u.2 in
        let h : record { entries = u.0; right = w.0 } ≡ new = cc in
        record {
          entries = λ x. ap (λ (l : Line). product l.entries x) (sym h) ∙ less_entries_is f line.entries x pivot.entries [] u.0 u.1 ∙ by_ring (product line.entries x ∷ product pivot.entries x ∷ f ∷ []) (search terms depth 40) tt;
          right = ap (λ (l : Line). l.right) (sym h) ∙ less_is f line.right pivot.right w.0 w.1;
        }

divided_entries_is : (a : ℚ) (xs d v : List Entry) (x : ℕ → ℚ) → divided_entries a xs d ≡ Ok v → product v x ≡ product d x +ℚ inv_ℚ a *ℚ product xs x
divided_entries_is a [] d v x e = let h : v ≡ d = cc in ap (λ (l : List Entry). product l x) h ∙ by_ring (product d x ∷ inv_ℚ a ∷ []) (search terms depth 40) tt
divided_entries_is a (t ∷ xs) d v x e =
    let u = after_ok (div_walk t.value a) (λ w. divided_entries a xs (d ++ record { column = t.column; value = w } ∷ [])) v e in
    let h = divided_entries_is a xs (d ++ record { column = t.column; value = u.0 } ∷ []) v x u.2 in
    let k = product-one (record { column = t.column; value = u.0 }) d x in
    let l : u.0 ≡ t.value *ℚ inv_ℚ a = div_walk_is t.value a u.0 u.1 in
    by_eqs (product v x ∷ product (d ++ record { column = t.column; value = u.0 } ∷ []) x ∷ product d x ∷ u.0 ∷ t.value ∷ inv_ℚ a ∷ x t.column ∷ product xs x ∷ [])
    (by_eq one_ℚ h (by_eq one_ℚ k (by_eq (x t.column) l done))) (search terms depth 40) tt

pub divided_is : (a : ℚ) (line new : Line) → divided a line ≡ Ok new → Times (inv_ℚ a) line new
divided_is a line new e =
    let u = after_ok (divided_entries a line.entries []) (λ entries. then_walk (div_walk line.right a) (λ right. Ok (record { entries = entries; right = right }))) new e in
    let w = after_ok (div_walk line.right a) (λ right. Ok (record { entries = u.0; right = right })) new u.2 in
    let h : record { entries = u.0; right = w.0 } ≡ new = cc in
    record {
      entries = λ x. ap (λ (l : Line). product l.entries x) (sym h) ∙ divided_entries_is a line.entries [] u.0 x u.1 ∙ by_ring (product line.entries x ∷ inv_ℚ a ∷ []) (search terms depth 40) tt;
      right = ap (λ (l : Line). l.right) (sym h) ∙ div_walk_is line.right a w.0 w.1 ∙ by_ring (line.right ∷ inv_ℚ a ∷ []) (search terms depth 40) tt;
    }
