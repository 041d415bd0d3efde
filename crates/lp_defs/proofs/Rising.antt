-- Lines stay in rising order of columns.
use Rattle.std.proofs.Common.{◌≡◌, ℕ, suc, ◌<◌, ◌≤◌, Bool, true, false, List, [], ◌∷◌, ◌++◌, Ok, ltb, refl, sym, ◌∙◌, subst, arith}
use Rattle.std.proofs.lemmas.List.{append-nil, append_assoc}
use Rattle.std.proofs.lemmas.Bool.{ltb-true, ltb-false}
use Rattle.rationals.specs.Passes.{then_walk, less_product_walk, div_walk}
use Rattle.rationals.specs.Rational.{ℚ, zero_ℚ}
use Rattle.lp_defs.specs.Tests.{is_zero}
use Rattle.lp_defs.specs.Walks.{Walk, after_ok}
use Rattle.rationals.specs.Sparse.{Entry, Ascending}
use Rattle.lp_defs.specs.Lines.{Line, keep, less_right, less_meet, less_entries, cleared_form, cleared_by, divided_entries, divided}

weaker : (m n : ℕ) (f : List Entry) → n ≤ m → Ascending m f → Ascending n f
weaker m n [] h r = tt
weaker m n (t ∷ f) h r = (let k : m ≤ t.column = r.0 in omega arith, r.1)

-- one term less
without : (m : ℕ) (d : List Entry) (x : Entry) (f : List Entry) → Ascending m (d ++ x ∷ f) → Ascending m (d ++ f)
without m [] x f r = weaker (suc x.column) m f (let k : m ≤ x.column = r.0 in omega arith) r.1
without m (t ∷ d) x f r = (r.0, without (suc t.column) d x f r.1)

-- a smaller column comes between
between : (m : ℕ) (d : List Entry) (x y : Entry) (f g : List Entry) → x.column < y.column → Ascending m (d ++ x ∷ f) → Ascending m (d ++ y ∷ g) → Ascending m (d ++ x ∷ y ∷ g)
between m [] x y f g h r s = (r.0, (h, s.1))
between m (t ∷ d) x y f g h r s = (r.0, between (suc t.column) d x y f g h r.1 s.1)

-- another value
revalued : (m : ℕ) (d : List Entry) (x : Entry) (v : ℚ) (f : List Entry) → Ascending m (d ++ x ∷ f) → Ascending m (d ++ record { column = x.column; value = v } ∷ f)
revalued m [] x v f r = r
revalued m (t ∷ d) x v f r = (r.0, revalued (suc t.column) d x v f r.1)

-- the same column in place of the other
moved : (m : ℕ) (d : List Entry) (x y : Entry) (f : List Entry) → x.column ≡ y.column → Ascending m (d ++ y ∷ f) → Ascending m (d ++ x ∷ f)
moved m [] x y f e r = (let k : m ≤ y.column = r.0 in omega arith, weaker (suc y.column) (suc x.column) f (omega arith) r.1)
moved m (t ∷ d) x y f e r = (r.0, moved (suc t.column) d x y f e r.1)

one : (m : ℕ) (d : List Entry) (x : Entry) (f : List Entry) → Ascending m (d ++ x ∷ f) → Ascending m ((d ++ x ∷ []) ++ f)
one m d x f r = subst (Ascending m) (sym (append_assoc d (x ∷ []) f)) r

kept : (m : ℕ) (d : List Entry) (x : Entry) (v : ℚ) (f : List Entry) → Ascending m (d ++ x ∷ f) → Ascending m (keep d x.column v ++ f)
kept m d x v f r = go (is_zero v)
  where
    go : (b : Bool) → Ascending m (elim b [ true ↦ d | false ↦ d ++ record { column = x.column; value = v } ∷ [] ] ++ f)
    go true = without m d x f r
    go false = one m d (record { column = x.column; value = v }) f (revalued m d x v f r)

right_rises : (f : ℚ) (ys d v : List Entry) (m : ℕ) → Ascending m (d ++ ys) → less_right f ys d ≡ Ok v → Ascending m v
right_rises f [] d v m r e = let h : d ≡ v = cc in subst (Ascending m) (append-nil d ∙ h) r
right_rises f (y ∷ ys) d v m r e =
    let u = after_ok (less_product_walk zero_ℚ f y.value) (λ w. less_right f ys (keep d y.column w)) v e in
    right_rises f ys (keep d y.column u.0) v m (kept m d y u.0 ys r) u.2

abbrev Orders : List Entry → (List Entry → List Entry → Walk (List Entry)) → Type 0
Orders xs next = (ys d v : List Entry) (m : ℕ) → Ascending m (d ++ xs) → Ascending m (d ++ ys) → next ys d ≡ Ok v → Ascending m v

meet_rises : (f : ℚ) (x : Entry) (xs : List Entry) (next : List Entry → List Entry → Walk (List Entry)) → Orders xs next → Orders (x ∷ xs) (less_meet f x next)
meet_rises f x xs next g [] d v m r s e = g [] (d ++ x ∷ []) v m (one m d x xs r) (subst (Ascending m) (sym (append-nil (d ++ x ∷ []))) (front m d x xs r)) e
  where
    front : (m : ℕ) (d : List Entry) (x : Entry) (f : List Entry) → Ascending m (d ++ x ∷ f) → Ascending m (d ++ x ∷ [])
    front m [] x f r = (r.0, tt)
    front m (t ∷ d) x f r = (r.0, front (suc t.column) d x f r.1)
meet_rises f x xs next g (y ∷ ys) d v m r s e = go (ltb x.column y.column) refl (ltb y.column x.column) refl e (meet_rises f x xs next g ys)
  where
    go : (b : Bool) → ltb x.column y.column ≡ b → (c : Bool) → ltb y.column x.column ≡ c
        → ◌≡◌ {A = Walk (List Entry)} (elim b [
          | true ↦ next (y ∷ ys) (d ++ x ∷ [])
          | false ↦ elim c [
            | true ↦ then_walk (less_product_walk zero_ℚ f y.value) (λ v. less_meet f x next ys (keep d y.column v))
            | false ↦ then_walk (less_product_walk x.value f y.value) (λ v. next ys (keep d x.column v))
          ]
        ]) (Ok v)
        → ((d v : List Entry) (m : ℕ) → Ascending m (d ++ x ∷ xs) → Ascending m (d ++ ys) → less_meet f x next ys d ≡ Ok v → Ascending m v)
        → Ascending m v
    go true p c q e ih = g (y ∷ ys) (d ++ x ∷ []) v m (one m d x xs r) (one m d x (y ∷ ys) (between m d x y xs ys (ltb-true x.column y.column p) r s)) e
    go false p true q e ih =
        let u = after_ok (less_product_walk zero_ℚ f y.value) (λ w. less_meet f x next ys (keep d y.column w)) v e in
        ih (keep d y.column u.0) v m (kept m d y u.0 (x ∷ xs) (between m d y x ys xs (ltb-true y.column x.column q) s r)) (kept m d y u.0 ys s) u.2
    go false p false q e ih =
        let u = after_ok (less_product_walk x.value f y.value) (λ w. next ys (keep d x.column w)) v e in
        let same : x.column ≡ y.column = omega (arith, ltb-false x.column y.column p, ltb-false y.column x.column q) in
        g ys (keep d x.column u.0) v m (kept m d x u.0 xs r) (kept m d x u.0 ys (moved m d x y ys same s)) u.2

entries_rise : (f : ℚ) (xs : List Entry) → Orders xs (less_entries f xs)
entries_rise f [] ys d v m r s e = right_rises f ys d v m s e
entries_rise f (x ∷ xs) ys d v m r s e = meet_rises f x xs (less_entries f xs) (entries_rise f xs) ys d v m r s e

-- a form less a multiple of another
pub less_rises : (f : ℚ) (pivot form new : List Entry) → Ascending 0 pivot → Ascending 0 form → less_entries f form pivot [] ≡ Ok new → Ascending 0 new
less_rises f pivot form new p l e = entries_rise f form pivot [] new 0 l p e

pub form_rises : (f : ℚ) (pivot form new : List Entry) → Ascending 0 pivot → Ascending 0 form → cleared_form f pivot form ≡ Ok new → Ascending 0 new
form_rises f pivot form new p l e = go (is_zero f) e
  where
    go : (b : Bool) → ◌≡◌ {A = Walk (List Entry)} (elim b [ true ↦ Ok form | false ↦ less_entries f form pivot [] ]) (Ok new) → Ascending 0 new
    go true e = let h : form ≡ new = cc in subst (Ascending 0) h l
    go false e = less_rises f pivot form new p l e

pub cleared_rises : (f : ℚ) (pivot line new : Line) → Ascending 0 pivot.entries → Ascending 0 line.entries → cleared_by f pivot line ≡ Ok new → Ascending 0 new.entries
cleared_rises f pivot line new p l e = go (is_zero f) e
  where
    go : (b : Bool) → ◌≡◌ {A = Walk Line} (elim b [
      | true ↦ Ok line
      | false ↦ then_walk (less_entries f line.entries pivot.entries []) (λ entries. then_walk (less_product_walk line.right f pivot.right) (λ right. Ok (record { entries = entries; right = right })))
    ]) (Ok new) → Ascending 0 new.entries
    go true e = let h : line ≡ new = cc in subst (λ (x : Line). Ascending 0 x.entries) h l
    go false e =
        let u = after_ok (less_entries f line.entries pivot.entries []) (λ entries. then_walk (less_product_walk line.right f pivot.right) (λ right. Ok (record { entries = entries; right = right }))) new e in
        let w = after_ok (less_product_walk line.right f pivot.right) (λ right. Ok (record { entries = u.0; right = right })) new u.2 in
        let h : record { entries = u.0; right = w.0 } ≡ new = cc in
        subst (λ (x : Line). Ascending 0 x.entries) h (entries_rise f line.entries pivot.entries [] u.0 0 l p u.1)

divided_rise : (a : ℚ) (xs d v : List Entry) (m : ℕ) → Ascending m (d ++ xs) → divided_entries a xs d ≡ Ok v → Ascending m v
divided_rise a [] d v m r e = let h : d ≡ v = cc in subst (Ascending m) (append-nil d ∙ h) r
divided_rise a (x ∷ xs) d v m r e =
    let u = after_ok (div_walk x.value a) (λ w. divided_entries a xs (d ++ record { column = x.column; value = w } ∷ [])) v e in
    divided_rise a xs (d ++ record { column = x.column; value = u.0 } ∷ []) v m (one m d (record { column = x.column; value = u.0 }) xs (revalued m d x u.0 xs r)) u.2

pub divided_rises : (a : ℚ) (line new : Line) → Ascending 0 line.entries → divided a line ≡ Ok new → Ascending 0 new.entries
divided_rises a line new l e =
    let u = after_ok (divided_entries a line.entries []) (λ entries. then_walk (div_walk line.right a) (λ right. Ok (record { entries = entries; right = right }))) new e in
    let w = after_ok (div_walk line.right a) (λ right. Ok (record { entries = u.0; right = right })) new u.2 in
    let h : record { entries = u.0; right = w.0 } ≡ new = cc in
    subst (λ (x : Line). Ascending 0 x.entries) h (divided_rise a line.entries [] u.0 0 l u.1)
