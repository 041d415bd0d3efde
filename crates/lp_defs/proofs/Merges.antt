-- A row less a multiple of another is the row plus the multiple with the other sign.
use Rattle.std.proofs.Common.{◌≡◌, ◌∙◌, ◌++◌, ℕ, ltb, Bool, true, false, List, [], ◌∷◌, Option, Some, None, Ok, Err, refl, sym, ap, subst, arith}
use Rattle.std.specs.Prelude.{ℤ, pos, negsuc, zero, suc}
use Rattle.std.proofs.lemmas.List.{append-nil, append_assoc}
use Rattle.std.proofs.lemmas.Bool.{ltb-true, ltb-false}
use Rattle.std.specs.Cmp.{nat_cmp_is, signed_Decides}
use Rattle.std.specs.Ordering.{nat_cmp, int_eq}
use Rattle.std.specs.declared.cmp.Ordering.TheVariants.{Less, Equal, Greater}
use Rattle.rationals.specs.declared.Op.TheVariants.{Add, Sub, Mul}
use Rattle.rationals.specs.Rational.{ℚ, zero_ℚ, ◌+ℚ◌, ◌-ℚ◌, ◌*ℚ◌, neg_ℚ, sign_of, by_ring, terms}
use Rattle.rationals.specs.Sparse.{Entry}
use Rattle.rationals.specs.Passes.{Operation, too_wide, answer, named_by, then_walk, then_value, less_product_walk, add_product_walk, mul_walk}
use Rattle.rationals.specs.Forms.{is_zero as is_no_entry, put, put_unless, scaled_walk, by_order, merge_at, add_scaled_walk}
use Rattle.lp_defs.specs.Tests.{is_zero}
use Rattle.lp_defs.specs.Walks.{Walk}
use Rattle.lp_defs.specs.Lines.{keep, less_right, less_meet, less_entries}
use Rattle.lp_defs.specs.Merges.{MergesAgree}

-- ---- what both leave out is 0

sign_same : (z : ℤ) → int_eq (sign_of z) (pos 0) ≡ int_eq z (pos 0)
sign_same (pos zero) = refl
sign_same (pos (suc n)) = above (int_eq (pos (suc n)) (pos 0)) refl
  where
    above : (b : Bool) → int_eq (pos (suc n)) (pos 0) ≡ b → false ≡ b
    above true e = let zero_is : pos (suc n) ≡ pos 0 = (signed_Decides (pos (suc n)) (pos 0)).0 e in absurd (cc)
    above false e = refl
sign_same (negsuc n) = refl

zero_same : (a : ℚ) → is_zero a ≡ is_no_entry a
unfolding is_zero
zero_same a = sign_same a.num

kept_is : (done : List Entry) (j : ℕ) (v : ℚ) (rest : List Entry) → keep done j v ++ rest ≡ done ++ put j v rest
kept_is done j v rest = go (is_zero v) (is_no_entry v) (zero_same v)
  where
    go : (a b : Bool) → a ≡ b → elim a [ true ↦ done | false ↦ done ++ record { column = j; value = v } ∷ [] ] ++ rest ≡ done ++ put_unless b j v rest
    go true true e = refl
    go true false e = absurd (cc)
    go false true e = absurd (cc)
    go false false e = append_assoc done (record { column = j; value = v } ∷ []) rest

-- ---- a walk's entries, behind what is done

abbrev end_of : Walk (List Entry) → Option (List Entry)
end_of (Ok row) = Some row
end_of (Err passing) = None

abbrev behind : List Entry → Option (List Entry) → Option (List Entry)
behind done None = None
behind done (Some row) = Some (done ++ row)

front : (done : List Entry) (x : Entry) (w : Walk (List Entry)) → behind (done ++ x ∷ []) (end_of w) ≡ behind done (end_of (then_value (λ row. x ∷ row) w))
front done x (Ok row) = ap Some (append_assoc done (x ∷ []) row)
front done x (Err passing) = refl

kept : (done : List Entry) (j : ℕ) (v : ℚ) (w : Walk (List Entry)) → behind (keep done j v) (end_of w) ≡ behind done (end_of (then_value (put j v) w))
kept done j v (Ok row) = ap Some (kept_is done j v row)
kept done j v (Err passing) = refl

-- steps of one value pass or come to it together
stepped : (p q : Operation) (v u : ℚ) (go other : ℚ → Walk (List Entry)) (done : List Entry) → v ≡ u → end_of (go u) ≡ behind done (end_of (other u))
    → end_of (then_walk (answer (too_wide v) p v) go) ≡ behind done (end_of (then_walk (answer (too_wide u) q u) other))
stepped p q v u go other done same later =
    subst (λ (x : ℚ). end_of (then_walk (answer (too_wide x) p x) go) ≡ behind done (end_of (then_walk (answer (too_wide u) q u) other))) (sym same) (by_width (too_wide u))
  where
    by_width : (wide : Bool) → end_of (then_walk (answer wide p u) go) ≡ behind done (end_of (then_walk (answer wide q u) other))
    by_width true = refl
    by_width false = later

product_same : (f y : ℚ) → zero_ℚ -ℚ f *ℚ y ≡ neg_ℚ f *ℚ y
product_same f y = by_ring (f ∷ y ∷ []) (search terms depth 40) tt

step_same : (x f y : ℚ) → x -ℚ f *ℚ y ≡ x +ℚ neg_ℚ f *ℚ y
step_same x f y = by_ring (x ∷ f ∷ y ∷ []) (search terms depth 40) tt

-- ---- the two merges

abbrev Goes : (List Entry → List Entry → Walk (List Entry)) → (List Entry → Walk (List Entry)) → Type 0
Goes next rest = (ys done : List Entry) → end_of (next ys done) ≡ behind done (end_of (rest ys))

-- a value of the other row alone
alone : (f : ℚ) (y : Entry) (go : List Entry → Walk (List Entry)) (rest : Walk (List Entry)) (done : List Entry)
    → ((more : List Entry) → end_of (go more) ≡ behind more (end_of rest))
    → end_of (then_walk (less_product_walk zero_ℚ f y.value) (λ v. go (keep done y.column v)))
    ≡ behind done (end_of (then_walk (mul_walk (neg_ℚ f) y.value) (λ v. then_value (put y.column v) rest)))
alone f y go rest done later =
    let u : ℚ = neg_ℚ f *ℚ y.value in
    stepped (named_by (too_wide (f *ℚ y.value)) Sub zero_ℚ f y.value) (record { op = Mul; a = neg_ℚ f; b = y.value }) (zero_ℚ -ℚ f *ℚ y.value) u
    (λ v. go (keep done y.column v)) (λ v. then_value (put y.column v) rest) done (product_same f y.value) (later (keep done y.column u) ∙ kept done y.column u rest)

right_same : (f : ℚ) → Goes (less_right f) (scaled_walk (neg_ℚ f))
right_same f [] done = ap Some (sym (append-nil done))
right_same f (y ∷ ys) done = alone f y (less_right f ys) (scaled_walk (neg_ℚ f) ys) done (right_same f ys)

meet_same : (f : ℚ) (x : Entry) (next : List Entry → List Entry → Walk (List Entry)) (rest : List Entry → Walk (List Entry)) → Goes next rest → Goes (less_meet f x next) (merge_at (neg_ℚ f) x rest)
meet_same f x next rest goes [] done = goes [] (done ++ x ∷ []) ∙ front done x (rest [])
meet_same f x next rest goes (y ∷ ys) done = go (ltb x.column y.column) refl (ltb y.column x.column) refl (meet_same f x next rest goes ys)
  where
    go : (a : Bool) → ltb x.column y.column ≡ a → (b : Bool) → ltb y.column x.column ≡ b
        → ((more : List Entry) → end_of (less_meet f x next ys more) ≡ behind more (end_of (merge_at (neg_ℚ f) x rest ys)))
        → end_of (elim a [
          | true ↦ next (y ∷ ys) (done ++ x ∷ [])
          | false ↦ elim b [
            | true ↦ then_walk (less_product_walk zero_ℚ f y.value) (λ v. less_meet f x next ys (keep done y.column v))
            | false ↦ then_walk (less_product_walk x.value f y.value) (λ v. next ys (keep done x.column v))
          ]
        ])
        ≡ behind done (end_of (by_order (nat_cmp x.column y.column)
        (then_value (λ row. x ∷ row) (rest (y ∷ ys)))
        (then_walk (add_product_walk x.value (neg_ℚ f) y.value) (λ v. then_value (put x.column v) (rest ys)))
        (then_walk (mul_walk (neg_ℚ f) y.value) (λ v. then_value (put y.column v) (merge_at (neg_ℚ f) x rest ys)))))
    go true p b q later =
        rw (sym (nat_cmp_is x.column y.column Less (ltb-true x.column y.column p)))
        (goes (y ∷ ys) (done ++ x ∷ []) ∙ front done x (rest (y ∷ ys)))
    go false p true q later =
        rw (sym (nat_cmp_is x.column y.column Greater (ltb-true y.column x.column q)))
        (alone f y (less_meet f x next ys) (merge_at (neg_ℚ f) x rest ys) done later)
    go false p false q later =
        let same : x.column ≡ y.column = omega (arith, ltb-false x.column y.column p, ltb-false y.column x.column q) in
        let u : ℚ = x.value +ℚ neg_ℚ f *ℚ y.value in
        rw (sym (nat_cmp_is x.column y.column Equal same))
        (stepped (named_by (too_wide (f *ℚ y.value)) Sub x.value f y.value) (named_by (too_wide (neg_ℚ f *ℚ y.value)) Add x.value (neg_ℚ f) y.value) (x.value -ℚ f *ℚ y.value) u
        (λ v. next ys (keep done x.column v)) (λ v. then_value (put x.column v) (rest ys)) done (step_same x.value f y.value) (goes ys (keep done x.column u) ∙ kept done x.column u (rest ys)))

entries_same : (f : ℚ) (row : List Entry) → Goes (less_entries f row) (add_scaled_walk row (neg_ℚ f))
entries_same f [] = right_same f
entries_same f (x ∷ row) = meet_same f x (less_entries f row) (add_scaled_walk row (neg_ℚ f)) (entries_same f row)

-- ---- the law

less_added : (less added : Walk (List Entry)) (result : List Entry) → end_of less ≡ behind [] (end_of added) → less ≡ Ok result → added ≡ Ok result
less_added (Ok one) (Ok other) result same is = cc
less_added (Ok one) (Err passing) result same is = absurd (cc)
less_added (Err passing) added result same is = absurd (cc)

added_less : (less added : Walk (List Entry)) (result : List Entry) → end_of less ≡ behind [] (end_of added) → added ≡ Ok result → less ≡ Ok result
added_less (Ok one) (Ok other) result same is = cc
added_less (Err passing) (Ok other) result same is = absurd (cc)
added_less less (Err passing) result same is = absurd (cc)

pub merges_agree : MergesAgree
merges_agree = record {
  less_is_added = λ f row other result. less_added (less_entries f row other []) (add_scaled_walk row (neg_ℚ f) other) result (entries_same f row other []);
  added_is_less = λ f row other result. added_less (less_entries f row other []) (add_scaled_walk row (neg_ℚ f) other) result (entries_same f row other []);
}
