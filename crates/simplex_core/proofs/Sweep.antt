-- Rows that are taken away from numbers by column, in one pass, give what merging them gives.
use Rattle.std.proofs.Common.{◌≡◌, ℕ, suc, ◌+◌, ◌<◌, ◌≤◌, Bool, true, false, List, [], ◌∷◌, ◌++◌, Result, Ok, Err, eqb, ltb, length, get_or, set, replicate, zero, refl, sym, ap, ap₂, ◌∙◌, subst, arith, eqb-true, append_assoc, length-append, zero-add}
use Rattle.std.proofs.lemmas.List.{append-nil, length-set, length-replicate}
use Rattle.std.proofs.lemmas.Bool.{le-ltb, lt-ltb, eqb-false}
use Rattle.std.proofs.Math.Seq.{get_or-append_seam, set-append_seam}
use Rattle.std.specs.Result.{IsErrAnd}
use Rattle.frac128.specs.declared.fault.ArithmeticFault.{ArithmeticFault}
use Rattle.frac128.specs.declared.fault.ArithmeticFault.TheVariants as fault
use Rattle.frac128.specs.Faults.{FaultOf, IfNotMemory}
use Rattle.rationals.specs.Rational.{ℚ, zero_ℚ, one_ℚ, zero_lt_one_ℚ, ne_of_gt_ℚ}
use Rattle.rationals.specs.Passes.{less_product_walk, then_walk}
use Rattle.rationals.specs.Sparse.{Entry, Ascending}
use Rattle.rationals.specs.Forms.{EndsBelow}
use Rattle.lp_defs.specs.Tests.{is_zero, is_zero_true, is_zero_false}
use Rattle.lp_defs.specs.Walks.{Walk, after_ok}
use Rattle.lp_defs.specs.Lines.{Line, value_at, keep, less_meet, less_entries, cleared_form}
use Rattle.lp_defs.specs.Path.{Row}
use Rattle.lp_defs.specs.Linear.{AllLines, AllRows}
use Rattle.lp_defs.specs.Phases.{priced, unit_costs, unit_rows, with_units}
use Rattle.lp_defs.specs.Program.{AllFormsBelow}
use Rattle.lp_defs.proofs.Starts.{cost_is_one}
use Rattle.simplex_core.specs.Dense.{gathered, less_at, less_all, less_rows}
use Rattle.simplex_core.proofs.Walks.{alone}

-- ---- walks one behind another
same_rest : {A B : Type 0} (s : Walk A) (f g : A → Walk B) → ((a : A) → f a ≡ g a) → then_walk s f ≡ then_walk s g
same_rest (Ok a) f g h = h a
same_rest (Err e) f g h = refl

-- a number in front of those that are left, made by a walk
joined : {A : Type 0} (u : Walk ℚ) (s : Walk (List ℚ)) (l : ℚ → Walk A) (h : List ℚ → Walk A) → ((w : ℚ) → l w ≡ then_walk s (λ ws. h (w ∷ ws))) → then_walk u l ≡ then_walk (then_walk u (λ w. then_walk s (λ ws. Ok (w ∷ ws)))) h
joined (Ok w) (Ok ws) l h e = e w
joined (Ok w) (Err p) l h e = e w
joined (Err p) s l h e = refl

-- a number put into its place, made by a walk
split : {A : Type 0} (u : Walk ℚ) (place : ℚ → List ℚ) (l : List ℚ → Walk A) → then_walk u (λ w. l (place w)) ≡ then_walk (then_walk u (λ w. Ok (place w))) l
split (Ok w) place l = refl
split (Err p) place l = refl

-- or one that stays
kept : {A : Type 0} (s : Walk (List ℚ)) (v : ℚ) (g h : List ℚ → Walk A) → ((ws : List ℚ) → g ws ≡ h (v ∷ ws)) → then_walk s g ≡ then_walk (then_walk s (λ ws. Ok (v ∷ ws))) h
kept (Ok ws) v g h e = e ws
kept (Err p) v g h e = refl

-- ---- entries that are gathered
pub gathered_rises : (m k : ℕ) (vs : List ℚ) → m ≤ k → Ascending m (gathered k vs)
gathered_rises m k [] h = tt
gathered_rises m k (v ∷ vs) h = go (is_zero v) (λ n l. gathered_rises n (suc k) vs l)
  where
    go : (z : Bool) → ((n : ℕ) → n ≤ suc k → Ascending n (gathered (suc k) vs)) → Ascending m (elim z [ true ↦ gathered (suc k) vs | false ↦ record { column = k; value = v } ∷ gathered (suc k) vs ])
    go true ih = ih m (omega arith)
    go false ih = (h, ih (suc k) (omega arith))

keep_gathered : (done : List Entry) (k : ℕ) (w : ℚ) (ws : List ℚ) → keep done k w ++ gathered (suc k) ws ≡ done ++ gathered k (w ∷ ws)
keep_gathered done k w ws = go (is_zero w)
  where
    go : (z : Bool) → elim z as (λ b. List Entry) [ true ↦ done | false ↦ done ++ record { column = k; value = w } ∷ [] ] ++ gathered (suc k) ws
        ≡ done ++ elim z as (λ b. List Entry) [ true ↦ gathered (suc k) ws | false ↦ record { column = k; value = w } ∷ gathered (suc k) ws ]
    go true = refl
    go false = append_assoc done (record { column = k; value = w } ∷ []) (gathered (suc k) ws)

-- ---- one step of a merge
pub meet_before : (f : ℚ) (x : Entry) (next : List Entry → List Entry → Walk (List Entry)) (y : Entry) (ys done : List Entry) → y.column < x.column → less_meet f x next (y ∷ ys) done ≡ then_walk (less_product_walk zero_ℚ f y.value) (λ w. less_meet f x next ys (keep done y.column w))
meet_before f x next y ys done l =
    let p : ltb x.column y.column ≡ false = le-ltb x.column y.column (omega arith) in
    let q : ltb y.column x.column ≡ true = lt-ltb y.column x.column l in
    rw (less_meet, p, q) refl

meet_later : (f : ℚ) (g : List Entry) (y : Entry) (ys done : List Entry) → Ascending (suc y.column) g → less_entries f g (y ∷ ys) done ≡ then_walk (less_product_walk zero_ℚ f y.value) (λ w. less_entries f g ys (keep done y.column w))
meet_later f [] y ys done a = refl
meet_later f (x ∷ g) y ys done a = meet_before f x (less_entries f g) y ys done (let l : suc y.column ≤ x.column = a.0 in omega arith)

pub meet_same : (f : ℚ) (x : Entry) (next : List Entry → List Entry → Walk (List Entry)) (y : Entry) (ys done : List Entry) → y.column ≡ x.column → less_meet f x next (y ∷ ys) done ≡ then_walk (less_product_walk x.value f y.value) (λ w. next ys (keep done x.column w))
meet_same f x next y ys done e =
    let p : ltb x.column y.column ≡ false = le-ltb x.column y.column (omega arith) in
    let q : ltb y.column x.column ≡ false = le-ltb y.column x.column (omega arith) in
    rw (less_meet, p, q) refl

pub meet_sooner : (f : ℚ) (x : Entry) (next : List Entry → List Entry → Walk (List Entry)) (y : Entry) (ys done : List Entry) → x.column < y.column → less_meet f x next (y ∷ ys) done ≡ next (y ∷ ys) (done ++ x ∷ [])
meet_sooner f x next y ys done l =
    let p : ltb x.column y.column ≡ true = lt-ltb x.column y.column l in
    rw (less_meet, p) refl

-- ---- the numbers of column k and those behind it less the entries, column by column
swept : List ℚ → ℕ → List Entry → Walk (List ℚ)
swept [] k ys = Ok []
swept (v ∷ vs) k [] = Ok (v ∷ vs)
swept (v ∷ vs) k (y ∷ ys) = elim (eqb y.column k) [
  | true ↦ then_walk (less_product_walk v one_ℚ y.value) (λ w. then_walk (swept vs (suc k) ys) (λ ws. Ok (w ∷ ws)))
  | false ↦ then_walk (swept vs (suc k) (y ∷ ys)) (λ ws. Ok (v ∷ ws))
]

below_next : (k m : ℕ) (vs : List ℚ) (ys : List Entry) → m ≡ length vs → EndsBelow (k + suc m) ys → EndsBelow (suc k + m) ys
below_next k m vs ys e b = let s : k + suc m ≡ suc k + m = omega arith in subst (λ (n : ℕ). EndsBelow n ys) s b

merged : (vs : List ℚ) (k : ℕ) (ys done : List Entry) → Ascending k ys → EndsBelow (k + length vs) ys → less_entries one_ℚ (gathered k vs) ys done ≡ then_walk (swept vs k ys) (λ ws. Ok (done ++ gathered k ws))
unfolding swept
merged [] k [] done a b = ap Ok (sym (append-nil done))
merged [] k (y ∷ ys) done a b = let l : k ≤ y.column = a.0 in let m : y.column < k + 0 = b.0 in absurd (omega arith)
merged (v ∷ vs) k [] done a b = alone one_ℚ (gathered k (v ∷ vs)) done
merged (v ∷ vs) k (y ∷ ys) done a b = go (is_zero v) refl (eqb y.column k) refl (merged vs (suc k))
  where
    more : EndsBelow (suc k + length vs) (y ∷ ys)
    more = let s : k + length (v ∷ vs) ≡ suc k + length vs = omega arith in subst (λ (n : ℕ). EndsBelow n (y ∷ ys)) s b

    go : (z : Bool) → is_zero v ≡ z → (c : Bool) → eqb y.column k ≡ c
        → ((zs d : List Entry) → Ascending (suc k) zs → EndsBelow (suc k + length vs) zs → less_entries one_ℚ (gathered (suc k) vs) zs d ≡ then_walk (swept vs (suc k) zs) (λ ws. Ok (d ++ gathered (suc k) ws)))
        → less_entries one_ℚ (elim z [ true ↦ gathered (suc k) vs | false ↦ record { column = k; value = v } ∷ gathered (suc k) vs ]) (y ∷ ys) done
        ≡ then_walk (elim c [
          | true ↦ then_walk (less_product_walk v one_ℚ y.value) (λ w. then_walk (swept vs (suc k) ys) (λ ws. Ok (w ∷ ws)))
          | false ↦ then_walk (swept vs (suc k) (y ∷ ys)) (λ ws. Ok (v ∷ ws))
        ]) (λ ws. Ok (done ++ gathered k ws))
    go true p true q ih =
        let e : y.column ≡ k = eqb-true y.column k q in
        let g : List Entry = gathered (suc k) vs in
        let rise : Ascending (suc k) ys = subst (λ (c : ℕ). Ascending (suc c) ys) e a.1 in
        meet_later one_ℚ (gathered (suc k) vs) y ys done (gathered_rises (suc y.column) (suc k) vs (omega arith))
        ∙ ap (λ (x : ℚ). then_walk (less_product_walk x one_ℚ y.value) (λ w. less_entries one_ℚ (gathered (suc k) vs) ys (keep done y.column w))) (sym (is_zero_true v p))
        ∙ joined (less_product_walk v one_ℚ y.value) (swept vs (suc k) ys) (λ w. less_entries one_ℚ (gathered (suc k) vs) ys (keep done y.column w)) (λ ws. Ok (done ++ gathered k ws))
        (λ w. ap (λ (c : ℕ). less_entries one_ℚ (gathered (suc k) vs) ys (keep done c w)) e ∙ ih ys (keep done k w) rise more.1
        ∙ same_rest (swept vs (suc k) ys) (λ ws. Ok (keep done k w ++ gathered (suc k) ws)) (λ ws. Ok (done ++ gathered k (w ∷ ws))) (λ ws. ap Ok (keep_gathered done k w ws)))
    go false p true q ih =
        let e : y.column ≡ k = eqb-true y.column k q in
        let rise : Ascending (suc k) ys = subst (λ (c : ℕ). Ascending (suc c) ys) e a.1 in
        meet_same one_ℚ (record { column = k; value = v }) (less_entries one_ℚ (gathered (suc k) vs)) y ys done e
        ∙ joined (less_product_walk v one_ℚ y.value) (swept vs (suc k) ys) (λ w. less_entries one_ℚ (gathered (suc k) vs) ys (keep done k w)) (λ ws. Ok (done ++ gathered k ws))
        (λ w. ih ys (keep done k w) rise more.1
        ∙ same_rest (swept vs (suc k) ys) (λ ws. Ok (keep done k w ++ gathered (suc k) ws)) (λ ws. Ok (done ++ gathered k (w ∷ ws))) (λ ws. ap Ok (keep_gathered done k w ws)))
    go true p false q ih =
        let l : k ≤ y.column = a.0 in
        let ne : ¬ (y.column ≡ k) = eqb-false y.column k q in
        let m : suc k ≤ y.column = omega arith in
        ih (y ∷ ys) done (m, a.1) more
        ∙ kept (swept vs (suc k) (y ∷ ys)) v (λ ws. Ok (done ++ gathered (suc k) ws)) (λ ws. Ok (done ++ gathered k ws))
        (λ ws. ap (λ (z : Bool). Ok (done ++ elim z as (λ b. List Entry) [ true ↦ gathered (suc k) ws | false ↦ record { column = k; value = v } ∷ gathered (suc k) ws ])) (sym p))
    go false p false q ih =
        let l : k ≤ y.column = a.0 in
        let ne : ¬ (y.column ≡ k) = eqb-false y.column k q in
        let m : suc k ≤ y.column = omega arith in
        meet_sooner one_ℚ (record { column = k; value = v }) (less_entries one_ℚ (gathered (suc k) vs)) y ys done (omega arith)
        ∙ ih (y ∷ ys) (done ++ record { column = k; value = v } ∷ []) (m, a.1) more
        ∙ kept (swept vs (suc k) (y ∷ ys)) v (λ ws. Ok ((done ++ record { column = k; value = v } ∷ []) ++ gathered (suc k) ws)) (λ ws. Ok (done ++ gathered k ws))
        (λ ws. ap Ok (append_assoc done (record { column = k; value = v } ∷ []) (gathered (suc k) ws))
        ∙ ap (λ (z : Bool). Ok (done ++ elim z as (λ b. List Entry) [ true ↦ gathered (suc k) ws | false ↦ record { column = k; value = v } ∷ gathered (suc k) ws ])) (sym p))

-- ---- the same where each entry's place is looked up
looked_up : (pre vs : List ℚ) (ys : List Entry) → Ascending (length pre) ys → EndsBelow (length pre + length vs) ys → less_all (pre ++ vs) ys ≡ then_walk (swept vs (length pre) ys) (λ ws. Ok (pre ++ ws))
unfolding swept
looked_up pre [] [] a b = refl
looked_up pre [] (y ∷ ys) a b = let l : length pre ≤ y.column = a.0 in let m : y.column < length pre + 0 = b.0 in absurd (omega arith)
looked_up pre (v ∷ vs) [] a b = refl
looked_up pre (v ∷ vs) (y ∷ ys) a b = go (eqb y.column (length pre)) refl (λ w. looked_up (pre ++ w ∷ []) vs)
  where
    one_more : (w : ℚ) → length (pre ++ w ∷ []) ≡ suc (length pre)
    one_more w = length-append pre (w ∷ []) ∙ (let e : length pre + length (w ∷ []) ≡ suc (length pre) = omega arith in e)

    more : (w : ℚ) → EndsBelow (length (pre ++ w ∷ []) + length vs) (y ∷ ys)
    more w = let n : length (pre ++ w ∷ []) ≡ suc (length pre) = one_more w in let s : length pre + length (v ∷ vs) ≡ length (pre ++ w ∷ []) + length vs = omega arith in subst (λ (n : ℕ). EndsBelow n (y ∷ ys)) s b

    later : (w : ℚ) (zs : List Entry) → ((u : ℚ) (xs : List Entry) → Ascending (length (pre ++ u ∷ [])) xs → EndsBelow (length (pre ++ u ∷ []) + length vs) xs → less_all ((pre ++ u ∷ []) ++ vs) xs ≡ then_walk (swept vs (length (pre ++ u ∷ [])) xs) (λ ws. Ok ((pre ++ u ∷ []) ++ ws)))
        → Ascending (suc (length pre)) zs → EndsBelow (length (pre ++ w ∷ []) + length vs) zs → less_all (pre ++ w ∷ vs) zs ≡ then_walk (swept vs (suc (length pre)) zs) (λ ws. Ok (pre ++ w ∷ ws))
    later w zs ih r s =
        ap (λ (l : List ℚ). less_all l zs) (sym (append_assoc pre (w ∷ []) vs))
        ∙ ih w zs (subst (λ (n : ℕ). Ascending n zs) (sym (one_more w)) r) s
        ∙ ap (λ (n : ℕ). then_walk (swept vs n zs) (λ ws. Ok ((pre ++ w ∷ []) ++ ws))) (one_more w)
        ∙ same_rest (swept vs (suc (length pre)) zs) (λ ws. Ok ((pre ++ w ∷ []) ++ ws)) (λ ws. Ok (pre ++ w ∷ ws)) (λ ws. ap Ok (append_assoc pre (w ∷ []) ws))

    go : (c : Bool) → eqb y.column (length pre) ≡ c
        → ((u : ℚ) (xs : List Entry) → Ascending (length (pre ++ u ∷ [])) xs → EndsBelow (length (pre ++ u ∷ []) + length vs) xs → less_all ((pre ++ u ∷ []) ++ vs) xs ≡ then_walk (swept vs (length (pre ++ u ∷ [])) xs) (λ ws. Ok ((pre ++ u ∷ []) ++ ws)))
        → less_all (pre ++ v ∷ vs) (y ∷ ys)
        ≡ then_walk (elim c [
          | true ↦ then_walk (less_product_walk v one_ℚ y.value) (λ w. then_walk (swept vs (suc (length pre)) ys) (λ ws. Ok (w ∷ ws)))
          | false ↦ then_walk (swept vs (suc (length pre)) (y ∷ ys)) (λ ws. Ok (v ∷ ws))
        ]) (λ ws. Ok (pre ++ ws))
    go true q ih =
        let e : y.column ≡ length pre = eqb-true y.column (length pre) q in
        let rise : Ascending (suc (length pre)) ys = subst (λ (c : ℕ). Ascending (suc c) ys) e a.1 in
        sym (split (less_product_walk (get_or (pre ++ v ∷ vs) y.column zero_ℚ) one_ℚ y.value) (λ w. set (pre ++ v ∷ vs) y.column w) (λ ws. less_all ws ys))
        ∙ ap (λ (c : ℕ). then_walk (less_product_walk (get_or (pre ++ v ∷ vs) c zero_ℚ) one_ℚ y.value) (λ w. less_all (set (pre ++ v ∷ vs) c w) ys)) e
        ∙ ap (λ (x : ℚ). then_walk (less_product_walk x one_ℚ y.value) (λ w. less_all (set (pre ++ v ∷ vs) (length pre) w) ys)) (get_or-append_seam pre v vs zero_ℚ)
        ∙ joined (less_product_walk v one_ℚ y.value) (swept vs (suc (length pre)) ys) (λ w. less_all (set (pre ++ v ∷ vs) (length pre) w) ys) (λ ws. Ok (pre ++ ws))
        (λ w. ap (λ (l : List ℚ). less_all l ys) (set-append_seam pre v vs w) ∙ later w ys ih rise (more w).1)
    go false q ih =
        let l : length pre ≤ y.column = a.0 in
        let ne : ¬ (y.column ≡ length pre) = eqb-false y.column (length pre) q in
        let m : suc (length pre) ≤ y.column = omega arith in
        later v (y ∷ ys) ih (m, a.1) (more v)
        ∙ kept (swept vs (suc (length pre)) (y ∷ ys)) v (λ ws. Ok (pre ++ v ∷ ws)) (λ ws. Ok (pre ++ ws)) (λ ws. refl)

ok_again : {A : Type 0} (s : Walk A) → s ≡ then_walk s (λ a. Ok a)
ok_again (Ok a) = refl
ok_again (Err e) = refl

-- a form less a row
row_less : (vs : List ℚ) (ys : List Entry) → Ascending 0 ys → EndsBelow (length vs) ys → less_entries one_ℚ (gathered 0 vs) ys [] ≡ then_walk (less_all vs ys) (λ ws. Ok (gathered 0 ws))
row_less vs ys a b =
    let below : EndsBelow (0 + length vs) ys = let s : length vs ≡ 0 + length vs = omega arith in subst (λ (n : ℕ). EndsBelow n ys) s b in
    merged vs 0 ys [] a below ∙ ap (λ (s : Walk (List ℚ)). then_walk s (λ ws. Ok (gathered 0 ws))) (ok_again (swept vs 0 ys) ∙ sym (looked_up [] vs ys a below))

-- ---- all rows
all_long : (vs ws : List ℚ) (ys : List Entry) → less_all vs ys ≡ Ok ws → length ws ≡ length vs
all_long vs ws [] e = let h : vs ≡ ws = cc in ap (λ (l : List ℚ). length l) (sym h)
all_long vs ws (y ∷ ys) e =
    let u = after_ok (less_at vs y.column y.value) (λ us. less_all us ys) ws e in
    let w = after_ok (less_product_walk (get_or vs y.column zero_ℚ) one_ℚ y.value) (λ w. Ok (set vs y.column w)) u.0 u.1 in
    let h : set vs y.column w.0 ≡ u.0 = cc in
    all_long u.0 ws ys u.2 ∙ ap (λ (l : List ℚ). length l) (sym h) ∙ length-set vs y.column w.0

one_stays : is_zero one_ℚ ≡ false
one_stays = go (is_zero one_ℚ) refl
  where
    go : (b : Bool) → is_zero one_ℚ ≡ b → is_zero one_ℚ ≡ false
    go true e = absurd (ne_of_gt_ℚ zero_lt_one_ℚ (is_zero_true one_ℚ e))
    go false e = e

cleared_once : (f : ℚ) (pivot form : List Entry) → f ≡ one_ℚ → cleared_form f pivot form ≡ less_entries one_ℚ form pivot []
cleared_once f pivot form e = ap (λ (x : ℚ). cleared_form x pivot form) e ∙ ap (λ (b : Bool). elim b as (λ c. Walk (List Entry)) [ true ↦ Ok form | false ↦ less_entries one_ℚ form pivot [] ]) one_stays

pub rows_less : (cost : List Entry) (n : ℕ) (vs : List ℚ) (rows : List Row) → length vs ≡ n → AllLines (λ line. Ascending 0 line.entries) rows → AllLines (λ line. EndsBelow n line.entries) rows → AllRows (λ r. value_at cost r.basic ≡ one_ℚ) rows
    → priced cost rows (gathered 0 vs) ≡ then_walk (less_rows vs rows) (λ ws. Ok (gathered 0 ws))
rows_less cost n vs [] l a b c = refl
rows_less cost n vs (r ∷ rows) l a b c =
    ap (λ (w : Walk (List Entry)). then_walk w (λ next. priced cost rows next))
    (cleared_once (value_at cost r.basic) r.line.entries (gathered 0 vs) c.0 ∙ row_less vs r.line.entries a.0 (subst (λ (m : ℕ). EndsBelow m r.line.entries) (sym l) b.0))
    ∙ go (less_all vs r.line.entries) refl (λ ws h. rows_less cost n ws rows h a.1 b.1 c.1)
  where
    go : (s : Walk (List ℚ)) → less_all vs r.line.entries ≡ s → ((ws : List ℚ) → length ws ≡ n → priced cost rows (gathered 0 ws) ≡ then_walk (less_rows ws rows) (λ us. Ok (gathered 0 us)))
        → then_walk (then_walk s (λ ws. Ok (gathered 0 ws))) (λ next. priced cost rows next) ≡ then_walk (then_walk s (λ ws. less_rows ws rows)) (λ us. Ok (gathered 0 us))
    go (Ok ws) e ih = ih ws (all_long vs ws r.line.entries e ∙ l)
    go (Err p) e ih = refl

-- ---- the numbers with which it begins
zero_goes : is_zero zero_ℚ ≡ true
zero_goes = go (is_zero zero_ℚ) refl
  where
    go : (b : Bool) → is_zero zero_ℚ ≡ b → is_zero zero_ℚ ≡ true
    go true e = e
    go false e = absurd (is_zero_false zero_ℚ e refl)

ones : (j m : ℕ) → gathered j (replicate m one_ℚ) ≡ unit_costs j m
ones j zero = refl
ones j (suc m) = ap (λ (b : Bool). elim b as (λ c. List Entry) [ true ↦ gathered (suc j) (replicate m one_ℚ) | false ↦ record { column = j; value = one_ℚ } ∷ gathered (suc j) (replicate m one_ℚ) ]) one_stays
    ∙ ap (λ (l : List Entry). record { column = j; value = one_ℚ } ∷ l) (ones (suc j) m)

zeros : (j n m : ℕ) → gathered j (replicate n zero_ℚ ++ replicate m one_ℚ) ≡ unit_costs (j + n) m
zeros j zero m = ones j m ∙ (let e : j ≡ j + 0 = omega arith in ap (λ (k : ℕ). unit_costs k m) e)
zeros j (suc n) m = ap (λ (b : Bool). elim b as (λ c. List Entry) [ true ↦ gathered (suc j) (replicate n zero_ℚ ++ replicate m one_ℚ) | false ↦ record { column = j; value = zero_ℚ } ∷ gathered (suc j) (replicate n zero_ℚ ++ replicate m one_ℚ) ]) zero_goes
    ∙ zeros (suc j) n m ∙ (let e : suc j + n ≡ j + suc n = omega arith in ap (λ (k : ℕ). unit_costs k m) e)

pub costs_are : (first count : ℕ) → gathered 0 (replicate first zero_ℚ ++ replicate count one_ℚ) ≡ unit_costs first count
costs_are first count = zeros 0 first count ∙ ap (λ (k : ℕ). unit_costs k count) (zero-add first)

pub costs_long : (first count : ℕ) → length (replicate first zero_ℚ ++ replicate count one_ℚ) ≡ first + count
costs_long first count = length-append (replicate first zero_ℚ) (replicate count one_ℚ) ∙ ap₂ (λ (a b : ℕ). a + b) (length-replicate first zero_ℚ) (length-replicate count one_ℚ)

-- ---- the objective row
pub objective_is : (first count : ℕ) (vs : List ℚ) (rows : List Row) → vs ≡ replicate first zero_ℚ ++ replicate count one_ℚ → AllLines (λ line. Ascending 0 line.entries) rows → AllLines (λ line. EndsBelow (first + count) line.entries) rows → AllRows (λ r. value_at (unit_costs first count) r.basic ≡ one_ℚ) rows
    → priced (unit_costs first count) rows (unit_costs first count) ≡ then_walk (less_rows vs rows) (λ ws. Ok (gathered 0 ws))
objective_is first count vs rows e a b c =
    ap (λ (f : List Entry). priced (unit_costs first count) rows f) (sym (ap (λ (l : List ℚ). gathered 0 l) e ∙ costs_are first count))
    ∙ rows_less (unit_costs first count) (first + count) vs rows (ap (λ (l : List ℚ). length l) e ∙ costs_long first count) a b c

pub fault_of : (w : Walk (List ℚ)) (v : Walk (List Entry)) (f : ArithmeticFault) (r : Result (List Entry) ArithmeticFault) → v ≡ then_walk w (λ ws. Ok (gathered 0 ws)) → FaultOf w f → IsErrAnd r (λ e. e ≡ f) → IfNotMemory r v
fault_of w v f (Ok x) e h k = absurd k
fault_of w v f (Err g) e h k = subst (FaultOf v) (sym k) (at f h)
  where
    at : (f : ArithmeticFault) → FaultOf w f → FaultOf v f
    at (fault.Passed p) h = e ∙ ap (λ (x : Walk (List ℚ)). then_walk x (λ ws. Ok (gathered 0 ws))) h
    at fault.Memory h = tt

pub made_of : (w : Walk (List ℚ)) (v : Walk (List Entry)) (ws : List ℚ) (f : List Entry) → v ≡ then_walk w (λ ws. Ok (gathered 0 ws)) → w ≡ Ok ws → f ≡ gathered 0 ws → v ≡ Ok f
made_of w v ws f e h k = e ∙ ap (λ (x : Walk (List ℚ)). then_walk x (λ ws. Ok (gathered 0 ws))) h ∙ ap (λ (g : List Entry). Ok g) (sym k)

-- ---- what the code reads
pub within_at : (n i : ℕ) (ys : List Entry) (y : Entry) → EndsBelow n ys → i < length ys → y ≡ get_or ys i y → y.column < n
within_at n i [] y b l e = absurd (omega arith)
within_at n zero (x ∷ ys) y b l e = subst (λ (t : Entry). t.column < n) (sym e) b.0
within_at n (suc i) (x ∷ ys) y b l e = within_at n i ys y b.1 (omega arith) e

pub line_at : (P : Line → Type 0) (i : ℕ) (rows : List Row) (r : Row) → AllLines P rows → i < length rows → r ≡ get_or rows i r → P r.line
line_at P i [] r a l e = absurd (omega arith)
line_at P zero (x ∷ rows) r a l e = subst (λ (s : Row). P s.line) (sym e) a.0
line_at P (suc i) (x ∷ rows) r a l e = line_at P i rows r a.1 (omega arith) e

pub number_at : (vs : List ℚ) (c : ℕ) (v d : ℚ) → c < length vs → v ≡ get_or vs c v → get_or vs c d ≡ v
number_at [] c v d l e = absurd (omega arith)
number_at (x ∷ vs) zero v d l e = sym e
number_at (x ∷ vs) (suc c) v d l e = number_at vs c v d (omega arith) e

-- ---- the rows with which phase one begins
ends_more : (n m j : ℕ) (f : List Entry) → n ≤ m → j < m → EndsBelow n f → EndsBelow m (f ++ record { column = j; value = one_ℚ } ∷ [])
ends_more n m j [] h l b = (l, tt)
ends_more n m j (t ∷ f) h l b = (let k : t.column < n = b.0 in omega arith, ends_more n m j f h l b.1)

pub rows_below : (n j m : ℕ) (rows : List (List Entry)) (right : List ℚ) → n ≤ j → j + length rows ≤ m → AllFormsBelow n rows → AllLines (λ line. EndsBelow m line.entries) (unit_rows j (with_units j rows) right)
rows_below n j m [] right h l a = tt
rows_below n j m (f ∷ rows) [] h l a = tt
rows_below n j m (f ∷ rows) (b ∷ right) h l a = (ends_more n m j f (omega arith) (omega arith) a.0.below, rows_below n (suc j) m rows right (omega arith) (omega arith) a.1)

pub basics_cost : (first count j : ℕ) (rows : List (List Entry)) (right : List ℚ) → first ≤ j → j + length rows ≤ first + count → AllRows (λ r. value_at (unit_costs first count) r.basic ≡ one_ℚ) (unit_rows j rows right)
basics_cost first count j [] right h l = tt
basics_cost first count j (f ∷ rows) [] h l = tt
basics_cost first count j (f ∷ rows) (b ∷ right) h l = (cost_is_one first count j h (omega arith), basics_cost first count (suc j) rows right (omega arith) (omega arith))
