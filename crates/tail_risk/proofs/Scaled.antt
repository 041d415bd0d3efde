-- A form times a number, which leaves out what becomes 0.
use Rattle.std.proofs.Common.{◌≡◌, ℕ, suc, ◌≤◌, Bool, true, false, List, [], ◌∷◌, Result, Ok, Err, refl, sym, ap, subst, ◌∙◌, arith, pos}
use Rattle.std.specs.Cmp.{signed_Decides}
use Rattle.rationals.specs.Rational.{ℚ, zero_ℚ, one_ℚ, ◌+ℚ◌, ◌*ℚ◌, by_ring, by_eqs, terms}
use Rattle.rationals.specs.Ring.Eqs.{done, by_eq}
use Rattle.rationals.specs.declared.Op.TheVariants.{Mul}
use Rattle.rationals.specs.Sparse.{Entry, product, Ascending, Ascending-weaker}
use Rattle.rationals.specs.Forms.{AllNonzero, IsForm, put, put_unless, is_zero}
use Rattle.rationals.specs.Passes.{Operation, mul_walk, then_value}
use Rattle.rationals.proofs.Lowest.{zero_from_num, num_zero}
use Rattle.rationals.proofs.WalkLaws.{ended, walk_value}
use Rattle.scen_defs.specs.Lists.{Each}
use Rattle.tail_risk.specs.TailProgram.{scaled_form}
use Rattle.tail_risk.specs.TailWalk.{scaled_form_walk}

-- ---- an entry in front, unless it is 0
zero_then : (v : ℚ) → is_zero v ≡ true → v ≡ zero_ℚ
zero_then v e = zero_from_num v ((signed_Decides v.num (pos 0)).0 e)

zero_if : (v : ℚ) → v ≡ zero_ℚ → is_zero v ≡ true
zero_if v e = (signed_Decides v.num (pos 0)).1 (num_zero v e)

pub put_product : (c : ℕ) (v : ℚ) (f : List Entry) (x : ℕ → ℚ) → product (put c v f) x ≡ v *ℚ x c +ℚ product f x
put_product c v f x = go (is_zero v) refl
  where
    go : (b : Bool) → is_zero v ≡ b → product (put_unless b c v f) x ≡ v *ℚ x c +ℚ product f x
    go true e = by_eqs (v ∷ x c ∷ product f x ∷ []) (by_eq (zero_ℚ +ℚ x c) (sym (zero_then v e)) done) (search terms depth 40) tt
    go false e = refl

pub put_each : (P : ℕ → Type 0) (c : ℕ) (v : ℚ) (f : List Entry) → P c → Each (λ (e : Entry). P e.column) f → Each (λ (e : Entry). P e.column) (put c v f)
put_each P c v f p h = go (is_zero v)
  where
    go : (b : Bool) → Each (λ (e : Entry). P e.column) (put_unless b c v f)
    go true = h
    go false = (p, h)

put_form : (c : ℕ) (v : ℚ) (f : List Entry) (n : ℕ) → n ≤ c → Ascending (suc c) f → AllNonzero f → Ascending n (put c v f) × AllNonzero (put c v f)
put_form c v f n l a z = go (is_zero v) refl
  where
    go : (b : Bool) → is_zero v ≡ b → Ascending n (put_unless b c v f) × AllNonzero (put_unless b c v f)
    go true e = (Ascending-weaker (suc c) n f (omega (arith, l)) a, z)
    go false e = ((l, a), ((λ h. absurd (let q : false ≡ true = sym e ∙ zero_if v h in cc)), z))

-- ---- the form
pub scaled_product : (k : ℚ) (f : List Entry) (x : ℕ → ℚ) → product (scaled_form k f) x ≡ k *ℚ product f x
scaled_product k [] x = by_ring (k ∷ []) (search terms depth 40) tt
scaled_product k (e ∷ f) x = put_product e.column (e.value *ℚ k) (scaled_form k f) x
    ∙ by_eqs (k ∷ e.value ∷ x e.column ∷ product f x ∷ product (scaled_form k f) x ∷ []) (by_eq one_ℚ (scaled_product k f x) done) (search terms depth 40) tt

pub scaled_each : (P : ℕ → Type 0) (k : ℚ) (f : List Entry) → Each (λ (e : Entry). P e.column) f → Each (λ (e : Entry). P e.column) (scaled_form k f)
scaled_each P k [] h = tt
scaled_each P k (e ∷ f) h = put_each P e.column (e.value *ℚ k) (scaled_form k f) h.0 (scaled_each P k f h.1)

scaled_rises : (k : ℚ) (n : ℕ) (f : List Entry) → Ascending n f → Ascending n (scaled_form k f) × AllNonzero (scaled_form k f)
scaled_rises k n [] a = (tt, tt)
scaled_rises k n (e ∷ f) a =
    let rest = scaled_rises k (suc e.column) f a.1 in
    put_form e.column (e.value *ℚ k) (scaled_form k f) n a.0 rest.0 rest.1

-- ---- the walk ends in it
pub scaled_walk_is : (k : ℚ) (f r : List Entry) → scaled_form_walk k f ≡ Ok r → r ≡ scaled_form k f
scaled_walk_is k [] r e = let s : [] ≡ r = cc in sym s
scaled_walk_is k (e ∷ f) r h =
    let m = ended (mul_walk e.value k) (λ v. then_value (put e.column v) (scaled_form_walk k f)) r h in
    let v : m.result ≡ e.value *ℚ k = walk_value Mul e.value k m.result m.first_is in
    go (scaled_form_walk k f) refl (λ x is. scaled_walk_is k f x is) m.result v m.next_is
  where
    go : (walk : Result (List Entry) Operation) → scaled_form_walk k f ≡ walk → ((x : List Entry) → scaled_form_walk k f ≡ Ok x → x ≡ scaled_form k f) → (v : ℚ) → v ≡ e.value *ℚ k
        → then_value (put e.column v) walk ≡ Ok r → r ≡ put e.column (e.value *ℚ k) (scaled_form k f)
    go (Ok x) is again v same q = let one : put e.column v x ≡ r = cc in sym one ∙ ap (put e.column v) (again x is) ∙ ap (λ w. put e.column w (scaled_form k f)) same
    go (Err o) is again v same q = absurd (cc)

pub scaled_is_form : (k : ℚ) (f r : List Entry) → IsForm f → scaled_form_walk k f ≡ Ok r → IsForm r
scaled_is_form k f r h e =
    let both = scaled_rises k 0 f h.rises in
    subst IsForm (sym (scaled_walk_is k f r e)) (record { rises = both.0; nonzero = both.1 })
