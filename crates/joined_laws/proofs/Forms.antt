-- The multipliers by node of a cut are forms, where those of its records are.
use Rattle.std.proofs.Common.{◌≡◌, ℕ, zero, suc, ◌+◌, ◌-◌, Bool, true, false, eqb, List, [], ◌∷◌, ◌++◌, length, Result, Ok, Err}
use Rattle.std.proofs.Common.{refl, sym, subst, eqb-true}
use Rattle.std.proofs.lemmas.Bool.{eqb-false}
use Rattle.std.proofs.lemmas.List.{get_or-set_same, get_or-set_other}
use Rattle.rationals.specs.Rational.{ℚ, one_ℚ}
use Rattle.rationals.specs.Sparse.{Entry}
use Rattle.rationals.specs.Forms.{IsForm, add_scaled_walk}
use Rattle.rationals.specs.Passes.{Operation, mul_walk, then_walk, then_value}
use Rattle.rationals.proofs.WalkLaws.{sum_is_form, ended}
use Rattle.scen_defs.specs.Lists.{Each}
use Rattle.cut_defs.specs.Stored.{Stored, StoredUses}
use Rattle.cut_defs.specs.Stored.Stored.{Stored_of}
use Rattle.cut_defs.specs.Stored.StoredUses.{No_stored, Use_stored}
use Rattle.dual_assemble.specs.Walks.{form_at, with_form, empties, padded, add_at, flat_from, flats_from}
use Rattle.dual_assemble.proofs.Padding.{long_enough}
use Rattle.joined_laws.specs.Rows.{HasForms, AllHaveForms}
use Rattle.joined_laws.specs.Fits.{FormsAssemble}

-- what stands at each place is a form
abbrev AreForms : List (List Entry) → Type 0
AreForms fs = (n : ℕ) → IsForm (form_at fs n)

empty_form : (k n : ℕ) → IsForm (form_at (empties k) n)
empty_form zero n = record { rises = tt; nonzero = tt }
empty_form (suc k) zero = record { rises = tt; nonzero = tt }
empty_form (suc k) (suc n) = empty_form k n

padded_forms : (fs : List (List Entry)) (k : ℕ) → AreForms fs → AreForms (fs ++ empties k)
padded_forms [] k h n = empty_form k n
padded_forms (f ∷ fs) k h zero = h 0
padded_forms (f ∷ fs) k h (suc n) = padded_forms fs k (λ m. h (suc m)) n

-- ---- a record is added
module _ (fs : List (List Entry)) (node : ℕ) (w : ℚ) (y : List Entry) (gs : List (List Entry)) (h : AreForms fs) (k : IsForm y) where
  abbrev all : List (List Entry)
  all = padded fs (node + 1)

  with_forms : (g : List Entry) → IsForm g → AreForms (with_form all node g)
  with_forms g q n = go (eqb node n) refl
    where
      go : (b : Bool) → eqb node n ≡ b → IsForm (form_at (with_form all node g) n)
      go true e = subst (λ (m : ℕ). IsForm (form_at (with_form all node g) m)) (eqb-true node n e)
          (subst IsForm (sym (get_or-set_same all node g [] (long_enough fs node))) q)
      go false e = subst IsForm (sym (get_or-set_other all node n g [] (λ d. eqb-false node n e (sym d))))
          (padded_forms fs (node + 1 - length fs) h n)

  add_forms : add_at fs node w y ≡ Ok gs → AreForms gs
  add_forms e = go (add_scaled_walk (form_at all node) w y) refl e
    where
      go : (r : Result (List Entry) Operation) → add_scaled_walk (form_at all node) w y ≡ r
          → then_value (with_form all node) r ≡ Ok gs → AreForms gs
      go (Ok g) d e = let q : with_form all node g ≡ gs = cc in subst AreForms q
          (with_forms g (sum_is_form (form_at all node) w y g (padded_forms fs (node + 1 - length fs) h node) k d))
      go (Err p) d e = absurd (cc)

-- ---- all records
mutual
  flat_forms : (fs : List (List Entry)) (w : ℚ) (cut : Stored) (gs : List (List Entry)) → AreForms fs → HasForms cut
      → flat_from fs w cut ≡ Ok gs → AreForms gs
  flat_forms fs w (Stored_of s uses constant form) gs h k e =
      let one = ended (add_at fs s.node w s.multipliers) (λ t. flats_from t w uses) gs e in
      flats_forms one.result w uses gs (add_forms fs s.node w s.multipliers one.result h k.0 one.first_is) k.1 one.next_is

  flats_forms : (fs : List (List Entry)) (w : ℚ) (uses : StoredUses) (gs : List (List Entry)) → AreForms fs → AllHaveForms uses
      → flats_from fs w uses ≡ Ok gs → AreForms gs
  flats_forms fs w No_stored gs h k e = let q : fs ≡ gs = cc in subst AreForms q h
  flats_forms fs w (Use_stored v cut uses) gs h k e =
      let one = ended (mul_walk w v) (λ p. then_walk (flat_from fs p cut) (λ t. flats_from t w uses)) gs e in
      let two = ended (flat_from fs one.result cut) (λ t. flats_from t w uses) gs one.next_is in
      flats_forms two.result w uses gs (flat_forms fs one.result cut two.result h k.0 two.first_is) k.1 two.next_is

each_form : (fs : List (List Entry)) → AreForms fs → Each IsForm fs
each_form [] h = tt
each_form (f ∷ fs) h = (h 0, each_form fs (λ n. h (suc n)))

pub forms_assemble : FormsAssemble
forms_assemble cut fs h e = each_form fs (flat_forms [] one_ℚ cut fs (empty_form 0) h e)
