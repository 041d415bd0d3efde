-- One more column of many.
use Rattle.std.proofs.Common.{◌≡◌, ℕ, suc, ◌<◌, ◌+◌, ◌-◌, List, [], ◌∷◌, ◌++◌, Result, Ok, Err, sym, ap, ◌∙◌, subst, arith, append_assoc, add-one}
use Rattle.rationals.specs.Rational.{ℚ, one_ℚ, neg_ℚ}
use Rattle.rationals.specs.Passes.{Operation, sub_walk, then_walk}
use Rattle.rationals.specs.Sparse.{Entry}
use Rattle.std.specs.Prelude.{MatchResult}
use Rattle.std.specs.Result.{IsErrAnd}
use Rattle.frac128.specs.Faults.{FaultOf}
use Rattle.frac128.specs.declared.fault.ArithmeticFault.{ArithmeticFault}
use Rattle.lp_defs.specs.Walks.{Walk}
use Rattle.lp_defs.specs.Lines.{value_at}
use Rattle.lp_defs.specs.Phases.{unit_duals, first_duals}

pub one_more : (d new whole : List ℚ) (c e : ℕ) (o : List Entry) (v : ℚ) → c < e → new ≡ d ++ v ∷ [] → v ≡ neg_ℚ (value_at o c) → d ++ unit_duals c (e - c) o ≡ whole → new ++ unit_duals (c + 1) (e - (c + 1)) o ≡ whole
one_more d new whole c e o v h k m w =
    let n : e - c ≡ suc (e - (c + 1)) = omega arith in
    let here : d ++ unit_duals c (suc (e - (c + 1))) o ≡ whole = subst (λ (l : ℕ). d ++ unit_duals c l o ≡ whole) n w in
    ap (λ (l : List ℚ). l ++ unit_duals (c + 1) (e - (c + 1)) o) k ∙ append_assoc d (v ∷ []) (unit_duals (c + 1) (e - (c + 1)) o)
    ∙ ap (λ (q : ℚ). d ++ q ∷ unit_duals (c + 1) (e - (c + 1)) o) m
    ∙ ap (λ (l : ℕ). d ++ neg_ℚ (value_at o c) ∷ unit_duals l (e - (c + 1)) o) (add-one c) ∙ here

first_here : (d : List ℚ) (whole : Walk (List ℚ)) (c e : ℕ) (o : List Entry) → c < e → first_duals c (e - c) o d ≡ whole → first_duals c (suc (e - (c + 1))) o d ≡ whole
first_here d whole c e o h w = let n : e - c ≡ suc (e - (c + 1)) = omega arith in subst (λ (l : ℕ). first_duals c l o d ≡ whole) n w

-- the difference, as the code makes it
difference : (r : Walk ℚ) (one at : ℚ) (o : List Entry) (c : ℕ) → r ≡ sub_walk one at → one ≡ one_ℚ → at ≡ value_at o c → r ≡ sub_walk one_ℚ (value_at o c)
difference r one at o c h k m = h ∙ ap (λ (x : ℚ). sub_walk x at) k ∙ ap (λ (x : ℚ). sub_walk one_ℚ x) m

pub one_more_first : (d new : List ℚ) (whole : Walk (List ℚ)) (c e : ℕ) (o : List Entry) (r : Walk ℚ) (one at v : ℚ) → c < e → new ≡ d ++ v ∷ [] → r ≡ sub_walk one at → one ≡ one_ℚ → at ≡ value_at o c → r ≡ Ok v
    → first_duals c (e - c) o d ≡ whole → first_duals (c + 1) (e - (c + 1)) o new ≡ whole
one_more_first d new whole c e o r one at v h k s p q m w =
    let z : sub_walk one_ℚ (value_at o c) ≡ Ok v = sym (difference r one at o c s p q) ∙ m in
    ap (λ (l : List ℚ). first_duals (c + 1) (e - (c + 1)) o l) k ∙ ap (λ (l : ℕ). first_duals l (e - (c + 1)) o (d ++ v ∷ [])) (add-one c)
    ∙ sym (ap (λ (x : Walk ℚ). then_walk x (λ y. first_duals (suc c) (e - (c + 1)) o (d ++ y ∷ []))) z) ∙ first_here d whole c e o h w

pub failed_first : (d : List ℚ) (whole : Walk (List ℚ)) (c e : ℕ) (o : List Entry) (r : Walk ℚ) (one at : ℚ) (p : Operation) → c < e → r ≡ sub_walk one at → one ≡ one_ℚ → at ≡ value_at o c → r ≡ Err p → first_duals c (e - c) o d ≡ whole → whole ≡ Err p
failed_first d whole c e o r one at p h s k q m w =
    let z : sub_walk one_ℚ (value_at o c) ≡ Err p = sym (difference r one at o c s k q) ∙ m in
    sym (first_here d whole c e o h w) ∙ ap (λ (x : Walk ℚ). then_walk x (λ y. first_duals (suc c) (e - (c + 1)) o (d ++ y ∷ []))) z

-- an error that is passed on
pub passed_on : {A X : Type 0} (w : Walk A) (P : X → Type 0) (r : Result X ArithmeticFault) (f : ArithmeticFault) → FaultOf w f → IsErrAnd r (λ e. e ≡ f) → MatchResult r P (FaultOf w)
passed_on w P (Ok x) f h k = absurd k
passed_on w P (Err e) f h k = subst (FaultOf w) (sym k) h
