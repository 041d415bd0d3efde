-- Stamps that come behind all others are appended by a merge.
use Rattle.std.proofs.Common.{◌≡◌, ◌-◌, ◌<◌, drop, get_or, ℕ, zero, suc, true, false, List, [], ◌∷◌, ◌++◌, length, slice_index_or, refl, sym, ap, subst, ◌∙◌, arith}
use Rattle.scen_defs.specs.Lists.{Each}
use Rattle.cut_defs.specs.declared.versions.Stamp.{Stamp}
use Rattle.rationals.specs.Rational.{zero_ℚ}
use Rattle.cut_defs.specs.Stored.{Source, Stored}
use Rattle.cut_defs.specs.Stored.Stored.{Stored_of}
use Rattle.cut_defs.specs.Stored.StoredUses.{No_stored}
use Rattle.cut_defs.specs.Support.{before_stamp, with_stamp, merge, own_by, support, with_uses, StampsRise}
use Rattle.cut_proof.specs.declared.cut.Used.{Used}
use Rattle.cut_proof.specs.View.{uses_content}
use Rattle.cut_defs.proofs.Supports.{before_on, merge_rises, supports_are_exact}

merge_behind : (xs : List Stamp) (y : Stamp) (ys : List Stamp) → Each (λ x. before_stamp x y ≡ true) xs → merge xs (y ∷ ys) ≡ xs ++ y ∷ ys
merge_behind [] y ys h = refl
merge_behind (x ∷ xs) y ys h =
    subst (λ t. elim t [ true ↦ x ∷ merge xs (y ∷ ys) | false ↦ elim (before_stamp y x) [ true ↦ y ∷ with_stamp x (merge xs) ys | false ↦ x ∷ merge xs ys ] ] ≡ x ∷ (xs ++ y ∷ ys)) (sym h.0) (ap (λ r. x ∷ r) (merge_behind xs y ys h.1))

-- before what comes behind the last stamp all stamps are
last_before : (xs : List Stamp) (d y : Stamp) (k : ℕ) → StampsRise xs → suc k ≡ length xs → before_stamp (slice_index_or xs k d) y ≡ true → Each (λ z. before_stamp z y ≡ true) xs
last_before [] d y k r q h = tt
last_before (a ∷ []) d y zero r q h = (h, tt)
last_before (a ∷ []) d y (suc k) r q h = absurd (omega (arith, q))
last_before (a ∷ b ∷ xs) d y zero r q h = absurd (omega (arith, q))
last_before (a ∷ b ∷ xs) d y (suc k) r q h =
    let i : Each (λ z. before_stamp z y ≡ true) (b ∷ xs) = last_before (b ∷ xs) d y k r.1 (omega (arith, q)) h in
    (before_on a b y r.0.0 i.0, i)

pub behind : (xs ys : List Stamp) (d e : Stamp) → StampsRise xs → (length xs ≡ 0 → ⊥) → (length ys ≡ 0 → ⊥) → before_stamp (slice_index_or xs (length xs - 1) d) (slice_index_or ys 0 e) ≡ true → merge xs ys ≡ xs ++ ys
behind xs [] d e r n m h = absurd (m refl)
behind xs (z ∷ ys) d e r n m h =
    let q : suc (length xs - 1) ≡ length xs = omega (arith, n) in
    merge_behind xs z ys (last_before xs d z (length xs - 1) r q h)

-- ---- what is merged rises
pub more_rise : (stamps more all : List Stamp) (cut : Stored) → StampsRise stamps → more ≡ support cut → all ≡ merge stamps more → StampsRise all
more_rise stamps more all cut h s e = subst StampsRise (sym (e ∙ ap (merge stamps) s)) (merge_rises stamps (support cut) h (supports_are_exact.rises cut))

-- a used cut is merged with what is there
pub used_at : (stamps all more end : List Stamp) (used : List Used) (i n : ℕ) (u : Used) → n ≡ suc i → i < length used → u ≡ get_or used i u → more ≡ support u.cut → all ≡ merge stamps more → with_uses stamps (uses_content (drop i used)) ≡ end → with_uses all (uses_content (drop n used)) ≡ end
unfolding with_uses
used_at stamps all more end used i n u q h e s m k = subst (λ (j : ℕ). with_uses all (uses_content (drop j used)) ≡ end) (sym q) (go used i h e k)
  where
    go : (used : List Used) (i : ℕ) → i < length used → u ≡ get_or used i u → with_uses stamps (uses_content (drop i used)) ≡ end → with_uses all (uses_content (drop (suc i) used)) ≡ end
    go [] i h e k = absurd (omega (arith, h))
    go (first ∷ rest) zero h e k = ap (λ l. with_uses l (uses_content rest)) (m ∙ ap (merge stamps) (s ∙ ap (λ (v : Used). support v.cut) e)) ∙ k
    go (first ∷ rest) (suc i) h e k = go rest i (omega (arith, h)) e k

pub own_rises : (s : Source) (all : List Stamp) → all ≡ own_by s.kind s → StampsRise all
unfolding support
own_rises s all e = subst StampsRise (sym e) (supports_are_exact.rises (Stored_of s No_stored zero_ℚ []))
