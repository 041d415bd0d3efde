-- Used cuts one by one are those of the whole list.
use Rattle.std.proofs.Common.{◌≡◌, ℕ, ◌+◌, ◌<◌, Bool, true, false, List, [], ◌∷◌, ◌++◌, length, get_or, drop, refl, sym, ap, ap₂, ◌∙◌, pos}
use Rattle.std.specs.Cmp.{signed_Decides}
use Rattle.rationals.specs.Rational.{ℚ, zero_ℚ}
use Rattle.rationals.specs.Forms.{is_zero}
use Rattle.rationals.proofs.Lowest.{zero_from_num, num_zero}
use Rattle.rationals.specs.Choices.{pick}
use Rattle.cut_defs.specs.Stored.{Stored, StoredUses}
use Rattle.cut_defs.specs.Stored.StoredUses.{No_stored, Use_stored}
use Rattle.cut_proof.specs.declared.cut.Used.{Used}
use Rattle.cut_proof.specs.Repairing.{snoc}
use Rattle.cut_proof.specs.View.{uses_content}
use Rattle.cut_proof.proofs.RepairLaws.{content_snoc}
use Rattle.node_lp.specs.Stored.{stored_uses}
use Rattle.node_lp.specs.Uses.{first, with_use, uses_joined}
use Rattle.node_lp.proofs.EndLemmas.{next_item}

-- ---- one more
pub with_none : (done : StoredUses) (w : ℚ) (c : Stored) → w ≡ zero_ℚ → done ≡ with_use done w c
with_none done w c e = let z : is_zero w ≡ true = (signed_Decides w.num (pos 0)).1 (num_zero w e) in sym (ap (λ b. pick b done (snoc done w c)) z)

pub with_one : (old new : List Used) (w : ℚ) (c c' : Stored) → (w ≡ zero_ℚ → ⊥) → new ≡ old ++ record { weight = w; cut = c } ∷ [] → c ≡ c' → uses_content new ≡ with_use (uses_content old) w c'
with_one old new w c c' h made e = ap uses_content made ∙ content_snoc old (record { weight = w; cut = c }) ∙ ap (snoc (uses_content old) w) e ∙ go (is_zero w) refl
  where
    go : (b : Bool) → is_zero w ≡ b → snoc (uses_content old) w c' ≡ pick b (uses_content old) (snoc (uses_content old) w c')
    go true z = absurd (h (zero_from_num w ((signed_Decides w.num (pos 0)).0 z)))
    go false z = refl

-- ---- the rest behind it
snoc_joined : (done : StoredUses) (w : ℚ) (c : Stored) (us : StoredUses) → uses_joined (snoc done w c) us ≡ uses_joined done (Use_stored w c us)
snoc_joined No_stored w c us = refl
snoc_joined (Use_stored v d ds) w c us = ap (λ r. Use_stored v d r) (snoc_joined ds w c us)

none_joined : (done : StoredUses) → uses_joined done No_stored ≡ done
none_joined No_stored = refl
none_joined (Use_stored v d ds) = ap (λ r. Use_stored v d r) (none_joined ds)

no_weights : (cs : List Stored) → stored_uses [] cs ≡ No_stored
no_weights [] = refl
no_weights (c ∷ cs) = refl

-- the cut's weight is the first of those that are left
one_joined : (done : StoredUses) (left : List ℚ) (c : Stored) (cs : List Stored) → uses_joined (with_use done (first left) c) (stored_uses (drop 1 left) cs) ≡ uses_joined done (stored_uses left (c ∷ cs))
one_joined done [] c cs = ap (uses_joined (with_use done zero_ℚ c)) (no_weights cs) ∙ ap (λ (us : StoredUses). uses_joined us No_stored) (sym (with_none done zero_ℚ c refl))
one_joined done (w ∷ ws) c cs = go (is_zero w)
  where
    go : (b : Bool) → uses_joined (pick b done (snoc done w c)) (stored_uses ws cs) ≡ uses_joined done (pick b (stored_uses ws cs) (Use_stored w c (stored_uses ws cs)))
    go true = refl
    go false = snoc_joined done w c (stored_uses ws cs)

pub use_next : (done new : StoredUses) (left others : List ℚ) (w : ℚ) (cuts : List Stored) (i : ℕ) (item : Stored) (all : StoredUses) → i < length cuts → item ≡ get_or cuts i item
    → w ≡ first left → others ≡ drop 1 left → new ≡ with_use done w item → uses_joined done (stored_uses left (drop i cuts)) ≡ all → uses_joined new (stored_uses others (drop (i + 1) cuts)) ≡ all
use_next done new left others w cuts i item all l e f o n h =
    ap₂ (λ (us : StoredUses) (ws : List ℚ). uses_joined us (stored_uses ws (drop (i + 1) cuts))) (n ∙ ap (λ q. with_use done q item) f) o
    ∙ one_joined done left item (drop (i + 1) cuts) ∙ ap (λ (cs : List Stored). uses_joined done (stored_uses left cs)) (sym (next_item cuts i item l e)) ∙ h

no_cuts : (ws : List ℚ) → stored_uses ws [] ≡ No_stored
no_cuts [] = refl
no_cuts (w ∷ ws) = refl

pub use_ends : (done : StoredUses) (left : List ℚ) (rest : List Stored) (all : StoredUses) → rest ≡ [] → uses_joined done (stored_uses left rest) ≡ all → done ≡ all
use_ends done left rest all e h = sym (none_joined done) ∙ ap (uses_joined done) (sym (no_cuts left)) ∙ ap (λ (cs : List Stored). uses_joined done (stored_uses left cs)) (sym e) ∙ h
