-- What the test before a cut is put in says.
use Rattle.std.proofs.Common.{◌≡◌, false, ◌||◌, List, [], ◌∷◌, Some, None, refl, sym, ap, ap₂, ◌∙◌}
use Rattle.rationals.specs.Choices.{pick}
use Rattle.scen_defs.specs.Lists.{Each}
use Rattle.cut_defs.specs.declared.versions.Stamp.{Stamp}
use Rattle.cut_defs.specs.declared.versions.Touch.{Touch}
use Rattle.cut_defs.specs.Stored.{Stored}
use Rattle.cut_defs.specs.Support.{support, stamp_rests, any_rests, is_stale, first_stale, RestsOnNone}
use Rattle.cut_defs.proofs.Merges.{neither}
use Rattle.cut_pool.proofs.Fresh.{fresh_stamps}

-- a cut that rests on no known touch has no stale stamp
not_stale : (known : List Touch) (x : Stamp) (xs : List Stamp) → Each (λ t. any_rests (x ∷ xs) t ≡ false) known → (is_stale known x ≡ false) × Each (λ t. any_rests xs t ≡ false) known
not_stale [] x xs h = (refl, tt)
not_stale (t ∷ known) x xs h =
    let n = neither (stamp_rests x t) (any_rests xs t) h.0 in
    let i = not_stale known x xs h.1 in
    (ap₂ ◌||◌ n.0 i.0, (n.1, i.1))

pub none_stale : (known : List Touch) (xs : List Stamp) → Each (λ t. any_rests xs t ≡ false) known → first_stale known xs ≡ None
none_stale known [] h = refl
none_stale known (x ∷ xs) h = let n = not_stale known x xs h in ap (λ b. pick b (Some x) (first_stale known xs)) n.0 ∙ none_stale known xs n.1

module _ (known seen : List Touch) (cut : Stored) (xs : List Stamp) (k : seen ≡ known) (x : xs ≡ support cut) where
  same : first_stale seen xs ≡ first_stale known (support cut)
  same = ap₂ first_stale k x

  pub is_fresh : None ≡ first_stale seen xs → RestsOnNone cut known
  is_fresh e = fresh_stamps known cut (sym same ∙ sym e)

  pub not_fresh : (a : Stamp) → Some a ≡ first_stale seen xs → RestsOnNone cut known → ⊥
  not_fresh a e h = let q : Some a ≡ None = e ∙ same ∙ none_stale known (support cut) h in absurd (cc)
