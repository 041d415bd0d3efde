-- Whether a cut rests on a known touch, as a test.
use Rattle.std.proofs.Common.{◌≡◌, Bool, true, false, IsTrue, ◌↔◌, List, Option, Some, None, is_none, refl, sym, ap, ◌∙◌}
use Rattle.cut_defs.specs.declared.versions.Stamp.{Stamp}
use Rattle.cut_defs.specs.declared.versions.Touch.{Touch}
use Rattle.cut_defs.specs.Stored.{Stored}
use Rattle.cut_defs.specs.Support.{support, first_stale, RestsOnNone}
use Rattle.cut_pool.proofs.Fresh.{fresh_stamps}
use Rattle.cut_pool.proofs.FreshTest.{none_stale}

pub fresh_is : (known : List Touch) (seen cut : Stored) (r : Bool) → seen ≡ cut → (IsTrue r ↔ RestsOnNone seen known) → r ≡ is_none (first_stale known (support cut))
fresh_is known seen cut r s f = go (first_stale known (support seen)) refl r f ∙ ap (λ c. is_none (first_stale known (support c))) s
  where
    go : (o : Option Stamp) → first_stale known (support seen) ≡ o → (b : Bool) → (IsTrue b ↔ RestsOnNone seen known) → b ≡ is_none (first_stale known (support seen))
    go None e b g = g.1 (fresh_stamps known seen e) ∙ sym (ap is_none e)
    go (Some a) e true g = absurd (let q : Some a ≡ None = sym e ∙ none_stale known (support seen) (g.0 refl) in cc)
    go (Some a) e false g = sym (ap is_none e)

-- a cut that a pool takes without a test
pub rests_on_none : (known : List Touch) (cut : Stored) → is_none (first_stale known (support cut)) ≡ true → RestsOnNone cut known
rests_on_none known cut t = go (first_stale known (support cut)) refl t
  where
    go : (o : Option Stamp) → first_stale known (support cut) ≡ o → is_none o ≡ true → RestsOnNone cut known
    go None e t = fresh_stamps known cut e
    go (Some a) e t = absurd (cc)
