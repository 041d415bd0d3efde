-- The first setting of some words.
use Rattle.std.proofs.Common.{◌≡◌, ℕ, List, [], ◌∷◌, ◌++◌, Some, None, refl}
use Rattle.command_words.specs.Words.{Given, setting_of, switch_of, cut, settings_from}

module _ (done : List Given) (word : List ℕ) (g : Given) where
  -- in one word
  pub joined : (after : List (List ℕ)) (parts : List ℕ × List ℕ) → Some parts ≡ cut word → Some g ≡ setting_of parts.0 parts.1 → settings_from done (word ∷ after) ≡ settings_from (done ++ g ∷ []) after
  joined [] parts e f = rw (← e, ← f) refl
  joined (next ∷ after) parts e f = rw (← e, ← f) refl

  -- in one word that is its name
  pub alone : (after : List (List ℕ)) → None ≡ cut word → Some g ≡ switch_of word → settings_from done (word ∷ after) ≡ settings_from (done ++ g ∷ []) after
  alone [] e f = rw (← e, ← f) refl
  alone (next ∷ after) e f = rw (← e, ← f) refl

  -- in two words
  pub apart : (next : List ℕ) (after : List (List ℕ)) → None ≡ cut word → None ≡ switch_of word → Some g ≡ setting_of word next
      → settings_from done (word ∷ next ∷ after) ≡ settings_from (done ++ g ∷ []) after
  apart next after e n f = rw (← e, ← n, ← f) refl
