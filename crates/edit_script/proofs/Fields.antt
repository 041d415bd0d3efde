-- The second field of a line is a name.
use Rattle.std.proofs.Common.{ℕ, List, [], ◌∷◌}
use Rattle.std.specs.List.{AllByRecursion}
use Rattle.smps_words.specs.Line.{TextLine, reading_of}
use Rattle.smps_words.proofs.FieldLemmas.{AreFields, HasFields, text_fields}
use Rattle.scen_defs.specs.Lists.{Each}
use Rattle.edit_script.specs.Commands.{HasName}

named : (fields : List (List ℕ)) → AreFields 6 fields → HasName fields
named [] all = tt
named (_ ∷ []) all = tt
named (_ ∷ name ∷ _) all = all.1.0

have_names : (lines : List TextLine) → AllByRecursion HasFields lines → Each (λ (line : TextLine). HasName line.fields) lines
have_names [] all = tt
have_names (line ∷ lines) all = (named line.fields all.0, have_names lines all.1)

pub text_names : (text : List ℕ) → Each (λ (line : TextLine). HasName line.fields) (reading_of 0 text).lines
text_names text = have_names (reading_of 0 text).lines (text_fields text)
