-- None of the names so far is the word.
use Rattle.std.proofs.Common.{◌≡◌, drop}
use Rattle.smps_words.specs.Names.{place_from, place_of}
use Rattle.edit_script.proofs.entries.period_place.Given as goal

abbrev pub invariant-loop-place : goal.invariant-loop-place
invariant-loop-place l = place_from l.place (drop l.place l.periods) l.word ≡ place_of l.periods l.word
