use Rattle.std.proofs.Common.{◌≡◌, drop}
use Rattle.command_words.specs.Words.{verb_among}
use Rattle.command_words.proofs.command.verb_among.Given as goal

abbrev pub invariant-loop-verb : goal.invariant-loop-verb
invariant-loop-verb l = verb_among l.word (drop l.verb-index l.verbs) ≡ verb_among l.word l.verbs
