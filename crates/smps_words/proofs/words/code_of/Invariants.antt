-- The words and codes that are left give the code.
use Rattle.std.proofs.Common.{◌≡◌, ◌<◌, ◌+◌, length, drop, true}
use Rattle.smps_words.specs.Line.{fields_of, starts_field}
use Rattle.smps_words.specs.Words.{rows_of, code_of}
use Rattle.smps_words.proofs.words.code_of.Given as goal

abbrev pub invariant-loop-code : goal.invariant-loop-code
invariant-loop-code l = record {
  left : length (fields_of l.rest) + l.code-index ≡ length l.codes;
  start : 0 < length l.rest → starts_field l.rest ≡ true;
  code : code_of (rows_of (fields_of l.rest) (drop l.code-index l.codes)) l.word ≡ code_of (rows_of (fields_of l.words) l.codes) l.word;
}
