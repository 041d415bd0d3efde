-- The code at the place of the first word is that of its row.
use Rattle.std.proofs.Common.{◌≡◌, ◌∙◌, true, false, sym, ap, arith, length, drop, List, ℕ, ◌+◌}
use Rattle.smps_words.specs.Names.{same_name}
use Rattle.smps_words.specs.Words.{rows_of, code_of}
use Rattle.smps_words.proofs.WordLemmas.{first_row, later_row}
use Rattle.smps_words.proofs.words.code_of.Goals as goal

pub returns-then-eq : goal.returns-then-eq
returns-then-eq c =
    let same : same_name c.args.word.now c.split_field.result.0.now ≡ true = cc in
    sym (first_row _ c.split_field.result.0.now _ c.args.codes.now c.loop-code.code-index c.args.word.now c.split_field.ensures.fields (omega arith) same) ∙ c.loop-code.invariant.code

pub loop-code-preserved : goal.loop-code-preserved
loop-code-preserved c =
    let other : same_name c.args.word.now c.split_field.result.0.now ≡ false = cc in
    record {
      left = omega (arith, ap length c.split_field.ensures.fields, ap length c.skip_blanks-rest-in-loop-code.ensures.fields);
      start = c.skip_blanks-rest-in-loop-code.ensures.start;
      code = ap (λ (fields : List (List ℕ)). code_of (rows_of fields (drop (c.loop-code.code-index + 1) c.args.codes.now)) c.args.word.now) c.skip_blanks-rest-in-loop-code.ensures.fields
          ∙ sym (later_row _ c.split_field.result.0.now _ c.args.codes.now c.loop-code.code-index c.args.word.now c.split_field.ensures.fields (omega arith) other) ∙ c.loop-code.invariant.code;
    }
