use Rattle.std.proofs.Common.{◌≡◌, ◌∙◌, ◌+◌, ◌++◌, ◌∷◌, [], ap, ap₂, sym, drop, length, ℕ, List, append_assoc, arith}
use Rattle.tree_build.specs.Numbering.{with_debut, debuts_from, numbers_from, row_debuts}
use Rattle.tree_build.proofs.NumberLemmas.{handed, grows, debut_at, row_read}
use Rattle.tree_build.proofs.numbering.number_row.Goals as goal

pub returns-in_err-number-clause-err : goal.returns-in_err-number-clause-err
returns-in_err-number-clause-err c =
    let stage = c.loop-stage.stage in
    let row = c.args.row.now in
    let d = debut_at c.args.scenario stage row in
    let old = c.loop-stage.debuts.items in
    let rest = row_debuts c.args.scenario (stage + 1) (drop (stage + 1) row) in
    let whole : debuts_from (with_debut old d) rest ≡ debuts_from c.args.debuts.now.items (row_debuts c.args.scenario 0 row) =
    sym (ap (debuts_from old) (row_read c.args.scenario stage row c.loop-stage-test.true)) ∙ c.loop-stage.invariant.debuts in
    let long : length (debuts_from (with_debut old d) rest) ≡ length (debuts_from c.args.debuts.now.items (row_debuts c.args.scenario 0 row)) = ap length whole in
    handed c.from_residual.result (length (with_debut old d)) _ c.in_err-number.field-0.0 c.from_residual.ensures.1 (omega (arith, grows (with_debut old d) rest, long)) c.in_err-number.ensures.err

pub loop-stage-preserved : goal.loop-stage-preserved
loop-stage-preserved c =
    let stage = c.loop-stage.stage in
    let row = c.args.row.now in
    let d = debut_at c.args.scenario stage row in
    let old = c.loop-stage.debuts.items in
    let path = c.loop-stage.path.items in
    let rest = row_debuts c.args.scenario (stage + 1) (drop (stage + 1) row) in
    let read = row_read c.args.scenario stage row c.loop-stage-test.true in
    record {
      path =
          ap (λ l. l ++ numbers_from c.visit.new.debuts.items rest) c.in_ok-push.ensures.items
          ∙ append_assoc path (c.in_ok-number.number ∷ []) (numbers_from c.visit.new.debuts.items rest)
          ∙ ap₂ (λ (n : ℕ) (more : List ℕ). path ++ n ∷ more) c.in_ok-number.ensures.number (ap (λ all. numbers_from all rest) c.in_ok-number.ensures.debuts)
          ∙ sym (ap (λ all. path ++ numbers_from old all) read) ∙ c.loop-stage.invariant.path;
      debuts = ap (λ all. debuts_from all rest) c.in_ok-number.ensures.debuts ∙ sym (ap (debuts_from old) read) ∙ c.loop-stage.invariant.debuts;
      tied = c.in_ok-number.ensures.tied;
      few = c.in_ok-number.ensures.few;
    }
