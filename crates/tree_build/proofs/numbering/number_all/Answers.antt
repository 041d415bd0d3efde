use Rattle.std.proofs.Common.{◌≡◌, ◌∙◌, ◌+◌, ◌++◌, ◌∷◌, [], ap, ap₂, sym, suc, drop, length, ℕ, List, append_assoc, add-one, arith}
use Rattle.tree_build.specs.declared.numbering.Debut.{Debut}
use Rattle.tree_build.specs.Numbering.{debuts_from, numbers_from, row_debuts, all_debuts, paths_from, rows_content, paths_content}
use Rattle.tree_build.proofs.NumberLemmas.{handed, grows, debuts_append, rows_read, paths_push}
use Rattle.tree_build.proofs.numbering.number_all.Goals as goal

pub returns-in_err-nodes-clause-err : goal.returns-in_err-nodes-clause-err
returns-in_err-nodes-clause-err c =
    let i = c.loop-scenario.scenario in
    let row = c.index-rows-scenario.result in
    let old = c.loop-scenario.debuts.items in
    let own = row_debuts i 0 c.deref.result.now in
    let later = all_debuts (suc i) (rows_content (drop (i + 1) c.args.rows.now)) in
    let whole : debuts_from (debuts_from old own) later ≡ debuts_from [] (all_debuts 0 (rows_content c.args.rows.now)) =
    ap (λ keys. debuts_from (debuts_from old (row_debuts i 0 keys)) later) c.deref.ensures.value
    ∙ sym (debuts_append old (row_debuts i 0 row.by_stage.items) later)
    ∙ sym (ap (λ rows. debuts_from old (all_debuts i rows)) (rows_read c.args.rows.now i row c.loop-scenario-test.true c.index-rows-scenario.is))
    ∙ c.loop-scenario.invariant.debuts in
    let long : length (debuts_from (debuts_from old own) later) ≡ length (debuts_from [] (all_debuts 0 (rows_content c.args.rows.now))) = ap length whole in
    handed c.from_residual.result (length (debuts_from old own)) _ c.in_err-nodes.field-0.0 c.from_residual.ensures.1 (omega (arith, grows (debuts_from old own) later, long)) c.in_err-nodes.ensures.err

pub loop-scenario-preserved : goal.loop-scenario-preserved
loop-scenario-preserved c =
    let i = c.loop-scenario.scenario in
    let row = c.index-rows-scenario.result in
    let old = c.loop-scenario.debuts.items in
    let new = c.number_row.new.debuts.items in
    let paths = c.loop-scenario.paths.items in
    let rest = rows_content (drop (i + 1) c.args.rows.now) in
    let read = rows_read c.args.rows.now i row c.loop-scenario-test.true c.index-rows-scenario.is in
    let made : new ≡ debuts_from old (row_debuts i 0 row.by_stage.items) = c.in_ok-nodes.ensures.debuts ∙ ap (λ keys. debuts_from old (row_debuts i 0 keys)) c.deref.ensures.value in
    record {
      paths =
          ap (λ l. paths_content l ++ paths_from new (i + 1) rest) c.in_ok-push.ensures.items
          ∙ ap (λ l. l ++ paths_from new (i + 1) rest) (paths_push paths _)
          ∙ append_assoc (paths_content paths) _ (paths_from new (i + 1) rest)
          ∙ ap₂ (λ (path : List ℕ) (more : List (List ℕ)). paths_content paths ++ path ∷ more)
          (c.in_ok-nodes.ensures.path ∙ ap (λ keys. numbers_from old (row_debuts i 0 keys)) c.deref.ensures.value)
          (ap₂ (λ (all : List Debut) (n : ℕ). paths_from all n rest) made (add-one i))
          ∙ sym (ap (λ rows. paths_content paths ++ paths_from old i rows) read) ∙ c.loop-scenario.invariant.paths;
      debuts =
          ap₂ (λ (all : List Debut) (n : ℕ). debuts_from all (all_debuts n rest)) made (add-one i)
          ∙ sym (debuts_append old (row_debuts i 0 row.by_stage.items) (all_debuts (suc i) rest))
          ∙ sym (ap (λ rows. debuts_from old (all_debuts i rows)) read) ∙ c.loop-scenario.invariant.debuts;
      tied = c.in_ok-nodes.ensures.tied;
      few = c.in_ok-nodes.ensures.few;
    }
