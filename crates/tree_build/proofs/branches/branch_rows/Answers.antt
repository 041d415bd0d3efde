use Rattle.std.proofs.Common.{◌≡◌, ◌∙◌, ◌++◌, ◌∷◌, ◌+◌, [], ap, ap₂, sym, suc, List, ℕ, map, length, drop, arith}
use Rattle.std.proofs.lemmas.List.{length_push}
use Rattle.scen_defs.proofs.NodeReads.{drop_read}
use Rattle.stoch_defs.specs.Random.{branch_content}
use Rattle.build_defs.specs.Scenarios.{stages_from}
use Rattle.tree_build.specs.Numbering.{rows_content}
use Rattle.tree_build.specs.Branches.{branch_key, branch_rows}
use Rattle.tree_build.proofs.RangeLemmas.{keys_push}
use Rattle.tree_build.proofs.branches.branch_rows.Goals as goal

pub loop-number-preserved : goal.loop-number-preserved
loop-number-preserved c =
    let i = c.loop-number.number in
    let rows = c.loop-number.rows.items in
    let b = c.index-branches-number.result in
    let count = c.args.count in
    let rest = map branch_content (drop (i + 1) c.args.branches.now) in
    let made : rows_content c.push.new.self.items ≡ rows_content rows ++ c.in_ok-by_stage.by_stage.items ∷ [] = ap rows_content c.in_ok-push.ensures.items ∙ keys_push rows _ in
    let own : i + 1 ≡ suc (length (rows_content rows)) = omega (arith, c.loop-number.invariant.long) in
    record {
      long = ap length made ∙ length_push (rows_content rows) c.in_ok-by_stage.by_stage.items ∙ ap (λ n. n + 1) c.loop-number.invariant.long;
      kept =
          ap (λ all. branch_rows count all rest) made
          ∙ ap (λ (row : List ℕ). branch_rows count (rows_content rows ++ row ∷ []) rest)
          (c.in_ok-by_stage.ensures ∙ ap₂ (λ all n. map (branch_key (rows_content all) (branch_content b) n) (stages_from 0 count)) c.deref.ensures.value own)
          ∙ sym (ap (λ all. branch_rows count (rows_content rows) (map branch_content all)) (drop_read c.args.branches.now i b c.loop-number-test.true c.index-branches-number.is))
          ∙ c.loop-number.invariant.kept;
    }
