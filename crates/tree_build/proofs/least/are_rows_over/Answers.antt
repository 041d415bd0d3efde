use Rattle.std.proofs.Common.{◌≡◌, ◌∙◌, ◌+◌, [], List, ℕ, Option, ap, ap₂, map, get_or, arith}
use Rattle.stoch_defs.specs.Random.{branch_content}
use Rattle.tree_build.specs.Values.{all_content}
use Rattle.tree_build.specs.Numbering.{paths_content}
use Rattle.tree_build.specs.Least.{source_rows, branch_count, branch_counts}
use Rattle.tree_build.proofs.NodeLemmas.{no_debut}
use Rattle.tree_build.proofs.LeastLemmas.{total, count_push, count_next, rows_over}
use Rattle.tree_build.proofs.least.are_rows_over.Goals as goal

pub returns-in-None : goal.returns-in-None
returns-in-None c = λ _.
    let i = c.loop-debut.debut-index in
    let base = all_content c.args.base.now in
    let branches = map branch_content c.args.branches.now in
    let paths = paths_content c.args.paths.now in
    let debuts = c.args.debuts.now in
    let counts = c.loop-debut.counts.items in
    let own : c.source_rows-own.result ≡ branch_count base branches paths counts (get_or debuts i no_debut) =
    c.source_rows-own.ensures ∙ ap₂ (λ (cs : List ℕ) (parent : Option ℕ). source_rows base paths cs parent (get_or debuts i no_debut).stage) c.deref.ensures.value c.parent_of-parent.ensures in
    rows_over base branches paths counts debuts i c.source_rows-own.result c.loop-debut.rows c.loop-debut-test.true own c.loop-debut.invariant.rows c.in-None.ensures c.loop-debut.invariant.kept

pub loop-debut-preserved : goal.loop-debut-preserved
loop-debut-preserved c =
    let i = c.loop-debut.debut-index in
    let base = all_content c.args.base.now in
    let branches = map branch_content c.args.branches.now in
    let paths = paths_content c.args.paths.now in
    let debuts = c.args.debuts.now in
    let counts = c.loop-debut.counts.items in
    let own : c.source_rows-own.result ≡ branch_count base branches paths counts (get_or debuts i no_debut) =
    c.source_rows-own.ensures ∙ ap₂ (λ (cs : List ℕ) (parent : Option ℕ). source_rows base paths cs parent (get_or debuts i no_debut).stage) c.deref.ensures.value c.parent_of-parent.ensures in
    let push = count_push counts c.source_rows-own.result in
    let more : total c.push.new.self.items ≡ total counts + c.source_rows-own.result = ap total c.in_ok-push.ensures.items ∙ push in
    record {
      kept = count_next base branches paths counts c.push.new.self.items debuts i c.source_rows-own.result (branch_counts base branches paths [] debuts) c.loop-debut-test.true own c.in_ok-push.ensures.items c.loop-debut.invariant.kept;
      rows = omega (arith, more, c.in-Some.ensures.same, c.loop-debut.invariant.rows);
      small = c.in-Some.ensures.small;
    }
