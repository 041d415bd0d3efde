use Rattle.std.proofs.Common.{◌≡◌, ◌∙◌, ◌+◌, ◌++◌, ◌∷◌, ◌≤◌, [], ap, sym, subst, map, drop, get_or, sum_by, List, append_assoc}
use Rattle.std.proofs.lemmas.List.{drop_more}
use Rattle.stoch_defs.specs.Random.{block_content}
use Rattle.tree_build.specs.declared.limits.Counts.{Counts}
use Rattle.time_defs.specs.Periods.{stages}
use Rattle.tree_build.specs.Values.{Values, values_content, all_content}
use Rattle.tree_build.specs.Limits.{entries_in, rows_in, costs_in}
use Rattle.tree_build.specs.Nodes.{block_node}
use Rattle.tree_build.proofs.BaseLemmas.{content_push}
use Rattle.tree_build.proofs.NodeLemmas.{no_debut, counted, over_whole, block_more}
use Rattle.tree_build.proofs.LeastLemmas.{blocks_over_core}
use Rattle.tree_build.proofs.nodes.block_values.Goals as goal

pub returns-in-None-clause-err : goal.returns-in-None-clause-err
returns-in-None-clause-err c =
    let i = c.loop-debut.debut-index in
    let core = c.args.core.now in
    let p = stages c.args.periods.now in
    let debuts = c.args.debuts.now in
    let old = all_content c.loop-debut.all.items in
    let f = block_node core p (all_content c.args.base.now) (map block_content c.args.blocks.now) c.args.wheels.now in
    let one : values_content c.in_ok-next.next ≡ f (get_or debuts i no_debut) = c.in_ok-next.ensures in
    over_whole c.loop-debut.counts old (map f debuts) (values_content c.in_ok-next.next) c.loop-debut.invariant.entries c.loop-debut.invariant.rows c.loop-debut.invariant.costs c.in-None.ensures
    (λ g. subst (λ (l : List Values). sum_by g old + g (values_content c.in_ok-next.next) ≤ sum_by g l)
    (ap (λ d. old ++ d ∷ map f (drop (i + 1) debuts)) one ∙ sym (ap (λ ds. old ++ map f ds) (drop_more debuts i no_debut c.loop-debut-test.true)) ∙ c.loop-debut.invariant.kept)
    (block_more g old (map f (drop (i + 1) debuts)) (values_content c.in_ok-next.next)))

pub loop-debut-preserved : goal.loop-debut-preserved
loop-debut-preserved c =
    let i = c.loop-debut.debut-index in
    let core = c.args.core.now in
    let p = stages c.args.periods.now in
    let debuts = c.args.debuts.now in
    let old = all_content c.loop-debut.all.items in
    let f = block_node core p (all_content c.args.base.now) (map block_content c.args.blocks.now) c.args.wheels.now in
    let one : values_content c.in_ok-next.next ≡ f (get_or debuts i no_debut) = c.in_ok-next.ensures in
    let made : all_content c.push.new.self.items ≡ old ++ values_content c.in_ok-next.next ∷ [] = ap all_content c.in_ok-push.ensures.items ∙ content_push c.loop-debut.all.items c.in_ok-next.next in
    record {
      kept = ap (λ l. l ++ map f (drop (i + 1) debuts)) made
          ∙ append_assoc old (values_content c.in_ok-next.next ∷ []) (map f (drop (i + 1) debuts))
          ∙ ap (λ d. old ++ d ∷ map f (drop (i + 1) debuts)) one
          ∙ sym (ap (λ ds. old ++ map f ds) (drop_more debuts i no_debut c.loop-debut-test.true)) ∙ c.loop-debut.invariant.kept;
      entries = counted entries_in old _ (values_content c.in_ok-next.next) c.loop-debut.counts.entries _ made c.loop-debut.invariant.entries (ap (λ (s : Counts). s.entries) c.in-Some.ensures.0);
      rows = counted rows_in old _ (values_content c.in_ok-next.next) c.loop-debut.counts.rows _ made c.loop-debut.invariant.rows (ap (λ (s : Counts). s.rows) c.in-Some.ensures.0);
      costs = counted costs_in old _ (values_content c.in_ok-next.next) c.loop-debut.counts.costs _ made c.loop-debut.invariant.costs (ap (λ (s : Counts). s.costs) c.in-Some.ensures.0);
      small = c.in-Some.ensures.1;
    }

pub returns-then-is_core_over-clause-err : goal.returns-then-is_core_over-clause-err
returns-then-is_core_over-clause-err c =
    blocks_over_core c.args.core.now (stages c.args.periods.now) (all_content c.args.base.now) (map block_content c.args.blocks.now) c.args.wheels.now c.args.debuts.now
    (c.blocks_take_none.ensures c.if-blocks_take_none.true) (c.is_core_over.ensures c.if-is_core_over.true)
