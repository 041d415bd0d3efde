use Rattle.std.proofs.Common.{◌≡◌, ◌∙◌, ◌≤◌, ◌-◌, ◌^◌, [], min, ap, ap₂, sym, map, length, arith, List}
use Rattle.scen_tree.specs.declared.position.Position.{Position}
use Rattle.stoch_defs.specs.Random.{block_content}
use Rattle.scen_defs.specs.Program.{scenarios_content}
use Rattle.build_defs.specs.Built.{most_scenarios}
use Rattle.tree_build.specs.declared.wheels.Wheel.{Wheel}
use Rattle.tree_build.specs.declared.numbering.Debut.{Debut}
use Rattle.time_defs.specs.Periods.{stages}
use Rattle.tree_build.specs.Values.{Values, all_content}
use Rattle.tree_build.specs.Wheels.{wheels_of, product, sizes_of}
use Rattle.tree_build.specs.Numbering.{rows_content, paths_content}
use Rattle.tree_build.specs.Nodes.{block_node}
use Rattle.tree_build.specs.Finish.{position_at, block_paths, finish_walk}
use Rattle.tree_build.specs.Walks.{base_of, debuts_of, paths_of, block_rows, blocks_over, blocks_walk}
use Rattle.tree_build.proofs.BuildLemmas.{BlockSteps, staged_blocks, few_positions, blocks_few, blocks_end, blocks_stop, finished, stopped}
use Rattle.tree_build.proofs.program.build_blocks.Goals as goal

pub returns-in_err-scenarios : goal.returns-in_err-scenarios
returns-in_err-scenarios c =
    let core = c.args.core.now in
    let p = stages c.args.periods.now in
    let blocks = map block_content c.args.blocks.now in
    let wheels = c.in_ok-wheels.wheels.items in
    let rows = rows_content c.in_ok-rows.rows.items in
    let debuts = c.in_ok-debuts.field-0.debuts.items in
    let paths = paths_content c.in_ok-debuts.field-0.paths.items in
    let all = all_content c.in_ok-values.values.items in
    let count : c.len-stages.result ≡ length p.names = omega (arith, c.len-stages.ensures, c.args.periods.now.names.ok.0) in
    let steps : BlockSteps core p blocks wheels rows debuts paths all = record {
      wheels_made = c.in_ok-wheels.ensures ∙ ap (λ n. wheels_of n blocks) count;
      rows_made = c.in_ok-rows.ensures ∙ ap₂ block_rows count c.deref-2.ensures.value;
      debuts_made = c.in_ok-debuts.ensures.debuts ∙ ap (λ rows. debuts_of (rows_content rows)) c.deref-3.ensures.value;
      paths_made = c.in_ok-debuts.ensures.paths ∙ ap (λ rows. paths_of (rows_content rows)) c.deref-3.ensures.value;
      all_made =
          c.in_ok-values.ensures.all
          ∙ ap₂ (λ (base : List Values) (ws : List Wheel). map (block_node core p base blocks ws) c.deref-6.result.now) (ap all_content c.deref-4.ensures.value ∙ c.in_ok-base.ensures) c.deref-5.ensures.value
          ∙ ap (map (block_node core p (base_of core p) blocks wheels)) c.deref-6.ensures.value;
    } in
    let counted : c.count_of-count.result ≡ min (product (sizes_of wheels)) (2 ^ 64 - 1) = c.count_of-count.ensures ∙ ap (λ (ws : List Wheel). min (product (sizes_of ws)) (2 ^ 64 - 1)) c.deref.ensures.value in
    let small : product (sizes_of wheels) ≤ most_scenarios = omega (arith, counted, c.if-count-gt-MOST_SCENARIOS.false) in
    let few = blocks_few core p blocks wheels rows debuts paths all steps small c.in_ok-debuts.ensures.few c.in_ok-values.ensures.few in
    let again = ap (λ (ws : List Wheel). block_paths blocks ws [] paths) c.deref-9.ensures.value in
    stopped (blocks_over core p blocks) (blocks_walk core p blocks) (block_paths blocks c.deref-9.result.now [] paths) c.from_residual-in_err-scenarios.result c.in_err-scenarios.field-0.0 few c.from_residual-in_err-scenarios.ensures.1 c.in_err-scenarios.ensures
    (λ passed made. blocks_stop core p blocks wheels rows debuts paths all passed steps (sym again ∙ made))

pub finish-requires-clause-staged : goal.finish-requires-clause-staged
finish-requires-clause-staged c =
    let count : c.len-stages.result ≡ length c.args.periods.now.names.items = omega (arith, c.len-stages.ensures, c.args.periods.now.names.ok.0) in
    staged_blocks c.len-stages.result c.deref-2.result.now (rows_content c.in_ok-rows.rows.items) c.deref-10.result.now (omega (arith, count, c.requires.periods.few)) c.in_ok-rows.ensures
    (c.deref-10.ensures.value ∙ c.in_ok-debuts.ensures.debuts ∙ ap (λ rows. debuts_of (rows_content rows)) c.deref-3.ensures.value)

pub finish-requires-clause-few : goal.finish-requires-clause-few
finish-requires-clause-few c =
    few_positions (position_at (paths_content c.deref-7.result.now)) c.in_ok-debuts.field-0.debuts.items c.deref-11.result.now
    (c.deref-11.ensures.value ∙ c.in_ok-positions.ensures ∙ ap (map (position_at (paths_content c.deref-7.result.now))) c.deref-8.ensures.value) c.in_ok-debuts.ensures.few

pub finish-requires-clause-keeps : goal.finish-requires-clause-keeps
finish-requires-clause-keeps c program e =
    let core = c.args.core.now in
    let p = stages c.args.periods.now in
    let blocks = map block_content c.args.blocks.now in
    let wheels = c.in_ok-wheels.wheels.items in
    let rows = rows_content c.in_ok-rows.rows.items in
    let debuts = c.in_ok-debuts.field-0.debuts.items in
    let paths = paths_content c.in_ok-debuts.field-0.paths.items in
    let all = all_content c.in_ok-values.values.items in
    let count : c.len-stages.result ≡ length p.names = omega (arith, c.len-stages.ensures, c.args.periods.now.names.ok.0) in
    let steps : BlockSteps core p blocks wheels rows debuts paths all = record {
      wheels_made = c.in_ok-wheels.ensures ∙ ap (λ n. wheels_of n blocks) count;
      rows_made = c.in_ok-rows.ensures ∙ ap₂ block_rows count c.deref-2.ensures.value;
      debuts_made = c.in_ok-debuts.ensures.debuts ∙ ap (λ rows. debuts_of (rows_content rows)) c.deref-3.ensures.value;
      paths_made = c.in_ok-debuts.ensures.paths ∙ ap (λ rows. paths_of (rows_content rows)) c.deref-3.ensures.value;
      all_made =
          c.in_ok-values.ensures.all
          ∙ ap₂ (λ (base : List Values) (ws : List Wheel). map (block_node core p base blocks ws) c.deref-6.result.now) (ap all_content c.deref-4.ensures.value ∙ c.in_ok-base.ensures) c.deref-5.ensures.value
          ∙ ap (map (block_node core p (base_of core p) blocks wheels)) c.deref-6.ensures.value;
    } in
    let counted : c.count_of-count.result ≡ min (product (sizes_of wheels)) (2 ^ 64 - 1) = c.count_of-count.ensures ∙ ap (λ (ws : List Wheel). min (product (sizes_of ws)) (2 ^ 64 - 1)) c.deref.ensures.value in
    let small : product (sizes_of wheels) ≤ most_scenarios = omega (arith, counted, c.if-count-gt-MOST_SCENARIOS.false) in
    let few = blocks_few core p blocks wheels rows debuts paths all steps small c.in_ok-debuts.ensures.few c.in_ok-values.ensures.few in
    let again = ap (λ (ws : List Wheel). block_paths blocks ws [] paths) c.deref-9.ensures.value in
    let positions = c.in_ok-positions.positions.items in
    let placed : positions ≡ map (position_at paths) debuts = c.in_ok-positions.ensures ∙ ap₂ (λ paths (ds : List Debut). map (position_at (paths_content paths)) ds) c.deref-7.ensures.value c.deref-8.ensures.value in
    let scenarios = scenarios_content c.in_ok-scenarios.scenarios.items in
    let walked = blocks_end core p blocks wheels rows debuts paths all positions scenarios steps placed (sym again ∙ c.in_ok-scenarios.ensures)
    ∙ sym (ap₂ (λ (ds : List Debut) (ps : List Position). finish_walk core p ds ps scenarios all) c.deref-10.ensures.value c.deref-11.ensures.value) in
    c.requires.keeps few program (walked ∙ e)

pub returns : goal.returns
returns c =
    let core = c.args.core.now in
    let p = stages c.args.periods.now in
    let blocks = map block_content c.args.blocks.now in
    let wheels = c.in_ok-wheels.wheels.items in
    let rows = rows_content c.in_ok-rows.rows.items in
    let debuts = c.in_ok-debuts.field-0.debuts.items in
    let paths = paths_content c.in_ok-debuts.field-0.paths.items in
    let all = all_content c.in_ok-values.values.items in
    let count : c.len-stages.result ≡ length p.names = omega (arith, c.len-stages.ensures, c.args.periods.now.names.ok.0) in
    let steps : BlockSteps core p blocks wheels rows debuts paths all = record {
      wheels_made = c.in_ok-wheels.ensures ∙ ap (λ n. wheels_of n blocks) count;
      rows_made = c.in_ok-rows.ensures ∙ ap₂ block_rows count c.deref-2.ensures.value;
      debuts_made = c.in_ok-debuts.ensures.debuts ∙ ap (λ rows. debuts_of (rows_content rows)) c.deref-3.ensures.value;
      paths_made = c.in_ok-debuts.ensures.paths ∙ ap (λ rows. paths_of (rows_content rows)) c.deref-3.ensures.value;
      all_made =
          c.in_ok-values.ensures.all
          ∙ ap₂ (λ (base : List Values) (ws : List Wheel). map (block_node core p base blocks ws) c.deref-6.result.now) (ap all_content c.deref-4.ensures.value ∙ c.in_ok-base.ensures) c.deref-5.ensures.value
          ∙ ap (map (block_node core p (base_of core p) blocks wheels)) c.deref-6.ensures.value;
    } in
    let counted : c.count_of-count.result ≡ min (product (sizes_of wheels)) (2 ^ 64 - 1) = c.count_of-count.ensures ∙ ap (λ (ws : List Wheel). min (product (sizes_of ws)) (2 ^ 64 - 1)) c.deref.ensures.value in
    let small : product (sizes_of wheels) ≤ most_scenarios = omega (arith, counted, c.if-count-gt-MOST_SCENARIOS.false) in
    let few = blocks_few core p blocks wheels rows debuts paths all steps small c.in_ok-debuts.ensures.few c.in_ok-values.ensures.few in
    let again = ap (λ (ws : List Wheel). block_paths blocks ws [] paths) c.deref-9.ensures.value in
    let positions = c.in_ok-positions.positions.items in
    let placed : positions ≡ map (position_at paths) debuts = c.in_ok-positions.ensures ∙ ap₂ (λ paths (ds : List Debut). map (position_at (paths_content paths)) ds) c.deref-7.ensures.value c.deref-8.ensures.value in
    let scenarios = scenarios_content c.in_ok-scenarios.scenarios.items in
    let last = finish_walk core p c.deref-10.result.now c.deref-11.result.now scenarios all in
    let walked = blocks_end core p blocks wheels rows debuts paths all positions scenarios steps placed (sym again ∙ c.in_ok-scenarios.ensures)
    ∙ sym (ap₂ (λ (ds : List Debut) (ps : List Position). finish_walk core p ds ps scenarios all) c.deref-10.ensures.value c.deref-11.ensures.value) in
    finished (blocks_over core p blocks) (blocks_walk core p blocks) last c.finish.result few walked c.finish.ensures
