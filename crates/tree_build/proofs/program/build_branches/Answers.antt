use Rattle.std.proofs.Common.{◌≡◌, ◌∙◌, ◌≤◌, [], ap, ap₂, sym, map, length, arith, List, ℕ}
use Rattle.std.proofs.lemmas.List.{length-map}
use Rattle.scen_tree.specs.declared.position.Position.{Position}
use Rattle.stoch_defs.specs.Random.{branch_content}
use Rattle.scen_defs.specs.Program.{scenarios_content}
use Rattle.build_defs.specs.Built.{most_scenarios}
use Rattle.tree_build.specs.declared.numbering.Debut.{Debut}
use Rattle.time_defs.specs.Periods.{stages}
use Rattle.tree_build.specs.Values.{Values, all_content}
use Rattle.tree_build.specs.Branches.{branch_rows}
use Rattle.tree_build.specs.Numbering.{rows_content, paths_content}
use Rattle.tree_build.specs.Nodes.{branch_nodes}
use Rattle.tree_build.specs.Finish.{position_at, branch_paths, finish_walk}
use Rattle.tree_build.specs.Walks.{base_of, debuts_of, paths_of, branches_over, branches_walk}
use Rattle.tree_build.proofs.BuildLemmas.{BranchSteps, staged_branches, few_positions, branches_few, branches_end, branches_stop, finished, stopped}
use Rattle.tree_build.proofs.program.build_branches.Goals as goal

pub returns-in_err-scenarios : goal.returns-in_err-scenarios
returns-in_err-scenarios c =
    let core = c.args.core.now in
    let p = stages c.args.periods.now in
    let branches = map branch_content c.args.branches.now in
    let rows = rows_content c.in_ok-rows.rows.items in
    let debuts = c.in_ok-debuts.field-0.debuts.items in
    let paths = paths_content c.in_ok-debuts.field-0.paths.items in
    let all = all_content c.in_ok-values.values.items in
    let count : c.len-stages.result ≡ length p.names = omega (arith, c.len-stages.ensures, c.args.periods.now.names.ok.0) in
    let steps : BranchSteps core p branches rows debuts paths all = record {
      rows_made = c.in_ok-rows.ensures ∙ ap (λ n. branch_rows n [] branches) count;
      debuts_made = c.in_ok-debuts.ensures.debuts ∙ ap (λ rows. debuts_of (rows_content rows)) c.deref.ensures.value;
      paths_made = c.in_ok-debuts.ensures.paths ∙ ap (λ rows. paths_of (rows_content rows)) c.deref.ensures.value;
      all_made =
          c.in_ok-values.ensures.all
          ∙ ap₂ (λ (base : List Values) (ps : List (List ℕ)). branch_nodes core p base branches ps [] c.deref-4.result.now) (ap all_content c.deref-2.ensures.value ∙ c.in_ok-base.ensures) (ap paths_content c.deref-3.ensures.value)
          ∙ ap (branch_nodes core p (base_of core p) branches paths []) c.deref-4.ensures.value;
    } in
    let small : length branches ≤ most_scenarios = omega (arith, length-map c.args.branches.now branch_content, c.if-branches-gt-MOST_SCENARIOS.false) in
    let few = branches_few core p branches rows debuts paths all steps small c.in_ok-debuts.ensures.few c.in_ok-values.ensures.few in
    stopped (branches_over core p branches) (branches_walk core p branches) (branch_paths branches [] paths) c.from_residual-in_err-scenarios.result c.in_err-scenarios.field-0.0 few c.from_residual-in_err-scenarios.ensures.1 c.in_err-scenarios.ensures
    (λ passed made. branches_stop core p branches rows debuts paths all passed steps made)

pub finish-requires-clause-staged : goal.finish-requires-clause-staged
finish-requires-clause-staged c =
    let count : c.len-stages.result ≡ length c.args.periods.now.names.items = omega (arith, c.len-stages.ensures, c.args.periods.now.names.ok.0) in
    staged_branches c.len-stages.result (map branch_content c.args.branches.now) (rows_content c.in_ok-rows.rows.items) c.deref-7.result.now (omega (arith, count, c.requires.periods.few)) c.in_ok-rows.ensures
    (c.deref-7.ensures.value ∙ c.in_ok-debuts.ensures.debuts ∙ ap (λ rows. debuts_of (rows_content rows)) c.deref.ensures.value)

pub finish-requires-clause-few : goal.finish-requires-clause-few
finish-requires-clause-few c =
    few_positions (position_at (paths_content c.deref-5.result.now)) c.in_ok-debuts.field-0.debuts.items c.deref-8.result.now
    (c.deref-8.ensures.value ∙ c.in_ok-positions.ensures ∙ ap (map (position_at (paths_content c.deref-5.result.now))) c.deref-6.ensures.value) c.in_ok-debuts.ensures.few

pub finish-requires-clause-keeps : goal.finish-requires-clause-keeps
finish-requires-clause-keeps c program e =
    let core = c.args.core.now in
    let p = stages c.args.periods.now in
    let branches = map branch_content c.args.branches.now in
    let rows = rows_content c.in_ok-rows.rows.items in
    let debuts = c.in_ok-debuts.field-0.debuts.items in
    let paths = paths_content c.in_ok-debuts.field-0.paths.items in
    let all = all_content c.in_ok-values.values.items in
    let count : c.len-stages.result ≡ length p.names = omega (arith, c.len-stages.ensures, c.args.periods.now.names.ok.0) in
    let steps : BranchSteps core p branches rows debuts paths all = record {
      rows_made = c.in_ok-rows.ensures ∙ ap (λ n. branch_rows n [] branches) count;
      debuts_made = c.in_ok-debuts.ensures.debuts ∙ ap (λ rows. debuts_of (rows_content rows)) c.deref.ensures.value;
      paths_made = c.in_ok-debuts.ensures.paths ∙ ap (λ rows. paths_of (rows_content rows)) c.deref.ensures.value;
      all_made =
          c.in_ok-values.ensures.all
          ∙ ap₂ (λ (base : List Values) (ps : List (List ℕ)). branch_nodes core p base branches ps [] c.deref-4.result.now) (ap all_content c.deref-2.ensures.value ∙ c.in_ok-base.ensures) (ap paths_content c.deref-3.ensures.value)
          ∙ ap (branch_nodes core p (base_of core p) branches paths []) c.deref-4.ensures.value;
    } in
    let small : length branches ≤ most_scenarios = omega (arith, length-map c.args.branches.now branch_content, c.if-branches-gt-MOST_SCENARIOS.false) in
    let few = branches_few core p branches rows debuts paths all steps small c.in_ok-debuts.ensures.few c.in_ok-values.ensures.few in
    let positions = c.in_ok-positions.positions.items in
    let placed : positions ≡ map (position_at paths) debuts = c.in_ok-positions.ensures ∙ ap₂ (λ paths (ds : List Debut). map (position_at (paths_content paths)) ds) c.deref-5.ensures.value c.deref-6.ensures.value in
    let scenarios = scenarios_content c.in_ok-scenarios.scenarios.items in
    let walked = branches_end core p branches rows debuts paths all positions scenarios steps placed c.in_ok-scenarios.ensures
    ∙ sym (ap₂ (λ (ds : List Debut) (ps : List Position). finish_walk core p ds ps scenarios all) c.deref-7.ensures.value c.deref-8.ensures.value) in
    c.requires.keeps few program (walked ∙ e)

pub returns : goal.returns
returns c =
    let core = c.args.core.now in
    let p = stages c.args.periods.now in
    let branches = map branch_content c.args.branches.now in
    let rows = rows_content c.in_ok-rows.rows.items in
    let debuts = c.in_ok-debuts.field-0.debuts.items in
    let paths = paths_content c.in_ok-debuts.field-0.paths.items in
    let all = all_content c.in_ok-values.values.items in
    let count : c.len-stages.result ≡ length p.names = omega (arith, c.len-stages.ensures, c.args.periods.now.names.ok.0) in
    let steps : BranchSteps core p branches rows debuts paths all = record {
      rows_made = c.in_ok-rows.ensures ∙ ap (λ n. branch_rows n [] branches) count;
      debuts_made = c.in_ok-debuts.ensures.debuts ∙ ap (λ rows. debuts_of (rows_content rows)) c.deref.ensures.value;
      paths_made = c.in_ok-debuts.ensures.paths ∙ ap (λ rows. paths_of (rows_content rows)) c.deref.ensures.value;
      all_made =
          c.in_ok-values.ensures.all
          ∙ ap₂ (λ (base : List Values) (ps : List (List ℕ)). branch_nodes core p base branches ps [] c.deref-4.result.now) (ap all_content c.deref-2.ensures.value ∙ c.in_ok-base.ensures) (ap paths_content c.deref-3.ensures.value)
          ∙ ap (branch_nodes core p (base_of core p) branches paths []) c.deref-4.ensures.value;
    } in
    let small : length branches ≤ most_scenarios = omega (arith, length-map c.args.branches.now branch_content, c.if-branches-gt-MOST_SCENARIOS.false) in
    let few = branches_few core p branches rows debuts paths all steps small c.in_ok-debuts.ensures.few c.in_ok-values.ensures.few in
    let positions = c.in_ok-positions.positions.items in
    let placed : positions ≡ map (position_at paths) debuts = c.in_ok-positions.ensures ∙ ap₂ (λ paths (ds : List Debut). map (position_at (paths_content paths)) ds) c.deref-5.ensures.value c.deref-6.ensures.value in
    let scenarios = scenarios_content c.in_ok-scenarios.scenarios.items in
    let last = finish_walk core p c.deref-7.result.now c.deref-8.result.now scenarios all in
    let walked = branches_end core p branches rows debuts paths all positions scenarios steps placed c.in_ok-scenarios.ensures
    ∙ sym (ap₂ (λ (ds : List Debut) (ps : List Position). finish_walk core p ds ps scenarios all) c.deref-7.ensures.value c.deref-8.ensures.value) in
    finished (branches_over core p branches) (branches_walk core p branches) last c.finish.result few walked c.finish.ensures
