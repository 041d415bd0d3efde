-- Nothing is left, or a scenario more is there.
use Rattle.std.proofs.Common.{◌∙◌, ◌≤◌, ◌++◌, ◌∷◌, [], ℕ, List, ap, arith, drop, length, map, refl}
use Rattle.std.proofs.lemmas.List.{drop_all, map-append}
use Rattle.stoch_defs.specs.Finish.{branch_with, branches_with}
use Rattle.stoch_defs.specs.Random.{Branch, branch_content}
use Rattle.scenario_paths.specs.Paths.{node_stated}
use Rattle.smps_stoch.specs.View.{branches_in}
use Rattle.smps_stoch.proofs.FinishLemmas.{branches_step, ended, whole, no_branches, no_branch_names, no_branch_heads, no_branch_parts}
use Rattle.smps_stoch.proofs.finish.branches_with.Goals as goal

pub returns : goal.returns
returns c =
    let l = c.loop-scenario in
    let left = l.scenario-iterator.rest in
    let names = drop l.number c.args.names.now in
    whole (branches_in l.done) (branches_with names l.rest_heads.now (map node_stated left.items) l.rest_parts.now) _
    (ap (λ nodes. branches_with names l.rest_heads.now (map node_stated nodes) l.rest_parts.now)
    (ended left.items left.len left.ok.0 c.in-None.ensures.steps.0)
    ∙ no_branches names l.rest_heads.now l.rest_parts.now) l.invariant

pub returns-in_default : goal.returns-in_default
returns-in_default c =
    let l = c.loop-scenario in
    let names = drop l.number c.args.names.now in
    let nodes = map node_stated l.scenario-iterator.rest.items in
    whole (branches_in l.done) (branches_with names l.rest_heads.now nodes l.rest_parts.now) _
    (ap (λ heads. branches_with names heads nodes l.rest_parts.now)
    (ended l.rest_heads.now (length l.rest_heads.now) refl c.in_default.ensures.cases)
    ∙ no_branch_heads names nodes l.rest_parts.now) l.invariant

pub returns-in_default-split_first : goal.returns-in_default-split_first
returns-in_default-split_first c =
    let l = c.loop-scenario in
    let names = drop l.number c.args.names.now in
    let nodes = map node_stated l.scenario-iterator.rest.items in
    whole (branches_in l.done) (branches_with names l.rest_heads.now nodes l.rest_parts.now) _
    (ap (λ parts. branches_with names l.rest_heads.now nodes parts)
    (ended l.rest_parts.now (length l.rest_parts.now) refl c.in_default-split_first.ensures.cases)
    ∙ no_branch_parts names l.rest_heads.now nodes) l.invariant

pub returns-then-number-len : goal.returns-then-number-len
returns-then-number-len c =
    let l = c.loop-scenario in
    let nodes = map node_stated l.scenario-iterator.rest.items in
    let past : length c.args.names.now ≤ l.number = omega arith in
    whole (branches_in l.done) (branches_with (drop l.number c.args.names.now) l.rest_heads.now nodes l.rest_parts.now) _
    (ap (λ names. branches_with names l.rest_heads.now nodes l.rest_parts.now) (drop_all l.number c.args.names.now past)
    ∙ no_branch_names l.rest_heads.now nodes l.rest_parts.now) l.invariant

pub loop-scenario-preserved : goal.loop-scenario-preserved
loop-scenario-preserved c =
    let l = c.loop-scenario in
    let head = c.in-Some-split_first.head.now in
    let part = c.in-Some-split_first-2.part.now in
    let node = node_stated c.in-Some.scenario in
    branches_step c.args.names.now l.number l.rest_heads.now c.in-Some-split_first.further_heads.now head
    l.rest_parts.now c.in-Some-split_first-2.further_parts.now part
    (map node_stated l.scenario-iterator.rest.items) (map node_stated c.next.new.self.rest.items) node
    (branches_in l.done) (branches_in c.push.new.self)
    (branches_with c.args.names.now c.args.heads.now (map node_stated c.args.scenarios.items) c.args.parts.now) (omega arith)
    c.in-Some-split_first.ensures.cases.0 c.in-Some-split_first-2.ensures.cases.0 (ap (map node_stated) c.in-Some.ensures.steps.0)
    (ap (map branch_content) c.in_ok-push.ensures.items
    ∙ map-append branch_content l.done.items (c.in_ok-branch.branch ∷ [])
    ∙ ap (λ (branch : Branch). branches_in l.done ++ branch ∷ [])
    (c.in_ok-branch.ensures ∙ ap (λ (name : List ℕ). branch_with name head node part) c.name.ensures))
    l.invariant
