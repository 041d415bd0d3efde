use Rattle.std.proofs.Common.{arith, ◌≡◌, ◌∙◌, ◌++◌, ◌∷◌, [], ap, ap₂, sym, length, get_or, ℕ, Option, Some}
use Rattle.std.specs.Vec.Iter.{into_iter_items}
use Rattle.scen_defs.specs.Program.{nodes_content}
use Rattle.scen_tree.specs.declared.position.Position.TheVariants.{Root}
use Rattle.tree_build.specs.Values.{values_content, all_content}
use Rattle.tree_build.specs.Finish.{value_nodes, no_debut, parent_in}
use Rattle.scen_defs.proofs.Contents.{nodes_push, nodes_length}
use Rattle.tree_build.proofs.FinishLemmas.{node_step}
use Rattle.tree_build.proofs.finish.nodes.Goals as goal

pub loop-found-preserved : goal.loop-found-preserved
loop-found-preserved c =
    let defs = c.args.defs.now in
    let debuts = c.args.debuts.now in
    let positions = c.args.positions.now in
    let all = c.loop-found.nodes.items in
    let built = nodes_content all in
    let rest = all_content (into_iter_items c.next.new.self) in
    let d = values_content c.in-Some.found in
    let number : c.len-number.result ≡ length built = omega (arith, c.len-number.ensures, nodes_length all, c.loop-found.nodes.ok.0) in (
      tt,
      tt,
      ap (λ l. value_nodes defs debuts positions (nodes_content l) rest) c.in_ok-push.ensures.items
          ∙ ap (λ l. value_nodes defs debuts positions l rest)
          (nodes_push all _
          ∙ ap₂ (λ (stage : ℕ) (parent : Option ℕ). built ++ Some (record { stage = stage; parent = parent; cost = d.cost; rows = c.in_ok-rows.rows.items }) ∷ [])
          (c.stage_at.ensures ∙ ap (λ n. (get_or debuts n no_debut).stage) number) (c.parent_at.ensures ∙ ap (λ n. parent_in (get_or positions n Root)) number))
          ∙ sym (node_step defs debuts positions built d rest c.in_ok-rows.rows.items c.in_ok-rows.ensures)
          ∙ sym (ap (λ l. value_nodes defs debuts positions built (all_content l)) c.in-Some.ensures.steps.0) ∙ c.loop-found.invariant.2,
    )
