use Rattle.std.proofs.Common.{◌≡◌, ◌∙◌, ◌<◌, ℕ, List, Option, Ok, refl, ap, subst, sym, get_or, length, arith}
use Rattle.rationals.specs.Rational.{ℚ, zero_ℚ}
use Rattle.scen_defs.specs.declared.program.Node.{Node as NodeOf}
use Rattle.scen_defs.specs.Program.{Program, content, node_at, nodes_content}
use Rattle.scen_defs.proofs.Contents.{nodes_length}
use Rattle.value_programs.specs.Mean.{node_form, mean_form, mean_rows, nodes_of_stage}
use Rattle.value_programs.specs.declared.parts.NodeForm.TheVariants.{Cost}
use Rattle.frac128.specs.Faults.{FaultOf}
use Rattle.value_programs.proofs.MeanSteps.{handed, node_made, rows_fails}
use Rattle.value_programs.proofs.means.mean_node.Goals as goal

pub nodes_of_stage-requires : goal.nodes_of_stage-requires
nodes_of_stage-requires c =
    let few = c.args.program.now.keeps.small.nodes in
    let same = nodes_length c.args.program.now.nodes.items in
    subst (λ (l : List (Option NodeOf)). length l < 4294967296) (sym c.deref.ensures.value) (omega (arith, few, same))

pub returns-in_err-rows : goal.returns-in_err-rows
returns-in_err-rows c =
    let w : ℕ → ℚ = λ n. get_or c.args.tree.now.chances.totals n zero_ℚ in
    let p : Program = content c.args.program.now in
    let s : ℕ = c.args.stage in
    let over : List ℕ = c.in_ok-over.over.items in
    let all : over ≡ nodes_of_stage p.nodes s = c.in_ok-over.ensures ∙ ap (λ l. nodes_of_stage (nodes_content l) s) c.deref.ensures.value in
    let cost : mean_form w (λ n. node_form Cost (node_at p.nodes n)) over ≡ Ok c.in_ok-cost.cost =
    sym (ap (λ l. mean_form w (λ n. node_form Cost (node_at (nodes_content l) n)) c.deref-3.result.now) c.deref-2.ensures.value
    ∙ ap (mean_form w (λ n. node_form Cost (node_at p.nodes n))) c.deref-3.ensures.value) ∙ c.in_ok-cost.ensures in
    let here : mean_rows (nodes_content c.deref-4.result.now) w c.deref-5.result.now s 0 0 c.deref-6.result.now ≡ mean_rows p.nodes w over s 0 0 p.rows =
    ap (λ l. mean_rows (nodes_content l) w c.deref-5.result.now s 0 0 c.deref-6.result.now) c.deref-4.ensures.value
    ∙ ap (λ l. mean_rows p.nodes w l s 0 0 c.deref-6.result.now) c.deref-5.ensures.value
    ∙ ap (mean_rows p.nodes w over s 0 0) c.deref-6.ensures.value in
    handed c.from_residual-in_err-rows.result _ c.in_err-rows.field-0.0 _ c.from_residual-in_err-rows.ensures.1
    (rows_fails p w s p.nodes p.rows over refl refl all c.in_ok-cost.cost c.in_err-rows.field-0.0 cost (subst (λ q. FaultOf q c.in_err-rows.field-0.0) here c.in_err-rows.ensures))

pub returns : goal.returns
returns c =
    let w : ℕ → ℚ = λ n. get_or c.args.tree.now.chances.totals n zero_ℚ in
    let p : Program = content c.args.program.now in
    let s : ℕ = c.args.stage in
    let over : List ℕ = c.in_ok-over.over.items in
    let all : over ≡ nodes_of_stage p.nodes s = c.in_ok-over.ensures ∙ ap (λ l. nodes_of_stage (nodes_content l) s) c.deref.ensures.value in
    let cost : mean_form w (λ n. node_form Cost (node_at p.nodes n)) over ≡ Ok c.in_ok-cost.cost =
    sym (ap (λ l. mean_form w (λ n. node_form Cost (node_at (nodes_content l) n)) c.deref-3.result.now) c.deref-2.ensures.value
    ∙ ap (mean_form w (λ n. node_form Cost (node_at p.nodes n))) c.deref-3.ensures.value) ∙ c.in_ok-cost.ensures in
    let here : mean_rows (nodes_content c.deref-4.result.now) w c.deref-5.result.now s 0 0 c.deref-6.result.now ≡ mean_rows p.nodes w over s 0 0 p.rows =
    ap (λ l. mean_rows (nodes_content l) w c.deref-5.result.now s 0 0 c.deref-6.result.now) c.deref-4.ensures.value
    ∙ ap (λ l. mean_rows p.nodes w l s 0 0 c.deref-6.result.now) c.deref-5.ensures.value
    ∙ ap (mean_rows p.nodes w over s 0 0) c.deref-6.ensures.value in
    node_made p w s p.nodes p.rows over refl refl all c.in_ok-cost.cost c.in_ok-rows.rows.items c.stage_before.result cost (sym here ∙ c.in_ok-rows.ensures) c.stage_before.ensures
