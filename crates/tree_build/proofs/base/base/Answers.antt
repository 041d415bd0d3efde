use Rattle.std.proofs.Common.{◌≡◌, ◌∙◌, ◌+◌, ◌++◌, ◌∷◌, ap, ap₂, sym, subst, [], List, map, arith}
use Rattle.build_defs.specs.Scenarios.{stages_from}
use Rattle.smps_build.specs.Gathered.{forms_from}
use Rattle.time_defs.specs.Periods.{stages}
use Rattle.tree_build.specs.Values.{Values, values_of, all_content}
use Rattle.tree_build.specs.Base.{base_costs, base_rows}
use Rattle.tree_build.specs.Rows.{RowsFrom}
use Rattle.tree_build.proofs.ValueLemmas.{values_rise}
use Rattle.tree_build.proofs.BaseLemmas.{base_is, rows_of_base, content_push, stages_push, map_push}
use Rattle.tree_build.proofs.base.base.Goals as goal

pub loop-stage-preserved : goal.loop-stage-preserved
loop-stage-preserved c =
    let stage = c.loop-stage.stage in
    let core = c.args.core.now in
    let p = stages c.args.periods.now in
    let made : c.deref-in-loop-stage-4.result.now ≡ forms_from core.columns.items 0 core.rows.items =
    c.deref-in-loop-stage-4.ensures.value ∙ c.in_ok-forms.ensures ∙ ap₂ (λ columns rows. forms_from columns 0 rows) c.deref.ensures.value c.deref-2.ensures.value in
    let costs : c.in_ok-cost.cost ≡ base_costs core.columns.items stage 0 p.columns =
    c.in_ok-cost.ensures ∙ ap₂ (λ columns all. base_costs columns stage 0 all) c.deref-in-loop-stage.ensures.value c.deref-in-loop-stage-2.ensures.value in
    let given : c.in_ok-rows.rows.items ≡ base_rows core.rows.items c.deref-in-loop-stage-4.result.now stage 0 p.rows =
    c.in_ok-rows.ensures ∙ ap₂ (λ rows all. base_rows rows c.deref-in-loop-stage-4.result.now stage 0 all) c.deref-in-loop-stage-3.ensures.value c.deref-in-loop-stage-5.ensures.value in
    let one =
    base_is core p stage c.deref-in-loop-stage-4.result.now c.in_ok-cost.cost c.in_ok-rows.rows.items c.requires made costs given in
    ap all_content c.in_ok-push.ensures.items ∙ content_push c.loop-stage.all.items _
    ∙ ap₂ (λ (front : List Values) (last : Values). front ++ last ∷ []) c.loop-stage.invariant one
    ∙ sym (map_push (values_of core p []) (stages_from 0 stage) stage)
    ∙ ap (λ n. map (values_of core p []) (stages_from 0 stage ++ n ∷ [])) (let e : stage ≡ 0 + stage = omega arith in e)
    ∙ ap (map (values_of core p [])) (sym (stages_push 0 stage))

pub invariant_of-push : goal.invariant_of-push
invariant_of-push c =
    let stage = c.loop-stage.stage in
    let core = c.args.core.now in
    let p = stages c.args.periods.now in
    let made : c.deref-in-loop-stage-4.result.now ≡ forms_from core.columns.items 0 core.rows.items =
    c.deref-in-loop-stage-4.ensures.value ∙ c.in_ok-forms.ensures ∙ ap₂ (λ columns rows. forms_from columns 0 rows) c.deref.ensures.value c.deref-2.ensures.value in
    let given : c.in_ok-rows.rows.items ≡ base_rows core.rows.items c.deref-in-loop-stage-4.result.now stage 0 p.rows =
    c.in_ok-rows.ensures ∙ ap₂ (λ rows all. base_rows rows c.deref-in-loop-stage-4.result.now stage 0 all) c.deref-in-loop-stage-3.ensures.value c.deref-in-loop-stage-5.ensures.value in
    record { rising = subst (RowsFrom 0) (sym (rows_of_base core p stage c.deref-in-loop-stage-4.result.now c.in_ok-rows.rows.items c.requires made given)) (values_rise core p [] stage) }
