use Rattle.std.proofs.Common.{◌∙◌, ◌++◌, ◌∷◌, ◌<◌, [], ap, ap₂, sym, subst, arith, List, ℕ}
use Rattle.tree_build.specs.Numbering.{rows_content}
use Rattle.tree_build.specs.Wheels.{product, sizes_of, digits_of, key_row, IsWithin}
use Rattle.tree_build.proofs.RangeLemmas.{range_push, keys_push}
use Rattle.tree_build.proofs.WheelLemmas.{digits_within}
use Rattle.tree_build.proofs.program.block_rows.Goals as goal

pub key_row-requires-clause-within : goal.key_row-requires-clause-within
key_row-requires-clause-within c =
    let sizes = sizes_of c.args.wheels.now in
    let below : c.loop-number.number < product sizes = omega (arith, c.requires, c.loop-number-test.true) in
    subst (IsWithin sizes) (sym (c.deref.ensures.value ∙ c.in_ok-digits.ensures)) (digits_within sizes c.loop-number.number below)

pub loop-number-preserved : goal.loop-number-preserved
loop-number-preserved c =
    let wheels = c.args.wheels.now in
    let row = λ (number : ℕ). key_row wheels c.args.stages (digits_of (sizes_of wheels) number) in
    ap rows_content c.in_ok-push.ensures.items ∙ keys_push c.loop-number.rows.items _
    ∙ ap₂ (λ (front : List (List ℕ)) (last : List ℕ). front ++ last ∷ []) c.loop-number.invariant
    (c.in_ok-by_stage.ensures ∙ ap (key_row wheels c.args.stages) (c.deref.ensures.value ∙ c.in_ok-digits.ensures))
    ∙ sym (range_push row c.loop-number.number)
