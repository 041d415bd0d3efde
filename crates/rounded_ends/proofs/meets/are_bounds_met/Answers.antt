use Rattle.std.proofs.Common.{ℕ, ◌≡◌, sym, ap, subst, ◌∙◌, eqb, List}
use Rattle.rationals.specs.Rational.{ℚ}
use Rattle.scen_defs.specs.Program.{content, view_of}
use Rattle.scen_defs.specs.Values.{at}
use Rattle.std.proofs.lemmas.Bool.{eq-eqb, ne_eqb}
use Rattle.rationals.specs.Intervals.{Between}
use Rattle.scen_defs.specs.declared.program.Column.{Column}
use Rattle.scen_defs.specs.Program.{column_at}
use Rattle.scen_defs.proofs.NodeReads.{column_read}
use Rattle.rounded_ends.specs.Met.{BoundsMet}
use Rattle.rounded_ends.proofs.PlaceLemmas.{place_there, place_past, each_next, each_past}
use Rattle.rounded_ends.proofs.meets.are_bounds_met.Goals as goal
use Rattle.rounded_ends.proofs.meets.are_bounds_met.Goals.{then-column-stage+else-not-is_within, else-column-stage}

pub loop-place-preserved : goal.loop-place-preserved
loop-place-preserved c =
    let p = c.args.program.now in
    let v = view_of (content p) in
    let x = at c.args.values.now in
    let i = c.loop-place.place in
    let P : ℕ → Type 0 = λ j. Between (v.lower j) (v.upper j) (x c.args.node j) in
    let test = λ (d : Column). eqb d.stage (v.stage c.args.node) in
    elim c.if-column-stage.branch [
      | then-column-stage+else-not-is_within w ↦
          let column_is : c.column-item.result ≡ column_at p.columns.items i =
          sym (column_read _ i c.column-item.result c.loop-place-test.true c.column-item.is) ∙ ap (λ (l : List Column). column_at l i) c.deref-column-items.ensures.value in
          each_next P (BoundsMet v x c.args.node) _ _ i
          (place_there test p.columns.items _ c.deref-column-items.ensures.value i c.column-item.result c.loop-place-test.true c.column-item.is (eq-eqb _ _ (w.if-column-stage.true ∙ c.stage-stage.ensures))) c.loop-place.invariant
          (subst (λ (b : Column). Between b.lower b.upper (x c.args.node i)) column_is
          (subst (λ (z : ℚ). Between c.column-item.result.lower c.column-item.result.upper z) w.get_near-value.ensures (w.is_within.ensures w.if-not-is_within.false)))
      | else-column-stage w ↦
          each_past P (BoundsMet v x c.args.node) _ _
          (place_past test p.columns.items _ c.deref-column-items.ensures.value i c.column-item.result c.loop-place-test.true c.column-item.is (ne_eqb _ _ (λ q. w.if-column-stage.false (q ∙ sym c.stage-stage.ensures)))) c.loop-place.invariant
    ]
