use Rattle.std.proofs.Common.{◌≡◌, ℕ, ◌<◌, List, length, get_or, sym, ap, ap₂, ◌∙◌}
use Rattle.std.proofs.lemmas.Bool.{eq-eqb, ne_eqb}
use Rattle.std.proofs.lemmas.Result.{err_from_is_err_and}
use Rattle.rationals.specs.Rational.{ℚ}
use Rattle.scen_defs.specs.declared.program.Column.{Column}
use Rattle.scen_defs.specs.declared.program.Program.{Program as ProgramOf}
use Rattle.scen_defs.specs.Program.{content, column_at, view_of}
use Rattle.scen_defs.proofs.NodeReads.{column_read}
use Rattle.scen_model.specs.declared.feasibility.Ends.{Ends}
use Rattle.scen_model.specs.Walks.{end_of, is_between, test}
use Rattle.scen_model.proofs.PlaceSteps.{next_place, stop_place, skip_place}
use Rattle.scen_model.proofs.feasibility.test_bounds.Goals as goal
use Rattle.scen_model.proofs.feasibility.test_bounds.Goals.{then-column-stage+in_ok-test_number, else-column-stage}

-- its bounds are those of the column
step_is : (p : ProgramOf) (items : List Column) → items ≡ p.columns.items → (i : ℕ) (c : Column) → i < length items → c ≡ get_or items i c
    → (ends : Ends) (q r : ℚ) → q ≡ r → test (is_between (end_of ends c.lower) (end_of ends c.upper) q) ≡ test (is_between (end_of ends ((view_of (content p)).lower i)) (end_of ends ((view_of (content p)).upper i)) r)
step_is p items same i c h e ends q r k =
    let d = sym (column_read items i c h e) ∙ ap (λ l. column_at l i) same in
    ap₂ (λ (b : Column) (n : ℚ). test (is_between (end_of ends b.lower) (end_of ends b.upper) n)) d k

pub returns-in_err-test_number : goal.returns-in_err-test_number
returns-in_err-test_number c =
    let p = err_from_is_err_and c.from_residual.result c.from_residual.ensures.1 in
    rw (p.1, p.2) (stop_place _ _ _ _ _ c.deref-column-items.ensures.value _ _ c.loop-place.invariant c.column-item.result _ c.loop-place-test.true c.column-item.is (eq-eqb _ _ (c.if-column-stage.true ∙ c.stage-stage.ensures))
    (sym c.in_err-test_number.was ∙ c.test_number.ensures ∙ step_is c.args.program.now _ c.deref-column-items.ensures.value c.loop-place.place c.column-item.result c.loop-place-test.true c.column-item.is c.args.ends _ _ c.get_near-value.ensures))

pub loop-place-preserved : goal.loop-place-preserved
loop-place-preserved c = elim c.if-column-stage.branch [
  | then-column-stage+in_ok-test_number w ↦
      next_place _ _ _ _ _ c.deref-column-items.ensures.value _ _ c.loop-place.invariant c.column-item.result tt c.loop-place-test.true c.column-item.is (eq-eqb _ _ (w.if-column-stage.true ∙ c.stage-stage.ensures))
      (sym w.in_ok-test_number.was ∙ w.test_number.ensures ∙ step_is c.args.program.now _ c.deref-column-items.ensures.value c.loop-place.place c.column-item.result c.loop-place-test.true c.column-item.is c.args.ends _ _ w.get_near-value.ensures)
  | else-column-stage w ↦
      skip_place _ _ _ _ _ c.deref-column-items.ensures.value _ _ c.loop-place.invariant c.column-item.result c.loop-place-test.true c.column-item.is (ne_eqb _ _ (λ q. w.if-column-stage.false (q ∙ sym c.stage-stage.ensures)))
]
