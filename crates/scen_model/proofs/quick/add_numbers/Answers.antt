use Rattle.std.proofs.Common.{◌≡◌, ℕ, ◌+◌, ◌<◌, List, Ok, eqb, length, get_or, sym, ap, ap₂, ◌∙◌}
use Rattle.std.proofs.lemmas.Bool.{eq-eqb, ne_eqb}
use Rattle.std.proofs.lemmas.Result.{err_from_is_err_and}
use Rattle.rationals.specs.Rational.{ℚ, zero_ℚ}
use Rattle.scen_defs.specs.declared.program.Column.{Column}
use Rattle.scen_defs.specs.declared.program.Program.{Program as ProgramOf}
use Rattle.scen_defs.specs.Program.{content, column_at, view_of}
use Rattle.scen_defs.proofs.NodeReads.{column_read}
use Rattle.scen_model.specs.Walks.{fold_walk, worth_step}
use Rattle.scen_model.specs.Gathered.{lists_in, column_number}
use Rattle.scen_model.proofs.PlaceSteps.{places_from, next_place, stop_place, skip_place}
use Rattle.scen_model.proofs.quick.add_numbers.Goals as goal
use Rattle.scen_model.proofs.quick.add_numbers.Goals.{then-column-stage+in_ok-sum, else-column-stage}

-- its bounds are those of the column
step_is : (p : ProgramOf) (items : List Column) → items ≡ p.columns.items → (i : ℕ) (c : Column) → i < length items → c ≡ get_or items i c
    → (r q : ℚ) → r ≡ q → (s : ℚ) → worth_step c.lower c.upper r s ≡ worth_step ((view_of (content p)).lower i) ((view_of (content p)).upper i) q s
step_is p items same i c h e r q k s =
    let d = sym (column_read items i c h e) ∙ ap (λ l. column_at l i) same in
    ap₂ (λ (b : Column) (n : ℚ). worth_step b.lower b.upper n s) d k

pub returns-in_err-sum : goal.returns-in_err-sum
returns-in_err-sum c =
    let p = err_from_is_err_and c.from_residual.result c.from_residual.ensures.1 in
    rw (p.1, p.2) (stop_place _ _ _ _ _ c.deref-column-items.ensures.value _ _ c.loop-place.invariant c.column-item.result _ c.loop-place-test.true c.column-item.is (eq-eqb _ _ (c.if-column-stage.true ∙ c.stage-stage.ensures))
    (sym c.in_err-sum.was ∙ c.add_worth.ensures ∙ step_is c.args.program.now _ c.deref-column-items.ensures.value c.loop-place.place c.column-item.result c.loop-place-test.true c.column-item.is _ _ (c.number_at-number.ensures ∙ ap₂ (λ (l : List ℚ) k. get_or l k zero_ℚ) c.list_at-list.ensures c.seat_at.ensures) _))

pub loop-place-preserved : goal.loop-place-preserved
loop-place-preserved c = elim c.if-column-stage.branch [
  | then-column-stage+in_ok-sum w ↦
      next_place _ _ _ _ _ c.deref-column-items.ensures.value _ _ c.loop-place.invariant c.column-item.result c.if-column-stage.sum c.loop-place-test.true c.column-item.is (eq-eqb _ _ (w.if-column-stage.true ∙ c.stage-stage.ensures))
      (ap Ok w.sum-is ∙ sym w.in_ok-sum.was ∙ w.add_worth.ensures ∙ step_is c.args.program.now _ c.deref-column-items.ensures.value c.loop-place.place c.column-item.result c.loop-place-test.true c.column-item.is _ _ (w.number_at-number.ensures ∙ ap₂ (λ (l : List ℚ) k. get_or l k zero_ℚ) c.list_at-list.ensures w.seat_at.ensures) _)
  | else-column-stage w ↦
      ap (λ s. fold_walk (λ t j. worth_step ((view_of (content c.args.program.now)).lower j) ((view_of (content c.args.program.now)).upper j) (column_number (lists_in c.args.numbers.now) c.args.seats.now c.args.node j) t) s (places_from (λ (d : Column). eqb d.stage ((view_of (content c.args.program.now)).stage c.args.node)) (c.loop-place.place + 1) c.args.program.now.columns.items)) w.sum-is
      ∙ skip_place _ _ _ _ _ c.deref-column-items.ensures.value _ _ c.loop-place.invariant c.column-item.result c.loop-place-test.true c.column-item.is (ne_eqb _ _ (λ q. w.if-column-stage.false (q ∙ sym c.stage-stage.ensures)))
]
