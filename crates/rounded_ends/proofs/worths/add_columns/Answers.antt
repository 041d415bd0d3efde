use Rattle.std.proofs.Common.{ℕ, ◌≡◌, sym, ap, ap₂, subst, ◌∙◌, eqb, get_or, List}
use Rattle.rationals.specs.Rational.{ℚ, zero_ℚ}
use Rattle.scen_defs.specs.Program.{content, view_of}
use Rattle.std.proofs.lemmas.Bool.{eq-eqb, ne_eqb}
use Rattle.scen_defs.specs.declared.program.Column.{Column}
use Rattle.scen_defs.specs.Program.{column_at}
use Rattle.scen_defs.proofs.NodeReads.{column_read}
use Rattle.scen_model.specs.Gathered.{lists_in, column_number}
use Rattle.rounded_ends.specs.Runs.{IsWorth, column_good, column_worth}
use Rattle.rounded_ends.proofs.PlaceLemmas.{place_there, place_past, place_done}
use Rattle.rounded_ends.proofs.RunLemmas.{runs_next, runs_same, runs_done}
use Rattle.rounded_ends.proofs.worths.add_columns.Goals as goal
use Rattle.rounded_ends.proofs.worths.add_columns.Goals.{then-column-stage+in-Some, else-column-stage}

pub loop-place-preserved : goal.loop-place-preserved
loop-place-preserved c =
    let p = c.args.program.now in
    let v = view_of (content p) in
    let d = column_number (lists_in c.args.numbers.now) c.args.seats.now c.args.node in
    let i = c.loop-place.place in
    let test = λ (e : Column). eqb e.stage (v.stage c.args.node) in
    elim c.if-column-stage.branch [
      | then-column-stage+in-Some w ↦
          let column_is : c.column-item.result ≡ column_at p.columns.items i =
          sym (column_read _ i c.column-item.result c.loop-place-test.true c.column-item.is) ∙ ap (λ (l : List Column). column_at l i) c.deref-column-items.ensures.value in
          let number_is : w.number_at-number.result ≡ d i = w.number_at-number.ensures ∙ ap₂ (λ (l : List ℚ) (k : ℕ). get_or l k zero_ℚ) c.list_at-list.ensures w.seat_at.ensures in
          let worth_is = subst (λ (z : ℚ). IsWorth c.args.side (v.lower i) (v.upper i) (d i) c.loop-place.sum z) (sym w.sum-is)
          (subst (λ (z : ℚ). IsWorth c.args.side (v.lower i) (v.upper i) z c.loop-place.sum w.in-Some.next) number_is
          (subst (λ (b : Column). IsWorth c.args.side b.lower b.upper w.number_at-number.result c.loop-place.sum w.in-Some.next) column_is w.in-Some.ensures)) in
          runs_next c.args.side (column_good v d) (column_worth v d) c.args.start (v.columns (v.stage c.args.node)) c.loop-place.sum c.if-column-stage.sum _ _ i
          (place_there test p.columns.items _ c.deref-column-items.ensures.value i c.column-item.result c.loop-place-test.true c.column-item.is (eq-eqb _ _ (w.if-column-stage.true ∙ c.stage-stage.ensures))) c.loop-place.invariant worth_is.good worth_is.beside
      | else-column-stage w ↦
          runs_same c.args.side (column_good v d) (column_worth v d) c.args.start (v.columns (v.stage c.args.node)) c.loop-place.sum c.if-column-stage.sum _ _ (sym w.sum-is)
          (place_past test p.columns.items _ c.deref-column-items.ensures.value i c.column-item.result c.loop-place-test.true c.column-item.is (ne_eqb _ _ (λ q. w.if-column-stage.false (q ∙ sym c.stage-stage.ensures)))) c.loop-place.invariant
    ]

pub returns : goal.returns
returns c =
    let p = c.args.program.now in
    let v = view_of (content p) in
    let d = column_number (lists_in c.args.numbers.now) c.args.seats.now c.args.node in
    let test = λ (e : Column). eqb e.stage (v.stage c.args.node) in
    runs_done c.args.side (column_good v d) (column_worth v d) c.args.start (v.columns (v.stage c.args.node)) c.loop-place.sum _
    (place_done test p.columns.items _ c.deref-column-items.ensures.value c.loop-place.place c.loop-place-test.false) c.loop-place.invariant
