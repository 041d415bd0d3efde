use Rattle.std.proofs.Common.{◌≡◌, ℕ, ◌+◌, Ok, ◌<◌, List, Option, Some, length, get_or, sym, ap, ap₂, ◌∙◌}
use Rattle.std.proofs.lemmas.Result.{err_from_is_err_and}
use Rattle.rationals.specs.Rational.{ℚ, zero_ℚ}
use Rattle.rationals.specs.Sparse.{Entry}
use Rattle.scen_defs.specs.declared.program.Node.{Node as NodeOf}
use Rattle.scen_defs.specs.declared.program.Program.{Program as ProgramOf}
use Rattle.scen_defs.specs.Program.{content, view_of}
use Rattle.scen_defs.specs.Values.{at}
use Rattle.scen_model.specs.Walks.{fold_walk}
use Rattle.scen_model.specs.Gathered.{cost_step_with}
use Rattle.scen_model.proofs.NodeSteps.{live_from, next_live, stop_live, next_dead, node_is}
use Rattle.scen_model.proofs.costs.add_costs.Goals as goal
use Rattle.scen_model.proofs.costs.add_costs.Goals.{in-Some+in_ok-sum, in_default}

-- the step of the code is the step of the walk
step_is : (p : ProgramOf) (items : List (Option NodeOf)) (same : items ≡ p.nodes.items) (i : ℕ) (place : Option NodeOf) (n : NodeOf) → i < length items → place ≡ get_or items i place → place ≡ Some n
    → (t u : ℚ) → t ≡ u → (costs : List Entry) → costs ≡ n.cost → (x : ℕ → ℚ) (s : ℚ) → cost_step_with t costs x s ≡ cost_step_with u ((view_of (content p)).cost i) x s
step_is p items same i place n h e d t u a costs b x s =
    ap₂ (λ q m. cost_step_with q m x s) a (b ∙ sym (ap (λ m. m.cost) (node_is p.nodes.items items same i place n h e d)))

pub returns-in_err-sum : goal.returns-in_err-sum
returns-in_err-sum c =
    let p = err_from_is_err_and c.from_residual.result c.from_residual.ensures.1 in
    rw (p.1, p.2) (stop_live _ _ _ _ c.deref-slot-items.ensures.value _ _ c.loop-place.invariant c.slot-item.result c.in-Some.node _ c.loop-place-test.true c.slot-item.is c.in-Some.is
    (sym c.in_err-sum.was ∙ c.add_cost.ensures ∙ step_is c.args.program.now _ c.deref-slot-items.ensures.value _ c.slot-item.result c.in-Some.node c.loop-place-test.true c.slot-item.is c.in-Some.is _ _ c.number_at-total.ensures _ c.terms-costs.ensures _ _))

pub loop-place-preserved : goal.loop-place-preserved
loop-place-preserved c = elim c.match-slot.branch [
  | in-Some+in_ok-sum w ↦
      next_live _ _ _ _ c.deref-slot-items.ensures.value _ _ c.loop-place.invariant c.slot-item.result w.in-Some.node c.match-slot.sum c.loop-place-test.true c.slot-item.is w.in-Some.is
      (ap Ok w.sum-is ∙ sym w.in_ok-sum.was ∙ w.add_cost.ensures ∙ step_is c.args.program.now _ c.deref-slot-items.ensures.value _ c.slot-item.result w.in-Some.node c.loop-place-test.true c.slot-item.is w.in-Some.is _ _ w.number_at-total.ensures _ w.terms-costs.ensures _ _)
  | in_default w ↦
      ap (λ s. fold_walk (λ s n. cost_step_with (get_or c.args.totals.now n zero_ℚ) ((view_of (content c.args.program.now)).cost n) (at c.args.values.now n) s) s (live_from (c.loop-place.place + 1) c.args.program.now.nodes.items)) w.sum-is
      ∙ next_dead _ _ _ _ c.deref-slot-items.ensures.value _ _ c.loop-place.invariant c.slot-item.result c.loop-place-test.true c.slot-item.is w.in_default.is
]
