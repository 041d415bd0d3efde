use Rattle.std.proofs.Common.{List, refl, length, sym, ap, subst, ◌∙◌, arith}
use Rattle.std.proofs.lemmas.List.{with_items_is}
use Rattle.rationals.specs.Rational.{ℚ}
use Rattle.scen_defs.specs.declared.program.Scenario.{Scenario as ScenarioOf}
use Rattle.scen_defs.specs.Program.{scenarios_content, content, view_of}
use Rattle.scen_defs.specs.Walks.{total_from}
use Rattle.scen_model.specs.Gathered.{Moves, everywhere, AreTotals}
use Rattle.scen_model.proofs.Gathers.{totals_moved}
use Rattle.scen_model.proofs.totals.all_totals.Goals as goal

pub returns-clause-length : goal.returns-clause-length
returns-clause-length c =
    let back = with_items_is c.resize.new.self c.add_paths.new.sums (omega arith) in
    omega (arith, ap length back, c.in_ok-resize.ensures.len, c.len.ensures)

pub returns-clause-totals : goal.returns-clause-totals
returns-clause-totals c =
    let v = view_of (content c.args.program.now) in
    let first = c.resize.new.self in
    let last = c.add_paths.new.sums in
    let back = with_items_is first last (omega arith) in
    subst (λ (sums : List ℚ). AreTotals v sums) (sym back)
    (totals_moved v first.items last (omega arith)
    (λ n d h. c.in_ok-resize.ensures.by_index.1 n d refl (omega (arith, c.new-sums.ensures.len)) (omega (arith, h, c.in_ok-resize.ensures.len)) ∙ c.zero.ensures)
    (subst (λ (sums : List ℚ). Moves everywhere (λ n s. total_from n s v.scenarios) sums last) c.as_mut_slice.ensures.value
    (subst (λ (scenarios : List ScenarioOf). Moves everywhere (λ n s. total_from n s (scenarios_content scenarios)) c.as_mut_slice.result.now last) c.deref.ensures.value c.in_ok-add_paths.ensures)))
