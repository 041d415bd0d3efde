use Rattle.std.proofs.Common.{arith, ◌≡◌, List, [], ◌∙◌, sym, ap}
use Rattle.std.specs.List.{insert}
use Rattle.std.specs.Vec.{with_items}
use Rattle.std.proofs.lemmas.List.{with_items_is}
use Rattle.lp_defs.specs.Lines.{divided, cleared_form}
use Rattle.lp_defs.specs.Path.{Row, pivoted, cleared_rows}
use Rattle.simplex_core.proofs.Pivots.{carry, begins, pivot_entry, at_divide, at_rows, clears, at_objective, at_end}
use Rattle.simplex_core.proofs.tableau.Tableau.pivot.Goals as goal

pub divide-requires : goal.divide-requires
divide-requires c = pivot_entry c.args.self.now c.args.column c.args.index c.self.inside.rows.items c.self.inside.objective c.remove.result c.into_line-pivot.result c.value_at.result c.self.view_is c.requires.within c.remove.ensures.value c.into_line-pivot.ensures c.value_at.ensures c.requires.nonzero

pub returns-in_err-divide : goal.returns-in_err-divide
returns-in_err-divide c =
    let b = begins c.args.self.now c.args.column c.args.index c.self.inside.rows.items c.self.inside.objective c.remove.result c.into_line-pivot.result c.remove.new.self.items c.self.view_is c.requires.within c.remove.ensures.value c.into_line-pivot.ensures c.remove.ensures.items in
    carry (pivoted c.args.column c.args.index c.args.self.now) (divided c.value_at.result c.into_line-pivot.result) c.from_residual.result c.in_err-divide.field-0.0 _
    (λ p e. b ∙ at_divide c.args.column c.args.index c.value_at.result c.into_line-pivot.result c.remove.new.self.items c.self.inside.objective p c.value_at.ensures e)
    c.in_err-divide.ensures c.from_residual.ensures.1

pub returns-in_err-clear_all : goal.returns-in_err-clear_all
returns-in_err-clear_all c =
    let b = begins c.args.self.now c.args.column c.args.index c.self.inside.rows.items c.self.inside.objective c.remove.result c.into_line-pivot.result c.remove.new.self.items c.self.view_is c.requires.within c.remove.ensures.value c.into_line-pivot.ensures c.remove.ensures.items in
    carry (pivoted c.args.column c.args.index c.args.self.now) (cleared_rows c.args.column c.divide.new.self c.as_mut_slice.result.now []) c.from_residual-in_err-clear_all.result c.in_err-clear_all.field-0.0 _
    (λ p e. b ∙ at_rows c.args.column c.args.index c.value_at.result c.into_line-pivot.result c.divide.new.self c.remove.new.self.items c.self.inside.objective p c.value_at.ensures c.in_ok-divide.ensures (ap (λ (l : List Row). cleared_rows c.args.column c.divide.new.self l []) (sym c.as_mut_slice.ensures.value) ∙ e))
    c.in_err-clear_all.ensures c.from_residual-in_err-clear_all.ensures.1

pub returns-in_err-clear : goal.returns-in_err-clear
returns-in_err-clear c =
    let b = begins c.args.self.now c.args.column c.args.index c.self.inside.rows.items c.self.inside.objective c.remove.result c.into_line-pivot.result c.remove.new.self.items c.self.view_is c.requires.within c.remove.ensures.value c.into_line-pivot.ensures c.remove.ensures.items in
    carry (pivoted c.args.column c.args.index c.args.self.now) (cleared_form c.value_at-factor.result c.entries.result.now c.self.inside.objective) c.from_residual-in_err-clear.result c.in_err-clear.field-0.0 _
    (λ p e. b ∙ at_objective c.args.column c.args.index c.value_at.result c.into_line-pivot.result c.divide.new.self c.remove.new.self.items c.clear_all.new.rows c.self.inside.objective p c.value_at.ensures c.in_ok-divide.ensures (ap (λ (l : List Row). cleared_rows c.args.column c.divide.new.self l []) (sym c.as_mut_slice.ensures.value) ∙ c.in_ok-clear_all.ensures)
    (clears c.args.column c.value_at-factor.result c.entries.result.now c.divide.new.self c.self.inside.objective c.value_at-factor.ensures c.entries.ensures ∙ e))
    c.in_err-clear.ensures c.from_residual-in_err-clear.ensures.1

pub returns : goal.returns
returns c =
    let b = begins c.args.self.now c.args.column c.args.index c.self.inside.rows.items c.self.inside.objective c.remove.result c.into_line-pivot.result c.remove.new.self.items c.self.view_is c.requires.within c.remove.ensures.value c.into_line-pivot.ensures c.remove.ensures.items in
    let back : (with_items c.remove.new.self c.clear_all.new.rows).items ≡ c.clear_all.new.rows = with_items_is c.remove.new.self c.clear_all.new.rows (omega arith) in
    let h : c.insert.new.self.items ≡ insert (with_items c.remove.new.self c.clear_all.new.rows).items c.args.index c.new.result = c.in_ok-insert.ensures.items in
    b ∙ at_end c.args.column c.args.index c.value_at.result c.into_line-pivot.result c.divide.new.self c.remove.new.self.items c.clear_all.new.rows c.insert.new.self.items c.self.inside.objective c.clear.new.self c.value_at.ensures c.in_ok-divide.ensures
    (ap (λ (l : List Row). cleared_rows c.args.column c.divide.new.self l []) (sym c.as_mut_slice.ensures.value) ∙ c.in_ok-clear_all.ensures)
    (clears c.args.column c.value_at-factor.result c.entries.result.now c.divide.new.self c.self.inside.objective c.value_at-factor.ensures c.entries.ensures ∙ c.in_ok-clear.ensures) (h ∙ ap (λ (l : List Row). insert l c.args.index c.new.result) back ∙ ap (λ (r : Row). insert c.clear_all.new.rows c.args.index r) c.new.ensures)
