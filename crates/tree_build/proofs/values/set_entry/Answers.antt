use Rattle.std.proofs.Common.{◌≡◌, ◌∙◌, ap, sym, subst, take, drop, true, false, List}
use Rattle.tree_build.specs.declared.parts.RowValues.{RowValues}
use Rattle.tree_build.specs.Values.{RowsFrom, RowsBelow, IsRowAt, with_entry}
use Rattle.tree_build.proofs.RowLemmas.{row_there, row_missing, rows_set}
use Rattle.std.proofs.Common.{set}
use Rattle.tree_build.proofs.values.set_entry.Goals as goal

pub returns-in_ok-set_in_row-clause-set : goal.returns-in_ok-set_in_row-clause-set
returns-in_ok-set_in_row-clause-set c =
    let stands = subst (λ (l : List RowValues). IsRowAt l c.place-at.result c.args.row) c.deref-2.ensures.value (c.is_row_at.ensures.0 c.if-is_row_at.true) in
    ap (λ r. set c.args.rows.now.items c.place-at.result r) c.in_ok-set_in_row.ensures.set
    ∙ row_there c.args.row 0 c.place-at.result (with_entry c.args.column c.args.value) c.args.rows.now.items c.index_mut.result.now c.requires stands c.index_mut.ensures.value

pub returns-in_ok-set_in_row-clause-rises : goal.returns-in_ok-set_in_row-clause-rises
returns-in_ok-set_in_row-clause-rises c =
    rows_set 0 c.place-at.result c.args.rows.now.items _ c.index_mut.result.now (c.in_ok-set_in_row.ensures.row ∙ ap (λ (r : RowValues). r.row) c.index_mut.ensures.value) c.requires

pub returns-in_err-set_in_row-clause-rises : goal.returns-in_err-set_in_row-clause-rises
returns-in_err-set_in_row-clause-rises c =
    rows_set 0 c.place-at.result c.args.rows.now.items _ c.index_mut.result.now (c.in_err-set_in_row.ensures.row ∙ ap (λ (r : RowValues). r.row) c.index_mut.ensures.value) c.requires

pub returns-else-is_row_at-clause-set : goal.returns-else-is_row_at-clause-set
returns-else-is_row_at-clause-set c =
    let i = c.args.row in
    let at = c.place-at.result in
    let before = subst (λ (l : List RowValues). RowsBelow i (take at l)) c.deref.ensures.value c.place-at.ensures.before in
    let behind = subst (λ (l : List RowValues). RowsFrom i (drop at l)) c.deref.ensures.value c.place-at.ensures.behind in
    let none : IsRowAt c.args.rows.now.items at i → ⊥ = λ s. (let q : false ≡ true = sym c.if-is_row_at.false ∙ c.is_row_at.ensures.1 (subst (λ (l : List RowValues). IsRowAt l at i) (sym c.deref-2.ensures.value) s) in cc) in
    row_missing i at (with_entry c.args.column c.args.value) c.args.rows.now.items before behind none
