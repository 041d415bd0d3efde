use Rattle.std.proofs.Common.{◌≡◌, ◌∙◌, sym, subst, take, drop, true, false, refl, List}
use Rattle.tree_build.specs.declared.parts.RowValues.{RowValues}
use Rattle.tree_build.specs.Values.{RowsFrom, RowsBelow, IsRowAt, with_rhs}
use Rattle.tree_build.proofs.RowLemmas.{row_there, row_missing, rows_rise}
use Rattle.tree_build.proofs.values.set_rhs.Goals as goal

pub returns-then-is_row_at-clause-set : goal.returns-then-is_row_at-clause-set
returns-then-is_row_at-clause-set c =
    let stands = subst (λ (l : List RowValues). IsRowAt l c.place-at.result c.args.row) c.deref-2.ensures.value (c.is_row_at.ensures.0 c.if-is_row_at.true) in
    row_there c.args.row 0 c.place-at.result (with_rhs c.args.value) c.args.rows.now.items c.index_mut.result.now c.requires stands c.index_mut.ensures.value

pub returns-then-is_row_at-clause-rises : goal.returns-then-is_row_at-clause-rises
returns-then-is_row_at-clause-rises c =
    let stands = subst (λ (l : List RowValues). IsRowAt l c.place-at.result c.args.row) c.deref-2.ensures.value (c.is_row_at.ensures.0 c.if-is_row_at.true) in
    subst (RowsFrom 0) (sym (row_there c.args.row 0 c.place-at.result (with_rhs c.args.value) c.args.rows.now.items c.index_mut.result.now c.requires stands c.index_mut.ensures.value))
    (rows_rise c.args.row 0 (with_rhs c.args.value) c.args.rows.now.items (λ r. refl) c.requires)

pub returns-else-is_row_at-clause-set : goal.returns-else-is_row_at-clause-set
returns-else-is_row_at-clause-set c =
    let i = c.args.row in
    let at = c.place-at.result in
    let before = subst (λ (l : List RowValues). RowsBelow i (take at l)) c.deref.ensures.value c.place-at.ensures.before in
    let behind = subst (λ (l : List RowValues). RowsFrom i (drop at l)) c.deref.ensures.value c.place-at.ensures.behind in
    let none : IsRowAt c.args.rows.now.items at i → ⊥ = λ s. (let q : false ≡ true = sym c.if-is_row_at.false ∙ c.is_row_at.ensures.1 (subst (λ (l : List RowValues). IsRowAt l at i) (sym c.deref-2.ensures.value) s) in cc) in
    row_missing i at (with_rhs c.args.value) c.args.rows.now.items before behind none
