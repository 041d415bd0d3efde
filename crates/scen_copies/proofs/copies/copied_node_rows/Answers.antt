-- A row more, and none left.
use Rattle.std.proofs.Common.{◌≡◌, ◌∙◌, ◌+◌, ◌++◌, ◌∷◌, [], List, ap, sym, subst, drop, append_assoc, append-nil, drop_of_length-le}
use Rattle.rationals.specs.Sparse.{Entry}
use Rattle.scen_defs.specs.declared.program.NodeRow.{NodeRow}
use Rattle.scen_defs.proofs.NodeReads.{drop_read}
use Rattle.scen_copies.proofs.copies.copied_node_rows.Goals as goal

pub loop-row-preserved : goal.loop-row-preserved
loop-row-preserved c =
    let rows : List NodeRow = c.args.rows.now in
    let row : NodeRow = c.row-item.result in
    let all : List NodeRow = c.loop-row.all.items in
    let rest : List NodeRow = drop (c.loop-row.row-index + 1) rows in
    let made : List Entry → NodeRow = λ entries. record { row = row.row; entries = entries; low = row.low; high = row.high } in
    ap (λ (more : List NodeRow). more ++ rest) c.in_ok-push.ensures.items
    ∙ append_assoc all (made c.in_ok-entries.entries ∷ []) rest
    ∙ ap (λ (entries : List Entry). all ++ made entries ∷ rest) c.in_ok-entries.ensures.equal
    ∙ sym (ap (λ (left : List NodeRow). all ++ left) (drop_read rows c.loop-row.row-index row c.loop-row-test.true c.row-item.is))
    ∙ c.loop-row.invariant

pub returns : goal.returns
returns c =
    let all : List NodeRow = c.loop-row.all.items in
    sym (append-nil all) ∙ subst (λ (left : List NodeRow). all ++ left ≡ c.args.rows.now) (drop_of_length-le c.args.rows.now c.loop-row-test.false) c.loop-row.invariant
