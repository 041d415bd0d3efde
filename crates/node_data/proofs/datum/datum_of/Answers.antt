use Rattle.std.proofs.Common.{◌≡◌, ◌∙◌, ap, sym, subst, map}
use Rattle.rationals.specs.Forms.{IsForm}
use Rattle.scen_defs.specs.Program.{Node, Program, content, nodes_content, node_content, node_at}
use Rattle.scen_nodes.specs.Derived.{derived_cost, derived_row}
use Rattle.cut_sums.specs.DatumView.{datum_with}
use Rattle.cut_defs.specs.Data.{datum_of as book_datum}
use Rattle.node_data.specs.Frames.{Frame}
use Rattle.node_data.specs.NodeData.{derived_bounds, share_in, node_datum}
use Rattle.node_data.proofs.BookData.{same_datum, data_are_the_books}
use Rattle.node_data.proofs.DatumLemmas.{found_is}
use Rattle.node_data.proofs.datum.datum_of.Goals as goal

pub returns-clause-of_book : goal.returns-clause-of_book
returns-clause-of_book c = λ book is_in same.
    let p : Program = content c.args.program.now in
    let n = c.args.node in
    let rv = c.args.version.rows in
    let cv = c.args.version.costs in
    let kind = c.args.kind in
    let tree = c.args.tree.now in
    let stated = c.in-Some.stated.now in
    let place : node_content stated ≡ node_at p.nodes n = sym (ap (λ ns. node_at (nodes_content ns) n) (sym c.deref.ensures.value) ∙ c.in-Some.ensures.node) in
    let books = data_are_the_books kind p tree n rv cv book is_in (subst IsForm (ap (λ (m : Node). m.cost) place) c.keeps_order.ensures) in
    found_is c.try_new.result
    (datum_with n rv cv c.in_ok-cost.cost c.in_ok-rows.rows.items c.in_ok-bounds.bounds.items c.in_ok-shares.shares.items)
    (book_datum book n rv cv) c.try_new.ensures.exact c.try_new.ensures.datum
    (same_datum n rv cv
    (c.in_ok-cost.ensures ∙ ap (λ (m : Node). derived_cost kind m.cost) place)
    (c.in_ok-rows.ensures ∙ ap (map (derived_row kind)) c.deref-2.ensures.value ∙ ap (λ (m : Node). map (derived_row kind) m.rows) place)
    (c.in_ok-bounds.ensures ∙ ap (map (derived_bounds kind)) c.columns.ensures)
    (c.in_ok-shares.ensures ∙ ap (map (share_in tree)) c.children.ensures)
    ∙ ap (λ (frame : Frame). node_datum kind p frame tree n rv cv) same ∙ books.0)
    books.1
