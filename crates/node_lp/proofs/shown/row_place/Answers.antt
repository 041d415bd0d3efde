use Rattle.std.proofs.Common.{ap, ◌∙◌}
use Rattle.scen_defs.specs.declared.program.NodeRow.{NodeRow}
use Rattle.node_lp.proofs.ShownLemmas.{row_in}
use Rattle.node_lp.proofs.shown.row_place.Goals as goal

pub returns-then-rows-guess-clause-row : goal.returns-then-rows-guess-clause-row
returns-then-rows-guess-clause-row c = row_in c.args.rows.now c.args.guess c.index-rows-guess.result c.args.number c.if-guess-rows.true c.index-rows-guess.is (ap (λ (r : NodeRow). r.row) c.index-rows-guess.is ∙ c.if-rows-guess.true)

pub returns-then-rows-place-clause-row : goal.returns-then-rows-place-clause-row
returns-then-rows-place-clause-row c =
    row_in c.args.rows.now c.place_of_row-place.result c.index-rows-place.result c.args.number c.if-place-rows.true c.index-rows-place.is (ap (λ (r : NodeRow). r.row) c.index-rows-place.is ∙ c.if-rows-place.true)
