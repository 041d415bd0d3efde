use Rattle.std.proofs.Common.{List, subst, ap, ◌∙◌}
use Rattle.scen_defs.specs.declared.program.NodeRow.{NodeRow}
use Rattle.scen_defs.specs.Lists.{NumbersRise}
use Rattle.cut_defs.specs.declared.datum.ColumnBounds.{ColumnBounds}
use Rattle.cut_proof.specs.declared.cut.Used.{Used}
use Rattle.cut_proof.specs.View.{source_content, uses_content}
use Rattle.cut_sums.specs.Walks.{all_columns}
use Rattle.cut_sums.specs.Tallies.{RowsAscend, UsesAscend, outside}
use Rattle.cut_sums.proofs.OuterLaws.{outside_form, columns_rise, form_read_as}
use Rattle.cut_proof.proofs.gathered.form_by.Goals as goal

pub from_terms-requires : goal.from_terms-requires
from_terms-requires c = outside_form _ c.args.tally.now c.in_ok-terms.terms.items c.requires.rises c.in_ok-terms.ensures

pub returns-clause-rises : goal.returns-clause-rises
returns-clause-rises c =
    columns_rise c.args.datum.now.rows (uses_content c.args.source.now.used.items)
    (subst (λ (rs : List NodeRow). RowsAscend rs) c.rows.ensures c.keep_row_orders.ensures)
    (subst (λ (us : List Used). UsesAscend (uses_content us)) c.deref.ensures.value c.keep_use_orders.ensures)

pub returns-clause-form : goal.returns-clause-form
returns-clause-form c =
    let rises : NumbersRise 0 (all_columns c.args.datum.now.rows (uses_content c.args.source.now.used.items)) =
    columns_rise c.args.datum.now.rows (uses_content c.args.source.now.used.items)
    (subst (λ (rs : List NodeRow). RowsAscend rs) c.rows.ensures c.keep_row_orders.ensures)
    (subst (λ (us : List Used). UsesAscend (uses_content us)) c.deref.ensures.value c.keep_use_orders.ensures) in
    form_read_as c.args.datum.now (source_content c.args.source.now) (uses_content c.args.source.now.used.items) c.args.tally.now c.from_terms.result c.bounds.ensures.datum c.requires rises
    (c.from_terms.ensures ∙ c.in_ok-terms.ensures ∙ ap (λ (b : List ColumnBounds). outside b c.args.tally.now) c.bounds.ensures.bounds)
