use Rattle.std.proofs.Common.{◌≡◌, suc, ◌∷◌, ◌∙◌, sym, ap, subst, drop, drop_of_length-le, drop-cons, add-one}
use Rattle.rationals.specs.Forms.{EndsBelow}
use Rattle.core_defs.specs.declared.parts.ColumnDef.{ColumnDef}
use Rattle.scen_defs.specs.Lists.{Each}
use Rattle.smps_build.specs.Gathered.{with_column, forms_from}
use Rattle.smps_build.proofs.Gathering.{with_entries, one_column, no_columns, blank_rows, blank_below, column_below}
use Rattle.smps_build.proofs.forms.row_forms.Goals as goal

pub loop-place-init : goal.loop-place-init
loop-place-init c = record {
  kept = ap (with_entries 0 c.args.columns.now 0) c.in_ok-forms.ensures ∙ blank_rows c.args.columns.now 0 c.args.rows.now;
  below = subst (Each (EndsBelow 0)) (sym c.in_ok-forms.ensures) (blank_below 0 c.args.rows.now);
}

pub loop-place-preserved : goal.loop-place-preserved
loop-place-preserved c =
    let place = c.loop-place.place in
    let column = c.index-columns-place.result in
    let later = drop (suc place) c.args.columns.now in
    let read : drop place c.args.columns.now ≡ column ∷ later = drop-cons c.args.columns.now place column c.loop-place-test.true ∙ ap (λ (first : ColumnDef). first ∷ later) (sym c.index-columns-place.is) in
    let entries = c.deref.ensures.value ∙ c.into_terms-entries.ensures.terms ∙ c.in_ok-copy.ensures.equal in
    let forms = c.in_ok-add_column.ensures ∙ ap (λ es. with_column place es 0 c.loop-place.forms.items) entries in
    record {
      kept = rw add-one
          (ap (with_entries (suc place) later 0) forms ∙ sym (one_column place 0 column later c.loop-place.forms.items)
          ∙ subst (λ cs. with_entries place cs 0 c.loop-place.forms.items ≡ forms_from c.args.columns.now 0 c.args.rows.now) read c.loop-place.invariant.kept);
      below = rw add-one (subst (Each (EndsBelow (suc place))) (sym forms) (column_below place 0 column.entries c.loop-place.forms.items c.loop-place.invariant.below));
    }

pub returns : goal.returns
returns c =
    sym (no_columns c.loop-place.place 0 c.loop-place.forms.items)
    ∙ subst (λ cs. with_entries c.loop-place.place cs 0 c.loop-place.forms.items ≡ forms_from c.args.columns.now 0 c.args.rows.now)
    (drop_of_length-le c.args.columns.now c.loop-place-test.false) c.loop-place.invariant.kept
