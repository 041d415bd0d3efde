use Rattle.std.proofs.Common.{◌≡◌, ◌<◌, List, ℕ, length, get_or, subst, sym, None}
use Rattle.smps_words.specs.Names.{place_of}
use Rattle.scen_defs.specs.declared.program.Column.{Column}
use Rattle.scen_defs.proofs.NewNames.{next_is_new}
use Rattle.scen_defs.specs.Names.{column_names}
use Rattle.report_reader.proofs.tables.column_table.Goals as goal

pub add-requires : goal.add-requires
add-requires c =
    let items = c.deref-column-items.ensures.value in
    let within = subst (λ (xs : List Column). c.loop-column.column-index < length xs) items c.loop-column-test.true in
    let is = subst (λ (xs : List Column). c.column-item.result ≡ get_or xs c.loop-column.column-index c.column-item.result) items c.column-item.is in
    let new = next_is_new (λ (column : Column). column.name) c.args.program.now.columns.items c.loop-column.names (column_names c.args.program.now.columns.items) c.loop-column.column-index c.column-item.result c.loop-column.invariant c.requires within is in
    subst (λ (name : List ℕ). place_of c.loop-column.names name ≡ None) (sym c.as_bytes.ensures) new
