use Rattle.std.proofs.Common.{◌≡◌, ◌<◌, List, ℕ, length, get_or, subst, sym, None}
use Rattle.smps_words.specs.Names.{place_of}
use Rattle.scen_defs.specs.declared.program.Row.{Row}
use Rattle.scen_defs.proofs.NewNames.{next_is_new}
use Rattle.scen_defs.specs.Names.{row_names}
use Rattle.report_reader.proofs.tables.row_table.Goals as goal

pub add-requires : goal.add-requires
add-requires c =
    let items = c.deref-row-items.ensures.value in
    let within = subst (λ (xs : List Row). c.loop-row.row-index < length xs) items c.loop-row-test.true in
    let is = subst (λ (xs : List Row). c.row-item.result ≡ get_or xs c.loop-row.row-index c.row-item.result) items c.row-item.is in
    let new = next_is_new (λ (row : Row). row.name) c.args.program.now.rows.items c.loop-row.names (row_names c.args.program.now.rows.items) c.loop-row.row-index c.row-item.result c.loop-row.invariant c.requires within is in
    subst (λ (name : List ℕ). place_of c.loop-row.names name ≡ None) (sym c.as_bytes.ensures) new
