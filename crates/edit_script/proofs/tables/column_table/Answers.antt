-- The next name is a new one.
use Rattle.std.proofs.Common.{◌≡◌, List, ℕ, subst, sym, None}
use Rattle.smps_words.specs.Names.{place_of}
use Rattle.scen_defs.specs.declared.program.Column.{Column}
use Rattle.scen_defs.proofs.NewNames.{next_is_new}
use Rattle.scen_defs.specs.Names.{column_names}
use Rattle.edit_script.proofs.tables.column_table.Goals as goal

pub add-requires : goal.add-requires
add-requires c =
    let new = next_is_new (λ (column : Column). column.name) c.args.columns.now c.loop-column.names (column_names c.args.columns.now) c.loop-column.column-index c.column-item.result c.loop-column.invariant c.requires c.loop-column-test.true c.column-item.is in
    subst (λ (name : List ℕ). place_of c.loop-column.names name ≡ None) (sym c.as_bytes.ensures) new
