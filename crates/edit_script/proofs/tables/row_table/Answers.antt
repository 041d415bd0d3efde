-- The next name is a new one.
use Rattle.std.proofs.Common.{◌≡◌, List, ℕ, subst, sym, None}
use Rattle.smps_words.specs.Names.{place_of}
use Rattle.scen_defs.specs.declared.program.Row.{Row}
use Rattle.scen_defs.proofs.NewNames.{next_is_new}
use Rattle.scen_defs.specs.Names.{row_names}
use Rattle.edit_script.proofs.tables.row_table.Goals as goal

pub add-requires : goal.add-requires
add-requires c =
    let new = next_is_new (λ (row : Row). row.name) c.args.rows.now c.loop-row.names (row_names c.args.rows.now) c.loop-row.row-index c.row-item.result c.loop-row.invariant c.requires c.loop-row-test.true c.row-item.is in
    subst (λ (name : List ℕ). place_of c.loop-row.names name ≡ None) (sym c.as_bytes.ensures) new
