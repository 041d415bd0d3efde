-- Edits leave the names of columns and rows.
use Rattle.std.proofs.Common.{◌≡◌, ◌∙◌, ap, suc, length, List, [], ◌∷◌, refl, sym}
use Rattle.scen_defs.specs.Program.{Program}
use Rattle.scen_defs.specs.declared.program.Column.{Column}
use Rattle.scen_defs.specs.declared.program.Row.{Row}
use Rattle.scen_defs.specs.Names.{column_names, row_names}
use Rattle.edit_defs.specs.After.{after}
use Rattle.edit_defs.specs.declared.edit.Edit.{Edit}
use Rattle.edit_defs.specs.declared.edit.Edit.TheVariants.{Set, Prob, Drop, Add}
use Rattle.edit_script.specs.Tables.{HasTables}
use Rattle.edit_script.specs.declared.tables.Tables.{Tables}

same_columns : (p : Program) (e : Edit) → (after p e).columns ≡ p.columns
same_columns p (Set name entry v) = refl
same_columns p (Prob name q) = refl
same_columns p (Drop name) = refl
same_columns p (Add name parent q t) = refl

same_rows : (p : Program) (e : Edit) → (after p e).rows ≡ p.rows
same_rows p (Set name entry v) = refl
same_rows p (Prob name q) = refl
same_rows p (Drop name) = refl
same_rows p (Add name parent q t) = refl

pub still_tables : (p q : Program) (e : Edit) (old new : Tables) → HasTables p old → q ≡ after p e → new.columns ≡ old.columns → new.rows ≡ old.rows → HasTables q new
still_tables p q e old new h is columns rows = record {
  columns = columns ∙ h.columns ∙ ap column_names (sym (same_columns p e)) ∙ ap (λ (r : Program). column_names r.columns) (sym is);
  rows = rows ∙ h.rows ∙ ap row_names (sym (same_rows p e)) ∙ ap (λ (r : Program). row_names r.rows) (sym is);
}

pub column_count : (columns : List Column) → length (column_names columns) ≡ length columns
column_count [] = refl
column_count (c ∷ columns) = ap suc (column_count columns)

pub row_count : (rows : List Row) → length (row_names rows) ≡ length rows
row_count [] = refl
row_count (r ∷ rows) = ap suc (row_count rows)
